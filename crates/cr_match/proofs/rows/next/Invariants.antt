-- SPDX-License-Identifier: Apache-2.0 OR MIT
use Rattle.cr_match.proofs.Common.{◌-◌, ◌+◌, ◌*◌, ◌<◌, ◌≤◌, Covers}
use Rattle.cr_match.proofs.rows.next.Given as goal

abbrev pub invariant-words : goal.invariant-words
invariant-words l = (l.from ≤ l.at * 64 + l.first) × (l.first < 64)
    × Covers l.width l.words l.r l.mask l.from (l.at * 64 + l.first)

abbrev pub decreases-words : goal.decreases-words
decreases-words l = l.width - l.at
