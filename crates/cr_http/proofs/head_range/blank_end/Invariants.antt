-- SPDX-License-Identifier: Apache-2.0 OR MIT
use Rattle.std.proofs.Common.{◌≡◌, ◌≤◌, length, ◌-◌, drop}
use Rattle.cr_http.specs.HeadRange.{blank_end_from}
use Rattle.cr_http.proofs.head_range.blank_end.Given as goal

abbrev pub invariant-lines : goal.invariant-lines
invariant-lines l = (blank_end_from l.at (drop l.at l.bytes) ≡ blank_end_from 0 l.bytes) × (l.at ≤ length l.bytes)

abbrev pub decreases-lines : goal.decreases-lines
decreases-lines l = length l.bytes - l.at
