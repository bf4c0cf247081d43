-- SPDX-License-Identifier: Apache-2.0 OR MIT
use Rattle.cr_match.proofs.Common.{◌≡◌, ℕ, ◌<◌, get_or}
use Rattle.cr_match.proofs.rows.clear.Given as goal

abbrev pub invariant-loop-word : goal.invariant-loop-word
invariant-loop-word l = (k : ℕ) → k < l.word-index → get_or l.set k 0 ≡ 0
