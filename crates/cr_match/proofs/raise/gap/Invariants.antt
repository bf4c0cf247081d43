-- SPDX-License-Identifier: Apache-2.0 OR MIT
use Rattle.cr_match.proofs.Common.{Clears, Meets, ℕ, ◌<◌}
use Rattle.cr_match.proofs.Gaps.{IsLeast}
use Rattle.cr_match.proofs.raise.gap.Given as goal

abbrev pub invariant-loop-p : goal.invariant-loop-p
invariant-loop-p l = IsLeast (λ n q. (x : ℕ) → x < l.board.members → Clears l.board l.levels l.choice l.trail n q x)
    (λ n q. (x : ℕ) × (x < l.board.members) × Meets l.board l.levels l.choice l.trail n q x) l.board.papers l.p l.least
