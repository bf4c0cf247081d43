-- SPDX-License-Identifier: Apache-2.0 OR MIT
use Rattle.cr_match.proofs.Common.{Clears, Meets}
use Rattle.cr_match.proofs.Gaps.{IsLeast}
use Rattle.cr_match.proofs.raise.gap_of_paper.Given as goal

abbrev pub invariant-loop-m : goal.invariant-loop-m
invariant-loop-m l = IsLeast (λ n x. Clears l.board l.levels l.choice l.trail n l.p x)
    (λ n x. Meets l.board l.levels l.choice l.trail n l.p x) l.board.members l.m l.least
