-- SPDX-License-Identifier: Apache-2.0 OR MIT
use Rattle.cr_match.proofs.Turning.{IsTurning}
use Rattle.cr_match.proofs.draft.turn.Given as goal

abbrev pub invariant-steps : goal.invariant-steps
invariant-steps l =
    IsTurning l.board l.path l.target l.fn.draft.choice l.fn.draft.moves l.holder l.at l.draft.choice l.draft.moves

abbrev pub decreases-steps : goal.decreases-steps
decreases-steps l = l.at
