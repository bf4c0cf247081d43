-- SPDX-License-Identifier: Apache-2.0 OR MIT
use Rattle.cr_match.proofs.Common.{◌≡◌, ◌⊎◌, ◌+◌, ◌≤◌, sym, subst, low, worth}
use Rattle.cr_match.proofs.Distinct.{best_more}
use Rattle.cr_match.proofs.setup.best_worth.Goals as goal

pub loop-m-preserved : goal.loop-m-preserved
loop-m-preserved c =
    best_more low (low + 40) c.worth_of.result c.loop-m.best c.greater-best.result c.loop-m.m
    (worth c.args.board.now c.args.p) (sym c.worth_of.ensures)
    (subst (λ n. (n ≡ 0) ⊎ ((low ≤ n) × (n ≤ low + 40))) (sym c.worth_of.ensures)
    (c.requires.board.cells c.args.p c.loop-m.m c.requires.inside c.loop-m-test.true))
    c.greater-best.ensures.most c.greater-best.ensures.either c.loop-m.invariant
