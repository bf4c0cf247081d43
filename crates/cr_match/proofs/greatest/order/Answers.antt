-- SPDX-License-Identifier: Apache-2.0 OR MIT
use Rattle.cr_match.proofs.Common.{List, Pair, subst, sym, IsSettling}
use Rattle.cr_match.proofs.Finished.{settling_of}
use Rattle.cr_match.proofs.greatest.order.Goals as goal

pub settle_all-requires-clause-settling : goal.settle_all-requires-clause-settling
settle_all-requires-clause-settling c =
    subst (λ (es : List Pair). IsSettling es c.args.work.now.board c.args.work.now.levels c.args.work.now.draft.choice
    c.tell_spare.new.moves 0 0) (sym c.deref.ensures.value) (settling_of c.requires c.tell_spare.ensures)
