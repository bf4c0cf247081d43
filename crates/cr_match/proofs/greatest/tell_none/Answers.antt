-- SPDX-License-Identifier: Apache-2.0 OR MIT
use Rattle.cr_match.proofs.Common.{List, subst, ℕ}
use Rattle.cr_match.specs.Tell.{AreThose}
use Rattle.cr_match.proofs.Finished.{no_plan}
use Rattle.cr_match.proofs.greatest.tell_none.Goals as goal

pub returns : goal.returns
returns c =
    let none = no_plan c.args.work.now c.requires.problem.0 c.requires.problem.1 c.requires.stuck.0 c.requires.stuck.1
    c.in_ok-papers.papers.items
    (subst (λ (xs : List ℕ). AreThose xs c.args.work.now.board.papers c.in_ok-papers.papers.items)
    c.deref.ensures.value c.in_ok-papers.ensures) in
    (none, none)
