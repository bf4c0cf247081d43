-- SPDX-License-Identifier: Apache-2.0 OR MIT
use Rattle.cr_match.proofs.Common.{IsAscending}
use Rattle.cr_match.specs.Answer.{IsFirstSolved}
use Rattle.cr_match.specs.Solve.{IsOrdered}
use Rattle.cr_match.proofs.Finished.{if_ordered}
use Rattle.cr_match.proofs.greatest.solve_in.Goals as goal

pub returns-clause-first : goal.returns-clause-first
returns-clause-first c =
    if_ordered c.tell_best.result c.args.first (IsOrdered c.args.problem.now c.order_if.new.work)
    (IsAscending c.args.problem.now.pairs.items) (IsFirstSolved c.args.problem.now) c.order_if.ensures.first
    c.tell_best.ensures.first
