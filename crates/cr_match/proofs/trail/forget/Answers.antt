-- SPDX-License-Identifier: Apache-2.0 OR MIT
use Rattle.cr_match.proofs.Common.{arith, ◌∙◌}
use Rattle.cr_match.proofs.Reached.{forgotten}
use Rattle.cr_match.proofs.trail.forget.Goals as goal

pub returns-clause-searched : goal.returns-clause-searched
returns-clause-searched c v target =
    let m = c.requires.1.members in
    let l = c.wipe.ensures.long in
    forgotten c.args.board.now v target c.wipe.new.trail (
      l.0 ∙ c.requires.0,
      record {
        members = (omega (arith, l.1, m.0), omega (arith, l.1, m.1), omega (arith, l.1, m.2));
        steps = l.2 ∙ c.requires.1.steps;
      },
    ) c.wipe.ensures.none.0 c.wipe.ensures.none.1 c.wipe.ensures.papers c.wipe.ensures.members
