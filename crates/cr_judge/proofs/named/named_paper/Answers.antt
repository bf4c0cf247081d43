-- SPDX-License-Identifier: Apache-2.0 OR MIT
use Rattle.cr_judge.proofs.RowLaws.{named-behind}
use Rattle.cr_judge.proofs.named.named_paper.Goals as goal

pub returns : goal.returns
returns c =
    named-behind c.args.live.now.tables c.args.earlier.now c.requires.rows c.args.maker c.args.paper.now _
    c.standing_behind.result c.is_withdrawn.result
    c.there-paper.ensures c.standing_behind.ensures c.is_withdrawn.ensures
