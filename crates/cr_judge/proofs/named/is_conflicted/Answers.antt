-- SPDX-License-Identifier: Apache-2.0 OR MIT
use Rattle.cr_base.specs.Tables.{tables_from}
use Rattle.cr_view.proofs.NobodyLaws.{nobody-conflicted}
use Rattle.cr_judge.proofs.RowLaws.{conflicted-behind}
use Rattle.cr_judge.proofs.named.is_conflicted.Goals as goal

pub returns-in_default : goal.returns-in_default
returns-in_default c =
    nobody-conflicted (tables_from c.args.live.now.tables c.args.earlier.now).ties c.args.user.now c.args.paper.now
    c.in_default.is

pub returns-in-Some-paper : goal.returns-in-Some-paper
returns-in-Some-paper c =
    conflicted-behind c.args.live.now.tables c.args.earlier.now c.requires.rows c.args.user.now c.args.paper.now
    c.tie_table.result.now.ties c.tie_table.ensures c.in-Some.user c.in-Some-paper.paper c.is_conflicted.result
    c.in-Some.is c.in-Some-paper.is c.is_conflicted.ensures.value
