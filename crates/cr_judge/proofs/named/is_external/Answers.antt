-- SPDX-License-Identifier: Apache-2.0 OR MIT
use Rattle.cr_base.specs.Tables.{tables_from}
use Rattle.cr_base.specs.Words.{is_member}
use Rattle.cr_judge.proofs.RowLaws.{invited-behind, nobody-invited}
use Rattle.cr_judge.proofs.named.is_external.Goals as goal

pub returns-in_default : goal.returns-in_default
returns-in_default c =
    nobody-invited (is_member c.args.role) (tables_from c.args.live.now.tables c.args.earlier.now).invites
    c.args.user.now c.args.paper.now c.in_default.is

pub returns-in-Some-paper : goal.returns-in-Some-paper
returns-in-Some-paper c =
    invited-behind c.args.live.now.tables c.args.earlier.now (is_member c.args.role) c.args.user.now c.args.paper.now
    c.seat_table.result.now.invites c.seat_table.ensures.invites c.in-Some.user c.in-Some-paper.paper
    c.is_external_behind.result
    c.in-Some.is c.in-Some-paper.is c.is_external_behind.ensures
