-- SPDX-License-Identifier: Apache-2.0 OR MIT
use Rattle.cr_base.specs.Tables.{tables_from}
use Rattle.cr_judge.proofs.RowLaws.{nobody-ordinal, ordinal-behind, seats-fit}
use Rattle.cr_judge.proofs.named.ordinal_of.Goals as goal

pub ordinal_behind-requires : goal.ordinal_behind-requires
ordinal_behind-requires c = seats-fit c.args.live.now.tables c.args.earlier.now c.requires.rows
    c.seat_table.result.now.seats c.seat_table.ensures.seats c.requires.fits

pub returns-in_default : goal.returns-in_default
returns-in_default c =
    nobody-ordinal (tables_from c.args.live.now.tables c.args.earlier.now).seats c.args.user.now c.args.paper.now
    c.in_default.is

pub returns-in-Some-paper : goal.returns-in-Some-paper
returns-in-Some-paper c =
    ordinal-behind c.args.live.now.tables c.args.earlier.now c.requires.rows c.args.user.now c.args.paper.now
    c.seat_table.result.now.seats c.seat_table.ensures.seats c.in-Some.user c.in-Some-paper.paper
    c.ordinal_behind.result c.in-Some.is c.in-Some-paper.is c.ordinal_behind.ensures
