-- SPDX-License-Identifier: Apache-2.0 OR MIT
use Rattle.cr_base.specs.Tables.{tables_from}
use Rattle.cr_judge.proofs.RowEntryLaws.{conflict-own, conflict-other}
use Rattle.cr_judge.proofs.rows.row_conflict.Goals as goal

pub returns-then-is_user : goal.returns-then-is_user
returns-then-is_user c =
    conflict-own (tables_from c.args.live.now.tables c.args.earlier.now) c.args.stamp.now c.args.paper.now
    c.args.user.now c.args.on c.is_user.result c.is_user.ensures c.if-is_user.true

pub returns : goal.returns
returns c =
    conflict-other (tables_from c.args.live.now.tables c.args.earlier.now) c.args.stamp.now c.args.paper.now
    c.args.user.now c.args.on c.is_user.result c.is_user.ensures c.if-is_user.false _ c.conflict.ensures
