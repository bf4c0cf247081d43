-- SPDX-License-Identifier: Apache-2.0 OR MIT
use Rattle.cr_judge.proofs.RowEntryLaws.{row-judged, row-fits, row-next}
use Rattle.cr_judge.proofs.rows.judge_row.Goals as goal

pub returns-clause-judged : goal.returns-clause-judged
returns-clause-judged c =
    row-judged c.args.live.now.tables c.args.earlier.now c.requires c.args.stamp.now c.args.command
    c.args.live.now.tables.accounts c.row_entry.result c.row_entry.ensures

pub returns-clause-fits : goal.returns-clause-fits
returns-clause-fits c =
    row-fits c.args.live.now.tables c.args.earlier.now c.requires c.args.stamp.now c.args.command
    c.args.live.now.tables.accounts c.row_entry.result c.row_entry.ensures
    c.law_within.ensures.ties

pub returns-clause-next : goal.returns-clause-next
returns-clause-next c =
    row-next c.args.live.now.tables c.args.earlier.now c.requires c.args.stamp.now c.args.command
    c.args.live.now.tables.accounts c.row_entry.result c.row_entry.ensures
    c.law_within.ensures.ties
