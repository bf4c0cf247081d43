-- SPDX-License-Identifier: Apache-2.0 OR MIT
-- The rows of a file, by the tables after the rows before them.
use Rattle.std.specs.Prelude.{Some, Result}
use Rattle.cr_base.specs.declared.bulk.BulkRow.{BulkRow}
use Rattle.cr_base.specs.declared.entry.Stamp.{Stamp}
use Rattle.cr_base.specs.declared.reply.Rule.{Rule}
use Rattle.cr_base.specs.Bulk.{row_judged}
use Rattle.cr_base.specs.Drawn.{Drawn}
use Rattle.cr_base.specs.History.{History}
use Rattle.cr_base.specs.Sources.{facts_of_tables, shown_in_tables}
use Rattle.cr_base.specs.Tables.{Tables, tables_from}

-- the judgement of a row after the entries of those before it
abbrev pub row_judged_behind : Tables → History → Stamp → BulkRow → Result Drawn Rule
row_judged_behind t earlier stamp row =
    let s = tables_from t earlier in
    row_judged (facts_of_tables s (Some stamp.maker)) (shown_in_tables s) stamp row
