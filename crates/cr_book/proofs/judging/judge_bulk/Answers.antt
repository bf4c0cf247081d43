-- SPDX-License-Identifier: Apache-2.0 OR MIT
use Rattle.std.proofs.Common.{◌≡◌, ◌∙◌, List, sym, subst, Ok}
use Rattle.std.proofs.lemmas.Result.{IfOk-weaker}
use Rattle.cr_base.specs.declared.bulk.BulkRow.{BulkRow}
use Rattle.cr_base.specs.Bulk.{entries_of, rows_judged, tables_basis}
use Rattle.cr_book.proofs.JudgingLaws.{bulk-accepted}
use Rattle.cr_book.proofs.judging.judge_bulk.Goals as goal

pub returns-clause-accepted : goal.returns-clause-accepted
returns-clause-accepted c =
    let t = c.args.live.now.tables in
    let stamp = c.args.stamp.now in
    IfOk-weaker c.judge_rows.result _ _
    (λ group is. bulk-accepted t stamp c.args.rows group.items c.in-Ok.field-0 (sym c.may_bulk.ensures ∙ c.in-Ok.is)
    (subst (λ (rows : List BulkRow). rows_judged (tables_basis stamp.maker) stamp t 1 rows
    ≡ Ok (entries_of group.items)) (c.deref.ensures.value ∙ c.into_parts-rows.ensures.rows) is))
    c.judge_rows.ensures.accepted
