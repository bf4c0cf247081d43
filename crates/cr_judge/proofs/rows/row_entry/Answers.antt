-- SPDX-License-Identifier: Apache-2.0 OR MIT
use Rattle.std.proofs.Common.{◌∙◌, ap, sym}
use Rattle.cr_base.specs.declared.resolved.ResolvedRow.{ResolvedRow}
use Rattle.cr_base.specs.Bulk.{resolved_of_row}
use Rattle.cr_base.specs.Tables.{tables_from}
use Rattle.cr_judge.specs.Rows.{row_resolved_at}
use Rattle.cr_judge.proofs.rows.row_entry.Goals as goal

pub returns-in-Assign : goal.returns-in-Assign
returns-in-Assign c =
    c.assignment.ensures
    ∙ sym
    (ap (λ (x : ResolvedRow). row_resolved_at (tables_from c.args.live.now.tables c.args.earlier.now) c.args.stamp.now
    (resolved_of_row x)) c.in-Assign.is)

pub returns-in-Unassign : goal.returns-in-Unassign
returns-in-Unassign c =
    c.unassignment.ensures
    ∙ sym
    (ap (λ (x : ResolvedRow). row_resolved_at (tables_from c.args.live.now.tables c.args.earlier.now) c.args.stamp.now
    (resolved_of_row x)) c.in-Unassign.is)

pub returns-in-Tag : goal.returns-in-Tag
returns-in-Tag c =
    c.tag.ensures
    ∙ sym
    (ap (λ (x : ResolvedRow). row_resolved_at (tables_from c.args.live.now.tables c.args.earlier.now) c.args.stamp.now
    (resolved_of_row x)) c.in-Tag.is)
