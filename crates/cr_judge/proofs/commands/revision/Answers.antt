-- SPDX-License-Identifier: Apache-2.0 OR MIT
use Rattle.std.proofs.Common.{ℕ, Bool, Option, Ok, Err, ◌∙◌, ap, sym, refl}
use Rattle.std.specs.Prelude.{unwrap_or}
use Rattle.cr_base.specs.Drawn.{alone}
use Rattle.cr_base.specs.declared.entry.Entry.TheVariants as entries
use Rattle.cr_base.specs.declared.entry.Stamp.{Stamp}
use Rattle.cr_judge.proofs.JudgedLaws.{one-entry, passed-up}
use Rattle.cr_judge.proofs.CommandLaws.{revision-drawn}
use Rattle.cr_base.specs.Checks.{NamedPaper, revise_checks}
use Rattle.cr_judge.proofs.NamedLaws.{is-told}
use Rattle.cr_judge.proofs.commands.revision.Goals as goal

pub held-paper-requires : goal.held-paper-requires
held-paper-requires c =
    is-told c.paper_table.result.now.papers (λ (p : NamedPaper). revise_checks c.standing-by.result p
    c.is_late-late.result) (λ (w : Bool) (x : Unit {0}). refl)
    c.args.paper.now tt tt c.in_ok-judge_revise.ensures

pub returns : goal.returns
returns c =
    let t = c.args.live.now.tables in
    let stamp : Stamp = c.args.stamp.now in
    one-entry t.accounts stamp (entries.Revised c.held-paper.result c.args.title c.args.abstract_) c.alone.result _
    c.alone.ensures
    (ap (λ (o : Option ℕ). Ok (alone stamp (entries.Revised (unwrap_or o 0) c.args.title c.args.abstract_)))
    (sym c.held-paper.ensures)
    ∙ revision-drawn t stamp c.args.paper.now c.standing-by.result c.standing-by.ensures c.paper_table.result.now.papers
    c.paper_table.ensures
    c.is_late-late.result c.is_late-late.ensures (λ (p : ℕ). alone stamp (entries.Revised p c.args.title
    c.args.abstract_))
    (Ok tt) c.in_ok-judge_revise.ensures)

pub returns-in_err-judge_revise : goal.returns-in_err-judge_revise
returns-in_err-judge_revise c =
    let t = c.args.live.now.tables in
    let stamp : Stamp = c.args.stamp.now in
    passed-up t.accounts c.from_residual.result c.in_err-judge_revise.field-0.0 _ c.from_residual.ensures.1
    (revision-drawn t stamp c.args.paper.now c.standing-by.result c.standing-by.ensures c.paper_table.result.now.papers
    c.paper_table.ensures
    c.is_late-late.result c.is_late-late.ensures (λ (p : ℕ). alone stamp (entries.Revised p c.args.title
    c.args.abstract_))
    (Err c.in_err-judge_revise.field-0.0) c.in_err-judge_revise.ensures)
