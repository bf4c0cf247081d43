-- SPDX-License-Identifier: Apache-2.0 OR MIT
use Rattle.std.proofs.Common.{ℕ, Bool, Option, Some, Ok, Err, ◌∙◌, ap, length, sym, refl}
use Rattle.std.specs.Prelude.{unwrap_or}
use Rattle.cr_base.specs.Drawn.{alone}
use Rattle.cr_base.specs.declared.entry.Entry.TheVariants as entries
use Rattle.cr_base.specs.declared.entry.Stamp.{Stamp}
use Rattle.cr_judge.proofs.JudgedLaws.{one-entry, passed-up}
use Rattle.cr_judge.proofs.CommandLaws.{upload-made}
use Rattle.cr_base.specs.Checks.{NamedPaper, upload_checks}
use Rattle.cr_base.specs.Papers.{own_bytes}
use Rattle.cr_judge.proofs.NamedLaws.{is-told}
use Rattle.cr_judge.proofs.commands.upload.Goals as goal

pub held-paper-requires : goal.held-paper-requires
held-paper-requires c =
    let papers = c.paper_table.result.now.papers in
    is-told papers (λ (p : NamedPaper). upload_checks c.standing-by.result p
    (own_bytes papers (Some c.args.stamp.now.maker)) (length c.as_slice.result.now) c.is_late-late.result)
    (λ (w : Bool) (x : ℕ). refl) c.args.paper.now _ c.in_ok-version.version c.in_ok-version.ensures

pub returns : goal.returns
returns c =
    let t = c.args.live.now.tables in
    let stamp : Stamp = c.args.stamp.now in
    let version : ℕ = c.in_ok-version.version in
    one-entry t.accounts stamp (entries.Uploaded c.held-paper.result version c.args.content) c.alone.result _
    c.alone.ensures
    (ap (λ (o : Option ℕ). Ok (alone stamp (entries.Uploaded (unwrap_or o 0) version c.args.content))) (sym
    c.held-paper.ensures)
    ∙ upload-made t stamp c.args.paper.now c.standing-by.result c.standing-by.ensures c.paper_table.result.now.papers
    c.paper_table.ensures
    c.is_late-late.result c.is_late-late.ensures c.args.content (length c.as_slice.result.now)
    (ap length c.as_slice.ensures) (Ok version) c.in_ok-version.ensures)

pub returns-in_err-version : goal.returns-in_err-version
returns-in_err-version c =
    let t = c.args.live.now.tables in
    passed-up t.accounts c.from_residual.result c.in_err-version.field-0.0 _ c.from_residual.ensures.1
    (upload-made t c.args.stamp.now c.args.paper.now c.standing-by.result c.standing-by.ensures
    c.paper_table.result.now.papers c.paper_table.ensures
    c.is_late-late.result c.is_late-late.ensures c.args.content (length c.as_slice.result.now)
    (ap length c.as_slice.ensures) (Err c.in_err-version.field-0.0) c.in_err-version.ensures)
