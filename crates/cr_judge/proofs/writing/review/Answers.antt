-- SPDX-License-Identifier: Apache-2.0 OR MIT
use Rattle.std.proofs.Common.{ℕ, Bool, Option, Ok, Err, ◌∙◌, ap, sym, refl}
use Rattle.std.specs.Prelude.{unwrap_or}
use Rattle.cr_base.specs.Drawn.{alone}
use Rattle.cr_base.specs.declared.entry.Entry.TheVariants as entries
use Rattle.cr_base.specs.declared.entry.Stamp.{Stamp}
use Rattle.cr_base.specs.Checks.{NamedPaper, review_checks}
use Rattle.cr_judge.proofs.JudgedLaws.{one-entry, passed-up}
use Rattle.cr_judge.proofs.NamedLaws.{is-there}
use Rattle.cr_judge.proofs.WritingLaws.{is-seated, review-drawn}
use Rattle.cr_judge.proofs.writing.review.Goals as goal

pub held-paper-requires : goal.held-paper-requires
held-paper-requires c =
    let named = c.named_paper-named.result in
    is-there (λ (p : NamedPaper). review_checks named.by p c.is_late-late.result) (λ (w : Bool) (x : ℕ). refl)
    named.paper named.withdrawn _ c.in_ok-version.version c.in_ok-version.ensures

pub held-ordinal-requires : goal.held-ordinal-requires
held-ordinal-requires c =
    is-seated c.args.live.now.tables c.args.stamp.now c.args.paper.now c.named_paper-named.result
    c.named_paper-named.ensures
    c.ordinal_of-ordinal.result c.ordinal_of-ordinal.ensures c.is_late-late.result _ c.in_ok-version.version
    c.in_ok-version.ensures

pub returns : goal.returns
returns c =
    let t = c.args.live.now.tables in
    let stamp : Stamp = c.args.stamp.now in
    let named = c.named_paper-named.result in
    let version : ℕ = c.in_ok-version.version in
    one-entry t.accounts stamp (entries.Reviewed c.held-paper.result c.held-ordinal.result version c.args.form)
    c.alone.result _ c.alone.ensures
    (ap (λ (o : Option ℕ). Ok (alone stamp (entries.Reviewed (unwrap_or o 0) c.held-ordinal.result version
    c.args.form)))
    (sym c.held-paper.ensures)
    ∙ ap (λ (o : Option ℕ). Ok (alone stamp (entries.Reviewed (unwrap_or named.paper 0) (unwrap_or o 0) version
    c.args.form)))
    (sym c.held-ordinal.ensures)
    ∙ review-drawn t stamp c.args.paper.now named c.named_paper-named.ensures c.ordinal_of-ordinal.result
    c.ordinal_of-ordinal.ensures
    c.args.form c.is_late-late.result c.is_late-late.ensures c.review_table.result.now.reviews c.review_table.ensures
    (Ok version) c.in_ok-version.ensures)

pub returns-in_err-version : goal.returns-in_err-version
returns-in_err-version c =
    let t = c.args.live.now.tables in
    passed-up t.accounts c.from_residual.result c.in_err-version.field-0.0 _ c.from_residual.ensures.1
    (review-drawn t c.args.stamp.now c.args.paper.now c.named_paper-named.result c.named_paper-named.ensures
    c.ordinal_of-ordinal.result c.ordinal_of-ordinal.ensures
    c.args.form c.is_late-late.result c.is_late-late.ensures c.review_table.result.now.reviews c.review_table.ensures
    (Err c.in_err-version.field-0.0) c.in_err-version.ensures)
