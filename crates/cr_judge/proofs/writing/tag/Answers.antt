-- SPDX-License-Identifier: Apache-2.0 OR MIT
use Rattle.std.proofs.Common.{ℕ, Bool, Option, Ok, Err, ◌∙◌, ap, sym, refl}
use Rattle.std.specs.Prelude.{unwrap_or}
use Rattle.cr_base.specs.declared.entry.Entry.TheVariants as entries
use Rattle.cr_base.specs.Drawn.{alone}
use Rattle.cr_base.specs.declared.entry.Stamp.{Stamp}
use Rattle.cr_base.specs.declared.standing.Standing.{Standing}
use Rattle.cr_base.specs.Checks.{NamedPaper, tag_checks}
use Rattle.cr_base.specs.Drawn.{Drawn}
use Rattle.cr_base.specs.Tables.{tables_from}
use Rattle.cr_base.specs.TagTexts.{is_for_chairs}
use Rattle.cr_judge.proofs.JudgedLaws.{entry-passed-up}
use Rattle.cr_judge.proofs.NamedLaws.{is-there, paper-drawn}
use Rattle.cr_judge.proofs.writing.tag.Goals as goal

pub held-paper-requires : goal.held-paper-requires
held-paper-requires c =
    let named = c.named_paper-named.result in
    is-there (λ (p : NamedPaper). tag_checks named.by p (is_for_chairs c.args.tag)) (λ (w : Bool) (x : Unit {0}). refl)
    named.paper named.withdrawn tt tt c.in_ok-judge_tag.ensures

pub returns : goal.returns
returns c =
    let t = tables_from c.args.live.now.tables c.args.earlier.now in
    let stamp : Stamp = c.args.stamp.now in
    let named = c.named_paper-named.result in
    ap (λ (o : Option ℕ). Ok (alone stamp (entries.Tagged (unwrap_or o 0) c.args.tag c.args.on))) (sym
    c.held-paper.ensures)
    ∙ paper-drawn t stamp.maker c.args.paper.now named c.named_paper-named.ensures
    (λ (s : Standing) (p : NamedPaper). tag_checks s p (is_for_chairs c.args.tag))
    (λ (s : Standing) (w : Bool) (x : Drawn). refl)
    (λ (p : ℕ). alone stamp (entries.Tagged p c.args.tag c.args.on)) (Ok tt) c.in_ok-judge_tag.ensures

pub returns-in_err-judge_tag : goal.returns-in_err-judge_tag
returns-in_err-judge_tag c =
    let t = tables_from c.args.live.now.tables c.args.earlier.now in
    let stamp : Stamp = c.args.stamp.now in
    let named = c.named_paper-named.result in
    entry-passed-up c.args.live.now.tables.accounts stamp c.from_residual.result c.in_err-judge_tag.field-0.0 _
    c.from_residual.ensures.1
    (paper-drawn t stamp.maker c.args.paper.now named c.named_paper-named.ensures
    (λ (s : Standing) (p : NamedPaper). tag_checks s p (is_for_chairs c.args.tag))
    (λ (s : Standing) (w : Bool) (x : Drawn). refl)
    (λ (p : ℕ). alone stamp (entries.Tagged p c.args.tag c.args.on)) (Err c.in_err-judge_tag.field-0.0)
    c.in_err-judge_tag.ensures)
