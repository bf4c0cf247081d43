-- SPDX-License-Identifier: Apache-2.0 OR MIT
use Rattle.std.proofs.Common.{ℕ, Bool, Option, Ok, Err, ◌∙◌, ap, sym, refl}
use Rattle.std.specs.Prelude.{is_some, unwrap_or}
use Rattle.cr_base.specs.Drawn.{alone}
use Rattle.cr_base.specs.declared.entry.Entry.TheVariants as entries
use Rattle.cr_base.specs.declared.entry.Stamp.{Stamp}
use Rattle.cr_base.specs.Checks.{NamedPaper, respond_checks}
use Rattle.cr_base.specs.Talk.{response_in}
use Rattle.cr_judge.proofs.JudgedLaws.{one-entry, passed-up}
use Rattle.cr_judge.proofs.NamedLaws.{is-there}
use Rattle.cr_judge.proofs.WritingLaws.{response-drawn}
use Rattle.cr_judge.proofs.writing.response.Goals as goal

pub held-paper-requires : goal.held-paper-requires
held-paper-requires c =
    let named = c.named_paper-named.result in
    is-there (λ (p : NamedPaper). respond_checks named.by p
    (is_some (response_in c.comment_table.result.now.talk (unwrap_or named.paper 0))) c.is_late-late.result)
    (λ (w : Bool) (x : Unit {0}). refl) named.paper named.withdrawn tt tt c.in_ok-judge_respond.ensures

pub returns : goal.returns
returns c =
    let t = c.args.live.now.tables in
    let stamp : Stamp = c.args.stamp.now in
    one-entry t.accounts stamp (entries.Responded c.held-paper.result c.args.text) c.alone.result _ c.alone.ensures
    (ap (λ (o : Option ℕ). Ok (alone stamp (entries.Responded (unwrap_or o 0) c.args.text))) (sym c.held-paper.ensures)
    ∙ response-drawn t stamp c.args.paper.now c.named_paper-named.result c.named_paper-named.ensures
    c.args.text c.is_late-late.result c.is_late-late.ensures c.comment_table.result.now.talk c.comment_table.ensures
    (Ok tt) c.in_ok-judge_respond.ensures)

pub returns-in_err-judge_respond : goal.returns-in_err-judge_respond
returns-in_err-judge_respond c =
    let t = c.args.live.now.tables in
    passed-up t.accounts c.from_residual.result c.in_err-judge_respond.field-0.0 _ c.from_residual.ensures.1
    (response-drawn t c.args.stamp.now c.args.paper.now c.named_paper-named.result c.named_paper-named.ensures
    c.args.text c.is_late-late.result c.is_late-late.ensures c.comment_table.result.now.talk c.comment_table.ensures
    (Err c.in_err-judge_respond.field-0.0) c.in_err-judge_respond.ensures)
