-- SPDX-License-Identifier: Apache-2.0 OR MIT
use Rattle.std.proofs.Common.{ℕ, Bool, Option, Some, Ok, Err, ◌∙◌, ap, sym, refl}
use Rattle.std.specs.Prelude.{unwrap_or}
use Rattle.cr_base.specs.Drawn.{alone}
use Rattle.cr_base.specs.declared.entry.Entry.TheVariants as entries
use Rattle.cr_base.specs.declared.entry.Stamp.{Stamp}
use Rattle.cr_base.specs.Checks.{NamedPaper, comment_checks}
use Rattle.cr_base.specs.Talk.{own_comments_in}
use Rattle.cr_judge.proofs.JudgedLaws.{one-entry, passed-up}
use Rattle.cr_judge.proofs.NamedLaws.{is-there}
use Rattle.cr_judge.proofs.WritingLaws.{comment-drawn}
use Rattle.cr_judge.proofs.writing.comment.Goals as goal

pub held-paper-requires : goal.held-paper-requires
held-paper-requires c =
    let named = c.named_paper-named.result in
    is-there (λ (p : NamedPaper). comment_checks named.by p
    (own_comments_in c.comment_table.result.now.talk (Some c.args.stamp.now.maker)) c.is_late-late.result)
    (λ (w : Bool) (x : ℕ). refl) named.paper named.withdrawn _ c.in_ok-n.n c.in_ok-n.ensures

pub returns : goal.returns
returns c =
    let t = c.args.live.now.tables in
    let stamp : Stamp = c.args.stamp.now in
    let named = c.named_paper-named.result in
    let n : ℕ = c.in_ok-n.n in
    one-entry t.accounts stamp (entries.Commented c.held-paper.result n c.ordinal_of-ordinal.result c.args.text)
    c.alone.result _ c.alone.ensures
    (ap (λ (o : Option ℕ). Ok (alone stamp (entries.Commented (unwrap_or o 0) n c.ordinal_of-ordinal.result
    c.args.text)))
    (sym c.held-paper.ensures)
    ∙ comment-drawn t stamp c.args.paper.now named c.named_paper-named.ensures c.ordinal_of-ordinal.result
    c.ordinal_of-ordinal.ensures
    c.args.text c.is_late-late.result c.is_late-late.ensures c.comment_table.result.now.talk c.comment_table.ensures
    (Ok n) c.in_ok-n.ensures)

pub returns-in_err-n : goal.returns-in_err-n
returns-in_err-n c =
    let t = c.args.live.now.tables in
    passed-up t.accounts c.from_residual.result c.in_err-n.field-0.0 _ c.from_residual.ensures.1
    (comment-drawn t c.args.stamp.now c.args.paper.now c.named_paper-named.result c.named_paper-named.ensures _ refl
    c.args.text c.is_late-late.result c.is_late-late.ensures c.comment_table.result.now.talk c.comment_table.ensures
    (Err c.in_err-n.field-0.0) c.in_err-n.ensures)
