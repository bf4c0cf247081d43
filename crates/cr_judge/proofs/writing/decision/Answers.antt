-- SPDX-License-Identifier: Apache-2.0 OR MIT
use Rattle.std.proofs.Common.{ℕ, Bool, Option, Ok, Err, ◌∙◌, ap, sym, refl}
use Rattle.std.specs.Prelude.{unwrap_or}
use Rattle.cr_base.specs.Drawn.{alone}
use Rattle.cr_base.specs.declared.entry.Entry.TheVariants as entries
use Rattle.cr_base.specs.declared.entry.Stamp.{Stamp}
use Rattle.cr_base.specs.declared.standing.Standing.{Standing}
use Rattle.cr_base.specs.Checks.{NamedPaper, decide_checks}
use Rattle.cr_base.specs.Drawn.{Drawn}
use Rattle.cr_judge.proofs.JudgedLaws.{one-entry, passed-up}
use Rattle.cr_judge.proofs.NamedLaws.{is-there, paper-drawn}
use Rattle.cr_judge.proofs.writing.decision.Goals as goal

pub held-paper-requires : goal.held-paper-requires
held-paper-requires c =
    let named = c.named_paper-named.result in
    is-there (λ (p : NamedPaper). decide_checks named.by p) (λ (w : Bool) (x : Unit {0}). refl) named.paper
    named.withdrawn tt tt c.in_ok-judge_decide.ensures

pub returns : goal.returns
returns c =
    let t = c.args.live.now.tables in
    let stamp : Stamp = c.args.stamp.now in
    let named = c.named_paper-named.result in
    one-entry t.accounts stamp (entries.Decided c.held-paper.result c.args.decision) c.alone.result _ c.alone.ensures
    (ap (λ (o : Option ℕ). Ok (alone stamp (entries.Decided (unwrap_or o 0) c.args.decision))) (sym
    c.held-paper.ensures)
    ∙ paper-drawn t stamp.maker c.args.paper.now named c.named_paper-named.ensures decide_checks
    (λ (s : Standing) (w : Bool) (x : Drawn). refl)
    (λ (p : ℕ). alone stamp (entries.Decided p c.args.decision)) (Ok tt) c.in_ok-judge_decide.ensures)

pub returns-in_err-judge_decide : goal.returns-in_err-judge_decide
returns-in_err-judge_decide c =
    let t = c.args.live.now.tables in
    let stamp : Stamp = c.args.stamp.now in
    let named = c.named_paper-named.result in
    passed-up t.accounts c.from_residual.result c.in_err-judge_decide.field-0.0 _ c.from_residual.ensures.1
    (paper-drawn t stamp.maker c.args.paper.now named c.named_paper-named.ensures decide_checks
    (λ (s : Standing) (w : Bool) (x : Drawn). refl)
    (λ (p : ℕ). alone stamp (entries.Decided p c.args.decision)) (Err c.in_err-judge_decide.field-0.0)
    c.in_err-judge_decide.ensures)
