-- SPDX-License-Identifier: Apache-2.0 OR MIT
use Rattle.std.proofs.Common.{ℕ, Bool, Option, Ok, Err, ◌∙◌, ap, sym, refl}
use Rattle.std.specs.Prelude.{unwrap_or}
use Rattle.cr_base.specs.Drawn.{alone}
use Rattle.cr_base.specs.declared.entry.Entry.TheVariants as entries
use Rattle.cr_base.specs.declared.entry.Stamp.{Stamp}
use Rattle.cr_base.specs.declared.standing.Standing.{Standing}
use Rattle.cr_base.specs.Checks.{NamedPaper, bid_checks}
use Rattle.cr_base.specs.Drawn.{Drawn}
use Rattle.cr_base.specs.Stage.{is_late_in}
use Rattle.cr_judge.proofs.JudgedLaws.{one-entry, passed-up}
use Rattle.cr_judge.proofs.NamedLaws.{is-there, late-drawn}
use Rattle.cr_judge.proofs.assigning.bid.Goals as goal

pub held-paper-requires : goal.held-paper-requires
held-paper-requires c =
    let named = c.named_paper-named.result in
    is-there (λ (p : NamedPaper). bid_checks named.by p c.is_late-late.result) (λ (w : Bool) (x : Unit {0}). refl)
    named.paper named.withdrawn tt tt c.in_ok-judge_bid.ensures

pub returns : goal.returns
returns c =
    let t = c.args.live.now.tables in
    let stamp : Stamp = c.args.stamp.now in
    let named = c.named_paper-named.result in
    one-entry t.accounts stamp (entries.Bid c.held-paper.result c.args.value) c.alone.result _ c.alone.ensures
    (ap (λ (o : Option ℕ). Ok (alone stamp (entries.Bid (unwrap_or o 0) c.args.value))) (sym c.held-paper.ensures)
    ∙ late-drawn t stamp.maker c.args.paper.now named c.named_paper-named.ensures c.is_late-late.result
    (is_late_in t.stage stamp.at) c.is_late-late.ensures
    bid_checks (λ (s : Standing) (w late : Bool) (x : Drawn). refl)
    (λ (p : ℕ). alone stamp (entries.Bid p c.args.value)) (Ok tt) c.in_ok-judge_bid.ensures)

pub returns-in_err-judge_bid : goal.returns-in_err-judge_bid
returns-in_err-judge_bid c =
    let t = c.args.live.now.tables in
    let stamp : Stamp = c.args.stamp.now in
    let named = c.named_paper-named.result in
    passed-up t.accounts c.from_residual.result c.in_err-judge_bid.field-0.0 _ c.from_residual.ensures.1
    (late-drawn t stamp.maker c.args.paper.now named c.named_paper-named.ensures c.is_late-late.result
    (is_late_in t.stage stamp.at) c.is_late-late.ensures
    bid_checks (λ (s : Standing) (w late : Bool) (x : Drawn). refl)
    (λ (p : ℕ). alone stamp (entries.Bid p c.args.value)) (Err c.in_err-judge_bid.field-0.0) c.in_err-judge_bid.ensures)
