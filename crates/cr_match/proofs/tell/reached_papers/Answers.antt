-- SPDX-License-Identifier: Apache-2.0 OR MIT
use Rattle.cr_match.proofs.Common.{List, [], ◌+◌, ℕ, ap, sym, ◌∙◌, arith, subst, Vec, Global}
use Rattle.cr_match.specs.Tell.{AreThose}
use Rattle.cr_match.proofs.Tells.{place_in, place_out}
use Rattle.cr_match.proofs.Walks.{refuted}
use Rattle.cr_match.proofs.tell.reached_papers.Goals.{then-marked+in_ok-push, else-marked}
use Rattle.cr_match.proofs.tell.reached_papers.Goals as goal

none : (s : List ℕ) → AreThose s 0 []
none s = record { distinct = tt; all = λ q. ((λ e. absurd (let k = e in cc)), (λ k. absurd (omega (arith, k.0)))) }

pub loop-p-init : goal.loop-p-init
loop-p-init c = subst (AreThose c.args.reached.now 0) (sym c.new-places.ensures.items) (none c.args.reached.now)

pub loop-p-preserved : goal.loop-p-preserved
loop-p-preserved c = elim c.if-marked.branch [
  | then-marked+in_ok-push w ↦ subst (AreThose c.args.reached.now (c.loop-p.p + 1))
      (sym (ap (λ (v : Vec ℕ Global). v.items) w.places-is ∙ w.in_ok-push.ensures.items))
      (place_in c.args.reached.now c.loop-p.places.items c.loop-p.p c.loop-p.invariant
      (c.marked.ensures.0 w.if-marked.true))
  | else-marked w ↦ subst (AreThose c.args.reached.now (c.loop-p.p + 1))
      (sym (ap (λ (v : Vec ℕ Global). v.items) w.places-is))
      (place_out c.args.reached.now c.loop-p.places.items c.loop-p.p c.loop-p.invariant
      (refuted c.marked.ensures.1 w.if-marked.false))
]
