-- SPDX-License-Identifier: Apache-2.0 OR MIT
-- Where no wish was lost, the keeper's count of faults stands.
use Rattle.std.proofs.Common.{◌≡◌, ◌∙◌, ⊎_elim, ℕ, ◌+◌, ◌-◌, List, [], ◌∷◌, ◌++◌, length, drop, Bool, true, false}
use Rattle.std.proofs.Common.{cond, refl, ap, arith}
use Rattle.cr_base.specs.History.{History}
use Rattle.cr_base.specs.Lists.{listed}
use Rattle.cr_lock.specs.Counts.{Every, total}
use Rattle.cr_lock.specs.Turns.{rises, turn_at}
use Rattle.cr_lock.proofs.Sums.{total_append}
use Rattle.cr_session.specs.Passing.{BookTurn, KnownPass, TakesTurn, TakesTurns}
use Rattle.cr_session.specs.Replay.{CountsLoss, JudgedWish, history_after, lost_count}
use Rattle.cr_session.specs.Tries.{Tries}
use Rattle.cr_session.specs.Turning.{TurnsInVain}
use Rattle.cr_session.proofs.Alone.{rises-snoc}
use Rattle.cr_session.proofs.Endings.{behind_judged}
use Rattle.cr_wire.specs.declared.what.Wish.{Wish}
use Rattle.cr_workers.specs.Connections.{IsServed, IsServedWithin, ServedConnection, Streams}
use Rattle.cr_top.specs.Serves.{judged_in}
use Rattle.cr_top.proofs.Judged.{lost-append}

-- ---- the turns of a pass

rise-one : (lost : Bool) (f g : ℕ) → CountsLoss lost f g → ◌≡◌ {A = ℕ} (cond lost 1 0) 0 → g - f ≡ 0
rise-one true f g c none = absurd (omega (arith, none))
rise-one false f g c none = omega (arith, c)

module _ {K : Type 0} (tries : Tries K) where
  rises-turn : (j : JudgedWish) (p q : KnownPass K) → TakesTurn tries j p q → ◌≡◌ {A = ℕ} (cond j.lost 1 0) 0
      → rises q.mine ≡ rises p.mine
  rises-turn j p q t none =
      let e : rises q.mine ≡ rises p.mine + (t.faults' - t.faults) =
      ap (λ (x : KnownPass K). rises x.mine) t.turn
      ∙ rises-snoc p.mine
      (turn_at (length j.seen) (drop (length j.seen) (history_after j)) t.faults t.faults' t.found t.leaves) in
      let one = rise-one j.lost t.faults t.faults' t.counted none in
      omega (arith, e, one)

  rises-along : (js : List JudgedWish) (p q : KnownPass K) → TakesTurns tries js p q → lost_count js ≡ 0
      → rises q.mine ≡ rises p.mine
  rises-along [] p q r none = ap (λ (x : KnownPass K). rises x.mine) r
  rises-along (j ∷ js) p q r none =
      rises-along js r.0 q r.2 (omega (arith, none)) ∙ rises-turn j p r.0 r.1 (omega (arith, none))

  rises-vain : (w : Wish) (p q : KnownPass K) → TurnsInVain tries w p q → rises q.mine ≡ rises p.mine
  rises-vain w p q vain =
      let e : rises q.mine ≡ rises p.mine + (vain.faults - vain.faults) =
      ap (λ (x : KnownPass K). rises x.mine) vain.turn
      ∙ rises-snoc p.mine
      (turn_at (length vain.seen) (drop (length vain.seen) vain.seen) vain.faults vain.faults vain.found vain.leaves) in
      omega (arith, e)

-- ---- connections

module _ {K I O C : Type 0} (streams : Streams K I O C) where
  none-one : (c : ServedConnection K I O C) (x : IsServed streams c)
      → lost_count (x.connection.answered ++ listed x.connection.failed) ≡ 0 → rises c.turns ≡ 0
  none-one c x none =
      let k = x.connection in
      let first : rises k.judged.mine ≡ rises c.before.mine =
      rises-along streams.tries (k.answered ++ listed k.failed) c.before k.judged k.turns none in
      let last : rises c.after.mine ≡ rises k.judged.mine =
      ⊎_elim (λ same. ap (λ (q : KnownPass K). rises q.mine) same)
      (λ turn. rises-vain streams.tries turn.0 k.judged c.after turn.1)
      (behind_judged (TurnsInVain streams.tries) c.ending 0 k.got k.got k.answered k.failed k.judged c.after _ _
      k.settled k.ends) in
      let sum : rises c.after.mine ≡ rises c.before.mine + rises c.turns =
      ap rises x.mine ∙ total_append (λ (t : BookTurn K). t.rise) c.before.mine c.turns in
      omega (arith, first, last, sum)

  pub none-rises : (first last : History) (cs : List (ServedConnection K I O C))
      (each : Every (IsServedWithin streams first last) cs) → lost_count (judged_in streams first last cs each) ≡ 0
      → total (λ (c : ServedConnection K I O C). rises c.turns) cs ≡ 0
  none-rises first last [] each none = refl
  none-rises first last (c ∷ cs) each none =
      let x = each.0.served.connection in
      let sum = lost-append (x.answered ++ listed x.failed) (judged_in streams first last cs each.1) in
      let one = none-one c each.0.served (omega (arith, none, sum)) in
      let more = none-rises first last cs each.1 (omega (arith, none, sum)) in
      omega (arith, one, more)
