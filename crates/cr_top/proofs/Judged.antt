-- SPDX-License-Identifier: Apache-2.0 OR MIT
-- The turns of connections are those of the wishes that were judged in them.
use Rattle.std.proofs.Common.{◌≡◌, ◌+◌, ◌++◌, inl, inr, List, [], ◌∷◌, sym, subst, arith}
use Rattle.cr_base.specs.History.{History}
use Rattle.cr_base.specs.Lists.{listed}
use Rattle.cr_lock.specs.Counts.{Among, Every}
use Rattle.cr_lock.specs.Turns.{Reached}
use Rattle.cr_lock.proofs.Reaching.{reached_on}
use Rattle.cr_ports.specs.Stopping.{IsAmong}
use Rattle.cr_book.specs.Seen.{SeenBook}
use Rattle.cr_session.specs.Passing.{BookTurn, IsTurnOf}
use Rattle.cr_session.specs.Replay.{JudgedWish, lost_count}
use Rattle.cr_session.proofs.Losses.{turn-of-more}
use Rattle.cr_session.proofs.StopLaws.{among-more}
use Rattle.cr_workers.specs.Connections.{IsServedWithin, IsTakenIn, ServedConnection, Streams}
use Rattle.cr_top.specs.Serves.{judged_in}

-- what holds of each holds of one of them
each-one : {X : Type 0} (P : X → Type 0) (xs : List X) (x : X) → Every P xs → Among xs x → P x
each-one P [] x each among = absurd among
each-one P (y ∷ xs) x each (inl is) = subst P (sym is) each.0
each-one P (y ∷ xs) x each (inr more) = each-one P xs x each.1 more

pub lost-append : (js ks : List JudgedWish) → lost_count (js ++ ks) ≡ lost_count js + lost_count ks
lost-append [] ks = omega arith
lost-append (j ∷ js) ks = let i = lost-append js ks in omega (arith, i)

among-behind : (js ks : List JudgedWish) (j : JudgedWish) → IsAmong ks j → IsAmong (js ++ ks) j
among-behind [] ks j among = among
among-behind (i ∷ js) ks j among = inr (among-behind js ks j among)

module _ {K I O C : Type 0} (streams : Streams K I O C) (first last : History) where
  turns-judged : (cs : List (ServedConnection K I O C)) (each : Every (IsServedWithin streams first last) cs)
      (t : BookTurn K) → IsTakenIn cs t → IsTurnOf streams.tries (judged_in streams first last cs each) t
  turns-judged [] each t taken = absurd taken
  turns-judged (c ∷ cs) each t (inl own) =
      let x = each.0.served.connection in
      let js = x.answered ++ listed x.failed in
      turn-of-more streams.tries js (js ++ judged_in streams first last cs each.1)
      (λ j among. among-more js (judged_in streams first last cs each.1) j among) t
      (each-one (IsTurnOf streams.tries js) c.turns t each.0.served.judges own)
  turns-judged (c ∷ cs) each t (inr more) =
      let x = each.0.served.connection in
      let js = x.answered ++ listed x.failed in
      turn-of-more streams.tries (judged_in streams first last cs each.1)
      (js ++ judged_in streams first last cs each.1)
      (λ j among. among-behind js (judged_in streams first last cs each.1) j among) t
      (turns-judged cs each.1 t more)

  pub taken-judged : (cs : List (ServedConnection K I O C)) (each : Every (IsServedWithin streams first last) cs)
      (x y : SeenBook K)
      → Reached (IsTakenIn cs) x y → Reached (IsTurnOf streams.tries (judged_in streams first last cs each)) x y
  taken-judged cs each x y reached =
      reached_on (IsTakenIn cs) (IsTurnOf streams.tries (judged_in streams first last cs each)) x y
      (turns-judged cs each) reached
