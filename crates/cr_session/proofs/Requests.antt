-- SPDX-License-Identifier: Apache-2.0 OR MIT
-- From what one turn did to what one request did.
use Rattle.std.proofs.Common.{◌≡◌, ◌∙◌, ℕ, List, [], Bool, true, false, refl, sym, ap, subst, ◌∷◌}
use mathlib.Core.List.{IsPrefix}
use Rattle.cr_base.specs.History.{History}
use Rattle.cr_book.specs.Seen.{SeenBook}
use Rattle.cr_lock.specs.Passes.{IsAsLeft, after_turn}
use Rattle.cr_wire.specs.declared.what.Wish.{Wish}
use Rattle.cr_session.specs.declared.turn.TurnResult.{TurnResult}
use Rattle.cr_session.specs.declared.turn.TurnResult.TheVariants as turns
use Rattle.cr_session.specs.declared.serve.RequestOutcome.{RequestOutcome}
use Rattle.cr_session.specs.declared.serve.RequestOutcome.TheVariants as served
use Rattle.cr_session.specs.Told.{sending_of, told, unkept, drawn, after_wish}
use Rattle.cr_session.specs.Replay.{JudgedWish, Ledger, Turned, answer_to, history_after}
use Rattle.cr_session.specs.Tries.{Tries, Nothing, fate_of, kept_of}
use Rattle.cr_session.specs.Passing.{KnownPass}
use Rattle.cr_wire.specs.Wishes.{closes}
use Rattle.cr_ports.specs.Writing.{Outlet, WritesAnswers, AnswerBreaksOff}
use Rattle.cr_session.specs.Turning.{Turns, TurnTries, AnswersWish, turn_text, MayWantToPrint, MayWantMemory, Sends}
use Rattle.cr_session.specs.Turning.{JudgesInTurn, TurnsInVain, ServesRequest}

-- ---- what was judged

answer_to-kept : (n : ℕ) (w : Wish) (old : History)
    → answer_to n (record { wish = w; seen = old; lost = false }) ≡ told old w (closes n w)
unfolding answer_to
answer_to-kept n w old = refl

history_after-kept : (w : Wish) (old : History)
    → history_after (record { wish = w; seen = old; lost = false }) ≡ after_wish old w
unfolding history_after
history_after-kept w old = refl

answer_to-lost : (n : ℕ) (w : Wish) (old : History)
    → answer_to n (record { wish = w; seen = old; lost = true }) ≡ turn_text turns.Lost (sending_of w (closes n w))
unfolding answer_to unkept
answer_to-lost n w old = refl

history_after-lost : (w : Wish) (old : History) → history_after (record { wish = w; seen = old; lost = true }) ≡ old
unfolding history_after
history_after-lost w old = refl

-- One turn of the pass on a ledger, which it left so, over a book that it found and left so.
module _ {K : Type 0} (tries : Tries K) (w : Wish) (b b' : Ledger) (found leaves : SeenBook K) (p p' : KnownPass K)
    (saw : IsPrefix p.seen b.history) (finds : found.log ≡ b.history) (leads : leaves.log ≡ b'.history)
    (as_left : IsAsLeft p found) (is : p' ≡ after_turn p found leaves b.history b'.history b.faults b'.faults) where
  -- it came to this, and the request was judged with that answer
  record WasJudged (turn : TurnResult) (n : ℕ) : Type 0 where
    judges : JudgesInTurn tries w p p'
    text : turn_text turn (sending_of w (closes n w)) ≡ answer_to n judges.judged

  -- the turn's history, however it is told
  turned : (H : History) → b'.history ≡ H → p' ≡ after_turn p found leaves b.history H b.faults b'.faults
  turned H e = is ∙ ap (λ (h : History). after_turn p found leaves b.history h b.faults b'.faults) e

  -- the wish as it was judged, and whether what it added was lost
  abbrev judged_so : Bool → JudgedWish
  judged_so lost = record { wish = w; seen = b.history; lost = lost }

  -- what is so of the ledger is so of the pass
  abbrev in_turn : (lost : Bool) → Turned (judged_so lost) b b'
      → tries b.history (fate_of lost (drawn b.history w)) found.keeper leaves.keeper
      → JudgesInTurn tries w p p'
  in_turn lost t did = record {
    judged = judged_so lost;
    wish = refl;
    turned = record {
      saw = saw;
      lost = t.lost;
      faults = b.faults;
      faults' = b'.faults;
      counted = t.counted;
      found = found;
      leaves = leaves;
      finds = finds;
      leads = leads ∙ t.history;
      as_left = as_left;
      tried = did;
      turn = turned (history_after (judged_so lost)) t.history;
    };
  }

  kept-judged : (turn : TurnResult) (n : ℕ) → AnswersWish turn w b b'
      → tries b.history (kept_of (drawn b.history w)) found.keeper leaves.keeper → WasJudged turn n
  kept-judged turn n a did = record {
    judges =
        in_turn false (record {
          seen = refl;
          lost = tt;
          history = a.stepped ∙ sym (history_after-kept w b.history);
          counted = a.steady;
        }) did;
    text = a.told_is (closes n w) ∙ sym (answer_to-kept n w b.history);
  }

  -- what a turn that came to this did with the keeper
  abbrev Did : TurnResult → Type 0
  Did turn = TurnTries tries turn b.history (drawn b.history w) found.keeper leaves.keeper

  was_judged : (turn : TurnResult) (n : ℕ) → (turn ≡ turns.OutOfMemory → ⊥) → Turns turn w b b' → Did turn
      → WasJudged turn n
  was_judged (turns.Refused refused) n memory t did = kept-judged (turns.Refused refused) n t did
  was_judged (turns.Accepted receipt) n memory t did = kept-judged (turns.Accepted receipt) n t did
  was_judged (turns.Answered reply) n memory t did = kept-judged (turns.Answered reply) n t.0 did.0
  was_judged turns.Lost n memory t did = record {
    judges =
        in_turn true (record {
          seen = refl;
          lost = t.0;
          history = t.1 ∙ sym (history_after-lost w b.history);
          counted = t.2;
        }) did;
    text = sym (answer_to-lost n w b.history);
  }
  was_judged turns.OutOfMemory n memory t did = absurd (memory refl)

  -- ---- what was served

  -- the answer was sent
  pub serves_sent : (turn : TurnResult) (sent : RequestOutcome) (n : ℕ) (close : Bool) (reply : List ℕ) (s s' : Outlet)
      → (turn ≡ turns.OutOfMemory → ⊥)
      → Turns turn w b b' → Did turn → close ≡ closes n w → reply ≡ turn_text turn (sending_of w close)
      → Sends sent close reply s s'
      → ServesRequest tries sent n w p p' s s'
  serves_sent turn sent n close reply s s' memory t did closing text_is sends = by sent sends
    where
      j : WasJudged turn n
      j = was_judged turn n memory t did

      text : reply ≡ answer_to n j.judges.judged
      text = text_is ∙ ap (λ (c : Bool). turn_text turn (sending_of w c)) closing ∙ j.text

      by : (x : RequestOutcome) → Sends x close reply s s' → ServesRequest tries x n w p p' s s'
      by served.Goes x = (j.judges, sym closing ∙ x.0, subst (λ (r : List ℕ). WritesAnswers (r ∷ []) s s') text x.1)
      by served.Closes x = (j.judges, sym closing ∙ x.0, subst (λ (r : List ℕ). WritesAnswers (r ∷ []) s s') text x.1)
      by served.WriteFault x = (j.judges, subst (λ (r : List ℕ). AnswerBreaksOff [] r s s') text x)
      by served.OutOfMemory x = absurd x

  -- memory ran out in the turn
  vain : (b' ≡ b) → MayWantMemory b.history w → tries b.history Nothing found.keeper leaves.keeper
      → TurnsInVain tries w p p'
  vain same wants did = record {
    seen = b.history;
    saw = saw;
    wants = wants;
    faults = b.faults;
    found = found;
    leaves = leaves;
    finds = finds;
    stays = leads ∙ ap (λ (x : Ledger). x.history) same;
    as_left = as_left;
    tried = did;
    turn = is ∙ ap (λ (x : Ledger). after_turn p found leaves b.history x.history b.faults x.faults) same;
  }

  pub turned_in_vain : (turn : TurnResult) → turn ≡ turns.OutOfMemory → Turns turn w b b' → Did turn
      → TurnsInVain tries w p p'
  turned_in_vain turn none t did = let stays =
      subst (λ (x : TurnResult). Turns x w b b') none t in vain stays.0 stays.1 (subst Did none did)

  -- or in writing its answer
  pub unprinted : (turn : TurnResult) → Turns turn w b b' → Did turn → MayWantToPrint turn → TurnsInVain tries w p p'
  unprinted (turns.Refused refused) t did may = absurd may
  unprinted (turns.Accepted receipt) t did may = absurd may
  unprinted (turns.Answered reply) t did may = vain t.1 (t.2 may) did.1
  unprinted turns.Lost t did may = absurd may
  unprinted turns.OutOfMemory t did may = absurd may
