-- SPDX-License-Identifier: Apache-2.0 OR MIT
-- Turns of any passes: the groups that a keeper tried and hasn't kept are those of wishes that were lost on the last
-- history.
use Rattle.std.proofs.Common.{◌≡◌, ◌∙◌, ◌⊎◌, inl, inr, ⊎_elim, List, [], ◌∷◌, Bool, true, false, Option, Some, None}
use Rattle.std.proofs.Common.{refl, sym, ap, subst}
use Rattle.std.specs.Prelude.{IsTrue, Err, ⊤}
use Rattle.cr_base.specs.declared.row.Row.{Row}
use Rattle.cr_base.specs.Drawn.{Drawn}
use Rattle.cr_base.specs.History.{History}
use Rattle.cr_base.specs.Rows.{rows_of}
use Rattle.cr_ports.specs.Stopping.{IsAmong}
use Rattle.cr_book.specs.Seen.{SeenBook}
use Rattle.cr_book.specs.Stopping.{Adding, Keepers}
use Rattle.cr_session.specs.Told.{drawn}
use Rattle.cr_session.specs.Passing.{BookTurn, IsTurnOf}
use Rattle.cr_session.specs.Replay.{JudgedWish, history_after}
use Rattle.cr_session.specs.Stopping.{IsLostGroup}
use Rattle.cr_session.specs.Tries.{Tries, fate_of, tries_of}
use Rattle.cr_session.proofs.StopLaws.{after-lost, after-nothing}

-- a turn of one of these wishes is one of more
pub turn-of-more : {K : Type 0} (tries : Tries K) (js ks : List JudgedWish)
    → ((j : JudgedWish) → IsAmong js j → IsAmong ks j) → (t : BookTurn K) → IsTurnOf tries js t → IsTurnOf tries ks t
turn-of-more tries js ks more t (inl one) = inl (record {
  wish = one.wish;
  among = more one.wish one.among;
  finds = one.finds;
  leads = one.leads;
  tried = one.tried;
  marked = one.marked;
})
turn-of-more tries js ks more t (inr none) = inr none

module _ {K : Type 0} (keepers : Keepers K) (judged : List JudgedWish) where
  -- A book whose keeper tells what a stop may leave: what that tried since the last that was kept are groups of wishes
  -- that were lost on the book's history.
  pub record OwesLosses (b : SeenBook K) : Type 0 where
    pub told : IsTrue (keepers.tells_stops b.keeper)
    pub lost : (added : List Row) → IsAmong (keepers.tried b.keeper) added
        → (group : History) × IsLostGroup judged b.log group × (added ≡ rows_of group)

  -- with the same history, and with what was tried before
  owes-still : (found left : SeenBook K) → left.log ≡ found.log → (added : List Row)
      → ((group : History) × IsLostGroup judged found.log group × (added ≡ rows_of group))
      → (group : History) × IsLostGroup judged left.log group × (added ≡ rows_of group)
  owes-still found left same added o =
      (o.0, subst (λ (H : History). IsLostGroup judged H o.0) (sym same) o.1, o.2)

  -- over a keeper that is as it was
  owes-same : (found left : SeenBook K) → left.log ≡ found.log → left.keeper ≡ found.keeper → OwesLosses found
      → OwesLosses left
  owes-same found left same still o = record {
    told = subst (λ (k : K). IsTrue (keepers.tells_stops k)) (sym still) o.told;
    lost = λ added among. owes-still found left same added
        (o.lost added (subst (λ (k : K). IsAmong (keepers.tried k) added) still among));
  }

  -- behind a wish, by whether it was lost, and by what it draws
  owes-wish : (j : JudgedWish) (found left : SeenBook K) → IsAmong judged j → found.log ≡ j.seen
      → left.log ≡ history_after j
      → (lost : Bool) (d : Option Drawn) → j.lost ≡ lost → drawn j.seen j.wish ≡ d
      → tries_of keepers j.seen (fate_of lost d) found.keeper left.keeper
      → OwesLosses found → OwesLosses left
  owes-wish j found left its finds leads lost None is draws did o =
      owes-same found left (leads ∙ (after-nothing j lost is draws ∙ sym finds)) (did o.told) o
  owes-wish j found left its finds leads false (Some d) is draws did o =
      let a = did o.told in record {
        told = a.telling ∙ o.told;
        lost = λ added among. absurd (subst (λ (l : List (List Row)). IsAmong l added) a.tried_after among);
      }
  owes-wish j found left its finds leads true (Some d) is draws did o =
      record { told = a.telling ∙ o.told; lost = λ added among. by added among a.tried_after }
    where
      a : Adding keepers {T = ⊤} {E = ⊤} (Err tt) j.seen d.group found.keeper left.keeper
      a = did o.told

      -- the history stays
      stays : left.log ≡ j.seen
      stays = leads ∙ after-lost j is

      own : IsLostGroup judged left.log d.group
      own = record {
        wish = j;
        among = its;
        lost = is;
        seen = sym stays;
        draws = d;
        drew = ap (λ (H : History). drawn H j.wish) stays ∙ draws;
        group_is = refl;
      }

      by : (added : List Row) → IsAmong (keepers.tried left.keeper) added
          → (keepers.tried left.keeper ≡ [])
          ⊎ ((keepers.tried left.keeper ≡ rows_of d.group ∷ [])
          ⊎ (keepers.tried left.keeper ≡ keepers.tried found.keeper))
          → (group : History) × IsLostGroup judged left.log group × (added ≡ rows_of group)
      by added among (inl none) = absurd (subst (λ (l : List (List Row)). IsAmong l added) none among)
      by added among (inr (inl one)) = (
        d.group,
        own,
        ⊎_elim (λ same. same) (λ none. absurd none) (subst (λ (l : List (List Row)). IsAmong l added) one among),
      )
      by added among (inr (inr as_was)) =
          owes-still found left (stays ∙ sym finds) added
          (o.lost added (subst (λ (l : List (List Row)). IsAmong l added) as_was among))

  pub owes-turn : (t : BookTurn K) → IsTurnOf (tries_of keepers) judged t → OwesLosses t.found → OwesLosses t.left
  owes-turn t (inl one) o =
      owes-wish one.wish t.found t.left one.among one.finds one.leads one.wish.lost (drawn one.wish.seen one.wish.wish)
      refl refl one.tried o
  owes-turn t (inr none) o = owes-same t.found t.left none.stays (none.tried o.told) o
