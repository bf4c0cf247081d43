-- SPDX-License-Identifier: Apache-2.0 OR MIT
-- Under other stamps a history tells the rules the same, and the entries of a command stay under one stamp.
use Rattle.std.proofs.Common.{ℕ, Bool, true, false, ◌≡◌, suc, List, [], ◌∷◌, ◌++◌, length, refl, sym, ap, subst, ◌∙◌}
use Rattle.std.proofs.Common.{Option, Some, None, append_assoc, append-nil}
use Rattle.std.specs.Prelude.{map, not, unwrap_or, IsTrue}
use Rattle.cr_base.specs.declared.entry.Entry.{Entry}
use Rattle.cr_base.specs.declared.entry.Stamp.{Stamp}
use Rattle.cr_base.specs.declared.entry.Stamped.{Stamped}
use Rattle.cr_base.specs.Drawn.{stamped, grouped}
use Rattle.cr_base.specs.History.{History, all_told_by}
use Rattle.cr_base.specs.Lists.{last_from}
use Rattle.cr_base.specs.Tables.{Tables, tables_after, tables_from}
use Rattle.cr_history.specs.Invariants.{IsWhole}
use Rattle.cr_policy.specs.HiddenPayload.{PlaceByPlace}
use Rattle.cr_policy.specs.Sentences.{in_time}
use Rattle.cr_undeduced.specs.OtherStamps.{is_among, stamp_with_other, going_on, with_stamps, goes_on, HasNewNumber}
use Rattle.cr_undeduced.specs.OtherStamps.{StampsFit}
use Rattle.cr_undeduced.specs.Payload.{Payload}
use Rattle.cr_undeduced.proofs.Fill.{behind}
use Rattle.cr_undeduced.proofs.Splits.{in-turn}

module _ (group : List (Option ℕ)) where
  -- the payload at a command's first entry, of an entry of it
  abbrev first_of : Option Payload → (ℕ → Payload) → Payload
  first_of begun xs = unwrap_or begun (xs 0)

  -- ---- what is told

  pub told-stamped : {A : Type 0} (told : ℕ → Entry → List A) (begun : Option Payload) (xs : ℕ → Payload) (H : History)
      → all_told_by told (with_stamps group begun xs H) ≡ all_told_by told H
  told-stamped told begun xs [] = refl
  told-stamped told begun xs (e ∷ H) =
      ap (λ rest. told e.stamp.maker e.entry ++ rest)
      (told-stamped told (going_on e.more (first_of begun xs)) (λ n. xs (suc n)) H)

  pub tables-stamped : (t : Tables) (begun : Option Payload) (xs : ℕ → Payload) (H : History)
      → tables_from t (with_stamps group begun xs H) ≡ tables_from t H
  tables-stamped t begun xs [] = refl
  tables-stamped t begun xs (e ∷ H) =
      tables-stamped (tables_after t e) (going_on e.more (first_of begun xs)) (λ n. xs (suc n)) H

  -- ---- one history behind another

  -- what goes on behind a history
  abbrev pub begun_behind : Option Payload → (ℕ → Payload) → History → Option Payload
  begun_behind begun xs [] = begun
  begun_behind begun xs (e ∷ H) = begun_behind (going_on e.more (first_of begun xs)) (λ n. xs (suc n)) H

  pub stamped-append : (begun : Option Payload) (xs : ℕ → Payload) (H g : History)
      → with_stamps group begun xs (H ++ g)
      ≡ with_stamps group begun xs H ++ with_stamps group (begun_behind begun xs H) (behind (length H) xs) g
  stamped-append begun xs [] g = refl
  stamped-append begun xs (e ∷ H) g =
      ap
      (λ (rest : History).
      stamped (stamp_with_other (is_among group e.stamp.maker) (first_of begun xs) e.stamp) e.more e.entry ∷ rest)
      (stamped-append (going_on e.more (first_of begun xs)) (λ n. xs (suc n)) H g)

  -- behind a whole history nothing does
  whole-begun : (begun : Option Payload) (xs : ℕ → Payload) (e : Stamped) (H : History) → IsWhole (e ∷ H)
      → begun_behind begun xs (e ∷ H) ≡ None
  whole-begun begun xs e [] whole = ap (λ more. going_on more (first_of begun xs)) whole
  whole-begun begun xs e (next ∷ H) whole =
      whole-begun (going_on e.more (first_of begun xs)) (λ n. xs (suc n)) next H whole.1

  none-begun : (xs : ℕ → Payload) (H : History) → IsWhole H → begun_behind None xs H ≡ None
  none-begun xs [] whole = refl
  none-begun xs (e ∷ H) whole = whole-begun None xs e H whole

  -- ---- one group

  -- the stamp of a command whose first entry stands behind so many places
  abbrev pub new_stamp : (ℕ → Payload) → History → Stamp → Stamp
  new_stamp xs H stamp = stamp_with_other (is_among group stamp.maker) (behind (length H) xs 0) stamp

  grouped-stamped : (begun : Option Payload) (xs : ℕ → Payload) (stamp : Stamp) (es : List Entry)
      → with_stamps group begun xs (grouped stamp es)
      ≡ grouped (stamp_with_other (is_among group stamp.maker) (first_of begun xs) stamp) es
  grouped-stamped begun xs stamp [] = refl
  grouped-stamped begun xs stamp (e ∷ []) = refl
  grouped-stamped begun xs stamp (e ∷ next ∷ es) =
      ap
      (λ (rest : History).
      stamped (stamp_with_other (is_among group stamp.maker) (first_of begun xs) stamp) true e ∷ rest)
      (grouped-stamped (Some (first_of begun xs)) (λ n. xs (suc n)) stamp (next ∷ es))

  pub behind-stamped : (xs : ℕ → Payload) (H : History) (stamp : Stamp) (es : List Entry) → IsWhole H
      → with_stamps group None xs (H ++ grouped stamp es)
      ≡ with_stamps group None xs H ++ grouped (new_stamp xs H stamp) es
  behind-stamped xs H stamp es whole =
      stamped-append None xs H (grouped stamp es)
      ∙ ap
      (λ (begun : Option Payload).
      with_stamps group None xs H ++ with_stamps group begun (behind (length H) xs) (grouped stamp es))
      (none-begun xs H whole)
      ∙ ap (λ (g : History). with_stamps group None xs H ++ g)
      (grouped-stamped None (behind (length H) xs) stamp es)

  -- ---- what fits in its place

  length-stamped : (begun : Option Payload) (xs : ℕ → Payload) (H : History)
      → length (with_stamps group begun xs H) ≡ length H
  length-stamped begun xs [] = refl
  length-stamped begun xs (e ∷ H) =
      ap suc (length-stamped (going_on e.more (first_of begun xs)) (λ n. xs (suc n)) H)

  -- the other history goes on where the first does
  last-stamped : (o : Option Bool) (begun : Option Payload) (xs : ℕ → Payload) (H : History)
      → last_from o (map (λ (e : Stamped). e.more) (with_stamps group begun xs H))
      ≡ last_from o (map (λ (e : Stamped). e.more) H)
  last-stamped o begun xs [] = refl
  last-stamped o begun xs (e ∷ H) =
      last-stamped (Some e.more) (going_on e.more (first_of begun xs)) (λ n. xs (suc n)) H

  whole-last : (o : Option Bool) (e : Stamped) (H : History) → IsWhole (e ∷ H)
      → last_from o (map (λ (e : Stamped). e.more) (e ∷ H)) ≡ Some false
  whole-last o e [] whole = ap (λ more. Some more) whole
  whole-last o e (next ∷ H) whole = whole-last (Some e.more) next H whole.1

  whole-ends : (H : History) → IsWhole H → goes_on H ≡ false
  whole-ends [] whole = refl
  whole-ends (e ∷ H) whole = ap (λ (o : Option Bool). unwrap_or o false) (whole-last None e H whole)

  one-less : (d d' : Stamped) (A A' : History) → length (d ∷ A) ≡ length (d' ∷ A') → length A ≡ length A'
  one-less d d' A A' long = cc

  place-at : (Q : History → Stamped → Stamped → Type 0) (before A A' : History) (e e' : Stamped) (B B' : History)
      → length A ≡ length A' → PlaceByPlace (λ at e own. Q at.before e own) before (A ++ e ∷ B) (A' ++ e' ∷ B')
      → Q (before ++ A) e e'
  place-at Q before [] [] e e' B B' long places =
      subst (λ (G : History). Q G e e') (sym (append-nil before)) places.0
  place-at Q before [] (d' ∷ A') e e' B B' long places = cc
  place-at Q before (d ∷ A) [] e e' B B' long places = cc
  place-at Q before (d ∷ A) (d' ∷ A') e e' B B' long places =
      subst (λ (G : History). Q G e e') (append_assoc before (d ∷ []) A)
      (place-at Q (before ++ d ∷ []) A A' e e' B B' (one-less d d' A A' long) places.1)

  -- what fits the first entry of a command, which stands behind a whole history
  pub record FirstFits (xs : ℕ → Payload) (H : History) (e : Stamped) : Type 0 where
    pub timed : in_time e.stamp.at (with_stamps group None xs H) ≡ true
        → in_time (new_stamp xs H e.stamp).at (with_stamps group None xs H) ≡ true
    pub numbered : HasNewNumber (with_stamps group None xs H) (new_stamp xs H e.stamp) e.entry

  pub first-fits : (xs : ℕ → Payload) (H : History) (e : Stamped) (later : History) → IsWhole H
      → StampsFit (with_stamps group None xs (H ++ e ∷ later)) (H ++ e ∷ later) → FirstFits xs H e
  first-fits xs H e later whole fits = record {
    timed =
        place-at (λ (before : History) (e : Stamped) (own : Stamped).
        IsTrue (in_time own.stamp.at before) → IsTrue (in_time e.stamp.at before)) [] other H new e rest later
        (length-stamped None xs H) here.timed;
    numbered =
        in-turn _ (other ++ new ∷ rest) other new rest refl here.numbered
        (ap not (ap (λ (o : Option Bool). unwrap_or o false) (last-stamped None None xs H) ∙ whole-ends H whole));
  }
    where
      other : History
      other = with_stamps group None xs H

      new : Stamped
      new = stamped (new_stamp xs H e.stamp) e.more e.entry

      rest : History
      rest = with_stamps group (going_on e.more (behind (length H) xs 0)) (λ n. behind (length H) xs (suc n)) later

      split : with_stamps group None xs (H ++ e ∷ later) ≡ other ++ new ∷ rest
      split =
          stamped-append None xs H (e ∷ later)
          ∙ ap
          (λ (begun : Option Payload). other ++ with_stamps group begun (behind (length H) xs) (e ∷ later))
          (none-begun xs H whole)

      here : StampsFit (other ++ new ∷ rest) (H ++ e ∷ later)
      here = subst (λ (G : History). StampsFit G (H ++ e ∷ later)) split fits
