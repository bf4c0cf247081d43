-- SPDX-License-Identifier: Apache-2.0 OR MIT
-- Whenever others made their entries, and by whatever numbers, a user sees the same.
use Rattle.std.proofs.Common.{◌≡◌, ℕ, Bool, true, false, List, [], ◌∷◌, ◌++◌, refl, sym, ap, ◌∙◌, Option, Some}
use Rattle.std.specs.List.{list_any}
use Rattle.std.proofs.Math.Bool.{or-false}
use Rattle.cr_base.specs.declared.entry.Entry.{Entry}
use Rattle.cr_base.specs.declared.entry.Entry.TheVariants.{Registered, Conflict}
use Rattle.cr_base.specs.declared.entry.Stamp.{Stamp}
use Rattle.cr_base.specs.declared.entry.Stamped.{Stamped}
use Rattle.cr_base.specs.declared.retry.RetryKey.{RetryKey}
use Rattle.cr_base.specs.declared.words.Phase.TheVariants.{Setup}
use Rattle.cr_base.specs.Calls.{stamp_by}
use Rattle.cr_base.specs.Decisions.{is_accepted_when}
use Rattle.cr_base.specs.Drawn.{stamped}
use Rattle.cr_base.specs.History.{History, all_told_by, author_told, phase_told, withdrawal_told, decision_told}
use Rattle.cr_base.specs.Lists.{is_number, last, last_or}
use Rattle.cr_policy.specs.HiddenPayload.{PlaceByPlace, IsHiddenFrom, IsDeclaredAlike, outline, IsSameButStamp}
use Rattle.cr_policy.specs.HiddenPayload.{StampsUnseen}
use Rattle.cr_policy.specs.Part as part
use Rattle.cr_policy.specs.Part.{Part}
use Rattle.cr_policy.specs.Sighting.{entire, masked, where_shown}
use Rattle.cr_policy.specs.Triggers.{Reader, reader, Around, shows}
use Rattle.cr_policy.specs.View.{rows_at}
use Rattle.cr_policy.specs.ViewFacts.{is_user}
use Rattle.cr_policy.proofs.HiddenLaws.{hidden_payload, places-so}

-- ---- one entry

-- of the rows for an entry none but its maker's shows when it was made, and by which number
shows-moment : (r : Reader) (at : Around) (stamp : Stamp) (more : Bool) (e : Entry)
    → shows (rows_at r at (stamped stamp more e)) part.at ≡ is_number r.number stamp.maker
shows-moment r at stamp more (Registered user name digest) = or-false (is_number r.number stamp.maker)
shows-moment r at stamp more e = or-false (is_number r.number stamp.maker)

pub shows-key : (r : Reader) (at : Around) (stamp : Stamp) (more : Bool) (e : Entry)
    → shows (rows_at r at (stamped stamp more e)) part.key ≡ is_number r.number stamp.maker
shows-key r at stamp more (Registered user name digest) = or-false (is_number r.number stamp.maker)
shows-key r at stamp more e = or-false (is_number r.number stamp.maker)

-- so where they aren't shown, the same is shown whatever they are
where-same : {A : Type 0} (shown : Bool) (x y : A) → (shown ≡ true → x ≡ y)
    → where_shown shown (Some x) ≡ where_shown shown (Some y)
where-same true x y same = ap Some (same refl)
where-same false x y same = refl

masked-same : (f : Part → Bool) (maker a b : ℕ) (j k : Option RetryKey) (e : Entry) → (f part.at ≡ true → a ≡ b)
    → (f part.key ≡ true → j ≡ k)
    → masked f false (entire (stamp_by maker a j) e) ≡ masked f false (entire (stamp_by maker b k) e)
masked-same f maker a b j k (Registered user name digest) at key =
    λ i. record (masked f false (entire (stamp_by maker a j) (Registered user name digest))) {
      at = where-same (f part.at) a b at i;
      key = where-same (f part.key) j k key i;
    }
masked-same f maker a b j k e at key = λ i. record (masked f false (entire (stamp_by maker a j) e)) {
  at = where-same (f part.at) a b at i;
  key = where-same (f part.key) j k key i;
}

module _ (u : Option ℕ) where
  abbrev Same : Around → Stamped → Stamped → Type 0
  Same at e other = IsSameButStamp u e other

  outline-stamp : (a b : Stamp) (m n : Bool) (e : Entry) → outline (stamped a m e) ≡ outline (stamped b n e)
  outline-stamp a b m n (Registered user name digest) = refl
  outline-stamp a b m n e = refl

  outline-same : (at : Around) (e other : Stamped) → Same at e other → outline e ≡ outline other
  outline-same at e other same =
      outline-stamp e.stamp other.stamp e.more other.more e.entry
      ∙ (λ i. outline (stamped other.stamp other.more (same.entry i)))

  hidden-same : (H : History) (at : Around) (e other : Stamped) → Same at e other → IsHiddenFrom (reader u H) at e other
  hidden-same H at e other same = record {
    parts =
        masked-same (shows (rows_at (reader u H) at e)) e.stamp.maker e.stamp.at other.stamp.at e.stamp.key
        other.stamp.key e.entry
        (λ shown. ap (λ (stamp : Stamp). stamp.at)
        (same.own (sym (shows-moment (reader u H) at e.stamp e.more e.entry) ∙ shown)))
        (λ shown. ap (λ (stamp : Stamp). stamp.key)
        (same.own (sym (shows-key (reader u H) at e.stamp e.more e.entry) ∙ shown)))
        ∙ (λ i. masked (shows (rows_at (reader u H) at e)) false
        (entire (stamp_by (same.maker i) other.stamp.at other.stamp.key) (same.entry i)));
    maker = ap (is_number u) same.maker;
    user = (λ i. is_user u (entire e.stamp (same.entry i)).user) ∙ named e.stamp other.stamp other.entry;
  }
    where
      named : (a b : Stamp) (e : Entry) → is_user u (entire a e).user ≡ is_user u (entire b e).user
      named a b (Registered user name digest) = refl
      named a b e = refl

  -- ---- all of them

  told-same : {A : Type 0} (told : ℕ → Entry → List A) (before H H' : History) → PlaceByPlace Same before H H'
      → all_told_by told H ≡ all_told_by told H'
  told-same told before [] [] same = refl
  told-same told before [] (other ∷ H') same = absurd same
  told-same told before (e ∷ H) [] same = absurd same
  told-same told before (e ∷ H) (other ∷ H') same =
      λ i. told (same.0.maker i) (same.0.entry i) ++ told-same told (before ++ e ∷ []) H H' same.1 i

pub stamps_unseen : StampsUnseen
stamps_unseen u H H' same =
    hidden_payload u H H' (record {
      alike = places-so (Same u) (λ at e other. outline e ≡ outline other) (outline-same u) [] H H' same;
      hidden = places-so (Same u) (IsHiddenFrom (reader u H)) (hidden-same u H) [] H H' same;
      accepted = λ p i. is_accepted_when (last_or Setup (told-same u (λ m e. phase_told e) [] H H' same i))
          (last_or false (told-same u (λ m e. withdrawal_told p e) [] H H' same i))
          (last (told-same u (λ m e. decision_told p e) [] H H' same i));
      declared = places-so (Same u) (λ at e other. IsDeclaredAlike u H H' e.entry e.stamp.maker other.stamp.maker)
          declared [] H H' same;
    })
  where
    of : (entry : Entry) (a b : ℕ) → a ≡ b → IsDeclaredAlike u H H' entry a b
    of (Conflict paper user on) a b is =
        λ hers i. list_any (is_number (Some (is i))) (told-same u (author_told paper) [] H H' same i)
    of entry a b is = tt

    declared : (at : Around) (e other : Stamped) → IsSameButStamp u e other
        → IsDeclaredAlike u H H' e.entry e.stamp.maker other.stamp.maker
    declared at e other here = of e.entry e.stamp.maker other.stamp.maker here.maker
