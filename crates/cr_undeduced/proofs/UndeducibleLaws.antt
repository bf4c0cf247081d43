-- SPDX-License-Identifier: Apache-2.0 OR MIT
-- The other history of a legal one is legal.
use Rattle.std.proofs.Common.{ℕ, ◌≡◌, ◌≤◌, suc, List, [], ◌∷◌, ◌++◌, sym, ap, subst, ◌∙◌, Option, Some, None}
use Rattle.std.specs.Prelude.{map, IsTrue}
use Rattle.cr_base.specs.declared.entry.Stamp.{Stamp}
use Rattle.cr_base.specs.History.{History, own_bytes_told}
use Rattle.cr_base.specs.HistoryFacts.{own_bytes_of}
use Rattle.cr_base.specs.Lists.{total}
use Rattle.cr_policy.specs.HiddenPayload.{PlaceByPlace}
use Rattle.cr_policy.specs.Legal.{Legal}
use Rattle.cr_policy.specs.Sentences.{in_time}
use Rattle.cr_undeduced.specs.OtherStamps.{StampsFit}
use Rattle.cr_undeduced.specs.Payload.{Payload, IsBoundedPayload}
use Rattle.cr_undeduced.specs.Undeducible.{Look, Looking, looking_at, who_looked, with_values, otherwise, IsWithinQuota}
use Rattle.cr_undeduced.specs.Undeducible.{OthersLegal, ShorterLegal}
use Rattle.cr_undeduced.proofs.Fill.{refilled, mixed_behind, others-filled}
use Rattle.cr_undeduced.proofs.RefilledLegal.{refilled-legal, shorter-legal}
use Rattle.cr_undeduced.proofs.RefilledTexts.{legal-texts, mixed_behind-bounded, mixed-shorter}
use Rattle.cr_undeduced.proofs.StampedGroups.{told-stamped}
use Rattle.cr_undeduced.proofs.StampedLegal.{stamped-legal}

-- what is filled in stands under the same stamps
timed-refilled : (Q : History → Stamp → Stamp → Type 0) (xs : ℕ → Payload) (before O H : History)
    → PlaceByPlace (λ at e own. Q at.before e.stamp own.stamp) before O H
    → PlaceByPlace (λ at e own. Q at.before e.stamp own.stamp) before O (refilled xs H)
timed-refilled Q xs before [] [] places = tt
timed-refilled Q xs before [] (d ∷ H) places = absurd places
timed-refilled Q xs before (e ∷ O) [] places = absurd places
timed-refilled Q xs before (e ∷ O) (d ∷ H) places =
    (places.0, timed-refilled Q (λ n. xs (suc n)) (before ++ e ∷ []) O H places.1)

module _ (looks : List Look) (xs : ℕ → Payload) (H : History) (legal : Legal H)
    (bounded : (n : ℕ) → IsBoundedPayload (xs n)) (fits : StampsFit (otherwise looks xs H) H) where
  abbrev all : List Looking
  all = map (looking_at H) looks

  abbrev pub ys : ℕ → Payload
  ys = mixed_behind all [] xs H

  abbrev pub values : History
  values = with_values looks xs H

  filled : values ≡ refilled ys H
  filled = others-filled all [] xs H

  pub ys-bounded : (n : ℕ) → IsBoundedPayload (ys n)
  ys-bounded = mixed_behind-bounded all [] xs H (legal-texts H legal) bounded

  -- the history with the other values alone is legal, and so it is with the other stamps
  pub stamps-legal : Legal (refilled ys H) → Legal (otherwise looks xs H)
  stamps-legal legal' =
      stamped-legal (who_looked looks) xs bounded values
      (subst (λ (G : History). Legal G) (sym filled) legal') (record {
        timed = subst
            (λ (G : History). PlaceByPlace
            (λ at e own. IsTrue (in_time own.stamp.at at.before) → IsTrue (in_time e.stamp.at at.before)) []
            (otherwise looks xs H) G) (sym filled)
            (timed-refilled (λ (before : History) (stamp own : Stamp).
            IsTrue (in_time own.at before) → IsTrue (in_time stamp.at before)) ys [] (otherwise looks xs H) H
            fits.timed);
        numbered = fits.numbered;
      })

  -- who has uploaded how much is the same
  bytes-same : (u : Option ℕ) → own_bytes_of u (otherwise looks xs H) ≡ own_bytes_of u (refilled ys H)
  bytes-same u =
      ap total (told-stamped (who_looked looks) (own_bytes_told u) None xs values) ∙ ap (own_bytes_of u) filled

  pub quota-same : IsWithinQuota (otherwise looks xs H) → IsWithinQuota (refilled ys H)
  quota-same quota user = subst (λ n. n ≤ 67108864) (bytes-same (Some user)) (quota user)

pub others_legal : OthersLegal
others_legal looks xs H legal bounded fits quota =
    stamps-legal looks xs H legal bounded fits
    (refilled-legal (mixed_behind (map (looking_at H) looks) [] xs H) H legal
    (ys-bounded looks xs H legal bounded fits) (quota-same looks xs H legal bounded fits quota))

pub shorter_legal : ShorterLegal
shorter_legal looks xs H legal bounded fits shorter =
    stamps-legal looks xs H legal bounded fits
    (shorter-legal (mixed_behind (map (looking_at H) looks) [] xs H) H legal
    (ys-bounded looks xs H legal bounded fits) (mixed-shorter (map (looking_at H) looks) [] xs H shorter))
