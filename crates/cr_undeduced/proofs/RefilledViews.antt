-- SPDX-License-Identifier: Apache-2.0 OR MIT
-- Whoever isn't shown what is filled in sees the same.
use Rattle.std.proofs.Common.{ℕ, ◌≡◌, suc, List, [], ◌∷◌, ◌++◌, refl, sym, ap, Option, Some}
use Rattle.std.specs.List.{list_any}
use Rattle.cr_base.specs.declared.entry.Entry.{Entry}
use Rattle.cr_base.specs.declared.entry.Entry.TheVariants as entries
use Rattle.cr_base.specs.declared.entry.Stamped.{Stamped}
use Rattle.cr_base.specs.Drawn.{stamped}
use Rattle.cr_base.specs.History.{History}
use Rattle.cr_base.specs.HistoryFacts.{is_author}
use Rattle.cr_base.specs.Lists.{is_number}
use Rattle.cr_policy.specs.HiddenPayload.{all_of, outline, PlaceByPlace, AcceptedAlike, shown_of, IsHiddenFrom}
use Rattle.cr_policy.specs.HiddenPayload.{IsDeclaredAlike}
use Rattle.cr_policy.specs.Triggers.{Reader, reader}
use Rattle.cr_policy.specs.View.{view}
use Rattle.cr_policy.specs.ViewFacts.{is_user}
use Rattle.cr_policy.proofs.HiddenLaws.{hidden_payload}
use Rattle.cr_undeduced.specs.Payload.{Payload}
use Rattle.cr_undeduced.proofs.Fill.{retold, fill, refilled}
use Rattle.cr_undeduced.proofs.RefilledFacts.{authors-refilled}

-- what is filled in differs, if at all, in parts that such a reader isn't shown
abbrev pub IsFilledUnseen : Reader → (ℕ → Payload) → History → History → Type 0
IsFilledUnseen r xs before H =
    PlaceByPlace (λ at e other. shown_of r at e e ≡ shown_of r at e other) before H (refilled xs H)

-- what is filled in leaves a tag as it is
abbrev pub KeepsTag : Payload → Entry → Type 0
KeepsTag x (entries.Tagged paper tag on) = retold tag x.tag ≡ tag
KeepsTag x e = Unit {0}

abbrev pub KeepTags : (ℕ → Payload) → History → Type 0
KeepTags xs [] = Unit {0}
KeepTags xs (e ∷ H) = KeepsTag (xs 0) e.entry × KeepTags (λ n. xs (suc n)) H

fill-outline : (x : Payload) (e : Stamped) → KeepsTag x e.entry
    → outline e ≡ outline (stamped e.stamp e.more (fill x e.entry))
fill-outline x e kept = by e.entry kept
  where
    by : (entry : Entry) → KeepsTag x entry
        → outline (stamped e.stamp e.more entry) ≡ outline (stamped e.stamp e.more (fill x entry))
    by (entries.Registered user name digest) kept = refl
    by (entries.Tagged paper tag on) kept =
        λ i. record (outline (stamped e.stamp e.more (entries.Tagged paper tag on))) { tag = Some (sym kept i) }
    by entry kept = refl

fill-user : (u : Option ℕ) (x : Payload) (e : Stamped)
    → is_user u (all_of e).user ≡ is_user u (all_of (stamped e.stamp e.more (fill x e.entry))).user
fill-user u x e = by e.entry
  where
    by : (entry : Entry)
        → is_user u (all_of (stamped e.stamp e.more entry)).user
        ≡ is_user u (all_of (stamped e.stamp e.more (fill x entry))).user
    by (entries.Registered user name digest) = refl
    by entry = refl

alike-refilled : (xs : ℕ → Payload) (before H : History) → KeepTags xs H
    → PlaceByPlace (λ at e other. outline e ≡ outline other) before H (refilled xs H)
alike-refilled xs before [] kept = tt
alike-refilled xs before (e ∷ H) kept =
    (fill-outline (xs 0) e kept.0, alike-refilled (λ n. xs (suc n)) (before ++ e ∷ []) H kept.1)

hidden-refilled : (r : Reader) (xs : ℕ → Payload) (before H : History)
    → IsFilledUnseen r xs before H
    → PlaceByPlace (IsHiddenFrom r) before H (refilled xs H)
hidden-refilled r xs before [] hidden = tt
hidden-refilled r xs before (e ∷ H) hidden = (
  record { parts = hidden.0; maker = refl; user = fill-user r.number (xs 0) e },
  hidden-refilled r (λ n. xs (suc n)) (before ++ e ∷ []) H hidden.1,
)

declared-refilled : (u : Option ℕ) (G G' : History)
    → ((p : ℕ) (v : ℕ) → is_author (Some v) p G ≡ is_author (Some v) p G')
    → (xs : ℕ → Payload) (before H : History)
    → PlaceByPlace (λ at e other. IsDeclaredAlike u G G' e.entry e.stamp.maker other.stamp.maker) before H
    (refilled xs H)
declared-refilled u G G' same xs before [] = tt
declared-refilled u G G' same xs before (e ∷ H) =
    (by e.entry, declared-refilled u G G' same (λ n. xs (suc n)) (before ++ e ∷ []) H)
  where
    by : (entry : Entry) → IsDeclaredAlike u G G' entry e.stamp.maker e.stamp.maker
    by (entries.Conflict paper user on) = λ hers. same paper e.stamp.maker
    by entry = tt

pub refilled-unseen : (xs : ℕ → Payload) (H : History) (u : Option ℕ) → KeepTags xs H
    → IsFilledUnseen (reader u H) xs [] H → AcceptedAlike H (refilled xs H) → view u H ≡ view u (refilled xs H)
refilled-unseen xs H u kept hidden accepted =
    hidden_payload u H (refilled xs H) (record {
      alike = alike-refilled xs [] H kept;
      hidden = hidden-refilled (reader u H) xs [] H hidden;
      accepted = accepted;
      declared = declared-refilled u H (refilled xs H)
          (λ p v. ap (λ (authors : List ℕ). list_any (is_number (Some v)) authors) (sym (authors-refilled xs H p)))
          xs [] H;
    })
