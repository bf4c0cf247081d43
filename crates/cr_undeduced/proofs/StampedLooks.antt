-- SPDX-License-Identifier: Apache-2.0 OR MIT
-- Whoever looked sees the same under other stamps: hers are her own.
use Rattle.std.proofs.Common.{ℕ, Bool, true, false, ◌≡◌, suc, zero, List, [], ◌∷◌, ◌++◌, refl, sym, ap, ◌∙◌, Option}
use Rattle.std.proofs.Common.{None}
use Rattle.std.specs.Prelude.{take, unwrap_or}
use Rattle.cr_base.specs.declared.entry.Stamp.{Stamp}
use Rattle.cr_base.specs.Drawn.{stamped}
use Rattle.cr_base.specs.History.{History}
use Rattle.cr_base.specs.Lists.{is_number}
use Rattle.cr_policy.specs.HiddenPayload.{PlaceByPlace, IsSameButStamp}
use Rattle.cr_policy.specs.View.{view}
use Rattle.cr_policy.proofs.StampLaws.{stamps_unseen}
use Rattle.cr_undeduced.specs.OtherStamps.{is_among, stamp_with_other, going_on, with_stamps}
use Rattle.cr_undeduced.specs.Payload.{Payload}
use Rattle.cr_undeduced.proofs.Among.{Among}

module _ (group : List (Option ℕ)) where
  pub stamped-take : (k : ℕ) (begun : Option Payload) (xs : ℕ → Payload) (H : History)
      → take k (with_stamps group begun xs H) ≡ with_stamps group begun xs (take k H)
  stamped-take zero begun xs [] = refl
  stamped-take zero begun xs (e ∷ H) = refl
  stamped-take (suc k) begun xs [] = refl
  stamped-take (suc k) begun xs (e ∷ H) =
      let x : Payload = unwrap_or begun (xs 0) in
      ap (λ (G : History). stamped (stamp_with_other (is_among group e.stamp.maker) x e.stamp) e.more e.entry ∷ G)
      (stamped-take k (going_on e.more x) (λ n. xs (suc n)) H)

  own-stamp : (known : Bool) (x : Payload) (stamp : Stamp) → known ≡ true → stamp ≡ stamp_with_other known x stamp
  own-stamp true x stamp is = refl
  own-stamp false x stamp is = cc

  same-but : (u : Option ℕ) → Among u group → (begun : Option Payload) (xs : ℕ → Payload) (before H : History)
      → PlaceByPlace (λ at e other. IsSameButStamp u e other) before H (with_stamps group begun xs H)
  same-but u among begun xs before [] = tt
  same-but u among begun xs before (e ∷ H) =
      let x : Payload = unwrap_or begun (xs 0) in (
        record {
          entry = refl;
          maker = refl;
          own = λ hers.
              own-stamp (is_among group e.stamp.maker) x e.stamp
              (among (λ (v : Option ℕ). is_number v e.stamp.maker) hers);
        },
        same-but u among (going_on e.more x) (λ n. xs (suc n)) (before ++ e ∷ []) H,
      )

  pub stamps-alike : (u : Option ℕ) → Among u group → (k : ℕ) (xs : ℕ → Payload) (H : History)
      → view u (take k H) ≡ view u (take k (with_stamps group None xs H))
  stamps-alike u among k xs H =
      stamps_unseen u (take k H) (with_stamps group None xs (take k H)) (same-but u among None xs [] (take k H))
      ∙ ap (view u) (sym (stamped-take k None xs H))
