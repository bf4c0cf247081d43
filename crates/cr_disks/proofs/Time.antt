-- SPDX-License-Identifier: Apache-2.0 OR MIT
-- One more moment joins those that a disk in memory has had.
use Rattle.std.proofs.Common.{◌≡◌, ◌⊎◌, inl, inr, ⊎_elim, ℕ, zero, suc, ◌≤◌, List, [], ◌∷◌, ◌++◌, length, drop, refl}
use Rattle.std.proofs.Common.{sym, subst, arith, length-append}
use Rattle.cr_disks.specs.Disk.{Elapses}
use Rattle.cr_disks.specs.Held.{DiskState, Held, left_in, left_since_of, past_of, state_of}
use Rattle.cr_disks.specs.Past.{HadBeen}

module _ {T : Type 0} (images : T → List ℕ → Type 0) where
  keeps : (past : List T) (v : T) (c : List ℕ) → HadBeen images past c → HadBeen images (past ++ v ∷ []) c
  keeps [] v c had = absurd had
  keeps (p ∷ past) v c (inl here) = inl here
  keeps (p ∷ past) v c (inr there) = inr (keeps past v c there)

  adds : (past : List T) (v : T) (c : List ℕ) → HadBeen images (past ++ v ∷ []) c → HadBeen images past c ⊎ images v c
  adds [] v c (inl here) = inr here
  adds [] v c (inr none) = absurd none
  adds (p ∷ past) v c (inl here) = inl (inl here)
  adds (p ∷ past) v c (inr there) = ⊎_elim (λ had. inl (inr had)) (λ new. inr new) (adds past v c there)

  newest : (past : List T) (v : T) (c : List ℕ) → images v c → HadBeen images (past ++ v ∷ []) c
  newest [] v c is = inl is
  newest (p ∷ past) v c is = inr (newest past v c is)

  drop_push : (t : ℕ) (past : List T) (v : T) → t ≤ length past → drop t (past ++ v ∷ []) ≡ drop t past ++ v ∷ []
  drop_push zero past v le = refl
  drop_push (suc t) [] v le = absurd (omega arith)
  drop_push (suc t) (p ∷ past) v le = drop_push t past v (omega arith)

  abbrev pub Since : List T → (List ℕ → Type 0) → ℕ → List ℕ → Type 0
  Since past now t c = now c ⊎ HadBeen images (drop t past) c

  pub elapses_same : (past : List T) (now : List ℕ → Type 0)
      → Elapses (length past) (length past) (Since past now) (Since past now) now
  elapses_same past now =
      record { later = omega arith; nothing_else = λ t c le left. inl left; keeps = λ t c le left. left }

  pub elapses_push : (past : List T) (v : T) (new : List ℕ → Type 0)
      → Elapses (length past) (length (past ++ v ∷ [])) (Since past (images v)) (Since (past ++ v ∷ []) new) new
  elapses_push past v new = record {
    later = omega (arith, length-append past (v ∷ []));
    nothing_else = λ t c le left. ⊎_elim (λ now. inr now)
        (λ had.
        inl
        (was t c (adds (drop t past) v c (subst (λ (l : List T). HadBeen images l c) (drop_push t past v le) had))))
        left;
    keeps = λ t c le left. inr (subst (λ (l : List T). HadBeen images l c) (sym (drop_push t past v le))
        (⊎_elim (λ now. newest (drop t past) v c now) (keeps (drop t past) v c) left));
  }
    where
      was : (t : ℕ) (c : List ℕ) → HadBeen images (drop t past) c ⊎ images v c → Since past (images v) t c
      was t c (inl had) = inr had
      was t c (inr now) = inl now

-- a call of a disk in memory is one moment more
pub call_elapses : (old new : Held) → past_of new ≡ past_of old ++ state_of old ∷ []
    → Elapses (length (past_of old)) (length (past_of new)) (left_since_of old) (left_since_of new)
    (left_in (state_of new))
call_elapses old new is =
    subst (λ (l : List DiskState). Elapses (length (past_of old)) (length l) (left_since_of old)
    (Since left_in l (left_in (state_of new))) (left_in (state_of new)))
    (sym is) (elapses_push left_in (past_of old) (state_of old) (left_in (state_of new)))

-- one that wasn't recorded is none
pub nothing_elapses : (old new : Held) → past_of new ≡ past_of old → state_of new ≡ state_of old
    → Elapses (length (past_of old)) (length (past_of new)) (left_since_of old) (left_since_of new)
    (left_in (state_of new))
nothing_elapses old new past state =
    subst (λ (l : List DiskState). Elapses (length (past_of old)) (length l) (left_since_of old)
    (Since left_in l (left_in (state_of new))) (left_in (state_of new)))
    (sym past)
    (subst (λ (s : DiskState). Elapses (length (past_of old)) (length (past_of old)) (left_since_of old)
    (Since left_in (past_of old) (left_in s)) (left_in s))
    (sym state) (elapses_same left_in (past_of old) (left_in (state_of old))))
