-- SPDX-License-Identifier: Apache-2.0 OR MIT
-- What a stop may leave of bytes with unsynced ranges, and what it might have left at earlier moments.
use Rattle.std.specs.Prelude.{◌≡◌, ◌⊎◌, ℕ, List, [], ◌∷◌, length, drop}
use mathlib.Core.Logic.{inl, inr}
use Rattle.cr_disks.specs.Disk.{Torn}

-- the synced bytes, torn at each range that was written since, an offset and a length
abbrev pub Reaches : List ℕ → List (ℕ × ℕ) → List ℕ → Type 0
Reaches base [] image = image ≡ base
Reaches base (range ∷ ranges) image = (d : List ℕ) × Torn range.0 range.1 base d × Reaches d ranges image

-- one of the moments might have left this
abbrev pub HadBeen : {T : Type 0} (images : T → List ℕ → Type 0) → List T → List ℕ → Type 0
HadBeen images [] image = ⊥
HadBeen images (state ∷ past) image = images state image ⊎ HadBeen images past image

none_left : {T : Type 0} (images : T → List ℕ → Type 0) (past : List T) (image : List ℕ)
    → HadBeen images (drop (length past) past) image → ⊥
none_left images [] image had = had
none_left images (state ∷ past) image had = none_left images past image had

-- since the last of them there is what may be left now
pub only_this : {T : Type 0} (images : T → List ℕ → Type 0) (past : List T) (now : List ℕ → Type 0) (image : List ℕ)
    → now image ⊎ HadBeen images (drop (length past) past) image → now image
only_this images past now image (inl here) = here
only_this images past now image (inr had) = absurd (none_left images past image had)
