-- SPDX-License-Identifier: Apache-2.0 OR MIT
-- What a stop of the machine may leave of what is kept, as bytes, and the rows to which that opens.
use Rattle.std.specs.Prelude.{◌≡◌, ◌⊎◌, ℕ, ◌≤◌, List, [], ◌∷◌, ◌++◌, Option, None, Some, Result, Ok, Err, ⊤, false}
use Rattle.std.specs.Prelude.{IsTrue}
use Rattle.cr_base.specs.declared.row.Row.{Row}

-- x is one of these
abbrev pub IsAmong : {T : Type 0} → List T → T → Type 0
IsAmong [] x = ⊥
IsAmong (y ∷ ys) x = (x ≡ y) ⊎ IsAmong ys x

-- A stop at any moment since old leaves bytes that have P.
pub record LeavesOnly {D : Type 0} (moment : D → ℕ) (left_since : D → ℕ → List ℕ → Type 0) (old new : D)
    (P : List ℕ → Type 0) : Type 0 where
  pub later : moment old ≤ moment new
  pub each : (image : List ℕ) → left_since new (moment old) image → P image
  -- for a run that began earlier
  pub before : (t : ℕ) (image : List ℕ) → t ≤ moment old → left_since new t image → left_since old t image ⊎ P image

-- the bytes open to these rows, or to these and one of these groups, whole
abbrev pub OpensTo : (List ℕ → List Row → Type 0) → List Row → List (List Row) → List ℕ → Type 0
OpensTo opens rows tried image =
    opens image rows ⊎ ((group : List Row) × IsAmong tried group × opens image (rows ++ group))

-- OpensTo if the rows are told; nothing is said if they aren't
abbrev pub OpensToTold : (List ℕ → List Row → Type 0) → Option (List Row) → List (List Row) → List ℕ → Type 0
OpensToTold opens None tried image = ⊤
OpensToTold opens (Some rows) tried image = OpensTo opens rows tried image

-- What may be found after the rows once an append of this group was tried: nothing if it was kept; else nothing, this
-- group, or what might have been found before.
abbrev pub TriedAfter : {T E : Type 0} → Result T E → List (List Row) → List Row → List (List Row) → Type 0
TriedAfter (Ok done) old group new = new ≡ []
TriedAfter (Err error) old group new = (new ≡ []) ⊎ ((new ≡ group ∷ []) ⊎ (new ≡ old))

-- nothing is required of a keeper that tells nothing of stops
pub untold : {A : Type 0} → IsTrue false → A
untold told = absurd (cc)
