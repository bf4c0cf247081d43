-- SPDX-License-Identifier: Apache-2.0 OR MIT
-- The last of the values that are told.
use Rattle.std.proofs.Common.{Bool, true, false, cond, ◌≡◌, ◌-◌, List, [], ◌∷◌, ◌++◌, length, refl, ap, ◌∙◌, arith}
use Rattle.std.proofs.Common.{Option, Some, None}
use Rattle.std.specs.Prelude.{unwrap_or, map}
use Rattle.std.specs.List.{slice_get}
use Rattle.std.specs.Option.{option_map}
use Rattle.cr_base.specs.Lists.{given, listed, is_nothing, last, last_from, last_or}

-- ---- the last, or another

last_from-some : {A : Type 0} (z x y : A) (xs : List A)
    → unwrap_or (last_from (Some z) xs) x ≡ unwrap_or (last_from (Some z) xs) y
last_from-some z x y [] = refl
last_from-some z x y (w ∷ xs) = last_from-some w x y xs

-- where one more value is told first, the last of the others is asked for before it
pub last_or-cons : {A : Type 0} (x y : A) (xs : List A) → last_or x (y ∷ xs) ≡ last_or y xs
last_or-cons x y [] = refl
last_or-cons x y (z ∷ xs) = last_from-some z x y xs

-- the same of a value that may not be there
pub last_or-given : {A : Type 0} (b : Bool) (x y : A) (xs : List A)
    → last_or x (given b y ++ xs) ≡ last_or (cond b y x) xs
last_or-given true x y xs = last_or-cons x y xs
last_or-given false x y xs = refl

pub last_from-given : {A : Type 0} (b : Bool) (x : A) (o : Option A) (rest : List A)
    → last_from o (given b x ++ rest) ≡ last_from (cond b (Some x) o) rest
last_from-given true x o rest = refl
last_from-given false x o rest = refl

-- ---- where it stands

-- at the last index, whatever is told where there is none
at_end-from : {A : Type 0} (o : Option A) (x : A) (xs : List A) → slice_get (x ∷ xs) (length xs) ≡ last_from o (x ∷ xs)
at_end-from o x [] = refl
at_end-from o x (y ∷ xs) = at_end-from (Some x) y xs

pub at_end : {A : Type 0} (xs : List A) → slice_get xs (length xs - 1) ≡ last xs
at_end [] = refl
at_end (x ∷ xs) =
    let one_less : length (x ∷ xs) - 1 ≡ length xs = omega (arith) in
    ap (slice_get (x ∷ xs)) one_less ∙ at_end-from None x xs

-- ---- what is made of values

-- its last is made of their last
pub last_from-map : {A B : Type 0} (f : A → B) (o : Option A) (xs : List A)
    → last_from (option_map f o) (map f xs) ≡ option_map f (last_from o xs)
last_from-map f o [] = refl
last_from-map f o (x ∷ xs) = last_from-map f (Some x) xs

-- the same of one that may not be there
pub listed-map : {A B : Type 0} (f : A → B) (o : Option A) → listed (option_map f o) ≡ map f (listed o)
listed-map f None = refl
listed-map f (Some x) = refl

-- and there is nothing where there are none
pub is_nothing-map : {A B : Type 0} (f : A → B) (xs : List A) → is_nothing (map f xs) ≡ is_nothing xs
is_nothing-map f [] = refl
is_nothing-map f (x ∷ xs) = refl
