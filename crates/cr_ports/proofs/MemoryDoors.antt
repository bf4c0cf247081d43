-- SPDX-License-Identifier: Apache-2.0 OR MIT
-- Doors in memory, one behind the other, and the connections that they take.
use Rattle.std.proofs.Common.{◌≡◌, ◌∙◌, ℕ, suc, ◌+◌, List, [], ◌∷◌, ◌++◌, map, take, drop, flat_map, replicate, All}
use Rattle.std.proofs.Common.{Some, refl, sym, ap, arith, append_assoc}
use Rattle.std.proofs.lemmas.Grind.{replicate_next}
use Rattle.std.proofs.lemmas.List.{map-append, take-append-drop, flat_map_more}
use Rattle.std.proofs.lemmas.List.Elements.{All-push}
use Rattle.cr_ports.specs.Doors.{share_of, shares_below}
use Rattle.cr_ports.specs.MemoryDoors.{Doored, calls_below, listed_at}
use Rattle.std.specs.Prelude.{slice_get}

pub shares_below-next : (i workers connections : ℕ)
    → shares_below (i + 1) workers connections ≡ shares_below i workers connections
    ++ share_of i workers connections ∷ []
shares_below-next i workers connections = let e : i + 1 ≡ suc i =
    omega arith in ap (λ (n : ℕ). shares_below n workers connections) e

pub calls_below-next : (i : ℕ) (failing : List (List ℕ))
    → calls_below (i + 1) failing ≡ calls_below i failing ++ listed_at (slice_get failing i) ∷ []
calls_below-next i failing = let e : i + 1 ≡ suc i = omega arith in ap (λ (n : ℕ). calls_below n failing) e

-- one more is known of each
pub map_pushed : {X Y : Type 0} (f : X → Y) (xs new : List X) (x : X) (ys : List Y) (y : Y) → new ≡ xs ++ x ∷ []
    → map f xs ≡ ys → f x ≡ y
    → map f new ≡ ys ++ y ∷ []
map_pushed f xs new x ys y is before one =
    ap (map f) is ∙ map-append f xs (x ∷ []) ∙ ap (λ l. l ++ f x ∷ []) before ∙ ap (λ z. ys ++ z ∷ []) one

pub all_pushed : {X : Type 0} (P : X → Type 0) (xs new : List X) (x : X) → new ≡ xs ++ x ∷ [] → All P xs → P x
    → All P new
all_pushed P xs new x is before one = rw is (All-push P xs x before one)

-- one more took the front of what was left
pub flat_map_pushed : {X Y : Type 0} (f : X → List Y) (xs new : List X) (x : X) (whole coming rest : List Y) (n : ℕ)
    → new ≡ xs ++ x ∷ []
    → f x ≡ take n coming → rest ≡ drop n coming → flat_map f xs ++ coming ≡ whole → flat_map f new ++ rest ≡ whole
flat_map_pushed f xs new x whole coming rest n is one left before =
    ap (λ l. flat_map f l ++ rest) is ∙ ap (λ l. l ++ rest) (sym (flat_map_more f [] xs x))
    ∙ append_assoc (flat_map f xs) (f x) rest
    ∙ ap (λ l. flat_map f xs ++ (l ++ rest)) one ∙ ap (λ l. flat_map f xs ++ (take n coming ++ l)) left
    ∙ ap (λ l. flat_map f xs ++ l) (take-append-drop n coming) ∙ before

-- one more of the same stands behind
pub filled_more : {X : Type 0} (xs old new : List X) (x y : X) (n m : ℕ) → old ≡ xs ++ replicate n y
    → new ≡ old ++ x ∷ [] → x ≡ y → m ≡ n + 1
    → new ≡ xs ++ replicate m y
filled_more xs old new x y n m before is same more =
    is ∙ ap (λ l. l ++ x ∷ []) before ∙ append_assoc xs (replicate n y) (x ∷ [])
    ∙ ap (λ z. xs ++ (replicate n y ++ z ∷ [])) same
    ∙ ap (λ l. xs ++ l) (sym (replicate_next n y)) ∙ ap (λ (k : ℕ). xs ++ replicate k y) (sym more)

-- doors in memory tell their logs, each
pub logs_told : (doors : List Doored) → map (λ (door : Doored). Some door.log) doors
    ≡ map Some (map (λ (door : Doored). door.log) doors)
logs_told [] = refl
logs_told (door ∷ doors) = ap (λ logs. Some door.log ∷ logs) (logs_told doors)
