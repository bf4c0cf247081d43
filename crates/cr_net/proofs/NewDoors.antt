-- SPDX-License-Identifier: Apache-2.0 OR MIT
-- Doors that weren't asked yet, one a share.
use Rattle.std.proofs.Common.{◌≡◌, ◌∙◌, refl, sym, ap, subst, ℕ, suc, ◌+◌, List, [], ◌∷◌, ◌++◌, map, arith}
use Rattle.std.specs.Prelude.{All}
use Rattle.std.proofs.lemmas.List.{map-append}
use Rattle.std.proofs.lemmas.List.Elements.{All-map}
use Rattle.cr_ports.specs.Doors.{share_of, shares_below}
use Rattle.cr_net.specs.Doors.{DoorSeen, new_door}

-- their shares are those that they were made with
pub left-new_doors : (shares : List ℕ) → map (λ (d : DoorSeen). d.left) (map new_door shares) ≡ shares
left-new_doors [] = refl
left-new_doors (share ∷ shares) = ap (λ rest. share ∷ rest) (left-new_doors shares)

-- what is true of each new door is true of all of them
pub all-new_doors : (P : DoorSeen → Type 0) → ((share : ℕ) → P (new_door share))
    → (shares : List ℕ) → All P (map new_door shares)
all-new_doors P each shares = All-map P new_door shares (λ k d less. each _)

-- one door more, behind those below number i
pub new_doors-more : (doors more : List DoorSeen) (door : DoorSeen) (i workers connections left : ℕ)
    → doors ≡ map new_door (shares_below i workers connections) → more ≡ doors ++ door ∷ [] → door ≡ new_door left
    → left ≡ share_of i workers connections → more ≡ map new_door (shares_below (i + 1) workers connections)
new_doors-more doors more door i workers connections left are is new share =
    let e : suc i ≡ i + 1 = omega arith in
    let last : door ≡ new_door (share_of i workers connections) = new ∙ ap new_door share in
    let all : doors ++ door ∷ [] ≡ map new_door (shares_below (suc i) workers connections) =
    ap (λ (front : List DoorSeen). front ++ door ∷ []) are
    ∙ ap (λ (d : DoorSeen). map new_door (shares_below i workers connections) ++ d ∷ []) last
    ∙ sym (map-append new_door (shares_below i workers connections) (share_of i workers connections ∷ [])) in
    is ∙ subst (λ (n : ℕ). doors ++ door ∷ [] ≡ map new_door (shares_below n workers connections)) e all
