-- SPDX-License-Identifier: Apache-2.0 OR MIT
-- The shares of doors add up to the connections.
use Rattle.std.proofs.Common.{◌≡◌, ◌∙◌, ℕ, zero, suc, ◌+◌, ◌-◌, ◌*◌, ◌/◌, ◌%◌, ◌<◌, ◌≤◌, min, sum, [], ◌∷◌, length}
use Rattle.std.proofs.Common.{Bool, true, false, nat_lt, if◌then◌else◌, refl, sym, ap, arith, suc-mul, mul-le-mul_right}
use Rattle.std.proofs.Common.{mod-lt, div-add-mod', ltb-true, ltb-false, subst}
use Rattle.std.proofs.lemmas.List.{length_push}
use Rattle.std.proofs.lemmas.List.Sums.{sum_by-append}
use Rattle.std.proofs.Math.Nat.{mul_comm}
use Rattle.cr_ports.specs.Doors.{share_of, shares, shares_below}

-- what the doors below number i give together
abbrev pub given_below : ℕ → ℕ → ℕ → ℕ
given_below i workers connections = sum (shares_below i workers connections)

pub given_below-next : (i workers connections : ℕ)
    → given_below (suc i) workers connections ≡ given_below i workers connections
    + share_of i workers connections
given_below-next i workers connections =
    let one : 0 + share_of i workers connections ≡ share_of i workers connections = omega arith in
    sum_by-append (λ x. x) (shares_below i workers connections) (share_of i workers connections ∷ [])
    ∙ ap (λ (n : ℕ). given_below i workers connections + n) one

-- one door more: a quotient more, and one where the remainder isn't used up
one_more : (b : Bool) (i q r total : ℕ) → nat_lt i r ≡ b → total ≡ i * q + min i r
    → total + (q + (if b then 1 else 0)) ≡ (i * q + q) + min (suc i) r
one_more true i q r total less before = let l = ltb-true i r less in omega (arith, l, before)
one_more false i q r total less before = let l = ltb-false i r less in omega (arith, l, before)

pub given_below-is : (i workers connections : ℕ)
    → given_below i workers connections ≡ i * (connections / workers) + min i (connections % workers)
given_below-is zero workers connections = let z : zero ≡ 0 * (connections / workers) + min 0 (connections % workers) =
    omega arith in z
given_below-is (suc i) workers connections =
    let q = connections / workers in
    let r = connections % workers in
    given_below-next i workers connections
    ∙ one_more (nat_lt i r) i q r (given_below i workers connections) refl (given_below-is i workers connections)
    ∙ ap (λ (n : ℕ). n + min (suc i) r) (sym (suc-mul i q))

-- The shares of all doors add up to the connections.
pub shares_add_up : (workers connections : ℕ) → 0 < workers → sum (shares workers connections) ≡ connections
shares_add_up workers connections some =
    let less = mod-lt connections some in
    let parts = div-add-mod' connections workers in
    let is = given_below-is workers workers connections in
    let swap : workers * (connections / workers) ≡ connections / workers * workers =
    mul_comm workers (connections / workers) in
    is ∙ sum_of workers (connections % workers) (workers * (connections / workers)) (connections / workers * workers)
    connections swap less parts
  where
    sum_of : (w r p p' c : ℕ) → p ≡ p' → r < w → p' + r ≡ c → p + min w r ≡ c
    sum_of w r p p' c swap less parts = omega (arith, swap, less, parts)

-- A door's share is left of the connections, behind those of the doors before it.
pub share_fits : (i workers connections : ℕ) → i < workers
    → given_below i workers connections + share_of i workers connections ≤ connections
share_fits i workers connections less =
    let q = connections / workers in
    let more = sym (given_below-next i workers connections) ∙ given_below-is (suc i) workers connections in
    let up : suc i ≤ workers = omega (arith, less) in
    fits (given_below i workers connections + share_of i workers connections) (suc i * q) (workers * q) (q * workers)
    (suc i)
    (connections % workers) connections
    more (mul-le-mul_right q up) (mul_comm workers q) (div-add-mod' connections workers)
  where
    fits : (total a b b' m r c : ℕ) → total ≡ a + min m r → a ≤ b → b ≡ b' → b' + r ≡ c → total ≤ c
    fits total a b b' m r c is le swap parts = omega (arith, is, le, swap, parts)

-- what is left behind a share is enough for the doors that come
pub enough_left : (connections total share len : ℕ) → connections ≤ total + len → share ≤ len
    → connections ≤ (total + share) + (len - share)
enough_left connections total share len enough fits = omega (arith, enough, fits)

-- the same, of the doors below the next number
pub enough_behind : (i workers connections share len rest : ℕ)
    → given_below (suc i) workers connections ≡ given_below i workers connections + share_of i workers connections
    → share ≡ share_of i workers connections → connections ≤ (given_below i workers connections + share) + (len - share)
    → rest ≡ len - share
    → connections ≤ given_below (i + 1) workers connections + rest
enough_behind i workers connections share len rest more is left len_is =
    let e : i + 1 ≡ suc i = omega arith in
    subst (λ (n : ℕ). connections ≤ given_below n workers connections + rest) (sym e)
    (sums (given_below (suc i) workers connections) (given_below i workers connections) (share_of i workers connections)
    share
    (len - share) rest connections more is left len_is)
  where
    sums : (total before s share room rest c : ℕ) → total ≡ before + s → share ≡ s → c ≤ (before + share) + room
        → rest ≡ room → c ≤ total + rest
    sums total before s share room rest c more is left room_is = omega (arith, more, is, left, room_is)

-- There is one share a door.
pub length-shares_below : (i workers connections : ℕ) → length (shares_below i workers connections) ≡ i
length-shares_below zero workers connections = refl
length-shares_below (suc i) workers connections =
    let e : i + 1 ≡ suc i = omega arith in
    length_push (shares_below i workers connections) (share_of i workers connections)
    ∙ ap (λ (n : ℕ). n + 1) (length-shares_below i workers connections) ∙ e
