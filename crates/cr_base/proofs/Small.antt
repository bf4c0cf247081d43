-- SPDX-License-Identifier: Apache-2.0 OR MIT
-- Small facts of numbers, of tests and of lists that std has in no such form. What std has is cited from there: from
-- `lemmas.Bool`, `lemmas.Option`, `lemmas.List` and `Math.Bool` of its proofs.
use Rattle.std.proofs.Common.{◌≡◌, ℕ, suc, ◌+◌, ◌<◌, ◌≤◌, Bool, true, false, not, ◌&&◌, ◌||◌, eqb, nat_lt, nat_le}
use Rattle.std.proofs.Common.{List, [], ◌∷◌, ◌++◌, Option, Some, None, is_some, option_map, ap, sym, refl}
use Rattle.std.proofs.Common.{true≢false, arith}
use Rattle.std.proofs.lemmas.Bool.Decides.{nat_tests}
use Rattle.cr_base.specs.Lists.{total}

-- ---- two numbers compared

pub eqb-self : (n : ℕ) → eqb n n ≡ true
eqb-self n = grind (arith, nat_tests)

pub eqb-swap : (n m : ℕ) → eqb n m ≡ eqb m n
eqb-swap n m = grind (arith, nat_tests)

pub eqb-suc : (n m : ℕ) → eqb n m ≡ eqb (suc n) (suc m)
eqb-suc n m = grind (arith, nat_tests)

pub eqb-suc-zero : (n : ℕ) → eqb (suc n) 0 ≡ false
eqb-suc-zero n = grind (arith, nat_tests)

pub eqb-zero-suc : (n : ℕ) → eqb 0 (suc n) ≡ false
eqb-zero-suc n = grind (arith, nat_tests)

pub eqb-below : (n m : ℕ) → n < m → eqb n m ≡ false
eqb-below n m h = grind (arith, nat_tests, h)

pub eqb-above : (n m : ℕ) → m < n → eqb n m ≡ false
eqb-above n m h = grind (arith, nat_tests, h)

pub nat_lt-eqb : (n m : ℕ) → nat_lt n m ≡ true → eqb n m ≡ false
nat_lt-eqb n m h = grind (arith, nat_tests, h)

pub nat_lt-eqb-swap : (n m : ℕ) → nat_lt n m ≡ true → eqb m n ≡ false
nat_lt-eqb-swap n m h = grind (arith, nat_tests, h)

pub nat_le-self : (n : ℕ) → nat_le n n ≡ true
nat_le-self n = grind (arith, nat_tests)

pub nat_lt-trans : (k n most : ℕ) → k ≤ n → nat_lt n most ≡ true → nat_lt k most ≡ true
nat_lt-trans k n most le lt = grind (arith, nat_tests, le, lt)

pub nat_le-trans : (most old new : ℕ) → old ≤ new → nat_le most old ≡ true → nat_le most new ≡ true
nat_le-trans most old new le is = grind (arith, nat_tests, le, is)

-- what a test of both ends of a range says
pub within-low : (p n : ℕ) → (nat_le 1 p && nat_le p n) ≡ true → 1 ≤ p
within-low p n h = grind (arith, nat_tests)

pub within-high : (p n : ℕ) → (nat_le 1 p && nat_le p n) ≡ true → p ≤ n
within-high p n h = grind (arith, nat_tests)

-- ---- tests

pub and_first : (a b : Bool) → (a && b) ≡ true → a ≡ true
and_first true b h = refl
and_first false b h = absurd (true≢false (sym h))

pub and_second : (a b : Bool) → (a && b) ≡ true → b ≡ true
and_second true b h = h
and_second false b h = absurd (true≢false (sym h))

pub or_second : (a b : Bool) → (a || b) ≡ true → a ≡ false → b ≡ true
or_second true b h is = absurd (true≢false is)
or_second false b h is = h

pub or-swap : (a b c : Bool) → (a || (b || c)) ≡ (b || (a || c))
or-swap true true c = refl
or-swap true false c = refl
or-swap false b c = refl

pub and_not_from : (a b : Bool) → a ≡ true → b ≡ false → (a && not b) ≡ true
and_not_from a b h k = grind arith

pub and_not_and_from : (a b c : Bool) → a ≡ true → b ≡ false → c ≡ true → ((a && not b) && c) ≡ true
and_not_and_from a b c h k l = grind arith

pub and_not_or : (a b c : Bool) → b ≡ true → (a && not (b || c)) ≡ false
and_not_or a b c h = grind arith

pub implies_from : (a b : Bool) → (a ≡ true → b ≡ true) → (not a || b) ≡ true
implies_from true b h = h refl
implies_from false b h = refl

pub implied_not : (a b : Bool) → (a ≡ true → b ≡ true) → (a && not b) ≡ false
implied_not true b h = ap not (h refl)
implied_not false b h = refl

-- ---- values and sums

pub is_some-option_map : {A B : Type 0} (f : A → B) (o : Option A) → is_some (option_map f o) ≡ is_some o
is_some-option_map f None = refl
is_some-option_map f (Some x) = refl

pub total-append : (ns ms : List ℕ) → total (ns ++ ms) ≡ total ns + total ms
total-append [] ms = omega arith
total-append (n ∷ ns) ms = let rest = total-append ns ms in omega (arith, rest)
