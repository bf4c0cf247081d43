-- SPDX-License-Identifier: Apache-2.0 OR MIT
-- Numbers in rising order: two such lists with the same members are equal; what is in rising order; and the other
-- numbers of ties among numbered elements.
use Rattle.std.proofs.Common.{ℕ, Bool, true, false, cond, ◌≡◌, ◌≤◌, ◌<◌, ◌+◌, ◌-◌, List, [], ◌∷◌, length, eqb, refl}
use Rattle.std.proofs.Common.{sym, ap, ◌∙◌, arith, ◌||◌, ◌&&◌}
use Rattle.std.specs.Prelude.{nat_le, nat_lt, map}
use Rattle.std.specs.List.{filter, list_any, list_all}
use Rattle.std.proofs.lemmas.Bool.{eqb-true, eq-eqb, and_parts, true≢false, ltb-false, lt-ltb}
use Rattle.std.proofs.lemmas.Bool.Decides.{nat_tests}
use Rattle.cr_base.specs.declared.pairs.Order.{Order}
use Rattle.cr_base.specs.declared.pairs.Order.TheVariants.{ByPaper, ByUser}
use Rattle.cr_base.specs.declared.pairs.Pair.{Pair}
use Rattle.cr_base.specs.declared.pairs.Tie.{Tie}
use Rattle.cr_base.specs.Lists.{IsRising, numbers_from}
use Rattle.cr_base.specs.Pairs.{major, minor, paired, comes_before, stands, IsSortedBy, IsAscending, has_pair, ties_of}
use Rattle.cr_base.specs.Pairs.{others_of}
use Rattle.cr_base.proofs.ListLaws.{list_any-numbers_from}
use Rattle.cr_base.proofs.PairLaws.{list_any-others_of}
use Rattle.cr_base.proofs.SortedLists.{sorted-filter}
use Rattle.cr_base.proofs.Small.{nat_lt-eqb, eqb-swap}
use Rattle.std.proofs.lemmas.Map.Views.{any-filter_same}

-- the number is in the list
abbrev pub has_number : ℕ → List ℕ → Bool
has_number n xs = list_any (λ m. eqb n m) xs

-- ---- the same members

-- no number is in a list of greater ones
absent : (n x : ℕ) (xs : List ℕ) → n ≤ x → list_all (nat_lt x) xs ≡ true → has_number n xs ≡ false
absent n x [] h all = refl
absent n x (y ∷ ys) h all =
    let parts = and_parts (nat_lt x y) (list_all (nat_lt x) ys) all in
    ap (λ b. b || has_number n ys) (other n x y h parts.0) ∙ absent n x ys h parts.1
  where
    other : (n x y : ℕ) → n ≤ x → nat_lt x y ≡ true → eqb n y ≡ false
    other n x y h less = grind (arith, nat_tests)

-- what is behind the same first number has the same members
tails_same : (x : ℕ) (xs ys : List ℕ) → list_all (nat_lt x) xs ≡ true → list_all (nat_lt x) ys ≡ true
    → ((n : ℕ) → (eqb n x || has_number n xs) ≡ (eqb n x || has_number n ys)) → (n : ℕ)
    → has_number n xs ≡ has_number n ys
tails_same x xs ys above above' same n = by (eqb n x) refl (same n)
  where
    by : (b : Bool) → eqb n x ≡ b → (b || has_number n xs) ≡ (b || has_number n ys) → has_number n xs ≡ has_number n ys
    by true is h = let e : n ≡ x =
        eqb-true n x is in absent n x xs (omega (arith, e)) above ∙ sym (absent n x ys (omega (arith, e)) above')
    by false is h = h

-- the first numbers are the same: neither is less than the other, where it is in the other's list
first_least : (x y : ℕ) (ys : List ℕ) → list_all (nat_lt y) ys ≡ true → (eqb x y || has_number x ys) ≡ true → y ≤ x
first_least x y ys above h = by (nat_lt x y) refl
  where
    by : (b : Bool) → nat_lt x y ≡ b → y ≤ x
    by true less =
        let gone : (eqb x y || has_number x ys) ≡ false =
        ap (λ b. b || has_number x ys) (nat_lt-eqb x y less) ∙ absent x y ys (least x y less) above in
        absurd (true≢false (sym h ∙ gone))
      where
        least : (x y : ℕ) → nat_lt x y ≡ true → x ≤ y
        least x y less = grind (arith, nat_tests)
    by false less = ltb-false x y less

itself : (x : ℕ) (b : Bool) → (eqb x x || b) ≡ true
itself x b = ap (λ c. c || b) (eq-eqb x x refl)

pub rising-same : (xs ys : List ℕ) → IsRising xs → IsRising ys → ((n : ℕ) → has_number n xs ≡ has_number n ys) → xs ≡ ys
rising-same [] [] rising rising' same = refl
rising-same [] (y ∷ ys) rising rising' same = absurd (true≢false (sym (same y ∙ itself y (has_number y ys))))
rising-same (x ∷ xs) [] rising rising' same = absurd (true≢false (sym (itself x (has_number x xs)) ∙ same x))
rising-same (x ∷ xs) (y ∷ ys) rising rising' same =
    let high = first_least x y ys rising'.0 (sym (same x) ∙ itself x (has_number x xs)) in
    let low = first_least y x xs rising.0 (same y ∙ itself y (has_number y ys)) in
    let e : y ≡ x = omega (arith, high, low) in
    let above : list_all (nat_lt x) ys ≡ true = ap (λ (z : ℕ). list_all (nat_lt z) ys) (sym e) ∙ rising'.0 in
    let same' : (n : ℕ) → (eqb n x || has_number n xs) ≡ (eqb n x || has_number n ys) =
    λ n. same n ∙ ap (λ z. eqb n z || has_number n ys) e in
    ap (λ z. z ∷ xs) (sym e) ∙ ap (λ zs. y ∷ zs)
    (rising-same xs ys rising.1 rising'.1 (tails_same x xs ys rising.0 above same'))

-- ---- what is in rising order

-- the numbers of elements
above-numbers_from : {A : Type 0} (m n : ℕ) (xs : List A) → m < n → list_all (nat_lt m) (numbers_from n xs) ≡ true
above-numbers_from m n [] h = refl
above-numbers_from m n (x ∷ xs) h = ap (λ b. b && list_all (nat_lt m) (numbers_from (n + 1) xs)) (lt-ltb m n h)
    ∙ above-numbers_from m (n + 1) xs (omega arith)

pub rising-numbers_from : {A : Type 0} (n : ℕ) (xs : List A) → IsRising (numbers_from n xs)
rising-numbers_from n [] = tt
rising-numbers_from n (x ∷ xs) = (above-numbers_from n (n + 1) xs (omega arith), rising-numbers_from (n + 1) xs)

-- the other numbers of ties with the same number, where they rise from each tie to those behind it
module _ {V : Type 0} (before : Pair → Pair → Bool) (order : Order) (n : ℕ)
    (rises : (p q : Pair) → eqb n (major order p) ≡ true → eqb n (major order q) ≡ true → before p q ≡ true
    → nat_lt (minor order p) (minor order q) ≡ true) where
  above-others_of : (p : Pair) (ts : List (Tie V)) → eqb n (major order p) ≡ true → list_all (stands before p) ts ≡ true
      → list_all (nat_lt (minor order p)) (others_of order n ts) ≡ true
  above-others_of p [] is all = refl
  above-others_of p (t ∷ ts) is all =
      let parts = and_parts (stands before p t) (list_all (stands before p) ts) all in
      by (eqb n (major order t.pair)) refl (above-others_of p ts is parts.1) parts.0
    where
      by : (b : Bool) → eqb n (major order t.pair) ≡ b → list_all (nat_lt (minor order p)) (others_of order n ts) ≡ true
          → stands before p t ≡ true → list_all (nat_lt (minor order p))
          (map (λ (x : Tie V). minor order x.pair) (cond b (t ∷ ties_of order n ts) (ties_of order n ts))) ≡ true
      by true same rest comes =
          ap (λ b. b && list_all (nat_lt (minor order p)) (others_of order n ts)) (rises p t.pair is same comes) ∙ rest
      by false same rest comes = rest

  pub rising-sorted : (ts : List (Tie V)) → IsSortedBy before ts → IsRising (others_of order n ts)
  rising-sorted [] sorted = tt
  rising-sorted (t ∷ ts) sorted = by (eqb n (major order t.pair)) refl (rising-sorted ts sorted.1)
    where
      by : (b : Bool) → eqb n (major order t.pair) ≡ b → IsRising (others_of order n ts)
          → IsRising (map (λ (x : Tie V). minor order x.pair) (cond b (t ∷ ties_of order n ts) (ties_of order n ts)))
      by true is rest = (above-others_of t.pair ts is sorted.0, rest)
      by false is rest = rest

-- those of ascending ties, in whichever of the two orders
ascends : (stood order : Order) (n : ℕ) (p q : Pair) → eqb n (major order p) ≡ true → eqb n (major order q) ≡ true
    → comes_before stood p q ≡ true → nat_lt (minor order p) (minor order q) ≡ true
ascends ByPaper ByPaper n p q here there before = grind (arith, nat_tests)
ascends ByPaper ByUser n p q here there before = grind (arith, nat_tests)
ascends ByUser ByPaper n p q here there before = grind (arith, nat_tests)
ascends ByUser ByUser n p q here there before = grind (arith, nat_tests)

pub rising-others_of : {V : Type 0} (stood order : Order) (n : ℕ) (ts : List (Tie V)) → IsAscending stood ts
    → IsRising (others_of order n ts)
rising-others_of stood order n ts ascending =
    rising-sorted (comes_before stood) order n (ascends stood order n) ts ascending

-- two rising lists of others are the same where the ties have the same pairs
pub others_of-same : {V W : Type 0} (order : Order) (n : ℕ) (ts : List (Tie V)) (us : List (Tie W))
    → IsRising (others_of order n ts) → IsRising (others_of order n us) → ((q : Pair) → has_pair q ts ≡ has_pair q us)
    → others_of order n ts ≡ others_of order n us
others_of-same order n ts us rising rising' same =
    rising-same (others_of order n ts) (others_of order n us) rising rising'
    (λ m. list_any-others_of order n m ts ∙ same (paired order n m) ∙ sym (list_any-others_of order n m us))

-- ---- the others of ties among numbered elements

has_number-numbers_from : {A : Type 0} (v : ℕ) (xs : List A)
    → has_number v (numbers_from 1 xs) ≡ (nat_le 1 v && nat_le v (1 + length xs - 1))
has_number-numbers_from v xs = ap (λ (test : ℕ → Bool). list_any test (numbers_from 1 xs)) (λ i m. eqb-swap v m i)
    ∙ list_any-numbers_from 1 v xs (omega arith)

inside : (v n : ℕ) (b : Bool) → (b ≡ true → (1 ≤ v) × (v ≤ n)) → (b && (nat_le 1 v && nat_le v (1 + n - 1))) ≡ b
inside v n true h = let low = (h refl).0 in let high = (h refl).1 in both v n low high
  where
    both : (v n : ℕ) → 1 ≤ v → v ≤ n → (nat_le 1 v && nat_le v (1 + n - 1)) ≡ true
    both v n low high = grind (arith, nat_tests)
inside v n false h = refl

-- of the numbers of elements, those that are paired with this number are the others of its ties, in the same order
pub numbers-others_of : {A V : Type 0} (test : ℕ → Bool) (order : Order) (n : ℕ) (xs : List A) (ts : List (Tie V))
    → IsRising (others_of order n ts) → ((m : ℕ) → has_pair (paired order n m) ts ≡ true → (1 ≤ m) × (m ≤ length xs))
    → ((m : ℕ) → test m ≡ has_pair (paired order n m) ts) → filter test (numbers_from 1 xs) ≡ others_of order n ts
numbers-others_of test order n xs ts rising within same =
    let ns : List ℕ = numbers_from 1 xs in
    rising-same (filter test ns) (others_of order n ts) (sorted-filter nat_lt test ns (rising-numbers_from 1 xs)) rising
    (λ m.
    any-filter_same (eqb m) test (test m) (λ k is. ap test (sym (eqb-true m k is))) ns
    ∙ ap (λ b. b && has_number m ns) (same m)
    ∙ ap (λ b. has_pair (paired order n m) ts && b) (has_number-numbers_from m xs)
    ∙ inside m (length xs) (has_pair (paired order n m) ts) (within m)
    ∙ sym (list_any-others_of order n m ts))
