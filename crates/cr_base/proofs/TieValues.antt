-- SPDX-License-Identifier: Apache-2.0 OR MIT
-- What is kept of ties in ascending order, walked by their other numbers: the values of a paper's users, by number.
use Rattle.std.proofs.Common.{ℕ, Bool, true, false, cond, ◌≡◌, ◌≤◌, List, [], ◌∷◌, ◌++◌, length, eqb, refl, sym, ap}
use Rattle.std.proofs.Common.{◌∙◌, arith, ◌||◌, ◌&&◌, Option, Some, None}
use Rattle.std.specs.Prelude.{nat_lt, map, not, is_some, find}
use Rattle.std.specs.Cmp.Derive.{both_true}
use Rattle.std.specs.List.{filter, flat_map, list_all}
use Rattle.std.specs.Option.{option_map}
use Rattle.std.proofs.lemmas.Bool.{eq-eqb, and_parts, true≢false}
use Rattle.std.proofs.lemmas.Bool.Decides.{nat_tests}
use Rattle.cr_base.specs.declared.pairs.Order.{Order}
use Rattle.cr_base.specs.declared.pairs.Pair.{Pair}
use Rattle.cr_base.specs.declared.pairs.Tie.{Tie}
use Rattle.cr_base.specs.Lists.{listed, numbers_from}
use Rattle.cr_base.specs.Pairs.{same_pair, major, minor, paired, comes_before, is_tied, stands, IsAscending, has_pair}
use Rattle.cr_base.specs.Pairs.{tie_value, ties_of, others_of}
use Rattle.cr_base.proofs.PairLaws.{same_pair-paired}
use Rattle.cr_base.proofs.RisingLists.{rising-others_of, numbers-others_of}

-- ---- what is kept of a pair

-- a value is kept where the pair is there
pub is_some-tie_value : {V : Type 0} (q : Pair) (ts : List (Tie V)) → is_some (tie_value q ts) ≡ has_pair q ts
is_some-tie_value q [] = refl
is_some-tie_value {V} q (t ∷ ts) = by (is_tied q t) (is_some-tie_value q ts)
  where
    by : (b : Bool) → is_some (tie_value q ts) ≡ has_pair q ts
        → is_some (option_map (λ (t : Tie V). t.value) (cond b (Some t) (find (is_tied q) ts))) ≡ (b || has_pair q ts)
    by true rest = refl
    by false rest = rest

-- those of whom nothing is told may be left out
flat_map-filter : {X B : Type 0} (f : X → List B) (test : X → Bool) → ((x : X) → test x ≡ false → f x ≡ [])
    → (xs : List X)
    → flat_map f xs ≡ flat_map f (filter test xs)
flat_map-filter f test none [] = refl
flat_map-filter f test none (x ∷ xs) = by (test x) refl (flat_map-filter f test none xs)
  where
    by : (b : Bool) → test x ≡ b → flat_map f xs ≡ flat_map f (filter test xs)
        → f x ++ flat_map f xs ≡ flat_map f (cond b (x ∷ filter test xs) (filter test xs))
    by true is rest = ap (λ ys. f x ++ ys) rest
    by false is rest = ap (λ ys. ys ++ flat_map f xs) (none x is) ∙ rest

-- ---- the values of a number's ties

module _ {V B : Type 0} (order : Order) (n : ℕ) (tell : ℕ → V → B) where
  -- what is told of the two numbers, where they are tied
  abbrev pub told_at : List (Tie V) → ℕ → List B
  told_at ts m = map (tell m) (listed (tie_value (paired order n m) ts))

  -- the other numbers of ties behind one are others than its own
  others-behind : (p : Pair) (ts : List (Tie V)) → list_all (stands (comes_before order) p) ts ≡ true
      → list_all (λ m. not (same_pair (paired order n m) p)) (others_of order n ts) ≡ true
  others-behind p [] behind = refl
  others-behind p (t ∷ ts) behind =
      let parts = and_parts (stands (comes_before order) p t) (list_all (stands (comes_before order) p) ts) behind in
      by (eqb n (major order t.pair)) refl parts.0 (others-behind p ts parts.1)
    where
      unlike : (n p q m k : ℕ) → eqb n q ≡ true → (nat_lt p q || (eqb p q && nat_lt k m)) ≡ true
          → not (eqb n p && eqb m k) ≡ true
      unlike n p q m k is before = grind (arith, nat_tests)

      by : (b : Bool) → eqb n (major order t.pair) ≡ b → stands (comes_before order) p t ≡ true
          → list_all (λ m. not (same_pair (paired order n m) p)) (others_of order n ts) ≡ true
          → list_all (λ m. not (same_pair (paired order n m) p))
          (map (λ (x : Tie V). minor order x.pair) (cond b (t ∷ ties_of order n ts) (ties_of order n ts))) ≡ true
      by true is before rest =
          both_true
          (ap not (same_pair-paired order n (minor order t.pair) p)
          ∙ unlike n (major order p) (major order t.pair) (minor order t.pair) (minor order p) is before) rest
      by false is before rest = rest

  -- a tie tells nothing of others
  told-behind : (t : Tie V) (ts : List (Tie V)) (ms : List ℕ)
      → list_all (λ m. not (same_pair (paired order n m) t.pair)) ms ≡ true
      → flat_map (told_at (t ∷ ts)) ms ≡ flat_map (told_at ts) ms
  told-behind t ts [] others = refl
  told-behind t ts (m ∷ ms) others =
      let parts = and_parts (not (same_pair (paired order n m) t.pair))
      (list_all (λ m. not (same_pair (paired order n m) t.pair)) ms) others in
      ap (λ xs. xs ++ flat_map (told_at (t ∷ ts)) ms) (by (is_tied (paired order n m) t) parts.0)
      ∙ ap (λ ys. told_at ts m ++ ys) (told-behind t ts ms parts.1)
    where
      by : (b : Bool) → not b ≡ true
          → map (tell m)
          (listed (option_map (λ (x : Tie V). x.value) (cond b (Some t) (find (is_tied (paired order n m)) ts))))
          ≡ told_at ts m
      by true h = absurd (true≢false (sym h))
      by false h = refl

  -- of the others of ascending ties each value is told
  told-others : (ts : List (Tie V)) → IsAscending order ts
      → flat_map (told_at ts) (others_of order n ts) ≡ map (λ (t : Tie V). tell (minor order t.pair) t.value)
      (ties_of order n ts)
  told-others [] ascending = refl
  told-others (t ∷ ts) ascending =
      by (eqb n (major order t.pair)) refl
      (told-behind t ts (others_of order n ts) (others-behind t.pair ts ascending.0) ∙ told-others ts ascending.1)
    where
      values : List (Tie V) → List B
      values us = map (λ (x : Tie V). tell (minor order x.pair) x.value) us

      -- its own value
      own : (b : Bool) → b ≡ true
          → map (tell (minor order t.pair))
          (listed (option_map (λ (x : Tie V). x.value)
          (cond b (Some t) (find (is_tied (paired order n (minor order t.pair))) ts))))
          ≡ tell (minor order t.pair) t.value ∷ []
      own true h = refl
      own false h = absurd (true≢false (sym h))

      by : (b : Bool) → eqb n (major order t.pair) ≡ b
          → flat_map (told_at (t ∷ ts)) (others_of order n ts) ≡ values (ties_of order n ts)
          → flat_map (told_at (t ∷ ts)) (map (λ (x : Tie V). minor order x.pair)
          (cond b (t ∷ ties_of order n ts) (ties_of order n ts)))
          ≡ values (cond b (t ∷ ties_of order n ts) (ties_of order n ts))
      by true is rest =
          ap (λ xs. xs ++ flat_map (told_at (t ∷ ts)) (others_of order n ts))
          (own (is_tied (paired order n (minor order t.pair)) t)
          (same_pair-paired order n (minor order t.pair) t.pair
          ∙ both_true is (eq-eqb (minor order t.pair) (minor order t.pair) refl)))
          ∙ ap (λ ys. tell (minor order t.pair) t.value ∷ ys) rest
      by false is rest = rest

  -- so it is where all the numbers of elements are asked, and the ties have no others
  pub told-numbers : {A : Type 0} (xs : List A) (ts : List (Tie V)) → IsAscending order ts
      → ((m : ℕ) → has_pair (paired order n m) ts ≡ true → (1 ≤ m) × (m ≤ length xs))
      → flat_map (told_at ts) (numbers_from 1 xs) ≡ map (λ (t : Tie V). tell (minor order t.pair) t.value)
      (ties_of order n ts)
  told-numbers xs ts ascending within =
      let there : ℕ → Bool = λ m. has_pair (paired order n m) ts in
      flat_map-filter (told_at ts) there (λ m none. nothing m (tie_value (paired order n m) ts)
      (is_some-tie_value (paired order n m) ts ∙ none))
      (numbers_from 1 xs)
      ∙ ap (flat_map (told_at ts)) (numbers-others_of there order n xs ts (rising-others_of order order n ts ascending)
      within (λ m. refl))
      ∙ told-others ts ascending
    where
      nothing : (m : ℕ) (value : Option V) → is_some value ≡ false → map (tell m) (listed value) ≡ []
      nothing m None h = refl
      nothing m (Some value) h = absurd (true≢false h)
