-- SPDX-License-Identifier: Apache-2.0 OR MIT
-- Lists that stand by a number of their elements, such as their papers: what there is of one number, after one more
-- came in.
use Rattle.std.proofs.Common.{ℕ, Bool, true, false, cond, ◌≡◌, List, [], ◌∷◌, ◌++◌, eqb, refl, sym, ap, ◌∙◌, arith}
use Rattle.std.proofs.Common.{◌&&◌, ◌||◌}
use Rattle.std.specs.Prelude.{nat_le, nat_lt, not, map, filter}
use Rattle.std.proofs.lemmas.Bool.{eqb-true, true≢false}
use Rattle.std.proofs.lemmas.Bool.Decides.{nat_tests}
use Rattle.std.proofs.lemmas.List.{append-nil, map-append}
use Rattle.std.proofs.lemmas.List.Elements.{filter-append}
use Rattle.cr_base.specs.declared.filed.Filed.{Filed}
use Rattle.cr_base.specs.declared.tag.SetTag.{SetTag}
use Rattle.cr_base.specs.Filed.{with_filed, filed_of}
use Rattle.cr_base.specs.Lists.{given}
use Rattle.cr_base.specs.Tags.{TagsState, tag_before, with_tag, stands_before, tag_switched}

-- a test that looks at nothing keeps all, or none
pub filter-constant : {A : Type 0} (c : Bool) (xs : List A) → filter (λ (x : A). c) xs ≡ cond c xs []
filter-constant {A} true (x ∷ xs) = ap (λ (ys : List A). x ∷ ys) (filter-constant true xs)
filter-constant false (x ∷ xs) = filter-constant false xs
filter-constant true [] = refl
filter-constant false [] = refl

-- what passes one test and then another passes both
pub filter-filter : {A : Type 0} (q r : A → Bool) (xs : List A) → filter (λ x. q x && r x) xs ≡ filter r (filter q xs)
filter-filter q r [] = refl
filter-filter {A} q r (x ∷ xs) = by (q x) (filter-filter q r xs)
  where
    both : List A
    both = filter (λ y. q y && r y) xs

    by : (b : Bool) → both ≡ filter r (filter q xs)
        → cond (b && r x) (x ∷ both) both ≡ filter r (cond b (x ∷ filter q xs) (filter q xs))
    by true h = ap (λ (ys : List A). cond (r x) (x ∷ ys) ys) h
    by false h = h

-- ---- elements of a number

module _ {A : Type 0} (number : A → ℕ) where
  -- those of this number
  abbrev those : ℕ → List A → List A
  those n xs = filter (λ (x : A). eqb n (number x)) xs

  -- of those, the ones stay that pass a test, however it is told of them
  pub of-filter : (n : ℕ) (test says : A → Bool) (xs : List A) → ((x : A) → eqb n (number x) ≡ true → test x ≡ says x)
      → those n (filter test xs) ≡ filter says (those n xs)
  of-filter n test says [] alike = refl
  of-filter n test says (x ∷ xs) alike =
      left (test x) (filter test xs)
      ∙ by (test x) (eqb n (number x)) (says x) (those n (filter test xs)) (filter says (those n xs)) (alike x)
      (of-filter n test says xs alike)
      ∙ sym (right (eqb n (number x)) (those n xs))
    where
      left : (a : Bool) (us : List A) → those n (cond a (x ∷ us) us)
          ≡ cond a (cond (eqb n (number x)) (x ∷ those n us) (those n us)) (those n us)
      left true us = refl
      left false us = refl

      right : (b : Bool) (us : List A) → filter says (cond b (x ∷ us) us)
          ≡ cond b (cond (says x) (x ∷ filter says us) (filter says us)) (filter says us)
      right true us = refl
      right false us = refl

      by : (a b c : Bool) (us vs : List A) → (b ≡ true → a ≡ c) → us ≡ vs
          → cond a (cond b (x ∷ us) us) us ≡ cond b (cond c (x ∷ vs) vs) vs
      by true true true us vs same rest = ap (λ (xs : List A). x ∷ xs) rest
      by true true false us vs same rest = absurd (true≢false (same refl))
      by true false c us vs same rest = rest
      by false true true us vs same rest = absurd (true≢false (sym (same refl)))
      by false true false us vs same rest = rest
      by false false c us vs same rest = rest

  -- so they all stay, or none does, where it tells the number alone
  of-alike : (n : ℕ) (test : A → Bool) (c : Bool) (xs : List A) → ((x : A) → eqb n (number x) ≡ true → test x ≡ c)
      → those n (filter test xs) ≡ cond c (those n xs) []
  of-alike n test c xs alike = of-filter n test (λ x. c) xs alike ∙ filter-constant c (those n xs)

  -- with one more, behind those of its number and of lower ones, it comes last among those of its number
  pub of-inserted : (n : ℕ) (x : A) (xs : List A)
      → those n (filter (λ (y : A). nat_le (number y) (number x)) xs ++ x
      ∷ filter (λ (y : A). not (nat_le (number y) (number x))) xs)
      ≡ those n xs ++ given (eqb n (number x)) x
  of-inserted n x xs =
      let m : ℕ = number x in
      let upto : A → Bool = λ y. nat_le (number y) m in
      let behind : A → Bool = λ y. not (nat_le (number y) m) in
      filter-append (λ (y : A). eqb n (number y)) (filter upto xs) (x ∷ filter behind xs)
      ∙ ap (λ (us : List A). us ++ those n (x ∷ filter behind xs))
      (of-alike n upto (nat_le n m) xs (λ y same. ap (λ k. nat_le k m) (sym (eqb-true n (number y) same))))
      ∙ by (nat_le n m) (eqb n m) refl refl (those n xs) (those n (filter behind xs))
      (of-alike n behind (not (nat_le n m)) xs
      (λ y same. ap (λ k. not (nat_le k m)) (sym (eqb-true n (number y) same))))
    where
      by : (le is : Bool) → nat_le n (number x) ≡ le → eqb n (number x) ≡ is → (us vs : List A)
          → vs ≡ cond (not le) us []
          → cond le us [] ++ cond is (x ∷ vs) vs ≡ us ++ given is x
      by true true hle his us vs e = ap (λ (xs : List A). us ++ x ∷ xs) e
      by true false hle his us vs e = ap (λ (xs : List A). us ++ xs) e
      by false true hle his us vs e = absurd (true≢false (sym (not-less n (number x) his) ∙ hle))
        where
          not-less : (p q : ℕ) → eqb p q ≡ true → nat_le p q ≡ true
          not-less p q h = grind (arith, nat_tests, h)
      by false false hle his us vs e = e ∙ sym (append-nil us)

-- ---- what is kept of a paper

module _ {V : Type 0} where
  abbrev values : List (Filed V) → List V
  values xs = map (λ (x : Filed V). x.value) xs

  -- the values of elements that pass a test of them
  values-filter : (test : V → Bool) (xs : List (Filed V))
      → values (filter (λ (x : Filed V). test x.value) xs) ≡ filter test (values xs)
  values-filter test [] = refl
  values-filter test (x ∷ xs) =
      by (test x.value) ∙ ap (λ (vs : List V). cond (test x.value) (x.value ∷ vs) vs) (values-filter test xs)
    where
      kept : List (Filed V)
      kept = filter (λ (x : Filed V). test x.value) xs

      by : (b : Bool) → values (cond b (x ∷ kept) kept) ≡ cond b (x.value ∷ values kept) (values kept)
      by true = refl
      by false = refl

  pub filed_of-append : (p : ℕ) (xs ys : List (Filed V)) → filed_of p (xs ++ ys) ≡ filed_of p xs ++ filed_of p ys
  filed_of-append p xs ys =
      let ours : Filed V → Bool = λ x. eqb p x.paper in
      ap values (filter-append ours xs ys) ∙ map-append (λ (x : Filed V). x.value) (filter ours xs) (filter ours ys)

  pub filed_of-given : (p : ℕ) (b : Bool) (x : Filed V) → filed_of p (given b x) ≡ given (eqb p x.paper && b) x.value
  filed_of-given p true x = by (eqb p x.paper)
    where
      by : (b : Bool) → values (given b x) ≡ given (b && true) x.value
      by true = refl
      by false = refl
  filed_of-given p false x = by (eqb p x.paper)
    where
      by : (b : Bool) → [] ≡ given (b && false) x.value
      by true = refl
      by false = refl

  -- of a paper's values those stay that pass a test, however it is told of them
  pub filed_of-filter : (p : ℕ) (test : Filed V → Bool) (says : V → Bool) (xs : List (Filed V))
      → ((x : Filed V) → eqb p x.paper ≡ true → test x ≡ says x.value)
      → filed_of p (filter test xs) ≡ filter says (filed_of p xs)
  filed_of-filter p test says xs alike =
      ap values (of-filter (λ (x : Filed V). x.paper) p test (λ (x : Filed V). says x.value) xs alike)
      ∙ values-filter says (filter (λ (x : Filed V). eqb p x.paper) xs)

  -- one more comes last among its paper's
  pub filed_of-with_filed : (p : ℕ) (x : Filed V) (xs : List (Filed V))
      → filed_of p (with_filed x xs) ≡ filed_of p xs ++ given (eqb p x.paper) x.value
  filed_of-with_filed p x xs =
      ap values (of-inserted (λ (y : Filed V). y.paper) p x xs)
      ∙ map-append (λ (y : Filed V). y.value) (filter (λ (y : Filed V). eqb p y.paper) xs) (given (eqb p x.paper) x)
      ∙ ap (λ (vs : List V). filed_of p xs ++ vs) (one (eqb p x.paper))
    where
      one : (b : Bool) → values (given b x) ≡ given b x.value
      one true = refl
      one false = refl

-- ---- tags of a paper

-- a tag that is switched changes those of its paper alone
pub filed_of-tag_switched : (p : ℕ) (on : Bool) (x : Filed SetTag) (xs : TagsState)
    → filed_of p (tag_switched on x xs) ≡ cond (eqb p x.paper) (with_tag on x.value (filed_of p xs)) (filed_of p xs)
filed_of-tag_switched p on x xs =
    filed_of-append p (filter before xs ++ given on x) (filter behind xs)
    ∙ ap (λ (ts : List SetTag). ts ++ filed_of p (filter behind xs))
    (filed_of-append p (filter before xs) (given on x)
    ∙ ap (λ (ts : List SetTag). filed_of p (filter before xs) ++ ts) (filed_of-given p on x))
    ∙ by (eqb p x.paper) refl
  where
    before : Filed SetTag → Bool
    before y = stands_before y x

    behind : Filed SetTag → Bool
    behind y = stands_before x y

    -- of the same paper the tags decide
    same_before : (p q r : ℕ) (b : Bool) → eqb p r ≡ true → eqb p q ≡ true → (nat_lt q r || (eqb q r && b)) ≡ b
    same_before p q r b at is = grind (arith, nat_tests, at, is)

    -- and of another its number
    other_before : (p q r : ℕ) (b : Bool) → eqb p r ≡ false → eqb p q ≡ true
        → (nat_lt q r || (eqb q r && b)) ≡ nat_lt p r
    other_before p q r b at is = grind (arith, nat_tests, at, is)

    other_behind : (p q r : ℕ) (b : Bool) → eqb p r ≡ false → eqb p q ≡ true
        → (nat_lt r q || (eqb r q && b)) ≡ not (nat_lt p r)
    other_behind p q r b at is = grind (arith, nat_tests, at, is)

    same_behind : (p q r : ℕ) (b : Bool) → eqb p r ≡ true → eqb p q ≡ true → (nat_lt r q || (eqb r q && b)) ≡ b
    same_behind p q r b at is = grind (arith, nat_tests, at, is)

    all-or-none : (c : Bool) (ts : List SetTag)
        → filter (λ (t : SetTag). c) ts ++ filter (λ (t : SetTag). not c) ts ≡ ts
    all-or-none true ts =
        ap (λ (us : List SetTag). us ++ filter (λ (t : SetTag). false) ts) (filter-constant true ts)
        ∙ ap (λ (us : List SetTag). ts ++ us) (filter-constant false ts) ∙ append-nil ts
    all-or-none false ts = ap (λ (us : List SetTag). us ++ filter (λ (t : SetTag). true) ts) (filter-constant false ts)
        ∙ filter-constant true ts

    by : (b : Bool) → eqb p x.paper ≡ b → filed_of p (filter before xs) ++ given (b && on) x.value
        ++ filed_of p (filter behind xs)
        ≡ cond b (with_tag on x.value (filed_of p xs)) (filed_of p xs)
    by true at =
        ap (λ (ts : List SetTag). ts ++ given on x.value ++ filed_of p (filter behind xs))
        (filed_of-filter p before (λ (s : SetTag). tag_before s x.value) xs
        (λ y is. same_before p y.paper x.paper (tag_before y.value x.value) at is))
        ∙ ap (λ (ts : List SetTag). filter (λ (s : SetTag). tag_before s x.value) (filed_of p xs) ++ given on x.value
        ++ ts)
        (filed_of-filter p behind (λ (s : SetTag). tag_before x.value s) xs
        (λ y is. same_behind p y.paper x.paper (tag_before x.value y.value) at is))
    by false at =
        ap (λ (ts : List SetTag). ts ++ filed_of p (filter behind xs))
        (append-nil (filed_of p (filter before xs))
        ∙ filed_of-filter p before (λ (s : SetTag). nat_lt p x.paper) xs
        (λ y is. other_before p y.paper x.paper (tag_before y.value x.value) at is))
        ∙ ap (λ (ts : List SetTag). filter (λ (s : SetTag). nat_lt p x.paper) (filed_of p xs) ++ ts)
        (filed_of-filter p behind (λ (s : SetTag). not (nat_lt p x.paper)) xs
        (λ y is. other_behind p y.paper x.paper (tag_before x.value y.value) at is))
        ∙ all-or-none (nat_lt p x.paper) (filed_of p xs)
