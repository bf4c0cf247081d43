-- SPDX-License-Identifier: Apache-2.0 OR MIT
-- All choices among pairs stand in dictionary order, and of those that pass a test the first of the greatest sum is
-- the one that no other beats, whatever the choices are made into.
use Rattle.std.proofs.Common.{◌≡◌, ◌⊎◌, inl, inr, ℕ, suc, ◌≤◌, ◌<◌, Bool, true, false, cond, List, [], ◌∷◌, ◌++◌}
use Rattle.std.proofs.Common.{length, map, refl, arith, ap, sym, ◌∙◌, subst, Option, Some, None}
use Rattle.std.specs.Prelude.{filter, nat_lt, unwrap_or}
use Rattle.std.specs.Option.{option_map}
use Rattle.std.proofs.lemmas.Bool.{ltb-true, ltb-false}
use Rattle.std.proofs.lemmas.List.{map-append}
use Rattle.cr_base.specs.Plans.{PlanPair, choices, bid_sum, or_greater, first_greatest}
use Rattle.cr_match.specs.declared.problem.Pair.{Pair}
use Rattle.cr_match.specs.Plan.{kept}
use Rattle.cr_match.specs.Answer.{Ascends, IsAscending, IsBefore}
use Rattle.cr_match.proofs.Dictionary.{kept_nothing, kept_after, ascends_rest}

-- ---- what is one of a list

abbrev pub IsOne : {A : Type 0} → A → List A → Type 0
IsOne x [] = ⊥
IsOne x (y ∷ ys) = (x ≡ y) ⊎ IsOne x ys

pub one-front : {A : Type 0} (x : A) (xs ys : List A) → IsOne x xs → IsOne x (xs ++ ys)
one-front x [] ys h = absurd h
one-front x (y ∷ xs) ys (inl same) = inl same
one-front x (y ∷ xs) ys (inr more) = inr (one-front x xs ys more)

pub one-back : {A : Type 0} (x : A) (xs ys : List A) → IsOne x ys → IsOne x (xs ++ ys)
one-back x [] ys h = h
one-back x (y ∷ xs) ys h = inr (one-back x xs ys h)

pub one-of : {A : Type 0} (x : A) (xs ys : List A) → IsOne x (xs ++ ys) → IsOne x xs ⊎ IsOne x ys
one-of x [] ys h = inr h
one-of x (y ∷ xs) ys (inl same) = inl (inl same)
one-of x (y ∷ xs) ys (inr more) = elim (one-of x xs ys more) [ inl a ↦ inl (inr a) | inr b ↦ inr b ]

pub one-map : {A B : Type 0} (f : A → B) (x : A) (xs : List A) → IsOne x xs → IsOne (f x) (map f xs)
one-map f x [] h = absurd h
one-map f x (y ∷ xs) (inl same) = inl (ap f same)
one-map f x (y ∷ xs) (inr more) = inr (one-map f x xs more)

-- the element that a mapped one is made of
pub one-mapped : {A B : Type 0} (f : A → B) (y : B) (xs : List A) → IsOne y (map f xs)
    → (x : A) × (y ≡ f x) × IsOne x xs
one-mapped f y [] h = absurd h
one-mapped f y (x ∷ xs) (inl same) = (x, same, inl refl)
one-mapped f y (x ∷ xs) (inr more) = let rest = one-mapped f y xs more in (rest.0, rest.1, inr rest.2)

module _ {A : Type 0} (test : A → Bool) where
  pub one-filter : (x : A) (xs : List A) → test x ≡ true → IsOne x xs → IsOne x (filter test xs)
  one-filter x [] passes h = absurd h
  one-filter x (y ∷ xs) passes (inl same) = by (test y) (ap test (sym same) ∙ passes)
    where
      by : (b : Bool) → b ≡ true → IsOne x (cond b (y ∷ filter test xs) (filter test xs))
      by true h = inl same
      by false h = cc
  one-filter x (y ∷ xs) passes (inr more) = by (test y) (one-filter x xs passes more)
    where
      by : (b : Bool) → IsOne x (filter test xs) → IsOne x (cond b (y ∷ filter test xs) (filter test xs))
      by true rest = inr rest
      by false rest = rest

  pub one-filtered : (x : A) (xs : List A) → IsOne x (filter test xs) → (test x ≡ true) × IsOne x xs
  one-filtered x [] h = absurd h
  one-filtered x (y ∷ xs) h = by (test y) refl h (λ more. one-filtered x xs more)
    where
      by : (b : Bool) → test y ≡ b → IsOne x (cond b (y ∷ filter test xs) (filter test xs))
          → (IsOne x (filter test xs) → (test x ≡ true) × IsOne x xs)
          → (test x ≡ true) × IsOne x (y ∷ xs)
      by true is (inl same) rest = (ap test same ∙ is, inl same)
      by true is (inr more) rest = let r = rest more in (r.0, inr r.1)
      by false is more rest = let r = rest more in (r.0, inr r.1)

-- ---- lists in an order

-- x stands so to all of these
abbrev pub Behind : {A : Type 0} → (A → A → Type 0) → A → List A → Type 0
Behind R x [] = Unit {0}
Behind R x (y ∷ ys) = R x y × Behind R x ys

-- each stands so to all those behind it
abbrev pub InOrder : {A : Type 0} → (A → A → Type 0) → List A → Type 0
InOrder R [] = Unit {0}
InOrder R (x ∷ xs) = Behind R x xs × InOrder R xs

module _ {A : Type 0} (R : A → A → Type 0) where
  pub behind-all : (x : A) (ys : List A) → ((y : A) → IsOne y ys → R x y) → Behind R x ys
  behind-all x [] each = tt
  behind-all x (y ∷ ys) each = (each y (inl refl), behind-all x ys (λ z h. each z (inr h)))

  pub behind-one : (x : A) (ys : List A) → Behind R x ys → (y : A) → IsOne y ys → R x y
  behind-one x [] h y one = absurd one
  behind-one x (z ∷ ys) h y (inl same) = subst (λ (w : A). R x w) (sym same) h.0
  behind-one x (z ∷ ys) h y (inr more) = behind-one x ys h.1 y more

  behind-append : (x : A) (xs ys : List A) → Behind R x xs → Behind R x ys → Behind R x (xs ++ ys)
  behind-append x [] ys h k = k
  behind-append x (y ∷ xs) ys h k = (h.0, behind-append x xs ys h.1 k)

  pub order-append : (xs ys : List A) → InOrder R xs → InOrder R ys → ((x : A) → IsOne x xs → Behind R x ys)
      → InOrder R (xs ++ ys)
  order-append [] ys h k each = k
  order-append (x ∷ xs) ys h k each =
      (behind-append x xs ys h.0 (each x (inl refl)), order-append xs ys h.1 k (λ y one. each y (inr one)))

  pub order-filter : (test : A → Bool) (xs : List A) → InOrder R xs → InOrder R (filter test xs)
  order-filter test [] h = tt
  order-filter test (x ∷ xs) h = by (test x) (order-filter test xs h.1)
    where
      by : (b : Bool) → InOrder R (filter test xs) → InOrder R (cond b (x ∷ filter test xs) (filter test xs))
      by true rest =
          (behind-all x (filter test xs) (λ y one. behind-one x xs h.0 y (one-filtered test y xs one).1), rest)
      by false rest = rest

-- ---- choices of pairs

-- of two choices of as many pairs the first comes first
abbrev pub Before : List Pair → List Pair → Type 0
Before p q = length p ≡ length q → IsBefore p q

before-both : (e : Pair) (p : List Pair) (qs : List (List Pair)) → Behind Before p qs
    → Behind Before (e ∷ p) (map (λ (q : List Pair). e ∷ q) qs)
before-both e p [] h = tt
before-both e p (q ∷ qs) h = ((λ long. inr (refl, refl, h.0 (shorter long))), before-both e p qs h.1)
  where
    shorter : length (e ∷ p) ≡ length (e ∷ q) → length p ≡ length q
    shorter long = omega (arith, long)

order-both : (e : Pair) (ps : List (List Pair)) → InOrder Before ps → InOrder Before (map (λ (p : List Pair). e ∷ p) ps)
order-both e [] h = tt
order-both e (p ∷ ps) h = (before-both e p ps h.0, order-both e ps h.1)

-- the marks that make a choice
pub choice-marks : (es p : List Pair) → IsOne p (choices es) → (bs : List Bool) × (p ≡ kept bs es)
choice-marks [] p (inl same) = ([], same)
choice-marks [] p (inr more) = absurd more
choice-marks (e ∷ es) p h = elim (one-of p (map (λ (q : List Pair). e ∷ q) (choices es)) (choices es) h) [
  | inl with ↦
      let made = one-mapped (λ (q : List Pair). e ∷ q) p (choices es) with in
      let rest = choice-marks es made.0 made.2 in
      (true ∷ rest.0, made.1 ∙ ap (λ (q : List Pair). e ∷ q) rest.1)
  | inr without ↦ let rest = choice-marks es p without in (false ∷ rest.0, rest.1)
]

pub marks-choice : (es : List Pair) (bs : List Bool) → IsOne (kept bs es) (choices es)
marks-choice [] bs = inl (kept_nothing bs)
marks-choice (e ∷ es) [] =
    one-back [] (map (λ (q : List Pair). e ∷ q) (choices es)) (choices es)
    (subst (λ (p : List Pair). IsOne p (choices es)) nothing (marks-choice es []))
  where
    nothing : kept [] es ≡ []
    nothing = refl
marks-choice (e ∷ es) (true ∷ bs) =
    one-front (e ∷ kept bs es) (map (λ (q : List Pair). e ∷ q) (choices es)) (choices es)
    (one-map (λ (q : List Pair). e ∷ q) (kept bs es) (choices es) (marks-choice es bs))
marks-choice (e ∷ es) (false ∷ bs) =
    one-back (kept bs es) (map (λ (q : List Pair). e ∷ q) (choices es)) (choices es) (marks-choice es bs)

-- a choice with the first pair comes before one without it
first-before : (e : Pair) (es p q : List Pair) → Ascends e es → IsOne q (choices es) → Before (e ∷ p) q
first-before e es p [] asc one long = absurd (omega (arith, long, some))
  where
    some : length (e ∷ p) ≡ suc (length p)
    some = refl
first-before e es p (f ∷ fs) asc one long =
    let made = choice-marks es (f ∷ fs) one in inl (kept_after e es made.0 f fs asc (sym made.1))

pub choices-order : (es : List Pair) → IsAscending es → InOrder Before (choices es)
choices-order [] asc = (tt, tt)
choices-order (e ∷ es) asc =
    order-append Before (map (λ (p : List Pair). e ∷ p) (choices es)) (choices es)
    (order-both e (choices es) (choices-order es (ascends_rest e es asc)))
    (choices-order es (ascends_rest e es asc))
    (λ p one.
    let made = one-mapped (λ (q : List Pair). e ∷ q) p (choices es) one in
    behind-all Before p (choices es)
    (λ q there. subst (λ (x : List Pair). Before x q) (sym made.1) (first-before e es made.0 q asc there)))

-- ---- the first of the greatest sum

module _ {A : Type 0} (sum : A → ℕ) where
  abbrev pub or_more : A → Option A → A
  or_more x None = x
  or_more x (Some y) = cond (nat_lt (sum x) (sum y)) y x

  abbrev pub first_most : List A → Option A
  first_most [] = None
  first_most (x ∷ xs) = Some (or_more x (first_most xs))

  module _ (R : A → A → Type 0) where
    -- y is no better than the best: its sum is less, or as great, and it is the best, or comes behind it
    abbrev pub NoBetter : A → A → Type 0
    NoBetter best y = (sum y < sum best) ⊎ ((sum y ≡ sum best) × ((y ≡ best) ⊎ R best y))

    pub record IsBestOf (best : A) (xs : List A) : Type 0 where
      pub one : IsOne best xs
      pub all : (y : A) → IsOne y xs → NoBetter best y

    nothing-there : (xs : List A) → first_most xs ≡ None → (y : A) → IsOne y xs → ⊥
    nothing-there [] is y one = one
    nothing-there (x ∷ xs) is y one = cc

    -- of all but the first the best is w, or there are none
    with-first : (z : A) (zs : List A) → Behind R z zs → (o : Option A) → first_most zs ≡ o
        → ((w : A) → first_most zs ≡ Some w → IsBestOf w zs)
        → IsBestOf (or_more z o) (z ∷ zs)
    with-first z zs behind None is rest = record { one = inl refl; all = λ y one. alone y one }
      where
        alone : (y : A) → IsOne y (z ∷ zs) → NoBetter z y
        alone y (inl same) = inr (ap sum same, inl same)
        alone y (inr more) = absurd (nothing-there zs is y more)
    with-first z zs behind (Some w) is rest = by (nat_lt (sum z) (sum w)) refl (rest w is)
      where
        later : IsBestOf w zs → sum z < sum w → (y : A) → IsOne y (z ∷ zs) → NoBetter w y
        later r lt y (inl same) = inl (subst (λ (v : A). sum v < sum w) (sym same) lt)
        later r lt y (inr more) = r.all y more

        so_far : IsBestOf w zs → sum w ≤ sum z → (y : A) → IsOne y zs → NoBetter w y → NoBetter z y
        so_far r le y one (inl lt) = inl (omega (arith, lt, le))
        so_far r le y one (inr same) = elim (split (sum y) (sum z) (omega (arith, same.0, le))) [
          | inl lt ↦ inl lt
          | inr level ↦ inr (level, inr (behind-one R z zs behind y one))
        ]
          where
            split : (a b : ℕ) → a ≤ b → (a < b) ⊎ (a ≡ b)
            split a b h = by_less (nat_lt a b) refl
              where
                by_less : (c : Bool) → nat_lt a b ≡ c → (a < b) ⊎ (a ≡ b)
                by_less true is = inl (ltb-true a b is)
                by_less false is = inr (omega (arith, ltb-false a b is, h))

        first : IsBestOf w zs → sum w ≤ sum z → (y : A) → IsOne y (z ∷ zs) → NoBetter z y
        first r le y (inl same) = inr (ap sum same, inl same)
        first r le y (inr more) = so_far r le y more (r.all y more)

        by : (b : Bool) → nat_lt (sum z) (sum w) ≡ b → IsBestOf w zs → IsBestOf (cond b w z) (z ∷ zs)
        by true is r = record { one = inr r.one; all = λ y one. later r (ltb-true (sum z) (sum w) is) y one }
        by false is r = record { one = inl refl; all = λ y one. first r (ltb-false (sum z) (sum w) is) y one }

    pub best-of : (xs : List A) → InOrder R xs → (best : A) → first_most xs ≡ Some best → IsBestOf best xs
    best-of [] order best is = absurd (cc (is))
    best-of (z ∷ zs) order best is =
        subst (λ (b : A). IsBestOf b (z ∷ zs)) (ap (λ (o : Option A). unwrap_or o z) is)
        (with-first z zs order.0 (first_most zs) refl (λ w there. best-of zs order.1 w there))

    -- there is one, where anything is there
    pub some-best : (xs : List A) (y : A) → IsOne y xs → (best : A) × (first_most xs ≡ Some best)
    some-best [] y one = absurd one
    some-best (z ∷ zs) y one = (or_more z (first_most zs), refl)

    pub no-best : (xs : List A) → ((y : A) → IsOne y xs → ⊥) → first_most xs ≡ None
    no-best [] none = refl
    no-best (z ∷ zs) none = absurd (none z (inl refl))

-- ---- of what the choices are made into

pub filter-map : {A B : Type 0} (test : B → Bool) (f : A → B) (xs : List A)
    → filter test (map f xs) ≡ map f (filter (λ x. test (f x)) xs)
filter-map test f [] = refl
filter-map {A} {B} test f (x ∷ xs) = by (test (f x)) (filter-map test f xs)
  where
    by : (b : Bool) → filter test (map f xs) ≡ map f (filter (λ y. test (f y)) xs)
        → cond b (f x ∷ filter test (map f xs)) (filter test (map f xs))
        ≡ map f (cond b (x ∷ filter (λ y. test (f y)) xs) (filter (λ y. test (f y)) xs))
    by true rest = ap (λ (ys : List B). f x ∷ ys) rest
    by false rest = rest

map-both : {A B : Type 0} (f : A → B) (x : A) (ps : List (List A))
    → map (map f) (map (λ (p : List A). x ∷ p) ps) ≡ map (λ (q : List B). f x ∷ q) (map (map f) ps)
map-both f x [] = refl
map-both {A} {B} f x (p ∷ ps) = ap (λ (qs : List (List B)). (f x ∷ map f p) ∷ qs) (map-both f x ps)

pub choices-map : {A B : Type 0} (f : A → B) (xs : List A) → choices (map f xs) ≡ map (map f) (choices xs)
choices-map f [] = refl
choices-map {A} {B} f (x ∷ xs) =
    (λ i. map (λ (q : List B). f x ∷ q) (choices-map f xs i) ++ choices-map f xs i)
    ∙ ap (λ (qs : List (List B)). qs ++ map (map f) (choices xs)) (sym (map-both f x (choices xs)))
    ∙ sym (map-append (map f) (map (λ (p : List A). x ∷ p) (choices xs)) (choices xs))

-- the first of the greatest sum of what they are made into is made of the first of theirs
pub greatest-map : (f : Pair → PlanPair) (ps : List (List Pair))
    → first_greatest (map (map f) ps) ≡ option_map (map f) (first_most (λ (p : List Pair). bid_sum (map f p)) ps)
greatest-map f [] = refl
greatest-map f (p ∷ ps) =
    ap (λ (o : Option (List PlanPair)). Some (or_greater (map f p) o)) (greatest-map f ps)
    ∙ by (first_most (λ (q : List Pair). bid_sum (map f q)) ps)
  where
    sum : List Pair → ℕ
    sum q = bid_sum (map f q)

    by : (o : Option (List Pair)) → Some (or_greater (map f p) (option_map (map f) o))
        ≡ option_map (map f) (Some (or_more sum p o))
    by None = refl
    by (Some q) = test (nat_lt (sum p) (sum q))
      where
        test : (b : Bool) → Some (cond b (map f q) (map f p)) ≡ option_map (map f) (Some (cond b q p))
        test true = refl
        test false = refl
