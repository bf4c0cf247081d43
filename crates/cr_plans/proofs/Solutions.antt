-- SPDX-License-Identifier: Apache-2.0 OR MIT
-- What answers a problem is the best plan by its definition: no two plans of the greatest sum are first.
use Rattle.std.proofs.Common.{◌≡◌, ◌⊎◌, inl, inr, ℕ, zero, suc, ◌+◌, ◌*◌, ◌≤◌, ◌<◌, Bool, true, false, eqb, List, []}
use Rattle.std.proofs.Common.{◌∷◌, length, get_or, map, count_by, refl, arith, ap, sym, ◌∙◌, subst, Option, Some, None}
use Rattle.std.proofs.Common.{ℤ, pos, negsuc, ◌+ℤ◌, ◌≤ℤ◌}
use Rattle.std.specs.Prelude.{filter, nat_le, nat_lt}
use Rattle.std.specs.List.{list_all}
use Rattle.std.specs.Option.{option_map}
use Rattle.std.proofs.lemmas.Int.{ints}
use Rattle.std.proofs.lemmas.List.Sums.{sum_by-cons}
use Rattle.std.proofs.lemmas.Bool.{and_parts, and_from, eq-eqb, ltb-true, ltb-false, eqb-true, le-leb, leb-true}
use Rattle.std.proofs.lemmas.Bool.Decides.{nat_tests}
use Rattle.cr_base.specs.declared.reply.AccountLine.{AccountLine}
use Rattle.cr_base.specs.Lists.{IsRising}
use Rattle.cr_base.specs.Plans.{PlanPair, bid_sum, choices, first_greatest, is_of_member, is_of_paper, is_plan}
use Rattle.cr_base.proofs.SortedLists.{sorted-at, list_all-at}
use Rattle.cr_base.proofs.Small.{nat_lt-eqb, eqb-swap}
use Rattle.cr_match.specs.declared.problem.Pair.{Pair}
use Rattle.cr_match.specs.declared.problem.Problem.{Problem}
use Rattle.cr_match.specs.declared.problem.Prices.{Prices}
use Rattle.cr_match.specs.Plan.{IsPlan, kept, of_member, of_paper, total_below, total_weight}
use Rattle.cr_match.specs.Answer.{AreInside, ComesAfter, HasNoPlan, IsAscending, IsBefore, IsFirst, IsGreatest, IsPlanOf, IsProblem}
use Rattle.cr_match.proofs.Sums.{bit}
use Rattle.cr_match.proofs.Room.{total_below_add, total_below_none, total_below_one, total_below_same}
use Rattle.cr_plans.specs.Pairing.{no_line}
use Rattle.cr_plans.proofs.Choices.{Before, IsOne, choice-marks, choices-map, choices-order, filter-map, first_most}
use Rattle.cr_plans.proofs.Choices.{greatest-map, best-of, marks-choice, no-best, one-filter, one-filtered}
use Rattle.cr_plans.proofs.Choices.{order-filter, some-best}
use Rattle.cr_plans.proofs.Problems.{bid_of, told}

-- ---- the order of lists of pairs is total

pub not-both : (xs ys : List Pair) → IsBefore xs ys → IsBefore ys xs → ⊥
not-both [] [] h k = h
not-both [] (y ∷ ys) h k = k
not-both (x ∷ xs) [] h k = h
not-both (x ∷ xs) (y ∷ ys) (inl h) (inl k) = turn h k
  where
    turn : ComesAfter x y → ComesAfter y x → ⊥
    turn (inl a) (inl b) = omega (arith, a, b)
    turn (inl a) (inr b) = omega (arith, a, b.0)
    turn (inr a) (inl b) = omega (arith, a.0, b)
    turn (inr a) (inr b) = omega (arith, a.1, b.1)
not-both (x ∷ xs) (y ∷ ys) (inl h) (inr k) = level h
  where
    level : ComesAfter x y → ⊥
    level (inl a) = omega (arith, a, k.0)
    level (inr a) = omega (arith, a.1, k.1)
not-both (x ∷ xs) (y ∷ ys) (inr h) (inl k) = level k
  where
    level : ComesAfter y x → ⊥
    level (inl a) = omega (arith, a, h.0)
    level (inr a) = omega (arith, a.1, h.1)
not-both (x ∷ xs) (y ∷ ys) (inr h) (inr k) = not-both xs ys h.2 k.2

-- ---- places and numbers

-- numbers that rise are the same exactly at the same places
same-place : (ns : List ℕ) → IsRising ns → (i j : ℕ) → i < length ns → j < length ns
    → eqb (get_or ns i 0) (get_or ns j 0) ≡ eqb i j
same-place ns rising i j li lj = by (nat_lt i j) refl (nat_lt j i) refl
  where
    by : (b : Bool) → nat_lt i j ≡ b → (c : Bool) → nat_lt j i ≡ c → eqb (get_or ns i 0) (get_or ns j 0) ≡ eqb i j
    by true is c is' = nat_lt-eqb (get_or ns i 0) (get_or ns j 0) (sorted-at nat_lt ns rising i j 0 (ltb-true i j is) lj)
        ∙ sym (nat_lt-eqb i j is)
    by false is true is' =
        eqb-swap (get_or ns i 0) (get_or ns j 0)
        ∙ nat_lt-eqb (get_or ns j 0) (get_or ns i 0) (sorted-at nat_lt ns rising j i 0 (ltb-true j i is') li)
        ∙ sym (eqb-swap i j ∙ nat_lt-eqb j i is')
    by false is false is' =
        let e : i ≡ j = omega (arith, ltb-false i j is, ltb-false j i is') in
        eq-eqb (get_or ns i 0) (get_or ns j 0) (ap (λ (k : ℕ). get_or ns k 0) e) ∙ sym (eq-eqb i j e)

users-at : (members : List AccountLine) (i : ℕ)
    → get_or (map (λ (a : AccountLine). a.user) members) i 0 ≡ (get_or members i no_line).user
users-at [] i = refl
users-at (a ∷ members) zero = refl
users-at (a ∷ members) (suc i) = users-at members i

length-map : {A B : Type 0} (f : A → B) (xs : List A) → length (map f xs) ≡ length xs
length-map f [] = refl
length-map f (x ∷ xs) = ap suc (length-map f xs)

all-from : {A : Type 0} (test : A → Bool) (d : A) (xs : List A)
    → ((i : ℕ) → i < length xs → test (get_or xs i d) ≡ true) → list_all test xs ≡ true
all-from test d [] each = refl
all-from {A} test d (x ∷ xs) each = and_from (test x) (list_all test xs) (each 0 (omega (arith, longer)))
    (all-from test d xs (λ i low. each (suc i) (omega (arith, low, longer))))
  where
    longer : length (x ∷ xs) ≡ suc (length xs)
    longer = refl

-- ---- counts

count-same : (test : PlanPair → Bool) (test' : Pair → Bool) (f : Pair → PlanPair) (xs : List Pair)
    → ((e : Pair) → IsOne e xs → test (f e) ≡ test' e)
    → count_by test (map f xs) ≡ count_by test' xs
count-same test test' f [] same = refl
count-same test test' f (x ∷ xs) same =
    omega (
      arith,
      sum_by-cons (λ (p : PlanPair). bit (test p)) (f x) (map f xs),
      sum_by-cons (λ (e : Pair). bit (test' e)) x xs,
      ap bit (same x (inl refl)),
      count-same test test' f xs (λ e one. same e (inr one)),
    )

count-none : (test : Pair → Bool) (xs : List Pair) → ((e : Pair) → IsOne e xs → test e ≡ false) → count_by test xs ≡ 0
count-none test [] none = refl
count-none test (x ∷ xs) none =
    omega (
      arith,
      sum_by-cons (λ (e : Pair). bit (test e)) x xs,
      ap bit (none x (inl refl)),
      count-none test xs (λ e one. none e (inr one)),
    )

-- what is kept is inside
inside-kept : (papers members : ℕ) (bs : List Bool) (es : List Pair) → AreInside papers members es → (e : Pair)
    → IsOne e (kept bs es)
    → (e.paper < papers) × (e.member < members)
inside-kept papers members [] es h e one = absurd one
inside-kept papers members (b ∷ bs) [] h e one = absurd one
inside-kept papers members (true ∷ bs) (x ∷ es) h e (inl same) =
    (omega (arith, h.0, ap (λ (p : Pair). p.paper) same), omega (arith, h.1, ap (λ (p : Pair). p.member) same))
inside-kept papers members (true ∷ bs) (x ∷ es) h e (inr more) = inside-kept papers members bs es h.4 e more
inside-kept papers members (false ∷ bs) (x ∷ es) h e one = inside-kept papers members bs es h.4 e one

pub inside-kept-all : (papers members : ℕ) (bs : List Bool) (es : List Pair) → AreInside papers members es
    → AreInside papers members (kept bs es)
inside-kept-all papers members [] es h = tt
inside-kept-all papers members (b ∷ bs) [] h = tt
inside-kept-all papers members (true ∷ bs) (x ∷ es) h = (h.0, h.1, h.2, h.3, inside-kept-all papers members bs es h.4)
inside-kept-all papers members (false ∷ bs) (x ∷ es) h = inside-kept-all papers members bs es h.4

weighs-kept : (papers members : ℕ) (bs : List Bool) (es : List Pair) → AreInside papers members es → (e : Pair)
    → IsOne e (kept bs es) → negsuc 19 ≤ℤ e.weight
weighs-kept papers members [] es h e one = absurd one
weighs-kept papers members (b ∷ bs) [] h e one = absurd one
weighs-kept papers members (true ∷ bs) (x ∷ es) h e (inl same) =
    subst (λ (p : Pair). negsuc 19 ≤ℤ p.weight) (sym same) h.2
weighs-kept papers members (true ∷ bs) (x ∷ es) h e (inr more) = weighs-kept papers members bs es h.4 e more
weighs-kept papers members (false ∷ bs) (x ∷ es) h e one = weighs-kept papers members bs es h.4 e one

-- ---- plans of places, and plans

module _ (papers : List ℕ) (members : List AccountLine) (rising : IsRising papers)
    (users : IsRising (map (λ (a : AccountLine). a.user) members))
    (per_paper load : ℕ) (chosen : List Pair)
    (inside : (e : Pair) → IsOne e chosen → (e.paper < length papers) × (e.member < length members)) where
  abbrev pair : Pair → PlanPair
  pair = told papers members

  of-paper : (q : ℕ) → q < length papers → count_by (is_of_paper (get_or papers q 0)) (map pair chosen)
      ≡ count_by (of_paper q) chosen
  of-paper q low = count-same (is_of_paper (get_or papers q 0)) (of_paper q) pair chosen
      (λ e one. same-place papers rising e.paper q (inside e one).0 low)

  of-member : (m : ℕ) → m < length members → count_by (is_of_member (get_or members m no_line).user) (map pair chosen)
      ≡ count_by (of_member m) chosen
  of-member m low =
      count-same (is_of_member (get_or members m no_line).user) (of_member m) pair chosen
      (λ e one.
      (λ i. eqb (sym (users-at members e.member) i) (sym (users-at members m) i))
      ∙ same-place (map (λ (a : AccountLine). a.user) members) users e.member m
      (omega (arith, (inside e one).1, length-map (λ (a : AccountLine). a.user) members))
      (omega (arith, low, length-map (λ (a : AccountLine). a.user) members)))

  pub plan-told : IsPlan (length papers) per_paper load chosen
      → is_plan papers members per_paper load (map pair chosen) ≡ true
  plan-told h =
      and_from _ _
      (all-from (λ (p : ℕ). eqb (count_by (is_of_paper p) (map pair chosen)) per_paper) 0 papers
      (λ q low. eq-eqb (count_by (is_of_paper (get_or papers q 0)) (map pair chosen)) per_paper
      (of-paper q low ∙ h.full q low)))
      (all-from (λ (a : AccountLine). nat_le (count_by (is_of_member a.user) (map pair chosen)) load) no_line members
      (λ m low. le-leb (count_by (is_of_member (get_or members m no_line).user) (map pair chosen)) load
      (omega (arith, of-member m low, h.light m))))

  pub told-plan : is_plan papers members per_paper load (map pair chosen) ≡ true
      → IsPlan (length papers) per_paper load chosen
  told-plan h =
      let parts = and_parts (list_all (λ (p : ℕ). eqb (count_by (is_of_paper p) (map pair chosen)) per_paper) papers)
      (list_all (λ (a : AccountLine). nat_le (count_by (is_of_member a.user) (map pair chosen)) load) members) h in
      record {
        full = λ q low.
            sym (of-paper q low)
            ∙ eqb-true (count_by (is_of_paper (get_or papers q 0)) (map pair chosen)) per_paper
            (list_all-at (λ (p : ℕ). eqb (count_by (is_of_paper p) (map pair chosen)) per_paper) papers q 0 low
            parts.0);
        light = λ m. by (nat_lt m (length members)) m refl parts.1;
      }
    where
      by : (b : Bool) → (m : ℕ) → nat_lt m (length members) ≡ b
          → list_all (λ (a : AccountLine). nat_le (count_by (is_of_member a.user) (map pair chosen)) load) members
          ≡ true
          → count_by (of_member m) chosen ≤ load
      by true m is all =
          omega (
            arith,
            of-member m (ltb-true m (length members) is),
            leb-true (count_by (is_of_member (get_or members m no_line).user) (map pair chosen)) load
                (list_all-at (λ (a : AccountLine). nat_le (count_by (is_of_member a.user) (map pair chosen)) load)
                members m no_line (ltb-true m (length members) is) all),
          )
      by false m is all =
          omega (
            arith,
            count-none (of_member m) chosen
                (λ e one. other e.member m (inside e one).1 (ltb-false m (length members) is)),
          )
        where
          other : (n m : ℕ) → n < length members → length members ≤ m → eqb n m ≡ false
          other n m low high = grind (arith, nat_tests)

-- ---- how many pairs a plan has

each-below : (f : ℕ → ℕ) (want n : ℕ) → ((q : ℕ) → q < n → f q ≡ want) → total_below f n ≡ want * n
each-below f want zero each = let e : 0 ≡ want * 0 = omega arith in e
each-below f want (suc n) each =
    let rest = each-below f want n (λ q low. each q (omega (arith, low))) in
    let e : want * suc n ≡ want * n + want = one_more want n in
    omega (arith, rest, e, each n (omega arith))
  where
    one_more : (w n : ℕ) → w * suc n ≡ w * n + w
    one_more w n = omega arith

counted : (n : ℕ) (xs : List Pair) → ((e : Pair) → IsOne e xs → e.paper < n)
    → total_below (λ q. count_by (of_paper q) xs) n ≡ length xs
counted n [] low = total_below_none n
counted n (x ∷ xs) low =
    let split : total_below (λ q. count_by (of_paper q) (x ∷ xs)) n
    ≡ total_below (λ q. bit (of_paper q x) + count_by (of_paper q) xs) n =
    total_below_same (λ q. count_by (of_paper q) (x ∷ xs)) (λ q. bit (of_paper q x) + count_by (of_paper q) xs) n
    (λ q. sum_by-cons (λ (e : Pair). bit (of_paper q e)) x xs) in
    let l : length (x ∷ xs) ≡ suc (length xs) = refl in
    omega (
      arith,
      split,
      total_below_add (λ q. bit (of_paper q x)) (λ q. count_by (of_paper q) xs) n,
      total_below_one x.paper n (low x (inl refl)),
      counted n xs (λ e one. low e (inr one)),
      l,
    )

pub plan-length : (papers want load : ℕ) (xs : List Pair) → IsPlan papers want load xs
    → ((e : Pair) → IsOne e xs → e.paper < papers) → length xs ≡ want * papers
plan-length papers want load xs plan low =
    sym (counted papers xs low) ∙ each-below (λ q. count_by (of_paper q) xs) want papers plan.full

-- ---- what a plan weighs

bid-is : (w : ℤ) → negsuc 19 ≤ℤ w → pos (bid_of w) ≡ (w +ℤ pos 20)
bid-is (pos n) h = omega (arith, ints)
bid-is (negsuc n) h = omega (arith, ints, h)

sum-of : (f : Pair → PlanPair) → ((e : Pair) → (f e).bid ≡ bid_of e.weight) → (xs : List Pair)
    → ((e : Pair) → IsOne e xs → negsuc 19 ≤ℤ e.weight)
    → pos (bid_sum (map f xs)) ≡ (total_weight xs +ℤ pos (20 * length xs))
sum-of f is [] weighs = refl
sum-of f is (x ∷ xs) weighs =
    let l : length (x ∷ xs) ≡ suc (length xs) = refl in
    let s : bid_sum (map f (x ∷ xs)) ≡ (f x).bid + bid_sum (map f xs) = refl in
    let w : total_weight (x ∷ xs) ≡ (x.weight +ℤ total_weight xs) = refl in
    omega (
      arith,
      ints,
      l,
      s,
      w,
      is x,
      bid-is x.weight (weighs x (inl refl)),
      sum-of f is xs (λ e one. weighs e (inr one)),
    )

-- ---- the best plan

module _ (problem : Problem) (papers : List ℕ) (members : List AccountLine) (asked : IsProblem problem)
    (papers_are : problem.papers ≡ length papers) (members_are : problem.members ≡ length members)
    (rising : IsRising papers) (users : IsRising (map (λ (a : AccountLine). a.user) members)) where
  abbrev es : List Pair
  es = problem.pairs.items

  abbrev f : Pair → PlanPair
  f = told papers members

  abbrev test : List Pair → Bool
  test p = is_plan papers members problem.per_paper problem.load (map f p)

  abbrev sum : List Pair → ℕ
  sum p = bid_sum (map f p)

  abbrev passing : List (List Pair)
  passing = filter test (choices es)

  abbrev best : Option (List PlanPair)
  best = first_greatest (filter (is_plan papers members problem.per_paper problem.load) (choices (map f es)))

  reduced : best ≡ option_map (map f) (first_most sum passing)
  reduced =
      ap (λ (plans : List (List PlanPair)). first_greatest
      (filter (is_plan papers members problem.per_paper problem.load) plans)) (choices-map f es)
      ∙ ap first_greatest (filter-map (is_plan papers members problem.per_paper problem.load) (map f) (choices es))
      ∙ greatest-map f passing

  -- plans of the problem are inside, and are the choices that pass
  inside : (p : List Pair) (bs : List Bool) → p ≡ kept bs es → (e : Pair) → IsOne e p → (e.paper < length papers)
      × (e.member < length members)
  inside p bs is e one =
      let low =
      inside-kept problem.papers problem.members bs es asked.inside e (subst (λ (q : List Pair). IsOne e q) is one) in
      (omega (arith, low.0, papers_are), omega (arith, low.1, members_are))

  plan-of : (p : List Pair) → IsOne p passing → IsPlanOf problem p
  plan-of p one =
      let passes = one-filtered test p (choices es) one in
      let made = choice-marks es p passes.1 in
      record {
        marks = made.0;
        some = made.1;
        fits = subst (λ (n : ℕ). IsPlan n problem.per_paper problem.load p) (sym papers_are)
            (told-plan papers members rising users problem.per_paper problem.load p (inside p made.0 made.1) passes.0);
      }

  passing-of : (p : List Pair) → IsPlanOf problem p → IsOne p passing
  passing-of p plan =
      one-filter test p (choices es)
      (plan-told papers members rising users problem.per_paper problem.load p (inside p plan.marks plan.some)
      (subst (λ (n : ℕ). IsPlan n problem.per_paper problem.load p) papers_are plan.fits))
      (subst (λ (q : List Pair). IsOne q (choices es)) (sym plan.some) (marks-choice es plan.marks))

  long : (p : List Pair) → IsPlanOf problem p → length p ≡ problem.per_paper * problem.papers
  long p plan =
      plan-length problem.papers problem.per_paper problem.load p plan.fits
      (λ e one. let low = inside p plan.marks plan.some e one in omega (arith, low.0, papers_are))

  sums : (p : List Pair) → IsPlanOf problem p
      → pos (sum p) ≡ (total_weight p +ℤ pos (20 * (problem.per_paper * problem.papers)))
  sums p plan =
      sum-of f (λ e. refl) p
      (λ e one. weighs-kept problem.papers problem.members plan.marks es asked.inside e
      (subst (λ (q : List Pair). IsOne e q) plan.some one))
      ∙ ap (λ (n : ℕ). total_weight p +ℤ pos (20 * n)) (long p plan)

  -- the answered plan is the best one
  pub best-is : (pairs : List Pair) (weight : ℤ) (prices : Prices) → IsGreatest problem pairs weight prices
      → IsFirst problem pairs → IsAscending es → best ≡ Some (map f pairs)
  best-is pairs weight prices greatest first asc =
      let there = some-best sum Before passing pairs (passing-of pairs greatest.plan) in
      let of = best-of sum Before passing (order-filter Before test (choices es) (choices-order es asc)) there.0
      there.1 in
      reduced
      ∙ ap (option_map (map f)) (there.1 ∙ ap (λ (p : List Pair). Some p)
      (same there.0 (plan-of there.0 of.one) (of.all pairs (passing-of pairs greatest.plan))))
    where
      same : (x : List Pair) → IsPlanOf problem x
          → (sum pairs < sum x) ⊎ ((sum pairs ≡ sum x) × ((pairs ≡ x) ⊎ Before x pairs)) → x ≡ pairs
      same x plan (inl lower) =
          absurd
          (omega (
            arith,
            ints,
            lower,
            greatest.greatest x plan,
            greatest.sum_is,
            sums x plan,
            sums pairs greatest.plan,
          ))
      same x plan (inr level) = by level.1 (first x plan equal)
        where
          equal : total_weight x ≡ total_weight pairs
          equal = omega (arith, ints, level.0, sums x plan, sums pairs greatest.plan)

          by : ((pairs ≡ x) ⊎ Before x pairs) → ((x ≡ pairs) ⊎ IsBefore pairs x) → x ≡ pairs
          by (inl is) other = sym is
          by (inr before) (inl is) = is
          by (inr before) (inr back) =
              absurd (not-both x pairs (before (long x plan ∙ sym (long pairs greatest.plan))) back)

  -- and where papers show that there is none, there is none
  pub none-is : (s : List ℕ) → HasNoPlan problem s → best ≡ None
  none-is s lacks =
      reduced ∙ ap (option_map (map f)) (no-best sum Before passing (λ p one. lacks.none p (plan-of p one)))
