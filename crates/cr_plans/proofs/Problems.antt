-- SPDX-License-Identifier: Apache-2.0 OR MIT
-- The pairs of places: they are inside, they ascend, and they stand for the pairs that are planned.
use Rattle.std.proofs.Common.{◌≡◌, ◌≢◌, ◌⊎◌, inl, inr, ℕ, zero, suc, ◌+◌, ◌≤◌, ◌<◌, ◌-◌, ◌*◌, Bool, true, false, cond, List}
use Rattle.std.proofs.Common.{[], ◌∷◌, ◌++◌, length, length-append, get_or, map, Option, refl, arith, ap, sym, ◌∙◌}
use Rattle.std.proofs.Common.{subst, ℤ, pos, negsuc, add-zero, zero-add, suc-mul}
use Rattle.std.specs.Prelude.{filter, slice_index, slice_index_or}
use Rattle.std.specs.List.{flat_map}
use Rattle.std.proofs.lemmas.Int.{ints}
use Rattle.cr_base.specs.declared.reply.AccountLine.{AccountLine}
use Rattle.cr_base.specs.Plans.{PlanPair, bid_by, is_free_for, pairs_of_paper, planned_members}
use Rattle.cr_base.specs.Sources.{Facts, Shown, facts_of_tables, shown_in_tables}
use Rattle.cr_base.specs.Tables.{Tables}
use Rattle.cr_match.specs.declared.problem.Pair.{Pair}
use Rattle.cr_match.specs.declared.problem.Problem.{Problem}
use Rattle.cr_match.specs.Answer.{AreDistinct, AreInside, Ascends, ComesAfter, IsApart, IsAscending, IsAsked, IsProblem}
use Rattle.cr_plans.specs.Pairing.{AllWeigh, IsProblemOf, no_line, pair_at, pairs_at, pairs_of_place, weight_of}

-- ---- weights

pub weigh-append : (xs ys : List Pair) → AllWeigh xs → AllWeigh ys → AllWeigh (xs ++ ys)
weigh-append [] ys h k = k
weigh-append (x ∷ xs) ys h k = (h.0, h.1, weigh-append xs ys h.2 k)

weigh-front : (xs ys : List Pair) → AllWeigh (xs ++ ys) → AllWeigh xs
weigh-front [] ys h = tt
weigh-front (x ∷ xs) ys h = (h.0, h.1, weigh-front xs ys h.2)

weigh-back : (xs ys : List Pair) → AllWeigh (xs ++ ys) → AllWeigh ys
weigh-back [] ys h = h
weigh-back (x ∷ xs) ys h = weigh-back xs ys h.2

-- ---- places

module _ (t : Tables) (papers_count members_count : ℕ) where
  inside-append : (xs ys : List Pair) → AreInside papers_count members_count xs
      → AreInside papers_count members_count ys
      → AreInside papers_count members_count (xs ++ ys)
  inside-append [] ys h k = k
  inside-append (x ∷ xs) ys h k = (h.0, h.1, h.2, h.3, inside-append xs ys h.4 k)

  inside-pair : (i p j user : ℕ) → i < papers_count → j < members_count → AllWeigh (pair_at t i p j user)
      → AreInside papers_count members_count (pair_at t i p j user)
  inside-pair i p j user low here = by (is_free_for (shown_in_tables t) p user)
    where
      pair : Pair
      pair = record { paper = i; member = j; weight = weight_of (bid_by (shown_in_tables t) p user) }

      by : (b : Bool) → AllWeigh (cond b (pair ∷ []) []) → AreInside papers_count members_count (cond b (pair ∷ []) [])
      by true h = (low, here, h.0, h.1, tt)
      by false h = tt

  inside-place : (i p j : ℕ) (members : List AccountLine) → i < papers_count → j + length members ≤ members_count
      → AllWeigh (pairs_of_place t i p j members)
      → AreInside papers_count members_count (pairs_of_place t i p j members)
  inside-place i p j [] low high h = tt
  inside-place i p j (a ∷ members) low high h =
      inside-append (pair_at t i p j a.user) (pairs_of_place t i p (j + 1) members)
      (inside-pair i p j a.user low (omega (arith, high, longer))
      (weigh-front (pair_at t i p j a.user) (pairs_of_place t i p (j + 1) members) h))
      (inside-place i p (j + 1) members low (omega (arith, high, longer))
      (weigh-back (pair_at t i p j a.user) (pairs_of_place t i p (j + 1) members) h))
    where
      longer : length (a ∷ members) ≡ suc (length members)
      longer = refl

  pub pairs-inside : (i : ℕ) (papers : List ℕ) (members : List AccountLine) → i + length papers ≤ papers_count
      → length members ≤ members_count
      → AllWeigh (pairs_at t i papers members) → AreInside papers_count members_count (pairs_at t i papers members)
  pairs-inside i [] members high wide h = tt
  pairs-inside i (p ∷ papers) members high wide h =
      inside-append (pairs_of_place t i p 0 members) (pairs_at t (i + 1) papers members)
      (inside-place i p 0 members (omega (arith, high, longer)) (omega (arith, wide))
      (weigh-front (pairs_of_place t i p 0 members) (pairs_at t (i + 1) papers members) h))
      (pairs-inside (i + 1) papers members (omega (arith, high, longer)) wide
      (weigh-back (pairs_of_place t i p 0 members) (pairs_at t (i + 1) papers members) h))
    where
      longer : length (p ∷ papers) ≡ suc (length papers)
      longer = refl

-- those that stand in such a list
pub inside-at : (papers_count members_count : ℕ) (es : List Pair) (i : ℕ) (d : Pair)
    → AreInside papers_count members_count es → i < length es
    → ((get_or es i d).paper < papers_count) × ((get_or es i d).member < members_count)
inside-at papers_count members_count [] i d h low = absurd (omega (arith, low, none))
  where
    none : length {A = Pair} [] ≡ 0
    none = refl
inside-at papers_count members_count (e ∷ es) zero d h low = (h.0, h.1)
inside-at papers_count members_count (e ∷ es) (suc i) d h low =
    inside-at papers_count members_count es i d h.4 (omega (arith, low, longer))
  where
    longer : length (e ∷ es) ≡ suc (length es)
    longer = refl

-- ---- order

-- e stands before the place of a paper and a member
abbrev StandsBefore : Pair → ℕ → ℕ → Type 0
StandsBefore e i j = (e.paper < i) ⊎ ((e.paper ≡ i) × (e.member < j))

module _ (t : Tables) where
  -- what is behind a paper's pairs comes after each pair of the paper or an earlier one
  abbrev IsBehind : ℕ → List Pair → Type 0
  IsBehind i rest = (g : Pair) → g.paper ≤ i → Ascends g rest

  on : (e : Pair) (i j : ℕ) → StandsBefore e i j → StandsBefore e i (j + 1)
  on e i j (inl less) = inl less
  on e i j (inr same) = inr (same.0, omega (arith, same.1))

  no_later : (e : Pair) (i j : ℕ) → StandsBefore e i j → e.paper ≤ i
  no_later e i j (inl less) = omega (arith, less)
  no_later e i j (inr same) = omega (arith, same.0)

  ascends-place : (i p j : ℕ) (members : List AccountLine) (rest : List Pair) → IsBehind i rest → (e : Pair)
      → StandsBefore e i j
      → Ascends e (pairs_of_place t i p j members ++ rest)
  ascends-place i p j [] rest behind e before = behind e (no_later e i j before)
  ascends-place i p j (a ∷ members) rest behind e before =
      by (is_free_for (shown_in_tables t) p a.user)
      (λ g h. ascends-place i p (j + 1) members rest behind g h)
    where
      pair : Pair
      pair = record { paper = i; member = j; weight = weight_of (bid_by (shown_in_tables t) p a.user) }

      more : List Pair
      more = pairs_of_place t i p (j + 1) members

      by : (b : Bool) → ((g : Pair) → StandsBefore g i (j + 1) → Ascends g (more ++ rest))
          → Ascends e ((cond b (pair ∷ []) [] ++ more) ++ rest)
      by true next = (before, next pair (inr (refl, omega arith)))
      by false next = next e (on e i j before)

  ascends-papers : (i : ℕ) (papers : List ℕ) (members : List AccountLine) (e : Pair) → e.paper < i
      → Ascends e (pairs_at t i papers members)
  ascends-papers i [] members e less = tt
  ascends-papers i (p ∷ papers) members e less =
      ascends-place i p 0 members (pairs_at t (i + 1) papers members)
      (λ g low. ascends-papers (i + 1) papers members g (omega (arith, low))) e (inl less)

  order-place : (i p j : ℕ) (members : List AccountLine) (rest : List Pair) → IsBehind i rest → IsAscending rest
      → IsAscending (pairs_of_place t i p j members ++ rest)
  order-place i p j [] rest behind asc = asc
  order-place i p j (a ∷ members) rest behind asc =
      by (is_free_for (shown_in_tables t) p a.user) (order-place i p (j + 1) members rest behind asc)
    where
      pair : Pair
      pair = record { paper = i; member = j; weight = weight_of (bid_by (shown_in_tables t) p a.user) }

      more : List Pair
      more = pairs_of_place t i p (j + 1) members

      by : (b : Bool) → IsAscending (more ++ rest) → IsAscending ((cond b (pair ∷ []) [] ++ more) ++ rest)
      by true next = ascends-place i p (j + 1) members rest behind pair (inr (refl, omega arith))
      by false next = next

  pub pairs-order : (i : ℕ) (papers : List ℕ) (members : List AccountLine) → IsAscending (pairs_at t i papers members)
  pairs-order i [] members = tt
  pairs-order i (p ∷ papers) members =
      order-place i p 0 members (pairs_at t (i + 1) papers members)
      (λ g low. ascends-papers (i + 1) papers members g (omega (arith, low)))
      (pairs-order (i + 1) papers members)

-- ---- what they stand for

-- the bid that a weight is, kept plus 20
abbrev pub bid_of : ℤ → ℕ
bid_of (pos n) = n + 20
bid_of (negsuc n) = 19 - n

bid-back : (b : ℕ) → bid_of (weight_of b) ≡ b
bid-back b = by (weight_of b) refl
  where
    by : (z : ℤ) → weight_of b ≡ z → bid_of z ≡ b
    by (pos n) is = omega (arith, ints, is)
    by (negsuc n) is = omega (arith, ints, is)

-- a pair of places over these papers and members, as the pair of a plan
abbrev pub told : List ℕ → List AccountLine → Pair → PlanPair
told papers members e = record {
  paper = slice_index papers e.paper;
  member = slice_index_or members e.member no_line;
  bid = bid_of e.weight;
}

module _ (t : Tables) (user : Option ℕ) (papers : List ℕ) where
  abbrev facts : Facts
  facts = facts_of_tables t user

  abbrev shown : Shown
  shown = shown_in_tables t

  abbrev members : List AccountLine
  members = planned_members facts

  abbrev made : ℕ → AccountLine → PlanPair
  made p a = record { paper = p; member = a; bid = bid_by shown p a.user }

  abbrev free : ℕ → AccountLine → Bool
  free p a = is_free_for shown p a.user

  told-place : (i p j : ℕ) (rest : List AccountLine) → get_or papers i 0 ≡ p
      → ((k : ℕ) → get_or members (j + k) no_line ≡ get_or rest k no_line)
      → map (told papers members) (pairs_of_place t i p j rest) ≡ map (made p) (filter (free p) rest)
  told-place i p j [] here at = refl
  told-place i p j (a ∷ rest) here at =
      by (is_free_for shown p a.user) (told-place i p (j + 1) rest here
      (λ k. ap (λ (n : ℕ). get_or members n no_line) (behind k) ∙ at (suc k)))
    where
      pair : Pair
      pair = record { paper = i; member = j; weight = weight_of (bid_by shown p a.user) }

      behind : (k : ℕ) → j + 1 + k ≡ j + suc k
      behind k = omega arith

      none : j + 0 ≡ j
      none = omega arith

      member : get_or members j no_line ≡ a
      member = ap (λ (n : ℕ). get_or members n no_line) (sym none) ∙ at 0

      same : told papers members pair ≡ made p a
      same = λ k. record { paper = here k; member = member k; bid = bid-back (bid_by shown p a.user) k }

      by : (b : Bool) → map (told papers members) (pairs_of_place t i p (j + 1) rest)
          ≡ map (made p) (filter (free p) rest)
          → map (told papers members) (cond b (pair ∷ []) [] ++ pairs_of_place t i p (j + 1) rest)
          ≡ map (made p) (cond b (a ∷ filter (free p) rest) (filter (free p) rest))
      by true next = λ k. same k ∷ next k
      by false next = next

  map-append : (f : Pair → PlanPair) (xs ys : List Pair) → map f (xs ++ ys) ≡ map f xs ++ map f ys
  map-append f [] ys = refl
  map-append f (x ∷ xs) ys = ap (λ (zs : List PlanPair). f x ∷ zs) (map-append f xs ys)

  told-papers : (i : ℕ) (rest : List ℕ) → ((k : ℕ) → get_or papers (i + k) 0 ≡ get_or rest k 0)
      → map (told papers members) (pairs_at t i rest members) ≡ flat_map (pairs_of_paper facts shown) rest
  told-papers i [] at = refl
  told-papers i (p ∷ rest) at =
      let first : map (told papers members) (pairs_of_place t i p 0 members) ≡ pairs_of_paper facts shown p =
      told-place i p 0 members (ap (λ (n : ℕ). get_or papers n 0) (sym (add-zero i)) ∙ at 0)
      (λ k. ap (λ (n : ℕ). get_or members n no_line) (zero-add k)) in
      let others : map (told papers members) (pairs_at t (i + 1) rest members) ≡ flat_map (pairs_of_paper facts shown)
      rest =
      told-papers (i + 1) rest (λ k. ap (λ (n : ℕ). get_or papers n 0) (behind i k) ∙ at (suc k)) in
      map-append (told papers members) (pairs_of_place t i p 0 members) (pairs_at t (i + 1) rest members)
      ∙ (λ k. first k ++ others k)
    where
      behind : (i k : ℕ) → i + 1 + k ≡ i + suc k
      behind i k = omega arith

  pub told-all : map (told papers members) (pairs_at t 0 papers members) ≡ flat_map (pairs_of_paper facts shown) papers
  told-all = told-papers 0 papers (λ k. ap (λ (n : ℕ). get_or papers n 0) (zero-add k))

-- ---- how many there are

module _ (t : Tables) where
  few-place : (i p j : ℕ) (members : List AccountLine) → length (pairs_of_place t i p j members) ≤ length members
  few-place i p j [] = omega arith
  few-place i p j (a ∷ members) = by (is_free_for (shown_in_tables t) p a.user) (few-place i p (j + 1) members)
    where
      pair : Pair
      pair = record { paper = i; member = j; weight = weight_of (bid_by (shown_in_tables t) p a.user) }

      more : List Pair
      more = pairs_of_place t i p (j + 1) members

      one_more : length (a ∷ members) ≡ suc (length members)
      one_more = refl

      by : (b : Bool) → length more ≤ length members → length (cond b (pair ∷ []) [] ++ more) ≤ length (a ∷ members)
      by true h = let l : length (pair ∷ more) ≡ suc (length more) = refl in omega (arith, h, l, one_more)
      by false h = omega (arith, h, one_more)

  pub pairs-few : (i : ℕ) (papers : List ℕ) (members : List AccountLine)
      → length (pairs_at t i papers members) ≤ length papers * length members
  pairs-few i [] members = omega arith
  pairs-few i (p ∷ papers) members =
      let l : length (pairs_of_place t i p 0 members ++ pairs_at t (i + 1) papers members)
      ≡ length (pairs_of_place t i p 0 members) + length (pairs_at t (i + 1) papers members) =
      length-append (pairs_of_place t i p 0 members) (pairs_at t (i + 1) papers members) in
      let m : length (p ∷ papers) * length members ≡ length papers * length members + length members =
      suc-mul (length papers) (length members) in
      omega (arith, l, m, few-place i p 0 members, pairs-few (i + 1) papers members)

-- pairs that ascend are distinct

comes-on : (e f g : Pair) → ComesAfter e f → ComesAfter f g → ComesAfter e g
comes-on e f g (inl a) (inl b) = inl (omega (arith, a, b))
comes-on e f g (inl a) (inr b) = inl (omega (arith, a, b.0))
comes-on e f g (inr a) (inl b) = inl (omega (arith, a.0, b))
comes-on e f g (inr a) (inr b) = inr (a.0 ∙ b.0, omega (arith, a.1, b.1))

comes-apart : (e f : Pair) → ComesAfter e f → (f.paper ≢ e.paper) ⊎ (f.member ≢ e.member)
comes-apart e f (inl a) = inl (λ i. absurd (omega (arith, a, i)))
comes-apart e f (inr a) = inr (λ i. absurd (omega (arith, a.1, i)))

ascends-apart : (e f : Pair) (es : List Pair) → ComesAfter e f → Ascends f es → IsApart e es
ascends-apart e f [] c h = tt
ascends-apart e f (g ∷ gs) c h =
    let d : ComesAfter e g = comes-on e f g c h.0 in (comes-apart e g d, ascends-apart e g gs d h.1)

first-apart : (e : Pair) (es : List Pair) → Ascends e es → IsApart e es
first-apart e [] h = tt
first-apart e (f ∷ fs) h = (comes-apart e f h.0, ascends-apart e f fs h.0 h.1)

ascends-distinct : (e : Pair) (es : List Pair) → Ascends e es → AreDistinct (e ∷ es)
ascends-distinct e [] h = (tt, tt)
ascends-distinct e (f ∷ fs) h = (first-apart e (f ∷ fs) h, ascends-distinct f fs h.1)

ascending-distinct : (es : List Pair) → IsAscending es → AreDistinct es
ascending-distinct [] h = tt
ascending-distinct (e ∷ es) h = ascends-distinct e es h

-- ---- it may be asked

pub asked-of : (t : Tables) (papers : List ℕ) (members : List AccountLine) (per_paper : ℕ) → length papers ≤ 9999
    → length members ≤ 9999
    → per_paper ≤ 26 → per_paper * length papers ≤ 512 → length papers * length members ≤ 4096
    → AllWeigh (pairs_at t 0 papers members)
    → IsAsked (length papers) (length members) per_paper (pairs_at t 0 papers members)
asked-of t papers members per_paper few_papers few_members low places grid weigh = record {
  places = places;
  grid = grid;
  sides = (omega (arith, few_papers), omega (arith, few_members), omega (arith, low));
  few = omega (arith, pairs-few t 0 papers members, grid);
  inside = pairs-inside t (length papers) (length members) 0 papers members (omega arith) (omega arith) weigh;
  distinct = ascending-distinct (pairs_at t 0 papers members) (pairs-order t 0 papers members);
}

-- ---- the problem that is made of these parts

module _ (t : Tables) (papers : List ℕ) (members : List AccountLine) (per_paper load : ℕ) (ps ms k l : ℕ)
    (pairs : List Pair)
    (ps-is : ps ≡ length papers) (ms-is : ms ≡ length members) (k-is : k ≡ per_paper) (l-is : l ≡ load)
    (pairs-are : pairs ≡ pairs_at t 0 papers members) where
  pub parts-asked : IsAsked (length papers) (length members) per_paper (pairs_at t 0 papers members)
      → IsAsked ps ms k pairs
  parts-asked h =
      subst (λ (n : ℕ). IsAsked n ms k pairs) (sym ps-is)
      (subst (λ (n : ℕ). IsAsked (length papers) n k pairs) (sym ms-is)
      (subst (λ (n : ℕ). IsAsked (length papers) (length members) n pairs) (sym k-is)
      (subst (λ (es : List Pair). IsAsked (length papers) (length members) per_paper es) (sym pairs-are) h)))

  pub problem-is : (problem : Problem)
      → IsProblem problem × (problem.papers ≡ ps) × (problem.members ≡ ms) × (problem.per_paper ≡ k)
      × (problem.load ≡ l) × (problem.pairs.items ≡ pairs)
      → IsProblemOf t papers members per_paper load problem
  problem-is problem h = record {
    asked = h.0;
    papers_are = h.1 ∙ ps-is;
    members_are = h.2 ∙ ms-is;
    places = h.3 ∙ k-is;
    load_is = h.4 ∙ l-is;
    pairs_are = h.5 ∙ pairs-are;
  }

-- its pairs stand in order
pub problem-ascends : (t : Tables) (papers : List ℕ) (members : List AccountLine) (per_paper load : ℕ) (problem : Problem)
    → IsProblemOf t papers members per_paper load problem → IsAscending problem.pairs.items
problem-ascends t papers members per_paper load problem h =
    subst (λ (es : List Pair). IsAscending es) (sym h.pairs_are) (pairs-order t 0 papers members)
