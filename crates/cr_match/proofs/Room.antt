-- SPDX-License-Identifier: Apache-2.0 OR MIT
-- Totals below a number, how many pairs a place has, and papers for which the members have too little room.
use Rattle.cr_match.proofs.Common.{get_or, All, All-cons, All-head, All-nil, All-tail, AreInside, Bool, DistinctBelow}
use Rattle.cr_match.proofs.Common.{IsPlan, IsTooMuch, List, Pair, among, ap, arith, cases_eq, count_by, false, inl, inr}
use Rattle.cr_match.proofs.Common.{joins, kept, length, map, min, nat_tests, of_member, of_paper, refl, suc, sum_by}
use Rattle.cr_match.proofs.Common.{sum_by-cons, sym, total_below, true, zero, ℕ, ◌&&◌, ◌*◌, ◌+◌, ◌<◌, ◌==◌, ◌∙◌, ◌∷◌}
use Rattle.cr_match.proofs.Common.{◌≡◌, ◌≢◌, ◌≤◌, ◌≤ℤ◌, negsuc, pos, []}
use Rattle.cr_match.proofs.Sums.{bit, count_cons, elsewhere, here}

-- totals below a number

pub same_total : (f g : ℕ → ℕ) (n : ℕ) → ((q : ℕ) → q < n → f q ≡ g q) → total_below f n ≡ total_below g n
same_total f g zero h = refl
same_total f g (suc n) h =
    let e = h n (omega arith) in omega (arith, e, same_total f g n (λ q l. h q (omega (arith, l))))

pub total_below_same : (f g : ℕ → ℕ) (n : ℕ) → ((q : ℕ) → f q ≡ g q) → total_below f n ≡ total_below g n
total_below_same f g n h = same_total f g n (λ q _. h q)

pub total_le : (f g : ℕ → ℕ) (n : ℕ) → ((q : ℕ) → q < n → f q ≤ g q) → total_below f n ≤ total_below g n
total_le f g zero h = omega arith
total_le f g (suc n) h =
    let e = h n (omega arith) in omega (arith, e, total_le f g n (λ q l. h q (omega (arith, l))))

pub total_below_add : (f g : ℕ → ℕ) (n : ℕ) → total_below (λ q. f q + g q) n ≡ total_below f n + total_below g n
total_below_add f g zero = refl
total_below_add f g (suc n) = omega (arith, total_below_add f g n)

pub total_below_none : (n : ℕ) → total_below (λ q. 0) n ≡ 0
total_below_none zero = refl
total_below_none (suc n) = omega (arith, total_below_none n)

-- one place differs
pub changed_total : (f g : ℕ → ℕ) (r n : ℕ) → r < n → ((q : ℕ) → q < n → q ≢ r → f q ≡ g q)
    → total_below f n + g r ≡ total_below g n + f r
changed_total f g r zero lt h = absurd (omega (arith, lt))
changed_total f g r (suc n) lt h = elim (cases_eq n r) [
  | inl e ↦ let same = same_total f g n (λ q l. h q (omega (arith, l)) (λ eq. absurd (omega (arith, l, eq, e)))) in
      omega (arith, same, ap f e, ap g e)
  | inr ne ↦ let e = h n (omega arith) ne in
      omega (arith, changed_total f g r n (omega (arith, lt, ne)) (λ q l. h q (omega (arith, l))), e)
]

abbrev pub one_at : ℕ → ℕ → ℕ
one_at r q = bit (r == q)

pub total_below_one : (r n : ℕ) → r < n → total_below (one_at r) n ≡ 1
total_below_one r n lt =
    omega (
      arith,
      changed_total (one_at r) (λ _. 0) r n lt (λ q _ ne. elsewhere r q (λ e. ne (sym e))),
      here r r refl,
      total_below_none n,
    )

-- counts of pairs

pub count_le : (f g : Pair → Bool) (es : List Pair) → All (λ e. f e ≡ true → g e ≡ true) es
    → count_by f es ≤ count_by g es
count_le f g [] h = omega arith
count_le f g (e ∷ es) h =
    omega (
      arith,
      count_cons f e es,
      count_cons g e es,
      one (f e) (g e) (All-head (λ x. f x ≡ true → g x ≡ true) e es h),
      count_le f g es (All-tail (λ x. f x ≡ true → g x ≡ true) e es h),
    )
  where
    one : (b c : Bool) → (b ≡ true → c ≡ true) → bit b ≤ bit c
    one true c h = omega (arith, ap bit (h refl))
    one false c h = omega arith

-- of those that are kept
pub count_kept : (h f : Pair → Bool) (es : List Pair) → count_by f (kept (map h es) es) ≡ count_by (λ e. h e && f e) es
count_kept h f [] = refl
count_kept h f (e ∷ es) = omega (arith, one (h e), count_cons (λ x. h x && f x) e es, count_kept h f es)
  where
    one : (b : Bool) → count_by f (kept (b ∷ map h es) (e ∷ es)) ≡ bit (b && f e) + count_by f (kept (map h es) es)
    one true = count_cons f e (kept (map h es) es)
    one false = omega arith

pub count_kept_le : (f : Pair → Bool) (cs : List Bool) (es : List Pair) → count_by f (kept cs es) ≤ count_by f es
count_kept_le f [] es = omega arith
count_kept_le f (c ∷ cs) [] = omega arith
count_kept_le f (true ∷ cs) (e ∷ es) =
    omega (arith, count_cons f e es, count_cons f e (kept cs es), count_kept_le f cs es)
count_kept_le f (false ∷ cs) (e ∷ es) = omega (arith, count_cons f e es, count_kept_le f cs es)

pub kept_all : (P : Pair → Type 0) (cs : List Bool) (es : List Pair) → All P es → All P (kept cs es)
kept_all P [] es h = All-nil P
kept_all P (c ∷ cs) [] h = All-nil P
kept_all P (true ∷ cs) (e ∷ es) h = All-cons P e (kept cs es) (All-head P e es h) (kept_all P cs es (All-tail P e es h))
kept_all P (false ∷ cs) (e ∷ es) h = kept_all P cs es (All-tail P e es h)

-- each pair within bounds
abbrev pub IsWithin : ℕ → ℕ → Pair → Type 0
IsWithin papers members e = (e.paper < papers) × (e.member < members) × (negsuc 19 ≤ℤ e.weight) × (e.weight ≤ℤ pos 20)

pub inside_all : (papers members : ℕ) (es : List Pair) → AreInside papers members es → All (IsWithin papers members) es
inside_all papers members [] h = All-nil (IsWithin papers members)
inside_all papers members (e ∷ es) h =
    All-cons (IsWithin papers members) e es (h.0, h.1, h.2, h.3) (inside_all papers members es h.4)

pick : (b : Bool) (r n : ℕ) → r < n → total_below (λ m. bit (b && (r == m))) n ≡ bit b
pick true r n lt = total_below_one r n lt
pick false r n lt = total_below_none n

-- each pair has one place
pub by_place : (f : Pair → Bool) (place : Pair → ℕ) (n : ℕ) (es : List Pair) → All (λ e. place e < n) es
    → total_below (λ k. count_by (λ e. f e && (place e == k)) es) n ≡ count_by f es
by_place f place n [] h = total_below_none n
by_place f place n (e ∷ es) h =
    omega (
      arith,
      total_below_same (λ k. count_by (λ x. f x && (place x == k)) (e ∷ es))
          (λ k. bit (f e && (place e == k)) + count_by (λ x. f x && (place x == k)) es) n
          (λ k. count_cons (λ x. f x && (place x == k)) e es),
      total_below_add (λ k. bit (f e && (place e == k))) (λ k. count_by (λ x. f x && (place x == k)) es) n,
      pick (f e) (place e) n (All-head (λ x. place x < n) e es h),
      by_place f place n es (All-tail (λ x. place x < n) e es h),
      count_cons f e es,
    )

-- a paper that is not among the others adds its own pairs

pick_one : (x : ℕ) (s : List ℕ) (q : ℕ) → among s x ≡ false → bit (among (x ∷ s) q) ≡ bit (q == x) + bit (among s q)
pick_one x s q h = elim (cases_eq q x) [
  | inl e ↦ let none : among s q ≡ false = ap (among s) e ∙ h in grind (arith, nat_tests)
  | inr ne ↦ grind (arith, nat_tests)
]

-- pairs of papers none of which stands twice, paper by paper
pub count_among : (papers : ℕ) (s : List ℕ) (es : List Pair) → DistinctBelow papers s
    → count_by (λ e. among s e.paper) es ≡ sum_by (λ q. count_by (of_paper q) es) s
count_among papers [] es d = none es
  where
    none : (es : List Pair) → count_by (λ e. false) es ≡ 0
    none [] = refl
    none (e ∷ es) = omega (arith, count_cons (λ e. false) e es, none es)
count_among papers (x ∷ s) es d =
    omega (arith, more es, count_among papers s es d.2, sum_by-cons (λ q. count_by (of_paper q) es) x s)
  where
    more : (es : List Pair)
        → count_by (λ e. among (x ∷ s) e.paper) es ≡ count_by (of_paper x) es + count_by (λ e. among s e.paper) es
    more [] = refl
    more (e ∷ es) =
        omega (
          arith,
          count_cons (λ e. among (x ∷ s) e.paper) e es,
          count_cons (of_paper x) e es,
          count_cons (λ e. among s e.paper) e es,
          more es,
          pick_one x s e.paper d.1,
        )

times_length : (want x : ℕ) (s : List ℕ) → want * length (x ∷ s) ≡ want + want * length s
times_length want x s = let l : length (x ∷ s) ≡ suc (length s) = refl in ap (λ n. want * n) l ∙ omega arith

pub sum_full : (papers want : ℕ) (f : ℕ → ℕ) (s : List ℕ) → DistinctBelow papers s → ((q : ℕ) → q < papers → f q ≡ want)
    → sum_by f s ≡ want * length s
sum_full papers want f [] d h = omega arith
sum_full papers want f (x ∷ s) d h =
    omega (arith, times_length want x s, sum_by-cons f x s, h x d.0, sum_full papers want f s d.2 h)

sum_most : (want : ℕ) (f : ℕ → ℕ) (s : List ℕ) → ((q : ℕ) → f q ≤ want) → sum_by f s ≤ want * length s
sum_most want f [] h = omega arith
sum_most want f (x ∷ s) h = omega (arith, times_length want x s, sum_by-cons f x s, h x, sum_most want f s h)

pub sum_less : (want : ℕ) (f : ℕ → ℕ) (s : List ℕ) (r : ℕ) → ((q : ℕ) → f q ≤ want) → among s r ≡ true → f r < want
    → sum_by f s < want * length s
sum_less want f [] r h has less = absurd (let c = has in cc)
sum_less want f (x ∷ s) r h has less = elim (cases_eq r x) [
  | inl e ↦ omega (arith, times_length want x s, sum_by-cons f x s, ap f e, less, sum_most want f s h)
  | inr ne ↦ let rest : among s r ≡ true = grind (arith, nat_tests) in
      omega (arith, times_length want x s, sum_by-cons f x s, h x, sum_less want f s r h rest less)
]

joins_member : (s : List ℕ) (m : ℕ) (e : Pair) → joins s m e ≡ true → of_member m e ≡ true
joins_member s m e h = grind arith

-- too little room refutes every plan
pub too_much-no_plan : (papers members want load : ℕ) (s : List ℕ) (pairs : List Pair) (marks : List Bool)
    → AreInside papers members pairs → IsTooMuch papers members want load s pairs
    → IsPlan papers want load (kept marks pairs) → ⊥
too_much-no_plan papers members want load s pairs marks inside much plan =
    let each : (m : ℕ) → m < members → count_by (joins s m) (kept marks pairs) ≤ min load (count_by (joins s m) pairs) =
    λ m _. omega (
      arith,
      plan.light m,
      count_kept_le (joins s m) marks pairs,
      count_le (joins s m) (of_member m) (kept marks pairs) (λ k d _. joins_member s m (get_or (kept marks pairs) k d)),
    ) in
    absurd (omega (
      arith,
      much.short,
      count_among papers s (kept marks pairs) much.distinct,
      sum_full papers want (λ q. count_by (of_paper q) (kept marks pairs)) s much.distinct plan.full,
      by_place (λ e. among s e.paper) (λ e. e.member) members (kept marks pairs)
          (kept_all (λ e. e.member < members) marks pairs (λ k d l. (inside_all papers members pairs inside k d l).1)),
      total_le (λ m. count_by (joins s m) (kept marks pairs)) (λ m. min load (count_by (joins s m) pairs)) members each,
    ))

-- and so it is where a choice of pairs has all that its members can take of the papers, and one of these lacks members
pub is_too_much : (papers members want load : ℕ) (s : List ℕ) (es : List Pair) (h : Pair → Bool) (r : ℕ)
    → AreInside papers members es → DistinctBelow papers s
    → ((q : ℕ) → count_by (of_paper q) (kept (map h es) es) ≤ want) → among s r ≡ true
    → count_by (of_paper r) (kept (map h es) es) < want
    → ((m : ℕ) → m < members → min load (count_by (joins s m) es) ≤ count_by (joins s m) (kept (map h es) es))
    → IsTooMuch papers members want load s es
is_too_much papers members want load s es h r inside distinct most has less room = record {
  distinct = distinct;
  short = omega (
    arith,
    total_le (λ m. min load (count_by (joins s m) es)) (λ m. count_by (joins s m) (kept (map h es) es)) members room,
    by_place (λ e. among s e.paper) (λ e. e.member) members (kept (map h es) es)
        (kept_all (λ e. e.member < members) (map h es) es (λ k d l. (inside_all papers members es inside k d l).1)),
    count_among papers s (kept (map h es) es) distinct,
    sum_less want (λ q. count_by (of_paper q) (kept (map h es) es)) s r most has less,
  );
}
