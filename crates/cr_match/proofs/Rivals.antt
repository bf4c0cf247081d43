-- SPDX-License-Identifier: Apache-2.0 OR MIT
-- Plans of the same pairs: none is worth more than one that suits prices, and what a plan lacks that no search can
-- bring in, none has that is worth as much and the same before.
use Rattle.cr_match.proofs.Common.{suc, zero, inl, inr, cases_lt, All, AreInside, Bool, IsPlan, List, Pair, above, ap}
use Rattle.cr_match.proofs.Common.{arith, bound, cond, count_by, excess, false, get_or, ints, kept, length, map, negsuc}
use Rattle.cr_match.proofs.Common.{of_member, of_paper, pos, refl, All-head, All-tail, subst, sum_by, sum_by-cons, sym}
use Rattle.cr_match.proofs.Common.{total_weight, true, ℕ, ℤ, ◌+ℤ◌, ◌+◌, ◌-ℤ◌, ◌-◌, ◌<◌, ◌∙◌, ◌∷◌, ◌≡◌, ◌≤ℤ◌, ◌≤◌, []}
use Rattle.cr_match.proofs.Room.{inside_all, kept_all}
use Rattle.cr_match.specs.Settle.{IsTurned, NoneBefore, SameTo, nth, zero_pair}
use Rattle.cr_match.proofs.Sums.{Suits, gain, gain_add, gain_cons, gain_first, gain_length, gain_most, paid, spread}
use Rattle.cr_match.proofs.Sums.{spread_le, spread_load, spread_same, spread_whole}

-- the prices of a pair
abbrev pub price_at : (ℕ → ℤ) → (ℕ → ℕ) → Pair → ℤ
price_at a b e = a e.paper +ℤ pos (b e.member)

-- what it weighs above them
abbrev pub gap_at : (ℕ → ℤ) → (ℕ → ℕ) → Pair → ℤ
gap_at a b e = e.weight -ℤ price_at a b e

weight_is : (a : ℕ → ℤ) (b : ℕ → ℕ) (es : List Pair)
    → total_weight es ≡ (gain (gap_at a b) es +ℤ gain (price_at a b) es)
weight_is a b [] = refl
weight_is a b (e ∷ es) = omega (arith, ints, weight_is a b es)

-- members with a price have their load
abbrev pub ArePriced : ℕ → ℕ → (ℕ → ℕ) → List Pair → Type 0
ArePriced members load b plan = (m : ℕ) → m < members → 0 < b m → count_by (of_member m) plan ≡ load

-- what a plan pays
plan_pays : (papers members want load : ℕ) (a : ℕ → ℤ) (b : ℕ → ℕ) (es : List Pair) (cs : List Bool)
    → AreInside papers members es → gain (price_at a b) (kept cs es)
    ≡ (spread a (λ q. count_by (of_paper q) (kept cs es)) papers
    +ℤ spread (λ m. pos (b m)) (λ m. count_by (of_member m) (kept cs es)) members)
plan_pays papers members want load a b es cs inside =
    omega (
      arith,
      ints,
      gain_add (λ e. a e.paper) (λ e. pos (b e.member)) (kept cs es),
      paid a (λ e. e.paper) papers (kept cs es)
          (kept_all (λ e. e.paper < papers) cs es (λ k d l. (inside_all papers members es inside k d l).0)),
      paid (λ m. pos (b m)) (λ e. e.member) members (kept cs es)
          (kept_all (λ e. e.member < members) cs es (λ k d l. (inside_all papers members es inside k d l).1)),
    )

module _ (papers members want load : ℕ) (es : List Pair) (h : Pair → Bool) (inside : AreInside papers members es)
    (plan : IsPlan papers want load (kept (map h es) es)) where
  module _ (cs : List Bool) (other : IsPlan papers want load (kept cs es)) (a : ℕ → ℤ) (b : ℕ → ℕ)
      (priced : ArePriced members load b (kept (map h es) es)) where
    pays_no_more : gain (price_at a b) (kept cs es) ≤ℤ gain (price_at a b) (kept (map h es) es)
    pays_no_more = omega (
      arith,
      ints,
      plan_pays papers members want load a b es cs inside,
      plan_pays papers members want load a b es (map h es) inside,
      spread_same a (λ q. count_by (of_paper q) (kept cs es)) (λ q. count_by (of_paper q) (kept (map h es) es)) papers
          (λ q lq. other.full q lq ∙ sym (plan.full q lq)),
      spread_le b (λ m. count_by (of_member m) (kept cs es)) (λ m. count_by (of_member m) (kept (map h es) es)) members
          (λ m lm some. omega (arith, other.light m, priced m lm some)),
    )

    pub worth_most : All (Suits (gap_at a b) h) es → total_weight (kept cs es) ≤ℤ total_weight (kept (map h es) es)
    worth_most suits = omega (
      arith,
      ints,
      weight_is a b (kept cs es),
      weight_is a b (kept (map h es) es),
      gain_most (gap_at a b) h es cs suits,
      pays_no_more,
    )

    worth_less : (i : ℕ) → i < length es → SameTo h es cs i → get_or cs i false ≡ true → h (nth es i) ≡ false
        → (gap_at a b (nth es i) +ℤ pos 1) ≤ℤ pos 0
        → ((j : ℕ) → i < j → j < length es → Suits (gap_at a b) h (nth es j))
        → (total_weight (kept cs es) +ℤ pos 1) ≤ℤ total_weight (kept (map h es) es)
    worth_less i li same has out low later = omega (
      arith,
      ints,
      weight_is a b (kept cs es),
      weight_is a b (kept (map h es) es),
      gain_first (gap_at a b) h es cs i li same has out low later,
      pays_no_more,
    )

  -- as many pairs as any other
  pub as_many : (cs : List Bool) → IsPlan papers want load (kept cs es)
      → length (kept (map h es) es) ≡ length (kept cs es)
  as_many cs other = omega (
    arith,
    ints,
    gain_length (kept (map h es) es),
    gain_length (kept cs es),
    paid (λ _. pos 1) (λ e. e.paper) papers (kept cs es)
        (kept_all (λ e. e.paper < papers) cs es (λ k d l. (inside_all papers members es inside k d l).0)),
    paid (λ _. pos 1) (λ e. e.paper) papers (kept (map h es) es)
        (kept_all (λ e. e.paper < papers) (map h es) es (λ k d l. (inside_all papers members es inside k d l).0)),
    spread_same (λ _. pos 1) (λ q. count_by (of_paper q) (kept cs es))
        (λ q. count_by (of_paper q) (kept (map h es) es)) papers (λ q lq. other.full q lq ∙ sym (plan.full q lq)),
  )

  -- what it weighs is what the prices say
  pub weighs_bound : (a : List ℤ) (b : List ℕ) → length a ≡ papers → length b ≡ members
      → All (Suits (gap_at (λ q. get_or a q (pos 0)) (λ m. get_or b m 0)) h) es
      → ArePriced members load (λ m. get_or b m 0) (kept (map h es) es)
      → total_weight (kept (map h es) es) ≡ bound want load a b es
  weighs_bound a b la lb suits priced = omega (
    arith,
    ints,
    weight_is (λ q. get_or a q (pos 0)) (λ m. get_or b m 0) (kept (map h es) es),
    excess_is es suits,
    plan_pays papers members want load (λ q. get_or a q (pos 0)) (λ m. get_or b m 0) es (map h es) inside,
    ap (spread (λ q. get_or a q (pos 0)) (λ q. count_by (of_paper q) (kept (map h es) es))) la,
    spread_whole a (λ q. count_by (of_paper q) (kept (map h es) es)) want (λ q l. plan.full q (omega (arith, l, la))),
    ap (spread (λ m. pos (get_or b m 0)) (λ m. count_by (of_member m) (kept (map h es) es))) lb,
    spread_load b (λ m. count_by (of_member m) (kept (map h es) es)) load (λ m l. priced m (omega (arith, l, lb))),
  )
    where
      one : (x : ℤ) (c : Bool) → (c ≡ true → pos 0 ≤ℤ x) × (c ≡ false → x ≤ℤ pos 0) → pos (above x) ≡ cond c x (pos 0)
      one (pos n) true s = refl
      one (pos n) false s = omega (arith, ints, s.1 refl)
      one (negsuc n) true s = absurd (omega (arith, ints, s.0 refl))
      one (negsuc n) false s = refl

      excess_is : (fs : List Pair) → All (Suits (gap_at (λ q. get_or a q (pos 0)) (λ m. get_or b m 0)) h) fs
          → gain (gap_at (λ q. get_or a q (pos 0)) (λ m. get_or b m 0)) (kept (map h fs) fs) ≡ pos
          (sum_by (excess a b) fs)
      excess_is [] s = refl
      excess_is (f ∷ fs) s =
          omega (
            arith,
            ints,
            gain_cons (gap_at (λ q. get_or a q (pos 0)) (λ m. get_or b m 0)) (h f) (map h fs) f fs,
            one (gap_at (λ q. get_or a q (pos 0)) (λ m. get_or b m 0) f) (h f)
                (All-head (Suits (gap_at (λ q. get_or a q (pos 0)) (λ m. get_or b m 0)) h) f fs s),
            excess_is fs (All-tail (Suits (gap_at (λ q. get_or a q (pos 0)) (λ m. get_or b m 0)) h) f fs s),
            sum_by-cons (excess a b) f fs,
          )

-- one that is worth as much and the same before takes its place
pub still_first : (papers want load : ℕ) (es : List Pair) (h k : Pair → Bool) (n : ℕ)
    → total_weight (kept (map h es) es) ≤ℤ total_weight (kept (map k es) es)
    → ((j : ℕ) → j < n → k (nth es j) ≡ h (nth es j)) → NoneBefore papers want load es h n
    → NoneBefore papers want load es k n
still_first papers want load es h k n most same none i li cs plan le before has =
    same i li ∙ none i li cs plan (omega (arith, ints, most, le))
    (λ j lj. before j lj ∙ same j (omega (arith, lj, li))) has

pub one_more : (papers want load : ℕ) (es : List Pair) (h : Pair → Bool) (n : ℕ) → NoneBefore papers want load es h n
    → IsTurned papers want load es h n → NoneBefore papers want load es h (n + 1)
one_more papers want load es h n none turned i li = elim (cases_lt i n) [
  | inl lt ↦ none i lt
  | inr le ↦ subst (IsTurned papers want load es h) (let e : n ≡ i = omega (arith, le, li) in e) turned
]

module _ (papers members want load : ℕ) (es : List Pair) (h : Pair → Bool) (inside : AreInside papers members es)
    (plan : IsPlan papers want load (kept (map h es) es)) (a : ℕ → ℤ) (b : ℕ → ℕ) (i : ℕ) (li : i < length es)
    (suits : (j : ℕ) → j < length es → Suits (gap_at a b) h (nth es j)) (out : h (nth es i) ≡ false) where
  -- a pair below its prices stays out
  pub below_price : ArePriced members load b (kept (map h es) es) → (gap_at a b (nth es i) ≡ pos 0 → ⊥)
      → IsTurned papers want load es h i
  below_price priced ne cs other le same has =
      let low = (suits i li).1 out in
      let less = worth_less papers members want load es h inside plan cs other a b priced i li same has out
      (under (gap_at a b (nth es i)) low ne) (λ j _ lj. suits j lj) in
      absurd (omega (arith, ints, less, le))
    where
      under : (x : ℤ) → x ≤ℤ pos 0 → (x ≡ pos 0 → ⊥) → (x +ℤ pos 1) ≤ℤ pos 0
      under (pos n) le ne = absurd (ne (omega (arith, ints, le)))
      under (negsuc n) le ne = omega (arith, ints)

  -- and so does one that no search can bring in: `d` papers and `u` members are reached, and `z` is the spare paper
  pub not_reached : (d u : ℕ → ℕ) (z : ℕ) → gap_at a b (nth es i) ≡ pos 0 → d (nth es i).paper ≡ 0
      → u (nth es i).member ≡ 1 → ((q : ℕ) → d q ≤ 1) → ((m : ℕ) → u m ≤ 1)
      → ((j : ℕ) → i < j → j < length es → gap_at a b (nth es j) ≡ pos 0
      → (h (nth es j) ≡ false → d (nth es j).paper ≤ u (nth es j).member)
      × (h (nth es j) ≡ true → u (nth es j).member ≤ d (nth es j).paper))
      → ((m : ℕ) → m < members → (z ≤ b m + u m)
      × (z < b m + u m → count_by (of_member m) (kept (map h es) es) ≡ load))
      → IsTurned papers want load es h i
  not_reached d u z tight dp um ld lu closed full cs other le same has =
      let less = worth_less papers members want load es h inside plan cs other (λ q. (a q -ℤ pos (d q)) +ℤ pos z)
      (λ m. b m + u m - z) (λ m lm some. (full m lm).1 (omega (arith, some))) i li same has out
      (omega (arith, ints, moved i li, tight, dp, um)) later in
      absurd (omega (arith, ints, less, le))
    where
      moved : (j : ℕ) → j < length es → gap_at (λ q. (a q -ℤ pos (d q)) +ℤ pos z) (λ m. b m + u m - z) (nth es j)
          ≡ ((gap_at a b (nth es j) +ℤ pos (d (nth es j).paper)) -ℤ pos (u (nth es j).member))
      moved j lj = omega (
        arith,
        ints,
        (full (nth es j).member (inside_all papers members es inside j zero_pair lj).1).0,
      )

      up : (x : ℤ) (m n : ℕ) → pos 0 ≤ℤ x → m ≤ 1 → (x ≡ pos 0 → m ≤ n) → pos 0 ≤ℤ ((x +ℤ pos n) -ℤ pos m)
      up (pos zero) m n le lm h = omega (arith, ints, h refl)
      up (pos (suc k)) m n le lm h = omega (arith, ints, lm)
      up (negsuc k) m n le lm h = absurd (omega (arith, ints, le))

      down : (x : ℤ) (m n : ℕ) → x ≤ℤ pos 0 → n ≤ 1 → (x ≡ pos 0 → n ≤ m) → ((x +ℤ pos n) -ℤ pos m) ≤ℤ pos 0
      down (pos zero) m n le ln h = omega (arith, ints, h refl)
      down (pos (suc k)) m n le ln h = absurd (omega (arith, ints, le))
      down (negsuc k) m n le ln h = omega (arith, ints, ln)

      later : (j : ℕ) → i < j → j < length es
          → Suits (gap_at (λ q. (a q -ℤ pos (d q)) +ℤ pos z) (λ m. b m + u m - z)) h (nth es j)
      later j lj lt = (
        (λ c. subst (λ x. pos 0 ≤ℤ x) (sym (moved j lt)) (up (gap_at a b (nth es j)) (u (nth es j).member)
            (d (nth es j).paper) ((suits j lt).0 c) (lu (nth es j).member) (λ t. (closed j lj lt t).1 c))),
        (λ c. subst (λ x. x ≤ℤ pos 0) (sym (moved j lt)) (down (gap_at a b (nth es j)) (u (nth es j).member)
            (d (nth es j).paper) ((suits j lt).1 c) (ld (nth es j).paper) (λ t. (closed j lj lt t).0 c))),
      )
