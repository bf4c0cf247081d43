-- SPDX-License-Identifier: Apache-2.0 OR MIT
-- The pairs that are held: how many a paper has, and a member, and what they weigh above their prices.
use Rattle.cr_match.proofs.Common.{All, All-from_get_or, AreDistinct, Board, Bool, Choice, Holds, IsApart, IsBest}
use Rattle.cr_match.proofs.Common.{IsBoardFor, IsCounted, IsPlan, Levels, List, Pair, above, ap, arith, cases_lt, cell}
use Rattle.cr_match.proofs.Common.{chosen, count_by, eq-eqb, eqb-true, false, get_or, inl, inr, ints, is_held, length}
use Rattle.cr_match.proofs.Common.{lifted, map, nat_tests, negsuc, nth, of_member, of_paper, pos, price_of, refl, subst}
use Rattle.cr_match.proofs.Common.{suc, sym, true, worth, zero, zero_pair, ℕ, ℤ, ◌&&◌, ◌+ℤ◌, ◌-ℤ◌, ◌<◌, ◌==◌, ◌∙◌}
use Rattle.cr_match.proofs.Common.{◌∷◌, ◌≡◌, ◌≢◌, ◌≤ℤ◌, ◌≤◌, ◌⊎◌, lowered, []}
use Rattle.std.proofs.lemmas.Bool.{ne_eqb}
use Rattle.std.proofs.lemmas.List.{get_or-map}
use Rattle.cr_match.proofs.Flipped.{cell_none, cell_one, holds_cases, one_cell, place_cases}
use Rattle.cr_match.proofs.Rivals.{ArePriced, gap_at}
use Rattle.cr_match.proofs.Room.{by_place, count_kept, inside_all, kept_all, same_total}
use Rattle.cr_match.proofs.Sums.{Suits, bit, count_cons}
use Rattle.cr_match.proofs.Turned.{no_member}

pub held_is : (b : Board) (c : Choice) (e : Pair) → is_held b c e ≡ true → Holds b c e.paper e.member
held_is b c e h = one_cell b c e.paper e.member (eqb-true (cell b c e.paper e.member) 1 h)

pub is_held_if : (b : Board) (c : Choice) (e : Pair) → Holds b c e.paper e.member → is_held b c e ≡ true
is_held_if b c e h = eq-eqb (cell b c e.paper e.member) 1 (cell_one b c e.paper e.member h)

pub not_held_if : (b : Board) (c : Choice) (e : Pair) → (Holds b c e.paper e.member → ⊥) → is_held b c e ≡ false
not_held_if b c e h =
    ne_eqb (cell b c e.paper e.member) 1 (λ one. absurd (omega (arith, one, cell_none b c e.paper e.member h)))

pub held_isnt : (b : Board) (c : Choice) (e : Pair) → is_held b c e ≡ false → Holds b c e.paper e.member → ⊥
held_isnt b c e h has = absurd (let k = sym (is_held_if b c e has) ∙ h in cc)

above_pos : (y : ℤ) → pos 0 ≤ℤ y → pos (above y) ≡ y
above_pos (pos n) h = refl
above_pos (negsuc n) h = absurd (omega (arith, ints, h))

pub lifted_is : (e : Pair) → negsuc 19 ≤ℤ e.weight → pos (lifted e) ≡ (e.weight +ℤ pos 1073741824)
lifted_is e low = above_pos (e.weight +ℤ pos 1073741824) (omega (arith, ints, low))

-- pairs that are apart

more : (e : Pair) (es : List Pair) (j : ℕ) → suc j < length (e ∷ es) → j < length es
more e es j lt = let k : length (e ∷ es) ≡ suc (length es) = refl in omega (arith, lt, k)

none : (j : ℕ) → j < length {A = Pair} [] → ⊥
none j lt = absurd (let k : length {A = Pair} [] ≡ 0 = refl in omega (arith, lt, k))

abbrev pub Differ : Pair → Pair → Type 0
Differ e f = (e.paper ≢ f.paper) ⊎ (e.member ≢ f.member)

apart_at : (e : Pair) (es : List Pair) → IsApart e es → (j : ℕ) → j < length es → Differ (nth es j) e
apart_at e [] h j lt = absurd (none j lt)
apart_at e (f ∷ fs) h zero lt = h.0
apart_at e (f ∷ fs) h (suc j) lt = apart_at e fs h.1 j (more f fs j lt)

pub distinct_at : (es : List Pair) → AreDistinct es → (i j : ℕ) → i < j → j < length es → Differ (nth es j) (nth es i)
distinct_at [] h i j lt lj = absurd (none j lj)
distinct_at (e ∷ es) h i zero lt lj = absurd (omega (arith, lt))
distinct_at (e ∷ es) h zero (suc j) lt lj = apart_at e es h.0 j (more e es j lj)
distinct_at (e ∷ es) h (suc i) (suc j) lt lj = distinct_at es h.1 i j (omega (arith, lt)) (more e es j lj)

pub other_pair : (es : List Pair) → AreDistinct es → (i j : ℕ) → i < length es → j < length es → j ≢ i
    → Differ (nth es j) (nth es i)
other_pair es h i j li lj ne = elim (cases_lt j i) [
  | inl less ↦ elim (distinct_at es h j i less li) [ inl x ↦ inl (λ e. x (sym e)) | inr x ↦ inr (λ e. x (sym e)) ]
  | inr le ↦ distinct_at es h i j (omega (arith, le, ne)) lj
]

-- counts of tests that one pair passes at most

pub count_none : (f : Pair → Bool) (es : List Pair) → ((j : ℕ) → j < length es → f (nth es j) ≡ false)
    → count_by f es ≡ 0
count_none f [] h = refl
count_none f (e ∷ es) h =
    let k : length (e ∷ es) ≡ suc (length es) = refl in
    omega (
      arith,
      count_cons f e es,
      ap bit (h 0 (omega (arith, k))),
      count_none f es (λ j lt. h (suc j) (omega (arith, lt, k))),
    )

count_at : (f : Pair → Bool) (es : List Pair) (i : ℕ) → i < length es
    → ((j : ℕ) → j < length es → j ≢ i → f (nth es j) ≡ false) → count_by f es ≡ bit (f (nth es i))
count_at f [] i lt h = absurd (none i lt)
count_at f (e ∷ es) zero lt h =
    let k : length (e ∷ es) ≡ suc (length es) = refl in
    omega (
      arith,
      count_cons f e es,
      count_none f es (λ j lj. h (suc j) (omega (arith, lj, k)) (λ x. absurd (omega (arith, x)))),
    )
count_at f (e ∷ es) (suc i) lt h =
    let k : length (e ∷ es) ≡ suc (length es) = refl in
    omega (
      arith,
      count_cons f e es,
      ap bit (h 0 (omega (arith, k)) (λ x. absurd (omega (arith, x)))),
      count_at f es i (more e es i lt) (λ j lj ne. h (suc j) (omega (arith, lj, k)) (λ x. ne (omega (arith, x)))),
    )

pub none_past : (place : Pair → ℕ) (n m : ℕ) (es : List Pair) → n ≤ m → All (λ e. place e < n) es
    → count_by (λ e. place e == m) es ≡ 0
none_past place n m es past h = count_none (λ e. place e == m) es
    (λ j lj. ne_eqb (place (nth es j)) m (λ e. absurd (omega (arith, e, past, h j zero_pair lj))))

here_too : (c : Bool) (x q y m : ℕ) → x ≡ q → y ≡ m → ((c && (x == q)) && (y == m)) ≡ c
here_too c x q y m e f = grind (arith, nat_tests)

elsewhere : (c : Bool) (x q y m : ℕ) → (x ≢ q) ⊎ (y ≢ m) → ((c && (x == q)) && (y == m)) ≡ false
elsewhere c x q y m (inl ne) = grind (arith, nat_tests)
elsewhere c x q y m (inr ne) = grind (arith, nat_tests)

turned : {A B : Type 0} → A ⊎ B → B ⊎ A
turned (inl a) = inr a
turned (inr b) = inl b

module _ {es : List Pair} {b : Board} {c : Choice} (of : IsBoardFor es b) (counted : IsCounted b c)
    (real : (p m : ℕ) → p < b.papers → m < b.members → Holds b c p m → worth b p m ≢ 0) where
  -- a test that is passed by what is held at one place
  count_cell : (f : Pair → Bool) (q m : ℕ) → q < b.papers → m < b.members
      → ((e : Pair) → e.paper ≡ q → e.member ≡ m → f e ≡ is_held b c e)
      → ((e : Pair) → (e.paper ≢ q) ⊎ (e.member ≢ m) → f e ≡ false) → count_by f es ≡ cell b c q m
  count_cell f q m lq lm same other = elim (holds_cases b c q m) [
    | inl has ↦ elim (of.none q m lq lm) [
      | inl z ↦ absurd (real q m lq lm has z)
      | inr one ↦ let is = same (nth es one.0) one.2 one.3 ∙ is_held_if b c (nth es one.0)
          (subst (λ k. Holds b c k (nth es one.0).member) (sym one.2) (subst (Holds b c q) (sym one.3) has)) in
          omega (
            arith,
            cell_one b c q m has,
            ap bit is,
            count_at f es one.0 one.1 (λ j lj ne. other (nth es j)
                (elim (other_pair es of.distinct one.0 j one.1 lj ne) [
                  | inl x ↦ inl (λ e. x (e ∙ sym one.2))
                  | inr x ↦ inr (λ e. x (e ∙ sym one.3))
                ])),
          )
    ]
    | inr lacks ↦ count_none f es (λ j lj. elim (place_cases (nth es j).paper (nth es j).member q m) [
      | inr ne ↦ other (nth es j) ne
      | inl s ↦ same (nth es j) s.0 s.1 ∙ not_held_if b c (nth es j)
          (λ has. lacks (subst (λ k. Holds b c k m) s.0 (subst (Holds b c (nth es j).paper) s.1 has)))
    ]) ∙ sym (cell_none b c q m lacks)
  ]

  pub count_papers : (q : ℕ) → q < b.papers → count_by (of_paper q) (chosen b c es) ≡ get_or c.given.items q 0
  count_papers q lq = count_kept (is_held b c) (of_paper q) es
      ∙ sym (by_place (λ e. is_held b c e && of_paper q e) (λ e. e.member) b.members es
      (λ k d l. (inside_all b.papers b.members es of.inside k d l).1))
      ∙ same_total (λ m. count_by (λ e. (is_held b c e && of_paper q e) && (e.member == m)) es) (cell b c q) b.members
      (λ m lm. count_cell (λ e. (is_held b c e && of_paper q e) && (e.member == m)) q m lq lm
      (λ e. here_too (is_held b c e) e.paper q e.member m) (λ e. elsewhere (is_held b c e) e.paper q e.member m))
      ∙ sym (counted.given q lq)

  pub count_members : (m : ℕ) → m < b.members → count_by (of_member m) (chosen b c es) ≡ get_or c.used.items m 0
  count_members m lm = count_kept (is_held b c) (of_member m) es
      ∙ sym (by_place (λ e. is_held b c e && of_member m e) (λ e. e.paper) b.papers es
      (λ k d l. (inside_all b.papers b.members es of.inside k d l).0))
      ∙ same_total (λ q. count_by (λ e. (is_held b c e && of_member m e) && (e.paper == q)) es) (λ q. cell b c q m)
      b.papers (λ q lq. count_cell (λ e. (is_held b c e && of_member m e) && (e.paper == q)) q m lq lm
      (λ e x y. here_too (is_held b c e) e.member m e.paper q y x)
      (λ e ne. elsewhere (is_held b c e) e.member m e.paper q (turned ne)))
      ∙ sym (counted.used m lm)

module _ {es : List Pair} {b : Board} (of : IsBoardFor es b) (j : ℕ) (lj : j < length es) where
  pub inside_at : ((nth es j).paper < b.papers) × ((nth es j).member < b.members) × (negsuc 19 ≤ℤ (nth es j).weight)
      × ((nth es j).weight ≤ℤ pos 20)
  inside_at = inside_all b.papers b.members es of.inside j zero_pair lj

  -- the weight of a pair is no 0
  pub real_pair : worth b (nth es j).paper (nth es j).member ≢ 0
  real_pair z =
      absurd (omega (arith, ints, z, of.weights j lj, lifted_is (nth es j) inside_at.2, inside_at.2))

-- prices as those of pairs

abbrev pub paper_price : Levels → ℕ → ℤ
paper_price v q = get_or (lowered v.papers.items) q (pos 0)

abbrev pub member_price : Levels → ℕ → ℕ
member_price v m = get_or v.members.items m 0

module _ {es : List Pair} {b : Board} {v : Levels} {c : Choice} (of : IsBoardFor es b) (counted : IsCounted b c)
    (best : IsBest b v c) where
  pub real : (p m : ℕ) → p < b.papers → m < b.members → Holds b c p m → worth b p m ≢ 0
  real p m lp lm has z = absurd (omega (arith, z, best.suits.held p m lp lm has, best.priced p lp))

  pub gap_is : (j : ℕ) → j < length es → gap_at (paper_price v) (member_price v) (nth es j)
      ≡ (pos (worth b (nth es j).paper (nth es j).member) -ℤ pos (price_of v (nth es j).paper (nth es j).member))
  gap_is j lj =
      let k = inside_at of j lj in
      omega (
        arith,
        ints,
        of.weights j lj,
        lifted_is (nth es j) k.2,
        get_or-map (λ x. pos x -ℤ pos 1073741824) v.papers.items (nth es j).paper 0 (pos 0)
            (omega (arith, k.0, best.long.0)),
      )

  pub suits_at : (j : ℕ) → j < length es → Suits (gap_at (paper_price v) (member_price v)) (is_held b c) (nth es j)
  suits_at j lj =
      let k = inside_at of j lj in (
        (λ h. omega (
          arith,
          ints,
          gap_is j lj,
          best.suits.held (nth es j).paper (nth es j).member k.0 k.1 (held_is b c (nth es j) h),
        )),
        (λ h. omega (
          arith,
          ints,
          gap_is j lj,
          best.suits.left (nth es j).paper (nth es j).member k.0 k.1 (held_isnt b c (nth es j) h),
        )),
      )

  pub suits_all : All (Suits (gap_at (paper_price v) (member_price v)) (is_held b c)) es
  suits_all = All-from_get_or (Suits (gap_at (paper_price v) (member_price v)) (is_held b c)) es zero_pair suits_at

  pub priced : ArePriced b.members b.load (member_price v) (chosen b c es)
  priced m lm some = count_members of counted real m lm ∙ omega (arith, (best.fits m lm).1 some, no_member b m lm)

  pub plan_of : IsPlan b.papers b.want b.load (chosen b c es)
  plan_of = record {
    full = λ q lq. count_papers of counted real q lq ∙ best.full q lq;
    light = λ m. elim (cases_lt m b.members) [
      | inl lm ↦ omega (arith, count_members of counted real m lm, (best.fits m lm).0)
      | inr past ↦ omega (
        arith,
        none_past (λ e. e.member) b.members m (chosen b c es) past (kept_all
            (λ e. e.member < b.members) (map (is_held b c) es) es
            (λ k d l. (inside_all b.papers b.members es of.inside k d l).1)),
      )
    ];
  }
