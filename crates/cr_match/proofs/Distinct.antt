-- SPDX-License-Identifier: Apache-2.0 OR MIT
-- Pairs of which none stands twice, their places in a table, and the table that they are written into.
use Rattle.cr_match.proofs.Common.{◌≡◌, ◌≢◌, ◌⊎◌, inl, inr, ◌↔◌, ℕ, suc, ◌+◌, ◌*◌, ◌<◌, ◌≤◌, ◌/◌, ◌%◌, List, ◌∷◌}
use Rattle.cr_match.proofs.Common.{length, get_or, replicate, set, get_or-set_other, get_or-set_same, refl, arith, ap}
use Rattle.cr_match.proofs.Common.{sym, ◌∙◌, subst, cases_eq, cases_lt, ints, get_or-replicate, get_or_past}
use Rattle.cr_match.proofs.Common.{length-replicate, mul-add-lt, same_from_place, bit_at-zero, bit_at, Vec, Global}
use Rattle.cr_match.proofs.Common.{Pair, Problem, AreInside, IsApart, AreDistinct, IsProblem, OthersStay, IsBoardOf}
use Rattle.cr_match.proofs.Common.{lifted, low, nth, worth, zero_pair, []}
use Rattle.cr_match.specs.Rows.{RowHas}
use Rattle.cr_match.proofs.Held.{Differ, distinct_at, lifted_is}
use Rattle.cr_match.proofs.Room.{inside_all}

-- the place of a pair
abbrev pub place : ℕ → Pair → ℕ
place members e = e.paper * members + e.member

-- no two of the pairs before the n-th are the same
abbrev pub AreApart : List Pair → ℕ → Type 0
AreApart es n = (i j : ℕ) → i < j → j < n → j < length es → Differ (nth es j) (nth es i)

-- what is marked is the place of a pair before the n-th
abbrev pub Marks : List ℕ → ℕ → List Pair → ℕ → Type 0
Marks seen members es n = (k : ℕ) → k < 4096 → RowHas 64 seen 0 k
    ↔ ((j : ℕ) × (j < n) × (j < length es) × (place members (nth es j) ≡ k))

-- the pairs before the n-th are written, and nothing else
abbrev pub AreWritten : List ℕ → ℕ → List Pair → ℕ → Type 0
AreWritten ws members es n =
    ((j : ℕ) → j < n → j < length es → get_or ws (place members (nth es j)) 0 ≡ lifted (nth es j))
    × ((k : ℕ) → (get_or ws k 0 ≡ 0) ⊎ ((j : ℕ) × (j < n) × (j < length es) × (place members (nth es j) ≡ k)))

apart_from : (e : Pair) (es : List Pair) → ((j : ℕ) → j < length es → Differ (nth es j) e) → IsApart e es
apart_from e [] h = tt
apart_from e (f ∷ fs) h =
    let k : length (f ∷ fs) ≡ suc (length fs) = refl in
    (h 0 (omega (arith, k)), apart_from e fs (λ j lt. h (suc j) (omega (arith, lt, k))))

pub distinct_from : (es : List Pair) → ((i j : ℕ) → i < j → j < length es → Differ (nth es j) (nth es i))
    → AreDistinct es
distinct_from [] h = tt
distinct_from (e ∷ es) h =
    let k : length (e ∷ es) ≡ suc (length es) = refl in (
      apart_from e es (λ j lt. h 0 (suc j) (omega arith) (omega (arith, lt, k))),
      distinct_from es (λ i j li lt. h (suc i) (suc j) (omega (arith, li)) (omega (arith, lt, k))),
    )

pub zero_row : (words : List ℕ) (width r k : ℕ) → ((i : ℕ) → get_or words i 0 ≡ 0) → RowHas width words r k → ⊥
unfolding RowHas
zero_row words width r k zeros h =
    absurd (omega (arith, h, ap (λ w. bit_at w (k % 64)) (zeros (r * width + k / 64)), bit_at-zero (k % 64)))

pub none_marked : (members : ℕ) (es : List Pair) → Marks (replicate {A = ℕ} 64 0) members es 0
none_marked members es k lk =
    ((λ h. absurd (zero_row (replicate {A = ℕ} 64 0) 64 0 k zeros h)), (λ one. absurd (omega (arith, one.1))))
  where
    zeros : (i : ℕ) → get_or (replicate {A = ℕ} 64 0) i 0 ≡ 0
    zeros i = elim (cases_lt i 64) [
      | inl lt ↦ get_or-replicate {A = ℕ} 64 i 0 0 lt
      | inr le ↦ get_or_past (replicate {A = ℕ} 64 0) i 0 (omega (arith, le, length-replicate {A = ℕ} 64 0))
    ]

module _ (papers members : ℕ) (es : List Pair) (inside : AreInside papers members es) where
  pub place_lt : (j : ℕ) → j < length es → place members (nth es j) < members * papers
  place_lt j lj =
      let w = inside_all papers members es inside j zero_pair lj in
      mul-add-lt (nth es j).paper members (nth es j).member papers w.0 w.1

  same_place : (i j : ℕ) → i < length es → j < length es → place members (nth es i) ≡ place members (nth es j)
      → ((nth es i).paper ≡ (nth es j).paper) × ((nth es i).member ≡ (nth es j).member)
  same_place i j li lj e =
      same_from_place (nth es i).paper (nth es i).member (nth es j).paper (nth es j).member members
      (inside_all papers members es inside i zero_pair li).1 (inside_all papers members es inside j zero_pair lj).1 e

  other_place : AreDistinct es → (i j : ℕ) → i < j → j < length es → place members (nth es i) ≢ place members (nth es j)
  other_place apart i j lt lj e =
      let same = same_place i j (omega (arith, lt, lj)) lj e in
      elim (distinct_at es apart i j lt lj) [ inl ne ↦ ne (sym same.0) | inr ne ↦ ne (sym same.1) ]

  -- pairs marked one after another
  module _ (grid : papers * members ≤ 4096) where
    pub place_small : (j : ℕ) → j < length es → place members (nth es j) < 4096
    place_small j lj = omega (arith, place_lt j lj, grid)

    -- a place that was seen is one of a pair that stands twice
    pub seen_twice : (seen : List ℕ) (i : ℕ) → i < length es → Marks seen members es i
        → RowHas 64 seen 0 (place members (nth es i)) → AreDistinct es → ⊥
    seen_twice seen i li marks has distinct =
        let one : (j : ℕ) × (j < i) × (j < length es) × (place members (nth es j) ≡ place members (nth es i)) =
        (marks (place members (nth es i)) (place_small i li)).0 has in
        other_place distinct one.0 i one.1 li one.3

    -- and one that wasn't is apart from all before
    pub apart_more : (seen : List ℕ) (i : ℕ) → i < length es → Marks seen members es i
        → (RowHas 64 seen 0 (place members (nth es i)) → ⊥) → AreApart es i → AreApart es (i + 1)
    apart_more seen i li marks none apart j k lj lk lt = elim (cases_eq k i) [
      | inr ne ↦ apart j k lj (omega (arith, lk, ne)) lt
      | inl e ↦ elim (cases_eq (nth es k).paper (nth es j).paper) [
        | inr ne ↦ inl ne
        | inl same ↦ elim (cases_eq (nth es k).member (nth es j).member) [
          | inr ne ↦ inr ne
          | inl same' ↦ absurd (none ((marks (place members (nth es i)) (place_small i li)).1 (
            j,
            omega (arith, lj, e),
            omega (arith, lj, lt),
            ap (λ x. x * members + (nth es j).member) (sym same) ∙ ap (λ x. (nth es k).paper * members + x) (sym same')
                ∙ ap (λ x. place members (nth es x)) e,
          )))
        ]
      ]
    ]

    pub marks_more : (seen new : List ℕ) (i : ℕ) → i < length es → Marks seen members es i
        → RowHas 64 new 0 (place members (nth es i)) → OthersStay 64 seen new 0 (place members (nth es i))
        → Marks new members es (i + 1)
    marks_more seen new i li marks here others k lk = elim (cases_eq k (place members (nth es i))) [
      | inl e ↦ ((λ _. (i, omega arith, li, sym e)), (λ _. subst (λ x. RowHas 64 new 0 x) (sym e) here))
      | inr ne ↦ let s = others 0 k (omega (arith, lk)) (inr ne) in (
        (λ h. let one : (j : ℕ) × (j < i) × (j < length es) × (place members (nth es j) ≡ k) = (marks k lk).0 (s.0 h) in
            (one.0, omega (arith, one.1), one.2, one.3)),
        (λ one. s.1 ((marks k lk).1 (
          one.0,
          elim (cases_eq one.0 i) [
            | inl e ↦ absurd (ne (sym (ap (λ x. place members (nth es x)) (sym e) ∙ one.3)))
            | inr ne' ↦ omega (arith, one.1, ne')
          ],
          one.2,
          one.3,
        ))),
      )
    ]

  -- and written
  pub written_more : AreDistinct es → (ws : List ℕ) (i n : ℕ) → i < length es → length ws ≡ papers * members
      → n ≡ lifted (nth es i) → AreWritten ws members es i
      → AreWritten (set ws (place members (nth es i)) n) members es (i + 1)
  written_more apart ws i n li long is h =
      let inside' : place members (nth es i) < length ws = omega (arith, place_lt i li, long) in (
        (λ j lj lt. elim (cases_eq j i) [
          | inl e ↦ subst (λ k. get_or (set ws (place members (nth es i)) n) (place members (nth es k)) 0
              ≡ lifted (nth es k)) (sym e) (get_or-set_same ws (place members (nth es i)) n 0 inside' ∙ is)
          | inr ne ↦ get_or-set_other ws (place members (nth es i)) (place members (nth es j)) n 0
              (other_place apart j i (omega (arith, lj, ne)) li) ∙ h.0 j (omega (arith, lj, ne)) lt
        ]),
        λ k. elim (cases_eq k (place members (nth es i))) [
          | inl e ↦ inr (i, omega arith, li, sym e)
          | inr ne ↦ elim (h.1 k) [
            | inl z ↦ inl (get_or-set_other ws (place members (nth es i)) k n 0 ne ∙ z)
            | inr one ↦ inr (one.0, omega (arith, one.1), one.2, one.3)
          ]
        ],
      )

  -- a table of them
  module _ (ws : List ℕ)
      (weights : (j : ℕ) → j < length es → get_or ws (place members (nth es j)) 0 ≡ lifted (nth es j))
      (none : (k : ℕ) → (get_or ws k 0 ≡ 0) ⊎ ((j : ℕ) × (j < length es) × (place members (nth es j) ≡ k))) where
    pub cell_pair : (p m : ℕ) → p < papers → m < members → (get_or ws (p * members + m) 0 ≡ 0)
        ⊎ ((j : ℕ) × (j < length es) × ((nth es j).paper ≡ p) × ((nth es j).member ≡ m))
    cell_pair p m lp lm = elim (none (p * members + m)) [
      | inl z ↦ inl z
      | inr one ↦ let same = same_from_place (nth es one.0).paper (nth es one.0).member p m members
          (inside_all papers members es inside one.0 zero_pair one.1).1 lm one.2 in
          inr (one.0, one.1, same.0, same.1)
    ]

    pub cell_worth : (p m : ℕ) → p < papers → m < members → (get_or ws (p * members + m) 0 ≡ 0)
        ⊎ ((low ≤ get_or ws (p * members + m) 0) × (get_or ws (p * members + m) 0 ≤ low + 40))
    cell_worth p m lp lm = elim (cell_pair p m lp lm) [
      | inl z ↦ inl z
      | inr one ↦ let w = inside_all papers members es inside one.0 zero_pair one.1 in
          let is : get_or ws (p * members + m) 0 ≡ lifted (nth es one.0) =
          sym (ap (λ x. get_or ws x 0) (ap (λ x. x * members + (nth es one.0).member) one.2
          ∙ ap (λ x. p * members + x) one.3)) ∙ weights one.0 one.1 in
          let up = lifted_is (nth es one.0) w.2 in
          inr (omega (arith, ints, is, up, w.2), omega (arith, ints, is, up, w.3))
    ]

-- the table of a problem
pub board_of : (problem : Problem) → IsProblem problem → (ws : Vec ℕ Global) → ((j : ℕ) → j < length problem.pairs.items
    → get_or ws.items (place problem.members (nth problem.pairs.items j)) 0 ≡ lifted (nth problem.pairs.items j))
    → ((k : ℕ) → (get_or ws.items k 0 ≡ 0) ⊎ ((j : ℕ) × (j < length problem.pairs.items)
    × (place problem.members (nth problem.pairs.items j) ≡ k)))
    → length ws.items ≡ problem.papers * problem.members → IsBoardOf problem (record {
      papers = problem.papers;
      members = problem.members;
      want = problem.per_paper;
      load = problem.load;
      wide = (problem.members + 63) / 64;
      tall = problem.papers / 64 + 1;
      worth = ws;
    })
board_of problem fine ws weights none long = record {
  table = record {
    board = record {
      sized = record {
        few = (fine.sides.0, fine.sides.1, omega (arith, fine.sides.1), omega (arith, fine.sides.0));
        wide = omega arith;
        tall = omega arith;
      };
      long = long;
      grid = fine.grid;
      places = fine.places;
      cells = cell_worth problem.papers problem.members problem.pairs.items fine.inside ws.items weights none;
    };
    inside = fine.inside;
    distinct = fine.distinct;
    weights = weights;
    none = cell_pair problem.papers problem.members problem.pairs.items fine.inside ws.items weights none;
  };
  sides = (refl, refl);
  limits = (refl, refl);
}

-- the best so far
pub best_more : (low high worth best new m : ℕ) (f : ℕ → ℕ) → f m ≡ worth → (worth ≡ 0)
    ⊎ ((low ≤ worth) × (worth ≤ high))
    → (worth ≤ new) × (best ≤ new) → (new ≡ worth) ⊎ (new ≡ best) → (low ≤ best) × (best ≤ high)
    × ((x : ℕ) → x < m → f x ≤ best) → (low ≤ new) × (new ≤ high) × ((x : ℕ) → x < m + 1 → f x ≤ new)
best_more low high worth best new m f is cell le either h = (
  omega (arith, h.0, le.1),
  elim either [
    | inr e ↦ omega (arith, e, h.1)
    | inl e ↦ elim cell [ inl z ↦ omega (arith, e, z, h.0, h.1) | inr c ↦ omega (arith, e, c.1) ]
  ],
  λ x lx. elim (cases_eq x m) [
    | inl e ↦ omega (arith, ap f e, is, le.0)
    | inr ne ↦ omega (arith, h.2 x (omega (arith, lx, ne)), le.1)
  ],
)
