-- SPDX-License-Identifier: Apache-2.0 OR MIT
-- A pair that is held now, or no longer, leaves a draft.
use Rattle.cr_match.proofs.Common.{◌≡◌, ◌≢◌, ◌⊎◌, inl, inr, ◌↔◌, ℕ, ◌+◌, ◌*◌, ◌/◌, ◌%◌, ◌<◌, ◌≤◌, Bool, true, false}
use Rattle.cr_match.proofs.Common.{length, get_or, refl, arith, nat_tests, zero, suc, ap, sym, ◌∙◌, subst, cases_eq}
use Rattle.cr_match.proofs.Common.{bit_at-lt, OthersStay, total_below, Takes, Drops, AreMoves, Board, Choice, Moves}
use Rattle.cr_match.proofs.Common.{Holds, cell, IsCounted, IsDraft, IsFree, IsSized, at}
use Rattle.std.proofs.Common.{not}
use Rattle.std.proofs.lemmas.Bool.{not-true}
use Rattle.cr_match.specs.Rows.{RowHas}
use Rattle.cr_match.specs.Draft.{Alters, Counts, Flips, Limits, Loosens}
use Rattle.cr_match.specs.Tight.{Tells}
use Rattle.cr_match.proofs.Room.{changed_total, same_total}

pub iff_trans : {A B C : Type 0} → (A ↔ B) → (B ↔ C) → A ↔ C
iff_trans h k = ((λ a. k.0 (h.0 a)), (λ c. h.1 (k.1 c)))

pub place_cases : (q x p m : ℕ) → ((q ≡ p) × (x ≡ m)) ⊎ ((q ≢ p) ⊎ (x ≢ m))
place_cases q x p m = elim (cases_eq q p) [
  | inl e ↦ elim (cases_eq x m) [ inl f ↦ inl (e, f) | inr ne ↦ inr (inr ne) ]
  | inr ne ↦ inr (inl ne)
]

-- what holds of the pair holds of another one that is the same
pub moved_to : (P : ℕ → ℕ → Type 0) {q x p m : ℕ} → (q ≡ p) × (x ≡ m) → P p m → P q x
moved_to P {q} {x} {p} s h = subst (λ k. P k x) (sym s.0) (subst (P p) (sym s.1) h)

pub or_all : (x n : ℕ) → x ≤ n → (x < n) ⊎ (x ≡ n)
or_all x n le = elim (cases_eq x n) [ inl e ↦ inr e | inr ne ↦ inl (omega (arith, le, ne)) ]

pub below : (n k : ℕ) → n < k → n ≢ k
below n k lt e = absurd (omega (arith, lt, e))

pub at_same : (x y : ℕ) → x ≡ y → at x y ≡ 1
at_same x y e = grind (arith, nat_tests)

pub at_other : (x y : ℕ) → x ≢ y → at x y ≡ 0
at_other x y ne = grind (arith, nat_tests)

-- a cell as a bit

pub cell-lt : (b : Board) (c : Choice) (p m : ℕ) → cell b c p m < 2
cell-lt b c p m = bit_at-lt (get_or c.held.items (p * b.wide + m / 64) 0) (m % 64)

pub cell_one : (b : Board) (c : Choice) (p m : ℕ) → Holds b c p m → cell b c p m ≡ 1
unfolding RowHas
cell_one b c p m h = h

pub one_cell : (b : Board) (c : Choice) (p m : ℕ) → cell b c p m ≡ 1 → Holds b c p m
unfolding RowHas
one_cell b c p m h = h

pub holds_cases : (b : Board) (c : Choice) (p m : ℕ) → Holds b c p m ⊎ (Holds b c p m → ⊥)
holds_cases b c p m = elim (cases_eq (cell b c p m) 1) [
  | inl e ↦ inl (one_cell b c p m e)
  | inr ne ↦ inr (λ h. ne (cell_one b c p m h))
]

pub cell_none : (b : Board) (c : Choice) (p m : ℕ) → (Holds b c p m → ⊥) → cell b c p m ≡ 0
cell_none b c p m none = elim (cases_eq (cell b c p m) 1) [
  | inl e ↦ absurd (none (one_cell b c p m e))
  | inr ne ↦ omega (arith, ne, cell-lt b c p m)
]

same_cell : (b : Board) (c d : Choice) (p m : ℕ) → (Holds b d p m ↔ Holds b c p m) → cell b d p m ≡ cell b c p m
same_cell b c d p m same = elim (holds_cases b c p m) [
  | inl h ↦ cell_one b d p m (same.1 h) ∙ sym (cell_one b c p m h)
  | inr none ↦ cell_none b d p m (λ h. none (same.0 h)) ∙ sym (cell_none b c p m none)
]

-- counts

pub counts_same : (holds : Bool) (a o n : ℕ) → a ≡ 0 → Counts holds a o n → n ≡ o
counts_same true a o n z h = omega (arith, z, h)
counts_same false a o n z h = omega (arith, z, h)

pub counts_none : (holds : Bool) (a o n : ℕ) → a ≡ 0 → n ≡ o → Counts holds a o n
counts_none true a o n z h = omega (arith, z, h)
counts_none false a o n z h = omega (arith, z, h)

counts_unique : (holds : Bool) (a o n k : ℕ) → Counts holds a o n → Counts holds a o k → n ≡ k
counts_unique true a o n k h g = omega (arith, h, g)
counts_unique false a o n k h g = omega (arith, h, g)

-- the totals of a line of cells of which one changes, or none
line_total : (holds : Bool) (f g : ℕ → ℕ) (r n a : ℕ) → r < n → ((q : ℕ) → q < n → q ≢ r → g q ≡ f q) → a ≡ 1
    → Counts holds 1 (f r) (g r) → Counts holds a (total_below f n) (total_below g n)
line_total true f g r n a lt same one h = omega (arith, one, h, changed_total g f r n lt same)
line_total false f g r n a lt same one h = omega (arith, one, h, changed_total g f r n lt same)

total_most : (f : ℕ → ℕ) (n : ℕ) → ((q : ℕ) → f q < 2) → total_below f n ≤ n
total_most f zero h = omega arith
total_most f (suc n) h = omega (arith, total_most f n h, h n)

total_some : (f : ℕ → ℕ) (r n : ℕ) → r < n → f r ≤ total_below f n
total_some f r zero lt = absurd (omega (arith, lt))
total_some f r (suc n) lt = elim (cases_eq n r) [
  | inl e ↦ omega (arith, ap f e)
  | inr ne ↦ omega (arith, total_some f r n (omega (arith, lt, ne)))
]

module _ {b : Board} {c : Choice} (sized : IsSized b) (h : IsCounted b c) {p m : ℕ} (lp : p < b.papers)
    (lm : m < b.members) where
  pub small_counts : (get_or c.given.items p 0 < 20000) × (get_or c.used.items m 0 < 20000)
  small_counts = (
    omega (arith, h.given p lp, total_most (cell b c p) b.members (cell-lt b c p), sized.few.1),
    omega (arith, h.used m lm, total_most (λ q. cell b c q m) b.papers (λ q. cell-lt b c q m), sized.few.0),
  )

  pub some_counts : Holds b c p m → (0 < get_or c.given.items p 0) × (0 < get_or c.used.items m 0)
  some_counts has =
      let one = cell_one b c p m has in (
        omega (arith, h.given p lp, total_some (cell b c p) m b.members lm, one),
        omega (arith, h.used m lm, total_some (λ q. cell b c q m) p b.papers lp, one),
      )

  module _ (holds : Bool) (d : Choice) (lacks : holds ≡ true → Holds b c p m → ⊥) (has : holds ≡ false → Holds b c p m)
      (held : length d.held.items ≡ length c.held.items)
      (long : (length d.given.items ≡ length c.given.items) × (length d.used.items ≡ length c.used.items))
      (here : Holds b d p m ↔ (holds ≡ true)) (stay : OthersStay b.wide c.held.items d.held.items p m)
      (given : (q : ℕ) → Counts holds (at p q) (get_or c.given.items q 0) (get_or d.given.items q 0))
      (used : (x : ℕ) → Counts holds (at m x) (get_or c.used.items x 0) (get_or d.used.items x 0)) where
    others : (q x : ℕ) → x < b.members → (q ≢ p) ⊎ (x ≢ m) → Holds b d q x ↔ Holds b c q x
    others q x lx ne = stay q x (omega (arith, lx, sized.wide)) ne

    one : (k : Bool) → holds ≡ k → Counts k 1 (cell b c p m) (cell b d p m)
    one true e = omega (arith, cell_none b c p m (lacks e), cell_one b d p m (here.1 e))
    one false e = omega (
      arith,
      cell_one b c p m (has e),
      cell_none b d p m (λ x. absurd (let k = sym (here.0 x) ∙ e in cc)),
    )

    papers_total : (q : ℕ) → q < b.papers
        → Counts holds (at p q) (total_below (cell b c q) b.members) (total_below (cell b d q) b.members)
    papers_total q lq = elim (cases_eq q p) [
      | inl e ↦ line_total holds (cell b c q) (cell b d q) m b.members (at p q) lm
          (λ x lx ne. same_cell b c d q x (others q x lx (inr ne))) (at_same p q (sym e))
          (subst (λ k. Counts holds 1 (cell b c k m) (cell b d k m)) (sym e) (one holds refl))
      | inr ne ↦ counts_none holds (at p q) (total_below (cell b c q) b.members) (total_below (cell b d q) b.members)
          (at_other p q (λ e. ne (sym e)))
          (same_total (cell b d q) (cell b c q) b.members (λ x lx. same_cell b c d q x (others q x lx (inl ne))))
    ]

    members_total : (x : ℕ) → x < b.members → Counts holds (at m x) (total_below (λ q. cell b c q x) b.papers)
        (total_below (λ q. cell b d q x) b.papers)
    members_total x lx = elim (cases_eq x m) [
      | inl e ↦ line_total holds (λ q. cell b c q x) (λ q. cell b d q x) p b.papers (at m x) lp
          (λ q lq ne. same_cell b c d q x (others q x lx (inl ne))) (at_same m x (sym e))
          (subst (λ k. Counts holds 1 (cell b c p k) (cell b d p k)) (sym e) (one holds refl))
      | inr ne ↦ counts_none holds (at m x) (total_below (λ q. cell b c q x) b.papers)
          (total_below (λ q. cell b d q x) b.papers) (at_other m x (λ e. ne (sym e)))
          (same_total (λ q. cell b d q x) (λ q. cell b c q x) b.papers
          (λ q lq. same_cell b c d q x (others q x lx (inr ne))))
    ]

    pub altered : Alters b p m holds c d
    altered = record {
      counted = record {
        held = held ∙ h.held;
        long = (long.0 ∙ h.long.0, long.1 ∙ h.long.1);
        given = λ q lq. counts_unique holds (at p q) (total_below (cell b c q) b.members) (get_or d.given.items q 0)
            (total_below (cell b d q) b.members)
            (subst (λ k. Counts holds (at p q) k (get_or d.given.items q 0)) (h.given q lq) (given q))
            (papers_total q lq);
        used = λ x lx. counts_unique holds (at m x) (total_below (λ q. cell b c q x) b.papers) (get_or d.used.items x 0)
            (total_below (λ q. cell b d q x) b.papers)
            (subst (λ k. Counts holds (at m x) k (get_or d.used.items x 0)) (h.used x lx) (used x))
            (members_total x lx);
      };
      here = here;
      others = others;
      given = λ q _. given q;
      used = λ x _. used x;
    }

-- moves that fit the new choice
pub record Fitted (b : Board) (p m : ℕ) (d : Choice) (u z : Moves) : Type 0 where
  pub moves : AreMoves b z
  pub takes : (q x : ℕ) → x < b.members → (q ≢ p) ⊎ (x ≢ m) → Takes b z q x ↔ Takes b u q x
  pub lack : Drops b z b.members p ↔ (get_or d.given.items p 0 < b.want)
  pub room : Drops b z m b.papers ↔ (get_or d.used.items m 0 < b.load)
  pub drops : (x q : ℕ) → q ≤ b.papers → (q ≢ p) ⊎ (x ≢ m) → (x ≢ b.members) ⊎ (q ≢ p) → (x ≢ m) ⊎ (q ≢ b.papers)
      → Drops b z x q ↔ Drops b u x q
  pub taken : Takes b z p m → Holds b d p m → ⊥
  pub dropped : Drops b z m p → Holds b d p m

module _ (b : Board) (p m : ℕ) (lp : p < b.papers) (lm : m < b.members) where
  no_paper : b.papers ≢ p
  no_paper e = absurd (omega (arith, e, lp))

  nobody : b.members ≢ m
  nobody e = absurd (omega (arith, e, lm))

  -- what is free no longer may not be told
  pub added : {d : Choice} {u w : Moves} → Limits b d p m u w → (IsFree b u p m → ⊥) → Fitted b p m d u w
  added l closed = record {
    moves = l.moves;
    takes = λ q x _ _. l.takes q x;
    lack = l.lack;
    room = l.room;
    drops = λ x q lq _. l.drops x q lq;
    taken = λ takes. absurd (closed (inl ((l.takes p m).0 takes)));
    dropped = λ drops. absurd (closed (inr ((l.drops m p (omega (arith, lp)) (inl (λ e. nobody (sym e)))
        (inr (below p b.papers lp))).0 drops)));
  }

  module _ {holds : Bool} {c d : Choice} {u z : Moves} (h : IsDraft b c u) (a : Alters b p m holds c d)
      (v : Fitted b p m d u z) where
    given_other : (q : ℕ) → q < b.papers → q ≢ p → get_or d.given.items q 0 ≡ get_or c.given.items q 0
    given_other q lq ne = counts_same holds (at p q) (get_or c.given.items q 0) (get_or d.given.items q 0)
        (at_other p q (λ e. ne (sym e))) (a.given q lq)

    used_other : (x : ℕ) → x < b.members → x ≢ m → get_or d.used.items x 0 ≡ get_or c.used.items x 0
    used_other x lx ne = counts_same holds (at m x) (get_or c.used.items x 0) (get_or d.used.items x 0)
        (at_other m x (λ e. ne (sym e))) (a.used x lx)

    drops_other : (q x : ℕ) → q < b.papers → x < b.members → (q ≢ p) ⊎ (x ≢ m) → Drops b z x q ↔ Drops b u x q
    drops_other q x lq lx ne =
        v.drops x q (omega (arith, lq)) ne (inl (below x b.members lx)) (inr (below q b.papers lq))

    pub altered_draft : IsDraft b d z
    altered_draft = record {
      counted = a.counted;
      moves = v.moves;
      takes = λ q x lq lx takes has. elim (place_cases q x p m) [
        | inl s ↦ v.taken (moved_to (Takes b z) (sym s.0, sym s.1) takes) (moved_to (Holds b d) (sym s.0, sym s.1) has)
        | inr ne ↦ h.takes q x lq lx ((v.takes q x lx ne).0 takes) ((a.others q x lx ne).0 has)
      ];
      drops = λ q x lq lx drops. elim (place_cases q x p m) [
        | inl s ↦ moved_to (Holds b d) s (v.dropped (moved_to (λ k n. Drops b z n k) (sym s.0, sym s.1) drops))
        | inr ne ↦ (a.others q x lx ne).1 (h.drops q x lq lx ((drops_other q x lq lx ne).0 drops))
      ];
      lack = λ q lq. elim (cases_eq q p) [
        | inl e ↦ subst (λ k. Drops b z b.members k ↔ (get_or d.given.items k 0 < b.want)) (sym e) v.lack
        | inr ne ↦ subst (λ k. Drops b z b.members q ↔ (k < b.want)) (sym (given_other q lq ne)) (iff_trans
            (v.drops b.members q (omega (arith, lq)) (inl ne) (inr ne) (inl nobody)) (h.lack q lq))
      ];
      room = λ x lx. elim (cases_eq x m) [
        | inl e ↦ subst (λ k. Drops b z k b.papers ↔ (get_or d.used.items k 0 < b.load)) (sym e) v.room
        | inr ne ↦ subst (λ k. Drops b z x b.papers ↔ (k < b.load)) (sym (used_other x lx ne)) (iff_trans
            (v.drops x b.papers (omega arith) (inr ne) (inl (below x b.members lx)) (inl ne)) (h.room x lx))
      ];
      never = λ drops. h.never
          ((v.drops b.members b.papers (omega arith) (inl no_paper) (inr no_paper) (inl nobody)).0 drops);
    }

    -- where the pair might change, and may
    module _ (was : IsFree b u p m) (is : IsFree b z p m) where
      free : (q x : ℕ) → q < b.papers → x < b.members → IsFree b z q x ↔ IsFree b u q x
      free q x lq lx = elim (place_cases q x p m) [
        | inl s ↦ ((λ _. moved_to (IsFree b u) s was), (λ _. moved_to (IsFree b z) s is))
        | inr ne ↦ let t = v.takes q x lx ne in let k = drops_other q x lq lx ne in (
          (λ f. elim f [ inl y ↦ inl (t.0 y) | inr y ↦ inr (k.0 y) ]),
          (λ f. elim f [ inl y ↦ inl (t.1 y) | inr y ↦ inr (k.1 y) ]),
        )
      ]

      pub flipped : Flips b p m holds c u d z
      flipped = record {
        draft = altered_draft;
        loose = record {
          free = free;
          closed = λ q x _ lx none. elim (place_cases q x p m) [
            | inl s ↦ absurd (none (moved_to (IsFree b u) s was))
            | inr ne ↦ a.others q x lx ne
          ];
          spare = λ x lx. v.takes b.papers x lx (inl no_paper);
        };
        others = λ q x lq lx ne. (
          (v.takes q x lx (inr ne)).1,
          (v.drops x q lq (inr ne) (inl (below x b.members lx)) (inl ne)).1,
        );
        column = λ q lq lx other. elim other [
          | inl ne ↦ (v.takes q m lm (inl ne)).1
          | inr e ↦ absurd (no_paper (sym e))
        ];
        given = λ q lq _. a.given q lq;
        none = λ e. absurd (nobody (sym e));
        used = λ x lx _. a.used x lx;
        idle = λ e. absurd (no_paper (sym e));
      }

  -- told anew, so that the pair may change back
  pub told_back : {holds : Bool} {d : Choice} {u w z : Moves} → Limits b d p m u w → Tells b p m (not holds) holds w z
      → (Holds b d p m ↔ (holds ≡ true)) → Fitted b p m d u z
  told_back {holds} l t here = record {
    moves = t.moves;
    takes = λ q x lx ne. iff_trans (t.takes q x lx ne) (l.takes q x);
    lack = iff_trans (t.drops b.members p (omega (arith, lp)) (inr nobody)) l.lack;
    room = iff_trans (t.drops m b.papers (omega arith) (inl no_paper)) l.room;
    drops = λ x q lq ne ne' ne''. iff_trans (t.drops x q lq ne) (l.drops x q lq ne' ne'');
    taken = λ takes has. absurd (let e = sym (not-true holds (t.taken.0 takes)) ∙ here.0 has in cc);
    dropped = λ drops. here.1 (t.dropped.0 drops);
  }

  pub free_back : (holds : Bool) {w z : Moves} → Tells b p m (not holds) holds w z → IsFree b z p m
  free_back true t = inr (t.dropped.1 refl)
  free_back false t = inl (t.taken.1 refl)

pub same_iff : {A : Type 0} → A ↔ A
same_iff = ((λ a. a), (λ a. a))

pub loose_same : {b : Board} {c : Choice} {u : Moves} → Loosens b c u c u
loose_same = record { free = λ q x _ _. same_iff; closed = λ q x _ _ _. same_iff; spare = λ x _. same_iff }

-- the spare paper and nobody hold nothing
pub idle : {b : Board} {c : Choice} {u : Moves} (p m : ℕ) (holds : Bool) → IsDraft b c u
    → (p ≡ b.papers) ⊎ (m ≡ b.members) → Flips b p m holds c u c u
idle {b} {c} {u} p m holds h off = record {
  draft = h;
  loose = loose_same;
  others = λ q x _ _ _. ((λ a. a), (λ a. a));
  column = λ q _ _ _ a. a;
  given = λ q lq lm. counts_none holds (at p q) (get_or c.given.items q 0) (get_or c.given.items q 0)
      (at_other p q (λ e. elim off
      [ inl k ↦ absurd (omega (arith, e, k, lq)) | inr k ↦ absurd (omega (arith, k, lm)) ]))
      refl;
  none = λ _ q. refl;
  used = λ x lx lp. counts_none holds (at m x) (get_or c.used.items x 0) (get_or c.used.items x 0)
      (at_other m x (λ e. elim off
      [ inl k ↦ absurd (omega (arith, k, lp)) | inr k ↦ absurd (omega (arith, e, k, lx)) ]))
      refl;
  idle = λ _ x. refl;
}
