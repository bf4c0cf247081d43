-- SPDX-License-Identifier: Apache-2.0 OR MIT
-- A turn keeps a plan fitting, and some paper has one member more.
use Rattle.cr_match.proofs.Common.{◌≡◌, ◌⊎◌, inl, inr, ℕ, ◌+◌, ◌<◌, ◌≤◌, get_or, refl, arith, ap, sym, ◌∙◌, cases_eq}
use Rattle.cr_match.proofs.Common.{worth, price_of, IsDraft, IsFree, Suits, Turns, at, IsFitting, IsBegun, IsSearched}
use Rattle.cr_match.proofs.Common.{placed, Board, Levels, Choice, Moves, Path, Trail, step_of}
use Rattle.cr_match.specs.Draft.{Loosens}
use Rattle.cr_match.specs.Search.{Reaches}
use Rattle.cr_match.proofs.Bits.{row_cases}
use Rattle.cr_match.proofs.Flipped.{at_other, at_same, iff_trans}
use Rattle.cr_match.proofs.Reached.{IsRooted, rooted_long, rooted_member, rooted_reached, rooted_steps}
use Rattle.cr_match.proofs.Room.{changed_total}

free_cases : (b : Board) (u : Moves) (p m : ℕ) → IsFree b u p m ⊎ (IsFree b u p m → ⊥)
free_cases b u p m = elim (row_cases b.wide u.takes.items p m) [
  | inl takes ↦ inl (inl takes)
  | inr none ↦ elim (row_cases b.tall u.drops.items m p) [
    | inl drops ↦ inl (inr drops)
    | inr none' ↦ inr (λ h. elim h [ inl x ↦ none x | inr x ↦ none' x ])
  ]
]

-- where what may change is worth its prices, what changed suits either way
pub loose_suits : {b : Board} {v : Levels} {c d : Choice} {u w : Moves} → Loosens b c u d w
    → ((p m : ℕ) → p < b.papers → m < b.members → IsFree b u p m → worth b p m ≡ price_of v p m) → Suits b v c
    → Suits b v d
loose_suits {b} {v} {c} {d} {u} {w} l tight suits = record {
  held = λ p m lp lm has. elim (free_cases b u p m) [
    | inl free ↦ omega (arith, tight p m lp lm free)
    | inr none ↦ suits.held p m lp lm ((l.closed p m lp lm none).0 has)
  ];
  left = λ p m lp lm lacks. elim (free_cases b u p m) [
    | inl free ↦ omega (arith, tight p m lp lm free)
    | inr none ↦ suits.left p m lp lm (λ has. lacks ((l.closed p m lp lm none).1 has))
  ];
}

-- one more place
module _ {b : Board} {v : Levels} {c d : Choice} {u w : Moves} (fit : IsFitting b v c u)
    (t : Turns b b.papers b.members c u d w) (h : IsDraft b d w) where
  gives : (r : ℕ) × (r < b.papers) × (get_or c.given.items r 0 < b.want)
      × ((q : ℕ) → q < b.papers → get_or d.given.items q 0 ≡ get_or c.given.items q 0 + at r q)
  gives = elim t.given [
    | inl all ↦ absurd (all.0 refl)
    | inr one ↦ (
      one.1,
      one.2,
      one.3,
      λ q lq. omega (
        arith,
        one.4 q lq,
        at_other b.papers q (λ e. absurd (omega (arith, e, lq))),
      ),
    )
  ]

  most : (p : ℕ) → p < b.papers → get_or d.given.items p 0 ≤ b.want
  most p lp = elim (cases_eq gives.0 p) [
    | inl e ↦ omega (arith, gives.3 p lp, at_same gives.0 p e, ap (λ k. get_or c.given.items k 0) e, gives.2)
    | inr ne ↦ omega (arith, gives.3 p lp, at_other gives.0 p ne, fit.most p lp)
  ]

  pub one_more : placed b d ≡ placed b c + 1
  one_more = omega (
    arith,
    gives.3 gives.0 gives.1,
    at_same gives.0 gives.0 refl,
    changed_total (λ p. get_or d.given.items p 0) (λ p. get_or c.given.items p 0) gives.0 b.papers gives.1
        (λ q lq ne. omega (arith, gives.3 q lq, at_other gives.0 q (λ e. ne (sym e)))),
  )

  pub served : IsFitting b v d w
  served = record {
    long = fit.long;
    draft = h;
    suits = loose_suits t.loose (λ p m lp lm free. (fit.tight p m lp lm).0 free) fit.suits;
    tight = λ p m lp lm. iff_trans (t.loose.free p m lp lm) (fit.tight p m lp lm);
    bounded = record {
      lacking = λ p lp less. fit.bounded.lacking p lp (omega (arith, less, gives.3 p lp));
      floor = fit.bounded.floor;
      ceiling = fit.bounded.ceiling;
      members = fit.bounded.members;
    };
    most = most;
    fits = t.fits v.members.items (λ x lx takes. absurd (fit.spare x lx takes)) fit.fits;
    spare = λ x lx takes. fit.spare x lx ((t.loose.spare x lx).0 takes);
  }

-- a search begins at nobody
module _ {b : Board} {v : Levels} {c : Choice} {u : Moves} {s : Trail} {t : Path} (fit : IsFitting b v c u)
    (search : IsSearched b u b.papers s) (zero : s.path.count ≡ 0) (reaches : Reaches b.members 0 s.path.count s.path t)
    (root : t.root ≡ s.path.count) where
  rooted : IsRooted b u b.papers b.members s t
  rooted = record {
    search = search;
    member = omega arith;
    absent = λ has. absurd (omega (arith, (search.steps.found b.members (omega arith) has).1, zero));
    closed = fit.draft.never;
    reaches = reaches;
    root = root;
  }

  pub begun_all : IsBegun b v u (record { papers = s.papers; path = t; next = s.next }) v.nobody
  begun_all = record {
    roomy = (search.roomy.0, rooted_long rooted);
    steps = rooted_steps rooted;
    reached = rooted_reached rooted;
    start = (
      search.done.1 ∙ zero,
      root ∙ zero,
      omega (arith, reaches.count),
      ap (λ i. (step_of t i).member) (sym zero) ∙ rooted_member rooted,
    );
    members = λ m lm _. fit.bounded.members m lm;
    papers = λ p lp. inl (fit.bounded.floor p lp);
    nobody = omega arith;
  }
