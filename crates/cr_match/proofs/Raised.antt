-- SPDX-License-Identifier: Apache-2.0 OR MIT
-- A step of prices keeps a plan fitting, and a search begun.
use Rattle.cr_match.proofs.Common.{◌≡◌, ◌⊎◌, inl, inr, ℕ, ◌+◌, ◌<◌, ◌≤◌, length, get_or, refl, arith, sym, ◌∙◌, subst}
use Rattle.cr_match.proofs.Common.{Has, Takes, Drops, step_of, AreSteps, worth, price_of, far, AreSmall, Holds, Fits}
use Rattle.cr_match.proofs.Common.{AreTold, IsGap, IsFitting, IsBegun, Board, Levels, Choice, Moves, Trail, Vec, Global}
use Rattle.cr_match.specs.Tight.{Stays}
use Rattle.cr_match.specs.Raise.{IsRepriced}
use Rattle.cr_match.proofs.Bits.{has_cases}
use Rattle.cr_match.proofs.Closed.{IsClosed, full, lacking_seen, real_paper}
use Rattle.cr_match.proofs.Flipped.{or_all}
use Rattle.cr_match.proofs.Sets.{clear_none}
use Rattle.cr_match.proofs.Told.{told_draft, told_tight}
use Rattle.cr_match.proofs.Turned.{no_member}

module _ {b : Board} {v w : Levels} {c : Choice} {u : Moves} {t : Trail} {most n : ℕ} (h : IsClosed b v c u t most)
    (r : IsRepriced t n v w) where
  -- what becomes of a price
  paper : (p : ℕ) → p < b.papers → (Has t.papers.items p × (get_or w.papers.items p 0 + n ≡ get_or v.papers.items p 0))
      ⊎ ((Has t.papers.items p → ⊥) × (get_or w.papers.items p 0 ≡ get_or v.papers.items p 0))
  paper p lp = let l : p < length v.papers.items = omega (arith, lp, h.fit.long.0) in
      elim (has_cases t.papers.items p) [
        | inl has ↦ inl (has, (r.papers p l).0 has)
        | inr none ↦ inr (none, (r.papers p l).1 none)
      ]

  member : (m : ℕ) → m < b.members
      → (Has t.path.members.items m × (get_or w.members.items m 0 ≡ get_or v.members.items m 0 + n))
      ⊎ ((Has t.path.members.items m → ⊥) × (get_or w.members.items m 0 ≡ get_or v.members.items m 0))
  member m lm = let l : m < length v.members.items = omega (arith, lm, h.fit.long.1) in
      elim (has_cases t.path.members.items m) [
        | inl has ↦ inl (has, (r.members m l).0 has)
        | inr none ↦ inr (none, (r.members m l).1 none)
      ]

  -- prices that can be added, after the step
  pub small_after : w.nobody ≤ 210000000 → AreSmall b w
  small_after top = record {
    long = (r.long.0 ∙ h.fit.long.0, r.long.1 ∙ h.fit.long.1);
    papers = λ p lp. elim (paper p lp) [
      | inl k ↦ omega (arith, k.1, h.fit.bounded.ceiling p lp)
      | inr k ↦ omega (arith, k.1, h.fit.bounded.ceiling p lp)
    ];
    members = λ m lm. elim (member m lm) [
      | inl k ↦ omega (arith, k.1, h.fit.bounded.members m lm, r.nobody, top)
      | inr k ↦ omega (arith, k.1, h.fit.bounded.members m lm, r.nobody, top)
    ];
  }

  -- a pair of which both are reached is as far from its prices as before
  same_price : (p m : ℕ) → p < b.papers → m < b.members → Has t.papers.items p → Has t.path.members.items m
      → price_of w p m ≡ price_of v p m
  same_price p m lp lm hp hm = elim (paper p lp) [
    | inr k ↦ absurd (k.0 hp)
    | inl j ↦ elim (member m lm) [ inl k ↦ omega (arith, j.1, k.1) | inr k ↦ absurd (k.0 hm) ]
  ]

  module _ {z : Moves} (gap : IsGap b v c t n) (less : n < far) (s : Stays b u z)
      (told : (p m : ℕ) → p < b.papers → m < b.members → AreTold b w c z p m) where
    suits : (p m : ℕ) → p < b.papers → m < b.members → (Holds b c p m → price_of w p m ≤ worth b p m)
        × ((Holds b c p m → ⊥) → worth b p m ≤ price_of w p m)
    suits p m lp lm =
        let held = h.fit.suits.held p m lp lm in
        let left = h.fit.suits.left p m lp lm in
        let clears = gap.clears p m lp lm in
        elim (paper p lp) [
          | inl j ↦ elim (member m lm) [
            | inl k ↦ ((λ x. omega (arith, j.1, k.1, held x)), (λ x. omega (arith, j.1, k.1, left x)))
            | inr k ↦ (
              (λ x. omega (arith, j.1, k.1, held x)),
              (λ x. omega (arith, j.1, k.1, clears.0 (record { paper = j.0; member = k.0; lacks = x }))),
            )
          ]
          | inr j ↦ elim (member m lm) [
            | inl k ↦ (
              (λ x. omega (arith, j.1, k.1, clears.1 (record { paper = j.0; member = k.0; has = x }))),
              (λ x. omega (arith, j.1, k.1, left x)),
            )
            | inr k ↦ ((λ x. omega (arith, j.1, k.1, held x)), (λ x. omega (arith, j.1, k.1, left x)))
          ]
        ]

    new_fits : Fits b w.members.items b.members c
    new_fits x lx =
        let old = h.fit.fits x lx in
        let none = no_member b x lx in (
          old.0,
          λ some. elim (member x lx) [
            | inl k ↦ omega (arith, none, full h x lx k.0)
            | inr k ↦ old.1 (omega (arith, some, k.1))
          ],
        )

    pub still_fitting : IsFitting b w c z
    still_fitting = record {
      long = (r.long.0 ∙ h.fit.long.0, r.long.1 ∙ h.fit.long.1);
      draft = told_draft w c s told h.fit.draft;
      suits = record {
        held = λ p m lp lm. (suits p m lp lm).0;
        left = λ p m lp lm. (suits p m lp lm).1;
      };
      tight = told_tight w c s told;
      bounded = record {
        lacking = λ p lp lacks. elim (paper p lp) [
          | inl k ↦ omega (arith, r.nobody, k.1, h.fit.bounded.lacking p lp lacks)
          | inr k ↦ absurd (k.0 (lacking_seen h p lp lacks))
        ];
        floor = λ p lp. elim (paper p lp) [
          | inl k ↦ omega (arith, r.nobody, k.1, h.fit.bounded.floor p lp)
          | inr k ↦ omega (arith, r.nobody, k.1, h.fit.bounded.floor p lp)
        ];
        ceiling = λ p lp. elim (paper p lp) [
          | inl k ↦ omega (arith, k.1, h.fit.bounded.ceiling p lp)
          | inr k ↦ omega (arith, k.1, h.fit.bounded.ceiling p lp)
        ];
        members = λ m lm. elim (member m lm) [
          | inl k ↦ omega (arith, r.nobody, k.1, h.fit.bounded.members m lm)
          | inr k ↦ omega (arith, r.nobody, k.1, h.fit.bounded.members m lm)
        ];
      };
      most = h.fit.most;
      fits = new_fits;
      spare = λ x lx takes. h.fit.spare x lx ((s.spare x lx).0 takes);
    }

    -- what leads from a step to the next still does

    still_takes : (p m : ℕ) → p < b.papers → m < b.members → Has t.papers.items p → Has t.path.members.items m
        → Takes b u p m → Takes b z p m
    still_takes p m lp lm hp hm takes = (told p m lp lm).0.1 (
      h.fit.draft.takes p m lp lm takes,
      (h.fit.tight p m lp lm).0 (inl takes) ∙ sym (same_price p m lp lm hp hm),
    )

    still_drops : (i q : ℕ) → i < t.path.count → q ≤ b.papers → Drops b u (step_of t.path i).member q
        → Drops b z (step_of t.path i).member q
    still_drops i q lt lq drops =
        let lp = real_paper h i q lt lq drops in
        elim (or_all (step_of t.path i).member b.members (h.steps.inside i lt)) [
          | inr all ↦ subst (λ x. Drops b z x q) (sym all) ((s.lack q lq).1 (subst (λ x. Drops b u x q) all drops))
          | inl lx ↦ (told q (step_of t.path i).member lp lx).1.1 (
            h.fit.draft.drops q (step_of t.path i).member lp lx drops,
            (h.fit.tight q (step_of t.path i).member lp lx).0 (inr drops)
                ∙ sym (same_price q (step_of t.path i).member lp lx
                (h.done.2 i lt q lq drops) (h.steps.seen i lt)),
          )
        ]

    new_steps : AreSteps b z t.path
    new_steps = record {
      count = h.steps.count;
      inside = h.steps.inside;
      taken = h.steps.taken;
      rows = h.steps.rows;
      seen = h.steps.seen;
      apart = h.steps.apart;
      found = h.steps.found;
      leads = λ i lt. elim (h.steps.leads i lt) [
        | inl root ↦ inl root
        | inr way ↦ let lf : (step_of t.path i).from < t.path.count = omega (arith, way.0, lt) in
            let lr = h.steps.rows i lt in
            inr (
              way.0,
              still_takes (step_of t.path i).paper (step_of t.path i).member
                  (real_paper h (step_of t.path i).from (step_of t.path i).paper lf lr way.2)
                  (h.steps.taken i (omega (arith, way.0, h.start.0)) lt)
                  (h.done.2 (step_of t.path i).from lf (step_of t.path i).paper lr way.2) (h.steps.seen i lt) way.1,
              still_drops (step_of t.path i).from (step_of t.path i).paper lf lr way.2,
            )
      ];
      after = h.steps.after;
    }

    -- the search, once its papers are taken away
    pub still_begun : (ps : Vec ℕ Global) → ((k : ℕ) → get_or ps.items k 0 ≡ 0)
        → length ps.items ≡ length t.papers.items → IsBegun b w z (record { papers = ps; path = t.path; next = 0 }) most
    still_begun ps clear long = record {
      roomy = (long ∙ h.roomy.0, h.roomy.1);
      steps = new_steps;
      reached = record {
        none = λ i lt drops. h.done.0.none i lt ((s.room (step_of t.path i).member (h.steps.inside i lt)).0 drops);
        away = clear_none ps.items clear b.papers;
        spread = λ q has. absurd (clear_none ps.items clear q has);
        dropped = λ q _ has. absurd (clear_none ps.items clear q has);
      };
      start = (refl, h.start.0, h.start.1, h.start.2);
      members = λ m lm none. elim (member m lm) [
        | inl k ↦ absurd (none k.0)
        | inr k ↦ omega (arith, k.1, h.members m lm none)
      ];
      papers = λ p lp. elim (paper p lp) [
        | inl k ↦ let way = h.done.0.dropped p (omega (arith, lp)) k.0 in
            inr (way.0, way.1, still_drops way.0 p way.1 (omega (arith, lp)) way.2)
        | inr k ↦ inl (omega (arith, k.1, h.papers p lp k.0))
      ];
      nobody = omega (arith, h.nobody, r.nobody);
    }
