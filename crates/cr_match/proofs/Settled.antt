-- SPDX-License-Identifier: Apache-2.0 OR MIT
-- One more pair is settled.
use Rattle.cr_match.proofs.Common.{Board, Choice, Drops, Has, Holds, IsBest, IsBoardFor, IsDraft, IsFree, IsSearched}
use Rattle.cr_match.proofs.Common.{IsSettling, IsTurned, Levels, List, Moves, Pair, Suits, Takes, Trail, arith}
use Rattle.cr_match.proofs.Common.{cases_eq, cases_lt, chosen, count_by, false, get_or, inl, inr, ints, is_held, length}
use Rattle.cr_match.proofs.Common.{nth, of_member, pos, price_of, refl, step_of, map, subst, sym, true, worth, ℕ, ◌+◌}
use Rattle.cr_match.proofs.Common.{◌<◌, ◌∙◌, ◌≡◌, ◌≢◌, ◌≤◌, ◌↔◌}
use Rattle.cr_match.specs.Settle.{Brings}
use Rattle.cr_match.specs.Tight.{Tells}
use Rattle.cr_match.proofs.Bits.{bit_if, bit_in, bit_most, bit_none, has_cases}
use Rattle.cr_match.proofs.Flipped.{holds_cases, iff_trans, moved_to, place_cases}
use Rattle.cr_match.proofs.Held.{gap_is, held_is, held_isnt, inside_at, is_held_if, member_price, not_held_if}
use Rattle.cr_match.proofs.Held.{other_pair, count_members, paper_price, plan_of, priced, real, suits_all, suits_at}
use Rattle.cr_match.proofs.Rivals.{below_price, gap_at, not_reached, one_more, still_first, worth_most}
use Rattle.cr_match.proofs.Served.{loose_suits}
use Rattle.cr_match.proofs.Told.{redrawn, stays_one}
use Rattle.cr_match.proofs.Turned.{no_member}

-- a pair that may change no longer
module _ {b : Board} {p m : ℕ} {u z : Moves} (lp : p < b.papers) (lm : m < b.members)
    (t : Tells b p m false false u z) where
  here : IsFree b z p m → ⊥
  here (inl takes) = absurd (let e = t.taken.0 takes in cc)
  here (inr drops) = absurd (let e = t.dropped.0 drops in cc)

  fewer_takes : (q x : ℕ) → x < b.members → Takes b z q x → Takes b u q x
  fewer_takes q x lx takes = elim (place_cases q x p m) [
    | inl s ↦ absurd (here (inl (moved_to (Takes b z) (sym s.0, sym s.1) takes)))
    | inr ne ↦ (t.takes q x lx ne).0 takes
  ]

  fewer_drops : (q x : ℕ) → q ≤ b.papers → Drops b z x q → Drops b u x q
  fewer_drops q x lq drops = elim (place_cases q x p m) [
    | inl s ↦ absurd (here (inr (moved_to (λ k n. Drops b z n k) (sym s.0, sym s.1) drops)))
    | inr ne ↦ (t.drops x q lq ne).0 drops
  ]

  fewer_free : (q x : ℕ) → q < b.papers → x < b.members → IsFree b z q x → IsFree b u q x
  fewer_free q x lq lx (inl takes) = inl (fewer_takes q x lx takes)
  fewer_free q x lq lx (inr drops) = inr (fewer_drops q x (omega (arith, lq)) drops)

  -- a search for the paper is still done, since none of its steps is of the paper
  pub closed_searched : {o : Trail} → IsSearched b u p o → IsSearched b z p o
  closed_searched {o} s = record {
    roomy = s.roomy;
    steps = record {
      count = s.steps.count;
      inside = s.steps.inside;
      taken = s.steps.taken;
      rows = s.steps.rows;
      seen = s.steps.seen;
      apart = s.steps.apart;
      found = s.steps.found;
      leads = λ i lt. elim (s.steps.leads i lt) [
        | inl own ↦ inl own
        | inr way ↦ let ne : (step_of o.path i).paper ≢ p = λ e. s.done.0.none (step_of o.path i).from
            (omega (arith, way.0, lt)) (subst (Drops b u (step_of o.path (step_of o.path i).from).member) e way.2) in
            inr (
              way.0,
              (t.takes (step_of o.path i).paper (step_of o.path i).member (s.real i lt) (inl ne)).1 way.1,
              (t.drops (step_of o.path (step_of o.path i).from).member (step_of o.path i).paper (s.steps.rows i lt)
                  (inl ne)).1 way.2,
            )
      ];
      after = s.steps.after;
    };
    done = (
      record {
        none = λ i lt drops. s.done.0.none i lt (fewer_drops p (step_of o.path i).member (omega (arith, lp)) drops);
        away = s.done.0.away;
        spread = λ q has x lx takes. s.done.0.spread q has x lx (fewer_takes q x lx takes);
        dropped = λ q lq has.
            let old = s.done.0.dropped q lq has in (
              old.0,
              old.1,
              (t.drops (step_of o.path old.0).member q lq
                  (inl (λ e. s.done.0.away (subst (Has o.papers.items) e has)))).1 old.2,
            );
      },
      s.done.1,
      λ i lt q lq drops. s.done.2 i lt q lq (fewer_drops q (step_of o.path i).member lq drops),
    );
    real = s.real;
  }

  pub closed_draft : {c : Choice} → IsDraft b c u → IsDraft b c z
  closed_draft h =
      let s = stays_one lp lm t in
      redrawn h t.moves (λ q x lq lx takes. h.takes q x lq lx (fewer_takes q x lx takes))
      (λ q x lq lx drops. h.drops q x lq lx (fewer_drops q x (omega (arith, lq)) drops)) s.lack s.room

module _ {es : List Pair} {b : Board} (of : IsBoardFor es b) (i : ℕ) (li : i < length es) where
  abbrev e : Pair
  e = nth es i

  pub closing : {v : Levels} {c : Choice} {u z : Moves} → IsSettling es b v c u i i
      → Tells b e.paper e.member false false u z → IsSettling es b v c z (i + 1) i
  closing {v} {c} {u} {z} h t =
      let k = inside_at of i li in
      record {
        best = h.best;
        draft = closed_draft k.0 k.1 t h.draft;
        free = λ q x lq lx f. h.free q x lq lx (fewer_free k.0 k.1 t q x lq lx f);
        tight = λ j lj lt is.
            let w = inside_at of j lt in
            let ne = other_pair es of.distinct i j li lt (λ s. absurd (omega (arith, s, lj))) in
            elim (h.tight j (omega (arith, lj)) lt is) [
              | inl takes ↦ inl ((t.takes (nth es j).paper (nth es j).member w.1 ne).1 takes)
              | inr drops ↦ inr ((t.drops (nth es j).member (nth es j).paper (omega (arith, w.0)) ne).1 drops)
            ];
        closed = λ j lj lt f. elim (cases_eq j i) [
          | inl s ↦ here k.0 k.1 t (subst (λ n. IsFree b z (nth es n).paper (nth es n).member) s f)
          | inr ne ↦ let w = inside_at of j lt in
              h.closed j (omega (arith, lj, ne)) lt (fewer_free k.0 k.1 t (nth es j).paper (nth es j).member w.0 w.1 f)
        ];
        spare = λ x lx. iff_trans ((stays_one k.0 k.1 t).spare x lx) (h.spare x lx);
        first = h.first;
      }

  module _ {v : Levels} {c : Choice} {u : Moves} (h : IsSettling es b v c u (i + 1) i) where
    turned : IsTurned b.papers b.want b.load es (is_held b c) i → IsSettling es b v c u (i + 1) (i + 1)
    turned t = record {
      best = h.best;
      draft = h.draft;
      free = h.free;
      tight = h.tight;
      closed = h.closed;
      spare = h.spare;
      first = one_more b.papers b.want b.load es (is_held b c) i h.first t;
    }

    -- the pair is held
    pub settled_held : Holds b c e.paper e.member → IsSettling es b v c u (i + 1) (i + 1)
    settled_held has = turned (λ _ _ _ _ _. is_held_if b c e has)

    module _ (lacks : Holds b c e.paper e.member → ⊥) where
      -- it is worth less than its prices
      pub settled_low : worth b e.paper e.member ≢ price_of v e.paper e.member → IsSettling es b v c u (i + 1) (i + 1)
      settled_low ne = turned (below_price b.papers b.members b.want b.load es (is_held b c) of.inside
          (plan_of of h.draft.counted h.best) (paper_price v) (member_price v) i li (suits_at of h.draft.counted h.best)
          (not_held_if b c e lacks) (priced of h.draft.counted h.best)
          (λ z. ne (omega (arith, ints, z, gap_is of h.draft.counted h.best i li))))

      module _ (is : worth b e.paper e.member ≡ price_of v e.paper e.member) where
        -- no search can bring it in
        module _ {t : Trail} (s : IsSearched b u e.paper t) (reached : Has t.path.members.items e.member) where
          dropped_reached : (q x : ℕ) → q ≤ b.papers → x < b.members → Has t.path.members.items x → Drops b u x q
              → Has t.papers.items q
          dropped_reached q x lq lx has drops =
              let step = s.steps.found x (omega (arith, lx)) has in
              s.done.2 step.0 step.1 q lq (subst (λ n. Drops b u n q) (sym step.2) drops)

          -- if what has the first has the second, so do the bits
          bits_le : (xs ys : List ℕ) (k n : ℕ) → (Has xs k → Has ys n) → bit_in xs k ≤ bit_in ys n
          bits_le xs ys k n also = elim (has_cases xs k) [
            | inl has ↦ omega (arith, bit_if xs k has, bit_if ys n (also has))
            | inr none ↦ omega (arith, bit_none xs k none)
          ]

          full : (x : ℕ) → x < b.members
              → (bit_in t.papers.items b.papers ≤ member_price v x + bit_in t.path.members.items x)
              × (bit_in t.papers.items b.papers < member_price v x + bit_in t.path.members.items x
              → count_by (of_member x) (chosen b c es) ≡ b.load)
          full x lx =
              let pays = priced of h.draft.counted h.best x lx in
              elim (has_cases t.papers.items b.papers) [
                | inr away ↦ let z = bit_none t.papers.items b.papers away in (
                  omega (arith, z),
                  λ some. elim (has_cases t.path.members.items x) [
                    | inr none ↦ pays (omega (arith, z, some, bit_none t.path.members.items x none))
                    | inl has ↦ elim (cases_lt (get_or c.used.items x 0) b.load) [
                      | inl less ↦ absurd (away
                          (dropped_reached b.papers x (omega arith) lx has ((h.draft.room x lx).1 less)))
                      | inr all ↦ count_members of h.draft.counted (real of h.draft.counted h.best) x lx
                          ∙ omega (arith, all, (h.best.fits x lx).0)
                    ]
                  ],
                )
                | inl has ↦ let z = bit_if t.papers.items b.papers has in (
                  elim (cases_eq (member_price v x) 0) [
                    | inr nz ↦ omega (arith, nz, z)
                    | inl free ↦ omega (
                      arith,
                      z,
                      bit_if t.path.members.items x (s.done.0.spread b.papers has x lx ((h.spare x lx).1 free)),
                    )
                  ],
                  λ some. pays (omega (arith, z, some, bit_most t.path.members.items x)),
                )
              ]

          pub settled_out : IsSettling es b v c u (i + 1) (i + 1)
          settled_out = turned (not_reached b.papers b.members b.want b.load es (is_held b c) of.inside
              (plan_of of h.draft.counted h.best) (paper_price v) (member_price v) i li
              (suits_at of h.draft.counted h.best) (not_held_if b c e lacks) (bit_in t.papers.items)
              (bit_in t.path.members.items) (bit_in t.papers.items b.papers)
              (omega (arith, ints, is, gap_is of h.draft.counted h.best i li))
              (bit_none t.papers.items e.paper s.done.0.away) (bit_if t.path.members.items e.member reached)
              (bit_most t.papers.items) (bit_most t.path.members.items) later full)
            where
              later : (j : ℕ) → i < j → j < length es → gap_at (paper_price v) (member_price v) (nth es j) ≡ pos 0
                  → (is_held b c (nth es j) ≡ false
                  → bit_in t.papers.items (nth es j).paper ≤ bit_in t.path.members.items (nth es j).member)
                  × (is_held b c (nth es j) ≡ true
                  → bit_in t.path.members.items (nth es j).member ≤ bit_in t.papers.items (nth es j).paper)
              later j lj lt z =
                  let w = inside_at of j lt in
                  let f = h.tight j (omega (arith, lj)) lt
                  (omega (arith, ints, z, gap_is of h.draft.counted h.best j lt)) in (
                    (λ out. bits_le t.papers.items t.path.members.items (nth es j).paper (nth es j).member
                        (λ has. elim f [
                          | inl takes ↦ s.done.0.spread (nth es j).paper has (nth es j).member w.1 takes
                          | inr drops ↦ absurd (held_isnt b c (nth es j) out
                              (h.draft.drops (nth es j).paper (nth es j).member w.0 w.1 drops))
                        ])),
                    (λ in'. bits_le t.path.members.items t.papers.items (nth es j).member (nth es j).paper
                        (λ has. elim f [
                          | inl takes ↦ absurd (h.draft.takes (nth es j).paper (nth es j).member w.0 w.1 takes
                              (held_is b c (nth es j) in'))
                          | inr drops ↦ dropped_reached (nth es j).paper (nth es j).member
                              (omega (arith, w.0)) w.1 has drops
                        ])),
                  )

        -- or a search brings it in
        module _ {d : Choice} {z : Moves} (he : IsDraft b d z) (k : Brings b e.paper e.member c u d z) where
          free_same : (q x : ℕ) → q < b.papers → x < b.members → IsFree b z q x ↔ IsFree b u q x
          free_same q x lq lx = iff_trans (
            (λ f. elim f [ inl y ↦ inl ((k.limits.takes q x).0 y) | inr y ↦ inr (drops.0 y) ]),
            (λ f. elim f [ inl y ↦ inl ((k.limits.takes q x).1 y) | inr y ↦ inr (drops.1 y) ]),
          ) (k.turns.loose.free q x lq lx)
            where
              drops : Drops b z x q ↔ Drops b k.moves x q
              drops = k.limits.drops x q (omega (arith, lq)) (inl (λ s. absurd (omega (arith, s, lx))))
                  (inr (λ s. absurd (omega (arith, s, lq))))

          given_same : (q : ℕ) → q < b.papers → get_or d.given.items q 0 ≡ get_or c.given.items q 0
          given_same q lq = elim k.turns.given [
            | inl all ↦ omega (arith, k.alters.given q lq, all.1 q lq)
            | inr root ↦ absurd (omega (arith, root.0, (inside_at of i li).1))
          ]

          mid_suits : Suits b v k.choice
          mid_suits = loose_suits k.turns.loose h.free h.best.suits

          new_best : IsBest b v d
          new_best = record {
            long = h.best.long;
            suits = record {
              held = λ q x lq lx has. elim (place_cases q x e.paper e.member) [
                | inl s ↦ moved_to (λ n y. price_of v n y ≤ worth b n y) s (omega (arith, is))
                | inr ne ↦ mid_suits.held q x lq lx ((k.alters.others q x lx ne).0 has)
              ];
              left = λ q x lq lx none. elim (place_cases q x e.paper e.member) [
                | inl s ↦ absurd (none (moved_to (Holds b d) s (k.alters.here.1 refl)))
                | inr ne ↦ mid_suits.left q x lq lx (λ has. none ((k.alters.others q x lx ne).1 has))
              ];
            };
            full = λ q lq. given_same q lq ∙ h.best.full q lq;
            fits = λ x lx.
                let f = k.turns.fits v.members.items (λ y ly takes. (h.spare y ly).0 takes) h.best.fits x lx in
                let n = no_member b x lx in (
                  omega (arith, n, k.alters.used x lx, f.0),
                  λ some. omega (arith, n, k.alters.used x lx, f.1 some),
                );
            priced = h.best.priced;
          }

          -- pairs before are as they were
          before_same : (j : ℕ) → j < i → is_held b d (nth es j) ≡ is_held b c (nth es j)
          before_same j lj =
              let lt : j < length es = omega (arith, lj, li) in
              let w = inside_at of j lt in
              let same = iff_trans (k.alters.others (nth es j).paper (nth es j).member w.1
              (other_pair es of.distinct i j li lt (λ s. absurd (omega (arith, s, lj)))))
              (k.turns.loose.closed (nth es j).paper (nth es j).member w.0 w.1 (h.closed j (omega (arith, lj)) lt)) in
              elim (holds_cases b c (nth es j).paper (nth es j).member) [
                | inl has ↦ is_held_if b d (nth es j) (same.1 has) ∙ sym (is_held_if b c (nth es j) has)
                | inr none ↦ not_held_if b d (nth es j) (λ has. none (same.0 has))
                    ∙ sym (not_held_if b c (nth es j) none)
              ]

          pub brought : IsSettling es b v d z (i + 1) (i + 1)
          brought = record {
            best = new_best;
            draft = he;
            free = λ q x lq lx f. h.free q x lq lx ((free_same q x lq lx).0 f);
            tight = λ j lj lt t. let w = inside_at of j lt in
                (free_same (nth es j).paper (nth es j).member w.0 w.1).1 (h.tight j lj lt t);
            closed = λ j lj lt f. let w = inside_at of j lt in
                h.closed j lj lt ((free_same (nth es j).paper (nth es j).member w.0 w.1).0 f);
            spare = λ x lx. iff_trans (k.limits.takes b.papers x) (iff_trans (k.turns.loose.spare x lx) (h.spare x lx));
            first = one_more b.papers b.want b.load es (is_held b d) i
                (still_first b.papers b.want b.load es (is_held b c) (is_held b d) i
                (worth_most b.papers b.members b.want b.load es (is_held b d) of.inside (plan_of of he.counted new_best)
                (map (is_held b c) es) (plan_of of h.draft.counted h.best) (paper_price v) (member_price v)
                (priced of he.counted new_best) (suits_all of he.counted new_best)) before_same h.first)
                (λ _ _ _ _ _. is_held_if b d e (k.alters.here.1 refl));
          }
