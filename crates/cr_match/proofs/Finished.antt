-- SPDX-License-Identifier: Apache-2.0 OR MIT
-- From where a search ends to what answers the problem.
use Rattle.cr_match.proofs.Common.{All-from_get_or, Board, Bool, Choice, HasNoPlan, IsAscending, IsBoardFor, AreInside}
use Rattle.cr_match.proofs.Common.{IsTooMuch, Drops, bound, IsBoardOf, IsPlan, IsProblem, IsSettling, IsStuck, List}
use Rattle.cr_match.proofs.Common.{Moves, Pair, Problem, Trail, among, ap, arith, cases_eq, cases_lt, chosen, count_by}
use Rattle.cr_match.proofs.Common.{eqb-true, false, get_or, inl, inr, ints, is_held, joins, length, lowered, map, min}
use Rattle.cr_match.proofs.Common.{nth, of_member, of_paper, placed, pos, refl, subst, suc, sym, total_below}
use Rattle.cr_match.proofs.Common.{total_weight, true, zero, zero_pair, ℕ, ℤ, ◌&&◌, ◌*◌, ◌+◌, ◌-ℤ◌, ◌<◌, ◌==◌, ◌∙◌, ◌≡◌}
use Rattle.cr_match.proofs.Common.{◌↔◌, ◌≤◌}
use Rattle.std.proofs.Common.{Err, IfOk, Ok, Result}
use Rattle.std.proofs.lemmas.List.{length-map}
use Rattle.cr_match.specs.Answer.{IsFirst, IsGreatest}
use Rattle.cr_match.specs.Rows.{Has}
use Rattle.cr_match.specs.Settle.{NoneBefore}
use Rattle.cr_match.specs.Solve.{IsFilled, IsOrdered, IsSolution, Spares}
use Rattle.cr_match.specs.Tell.{AreThose}
use Rattle.cr_match.specs.declared.problem.Prices.{Prices}
use Rattle.cr_match.specs.declared.problem.Solved.{Solved}
use Rattle.cr_match.specs.declared.setup.Work.{Work}
use Rattle.cr_match.proofs.Bits.{has_cases}
use Rattle.cr_match.proofs.Dictionary.{is_first}
use Rattle.cr_match.proofs.Flipped.{holds_cases}
use Rattle.cr_match.proofs.Held.{count_members, count_papers, held_is, inside_at, member_price, none_past, paper_price}
use Rattle.cr_match.proofs.Held.{plan_of, priced, real_pair, suits_all, is_held_if}
use Rattle.cr_match.proofs.Rivals.{ArePriced, weighs_bound, worth_most}
use Rattle.cr_match.proofs.Room.{count_kept, count_le, inside_all, is_too_much, kept_all, too_much-no_plan}
use Rattle.cr_match.proofs.Told.{redrawn, same_bits}

-- totals of as much as is wanted

below_all : (f : ℕ → ℕ) (want n : ℕ) → ((q : ℕ) → q < n → f q ≤ want) → total_below f n ≤ want * n
below_all f want zero h = omega arith
below_all f want (suc n) h =
    let here = h n (omega arith) in
    let e : want * suc n ≡ want * n + want = omega arith in
    omega (arith, e, here, below_all f want n (λ q lq. h q (omega (arith, lq))))

all_full : (f : ℕ → ℕ) (want n : ℕ) → ((q : ℕ) → q < n → f q ≤ want) → want * n ≤ total_below f n → (q : ℕ) → q < n
    → f q ≡ want
all_full f want zero h le q lq = absurd (omega (arith, lq))
all_full f want (suc n) h le q lq =
    let here = h n (omega arith) in
    let e : want * suc n ≡ want * n + want = omega arith in
    let less : (r : ℕ) → r < n → f r ≤ want = λ r lr. h r (omega (arith, lr)) in
    elim (cases_eq q n) [
      | inl same ↦ omega (arith, e, le, here, ap f same, below_all f want n less)
      | inr ne ↦ all_full f want n less (omega (arith, e, le, here)) q (omega (arith, lq, ne))
    ]

some_less : (f : ℕ → ℕ) (want n : ℕ) → total_below f n < want * n → (q : ℕ) × (q < n) × (f q < want)
some_less f want zero h = absurd (omega (arith, h))
some_less f want (suc n) h =
    let e : want * suc n ≡ want * n + want = omega arith in
    elim (cases_lt (f n) want) [
      | inl less ↦ (n, omega arith, less)
      | inr full ↦ let one = some_less f want n (omega (arith, h, e, full)) in (one.0, omega (arith, one.1), one.2)
    ]

-- all places are filled
pub best_of : {problem : Problem} {w : Work} → IsFilled problem w → IsSolution problem w
best_of {problem} {w} h = record {
  board = h.board;
  best = record {
    long = h.fitting.long;
    suits = h.fitting.suits;
    full = all_full (λ q. get_or w.draft.choice.given.items q 0) w.board.want w.board.papers h.fitting.most
        (omega (arith, h.full));
    fits = h.fitting.fits;
    priced = λ p lp. omega (arith, h.fitting.bounded.floor p lp, h.top);
  };
  draft = h.fitting.draft;
}

-- before the first pair is settled
pub settling_of : {problem : Problem} {w : Work} {z : Moves} → IsFilled problem w
    → Spares w.board w.levels w.draft.moves z → IsSettling problem.pairs.items w.board w.levels w.draft.choice z 0 0
settling_of {problem} {w} {z} h s = record {
  best = (best_of h).best;
  draft = redrawn h.fitting.draft s.moves
      (λ p m lp lm takes. h.fitting.draft.takes p m lp lm ((s.takes p m lp lm).0 takes))
      (λ p m lp lm drops. h.fitting.draft.drops p m lp lm ((same m p).0 drops))
      (λ q _. same w.board.members q) (λ x _. same x w.board.papers);
  free = λ p m lp lm f. (h.fitting.tight p m lp lm).0 (elim f [
    | inl takes ↦ inl ((s.takes p m lp lm).0 takes)
    | inr drops ↦ inr ((same m p).0 drops)
  ]);
  tight = λ j _ lj is.
      let k = inside_at h.board.table j lj in
      elim ((h.fitting.tight (nth problem.pairs.items j).paper (nth problem.pairs.items j).member k.0 k.1).1 is) [
        | inl takes ↦ inl ((s.takes (nth problem.pairs.items j).paper (nth problem.pairs.items j).member k.0 k.1).1
            takes)
        | inr drops ↦ inr ((same (nth problem.pairs.items j).member (nth problem.pairs.items j).paper).1 drops)
      ];
  closed = λ j lj. absurd (omega (arith, lj));
  spare = s.spare;
  first = λ i li. absurd (omega (arith, li));
}
  where
    same : (x q : ℕ) → Drops w.board z x q ↔ Drops w.board w.draft.moves x q
    same x q = same_bits w.board.tall x q z.drops.items w.draft.moves.drops.items s.drops

-- what is said of the table's numbers is said of the problem's
on_problem : {problem : Problem} {b : Board} (P : ℕ → ℕ → ℕ → Type 0) → IsBoardOf problem b → P b.papers b.want b.load
    → P problem.papers problem.per_paper problem.load
on_problem {problem} {b} P of h = subst (λ n. P n problem.per_paper problem.load) of.sides.0
    (subst (λ n. P b.papers n problem.load) of.limits.0 (subst (λ n. P b.papers b.want n) of.limits.1 h))

module _ {problem : Problem} {w : Work} (h : IsSolution problem w) where
  abbrev es : List Pair
  es = problem.pairs.items

  abbrev held : Pair → Bool
  held = is_held w.board w.draft.choice

  abbrev best : List Pair
  best = chosen w.board w.draft.choice es

  fits : IsPlan problem.papers problem.per_paper problem.load best
  fits = on_problem (λ p n l. IsPlan p n l best) h.board (plan_of h.board.table h.draft.counted h.best)

  pub solved : (pairs : List Pair) (sum : ℤ) (prices : Prices) → pairs ≡ best → sum ≡ total_weight pairs
      → prices.papers.items ≡ lowered w.levels.papers.items → prices.members.items ≡ w.levels.members.items
      → IsGreatest problem pairs sum prices
  solved pairs sum prices is total papers members = record {
    plan = record {
      marks = map held es;
      some = is;
      fits = subst (IsPlan problem.papers problem.per_paper problem.load) (sym is) fits;
    };
    sum_is = total;
    greatest = λ other rival. omega (
      arith,
      ints,
      total,
      ap total_weight is,
      ap total_weight rival.some,
      worth_most problem.papers problem.members problem.per_paper problem.load es held inside fits rival.marks
          (subst (IsPlan problem.papers problem.per_paper problem.load) rival.some rival.fits) (paper_price w.levels)
          (member_price w.levels) pays (suits_all h.board.table h.draft.counted h.best),
    );
    papers = ap (λ (x : List ℤ). length x) papers ∙ long;
    members = ap (λ (x : List ℕ). length x) members ∙ h.best.long.1 ∙ h.board.sides.1;
    says = total ∙ ap total_weight is ∙ weighs_bound problem.papers problem.members problem.per_paper problem.load es
        held inside fits (lowered w.levels.papers.items) w.levels.members.items long (h.best.long.1 ∙ h.board.sides.1)
        (suits_all h.board.table h.draft.counted h.best) pays
        ∙ ap (λ (x : List ℤ). bound problem.per_paper problem.load x w.levels.members.items es) (sym papers)
        ∙ ap (λ (x : List ℕ). bound problem.per_paper problem.load prices.papers.items x es) (sym members);
  }
    where
      inside : AreInside problem.papers problem.members es
      inside = subst (λ n. AreInside n problem.members es) h.board.sides.0
          (subst (λ n. AreInside w.board.papers n es) h.board.sides.1 h.board.table.inside)

      long : length (lowered w.levels.papers.items) ≡ problem.papers
      long = length-map w.levels.papers.items (λ x. pos x -ℤ pos 1073741824) ∙ h.best.long.0 ∙ h.board.sides.0

      pays : ArePriced problem.members problem.load (member_price w.levels) best
      pays = subst (λ n. ArePriced n problem.load (member_price w.levels) best) h.board.sides.1
          (subst (λ n. ArePriced w.board.members n (member_price w.levels) best) h.board.limits.1
          (priced h.board.table h.draft.counted h.best))

  pub first : (pairs : List Pair) → pairs ≡ best → IsProblem problem → IsOrdered problem w → IsAscending es
      → IsFirst problem pairs
  first pairs is fine ordered asc = subst (IsFirst problem) (sym is) (is_first problem held fine fits
      (on_problem (λ p n l. NoneBefore p n l es held (length es)) h.board ordered.1.first) asc)

-- where the search is stuck

and_parts : (a c : Bool) → (a && c) ≡ true → (a ≡ true) × (c ≡ true)
and_parts true c h = (refl, h)
and_parts false c h = absurd (let k = h in cc)

and_both : (a c : Bool) → a ≡ true → c ≡ true → (a && c) ≡ true
and_both true c h k = k
and_both false c h k = absurd (let x = h in cc)

module _ {es : List Pair} {b : Board} {c : Choice} {u : Moves} {t : Trail} (of : IsBoardFor es b) (h : IsStuck b c u t)
    (s : List ℕ) (those : AreThose t.papers.items b.papers s) where
  -- what holds of each pair
  room : (m : ℕ) → m < b.members → min b.load (count_by (joins s m) es) ≤ count_by (joins s m) (chosen b c es)
  room m lm = elim (has_cases t.path.members.items m) [
    | inl has ↦ omega (
      arith,
      h.full m lm has,
      count_members of h.draft.counted h.pairs m lm,
      count_kept (is_held b c) (of_member m) es,
      count_kept (is_held b c) (joins s m) es,
      count_le (λ e. is_held b c e && of_member m e) (λ e. is_held b c e && joins s m e) es
          (All-from_get_or (λ e. (is_held b c e && of_member m e) ≡ true → (is_held b c e && joins s m e) ≡ true) es
          zero_pair (λ j lj yes'.
          let k = and_parts (is_held b c (nth es j)) (of_member m (nth es j)) yes' in
          let w = inside_at of j lj in
          let is = eqb-true (nth es j).member m k.1 in
          and_both (is_held b c (nth es j)) (joins s m (nth es j)) k.0 (and_both (among s (nth es j).paper)
          ((nth es j).member == m) (seen (nth es j).paper w.0 (λ none. h.owes (nth es j).paper (nth es j).member w.0 w.1
          (record {
            paper = none;
            member = subst (Has t.path.members.items) (sym is) has;
            has = held_is b c (nth es j) k.0;
          }))) k.1))),
    )
    | inr none ↦ omega (
      arith,
      count_kept (is_held b c) (joins s m) es,
      count_le (joins s m) (λ e. is_held b c e && joins s m e) es
          (All-from_get_or (λ e. joins s m e ≡ true → (is_held b c e && joins s m e) ≡ true) es zero_pair (λ j lj yes'.
          let k = and_parts (among s (nth es j).paper) ((nth es j).member == m) yes' in
          let w = inside_at of j lj in
          let is = eqb-true (nth es j).member m k.1 in
          and_both (is_held b c (nth es j)) (joins s m (nth es j))
          (elim (holds_cases b c (nth es j).paper (nth es j).member) [
            | inl has ↦ is_held_if b c (nth es j) has
            | inr lacks ↦ absurd (real_pair of j lj (h.wants (nth es j).paper (nth es j).member w.0 w.1
                (record {
                  paper = ((those.all (nth es j).paper).0 k.0).1;
                  member = λ has. none (subst (Has t.path.members.items) is has);
                  lacks = lacks;
                })))
          ]) yes')),
    )
  ]
    where
      seen : (q : ℕ) → q < b.papers → ((Has t.papers.items q → ⊥) → ⊥) → among s q ≡ true
      seen q lq not' = elim (has_cases t.papers.items q) [
        | inl has ↦ (those.all q).1 (lq, has)
        | inr none ↦ absurd (not' none)
      ]

  most : (q : ℕ) → count_by (of_paper q) (chosen b c es) ≤ b.want
  most q = elim (cases_lt q b.papers) [
    | inl lq ↦ omega (arith, count_papers of h.draft.counted h.pairs q lq, h.most q lq)
    | inr past ↦ omega (
      arith,
      none_past (λ e. e.paper) b.papers q (chosen b c es) past (kept_all
          (λ e. e.paper < b.papers) (map (is_held b c) es) es
          (λ k d l. (inside_all b.papers b.members es of.inside k d l).0)),
    )
  ]

  pub too_much : placed b c < b.want * b.papers → IsTooMuch b.papers b.members b.want b.load s es
  too_much less =
      let one = some_less (λ q. get_or c.given.items q 0) b.want b.papers less in
      is_too_much b.papers b.members b.want b.load s es (is_held b c) one.0 of.inside those.distinct most
      ((those.all one.0).1 (one.1, h.lacks one.0 one.1 one.2))
      (omega (arith, count_papers of h.draft.counted h.pairs one.0 one.1, one.2)) room

pub no_plan : {problem : Problem} (w : Work) → IsProblem problem → IsBoardOf problem w.board
    → IsStuck w.board w.draft.choice w.draft.moves w.order.trail
    → placed w.board w.draft.choice < w.board.want * w.board.papers → (s : List ℕ)
    → AreThose w.order.trail.papers.items w.board.papers s → HasNoPlan problem s
no_plan {problem} w fine of h less s those =
    let much : IsTooMuch problem.papers problem.members problem.per_paper problem.load s problem.pairs.items =
    subst (λ n. IsTooMuch problem.papers n problem.per_paper problem.load s problem.pairs.items) of.sides.1
    (on_problem (λ p n l. IsTooMuch p w.board.members n l s problem.pairs.items) of
    (too_much of.table h s those less)) in
    record {
      too_much = much;
      none = λ other rival. too_much-no_plan problem.papers problem.members problem.per_paper problem.load s
          problem.pairs.items rival.marks fine.inside much
          (subst (IsPlan problem.papers problem.per_paper problem.load) rival.some rival.fits);
    }

-- what an answer says where it is one
pub if_ordered : {E : Type 0} (r : Result Solved E) (asked : Bool) (O A : Type 0) (P : Solved → Type 0)
    → (asked ≡ true → O) → IfOk r (λ solved. O → A → P solved) → IfOk r (λ solved. asked ≡ true → A → P solved)
if_ordered (Ok x) asked O A P ordered h = λ e a. h (ordered e) a
if_ordered (Err x) asked O A P ordered h = tt
