-- SPDX-License-Identifier: Apache-2.0 OR MIT
-- A search that can't go on: how far its prices are from those of its root.
use Rattle.cr_match.proofs.Common.{◌≡◌, ◌≢◌, inl, inr, ℕ, zero, suc, ◌+◌, ◌*◌, ◌<◌, ◌≤◌, get_or, arith, ap, sym, ◌∙◌}
use Rattle.cr_match.proofs.Common.{subst, cases_eq, cases_lt, Has, Drops, step_of, IsRoomy, AreSteps, IsDone, GoesOn}
use Rattle.cr_match.proofs.Common.{IsBoard, worth, price_of, low, far, IsGap, IsFitting, IsBegun, IsStuck, Board}
use Rattle.cr_match.proofs.Common.{Levels, Choice, Moves, Step, Trail}
use Rattle.cr_match.specs.Raise.{Wants, Owes}
use Rattle.cr_match.proofs.Flipped.{or_all}
use Rattle.cr_match.proofs.Reached.{still_drops, steps_le}

-- all steps are looked at, and the target is out of reach
pub record IsClosed (b : Board) (v : Levels) (c : Choice) (u : Moves) (t : Trail) (most : ℕ) : Type 0 where
  pub board : IsBoard b
  pub fit : IsFitting b v c u
  pub top : v.nobody ≤ 210000000
  pub roomy : IsRoomy b t
  pub steps : AreSteps b u t.path
  pub done : IsDone b u b.papers t
  pub start : (t.path.root ≡ 0) × (0 < t.path.count) × ((step_of t.path 0).member ≡ b.members)
  pub members : (m : ℕ) → m < b.members → (Has t.path.members.items m → ⊥) → get_or v.members.items m 0 ≤ most
  pub papers : (p : ℕ) → p < b.papers → (Has t.papers.items p → ⊥) → low ≤ get_or v.papers.items p 0 + most
  pub nobody : most ≤ v.nobody

pub closed_of : {b : Board} {v : Levels} {c : Choice} {u : Moves} {s t : Trail} {most : ℕ} → IsBoard b
    → IsFitting b v c u → v.nobody ≤ 210000000 → IsBegun b v u s most → IsRoomy b t → AreSteps b u t.path → GoesOn s t
    → IsDone b u b.papers t → IsClosed b v c u t most
closed_of {b} {v} {c} {u} {s} {t} board fit top h roomy steps goes done = record {
  board = board;
  fit = fit;
  top = top;
  roomy = roomy;
  steps = steps;
  done = done;
  start = (
    goes.2 ∙ h.start.1,
    omega (arith, h.start.2, goes.0.count),
    ap (λ (x : Step). x.member) (goes.0.steps 0 h.start.2) ∙ h.start.3,
  );
  members = λ m lm none. h.members m lm (λ has. none (goes.0.members m has));
  papers = λ p lp none. elim (h.papers p lp) [
    | inl le ↦ le
    | inr way ↦ absurd (none (done.2 way.0 (omega (arith, way.1, goes.0.count)) p (omega (arith, lp))
        (still_drops b u goes.0 way.0 p way.1 way.2)))
  ];
  nobody = h.nobody;
}

module _ {b : Board} {v : Levels} {c : Choice} {u : Moves} {t : Trail} {most : ℕ} (h : IsClosed b v c u t most) where
  -- what a member who is reached may drop is reached, and isn't the spare paper
  pub real_paper : (i q : ℕ) → i < t.path.count → q ≤ b.papers → Drops b u (step_of t.path i).member q → q < b.papers
  real_paper i q lt lq drops = elim (or_all q b.papers lq) [
    | inl less ↦ less
    | inr all ↦ absurd (h.done.0.none i lt (subst (Drops b u (step_of t.path i).member) all drops))
  ]

  -- by the member
  pub seen_by : (m q : ℕ) → m ≤ b.members → q ≤ b.papers → Has t.path.members.items m → Drops b u m q
      → Has t.papers.items q × (q < b.papers)
  seen_by m q lm lq has drops =
      let step = h.steps.found m lm has in
      let here = subst (λ k. Drops b u k q) (sym step.2) drops in
      (h.done.2 step.0 step.1 q lq here, real_paper step.0 q step.1 lq here)

  root_seen : Has t.path.members.items b.members
  root_seen = subst (Has t.path.members.items) h.start.2 (h.steps.seen 0 h.start.1)

  pub lacking_seen : (p : ℕ) → p < b.papers → get_or c.given.items p 0 < b.want → Has t.papers.items p
  lacking_seen p lp less =
      (seen_by b.members p (omega arith) (omega (arith, lp)) root_seen ((h.fit.draft.lack p lp).1 less)).0

  -- who is reached has no room
  pub full : (m : ℕ) → m < b.members → Has t.path.members.items m → get_or c.used.items m 0 ≡ b.load
  full m lm has = elim (cases_lt (get_or c.used.items m 0) b.load) [
    | inr le ↦ omega (arith, le, (h.fit.fits m lm).0)
    | inl less ↦ absurd (omega (
      arith,
      (seen_by m b.papers (omega (arith, lm)) (omega arith) has ((h.fit.draft.room m lm).1 less)).1,
    ))
  ]

  -- a pair that is worth its prices is one
  tight_worth : (p m : ℕ) → p < b.papers → m < b.members → worth b p m ≡ price_of v p m
      → (low ≤ worth b p m) × (worth b p m ≤ low + 40)
  tight_worth p m lp lm is = elim (h.board.cells p m lp lm) [
    | inr fine ↦ fine
    | inl none ↦ absurd (omega (arith, none, is, h.fit.bounded.floor p lp, h.top))
  ]

  -- who may drop a paper is priced no higher than the root, by so much
  dropped_price : (p m i : ℕ) → p < b.papers → m ≤ b.members → Drops b u m p
      → (m < b.members → v.nobody ≤ get_or v.members.items m 0 + 40 * i)
      → get_or v.papers.items p 0 + v.nobody ≤ low + 40 + 40 * i
  dropped_price p m i lp lm drops near = elim (or_all m b.members lm) [
    | inr all ↦ omega (
      arith,
      h.fit.bounded.lacking p lp
          ((h.fit.draft.lack p lp).0 (subst (λ k. Drops b u k p) all drops)),
    )
    | inl less ↦ let tight = (h.fit.tight p m lp less).0 (inr drops) in
        omega (arith, tight, (tight_worth p m lp less tight).1, near less)
  ]

  -- no member of step i is priced more than 40 i below nobody
  near : (k i : ℕ) → i < k → i < t.path.count → (step_of t.path i).member < b.members
      → v.nobody ≤ get_or v.members.items (step_of t.path i).member 0 + 40 * i
  near zero i lk lt lm = absurd (omega (arith, lk))
  near (suc k) zero lk lt lm = absurd (omega (arith, h.start.2, lm))
  near (suc k) (suc i) lk lt lm =
      let way = h.steps.after (suc i) (omega (arith, h.start.0)) lt in
      let lf : (step_of t.path (suc i)).from < t.path.count = omega (arith, way.1, lt) in
      elim (h.steps.leads (suc i) lt) [
        | inl root ↦ absurd (omega (arith, root, way.1))
        | inr leads ↦ let lp = real_paper (step_of t.path (suc i)).from (step_of t.path (suc i)).paper lf
            (h.steps.rows (suc i) lt) leads.2 in
            let tight = (h.fit.tight (step_of t.path (suc i)).paper (step_of t.path (suc i)).member lp lm).0
            (inl leads.1) in
            near_one (suc i) (step_of t.path (suc i)).from (get_or v.members.items (step_of t.path (suc i)).member 0)
            (get_or v.papers.items (step_of t.path (suc i)).paper 0) v.nobody (omega (
              arith,
              tight,
              (tight_worth (step_of t.path (suc i)).paper (step_of t.path (suc i)).member lp lm tight).0,
            ))
            (dropped_price (step_of t.path (suc i)).paper (step_of t.path (step_of t.path (suc i)).from).member
            (step_of t.path (suc i)).from lp (h.steps.inside (step_of t.path (suc i)).from lf) leads.2
            (λ ll. near k (step_of t.path (suc i)).from (omega (arith, lk, way.1)) lf ll)) way.1
      ]
    where
      near_one : (i f m a nobody : ℕ) → low ≤ a + m → a + nobody ≤ low + 40 + 40 * f → f < i → nobody ≤ m + 40 * i
      near_one i f m a nobody le near lt = omega (arith, le, near, lt)

  few_steps : (i : ℕ) → i < t.path.count → i ≤ b.members
  few_steps i lt = omega (arith, lt, steps_le h.steps)

  -- so a step of prices goes no further than that
  rise_wants : (p m n : ℕ) → p < b.papers → m < b.members → n < far → Wants b c t p m → worth b p m + n ≡ price_of v p m
      → v.nobody + n ≤ most + 40 * (b.members + 1)
  rise_wants p m n lp lm ln w is =
      let way = h.done.0.dropped p (omega (arith, lp)) w.paper in
      let price = dropped_price p (step_of t.path way.0).member way.0 lp (h.steps.inside way.0 way.1) way.2
      (λ ll. near (suc way.0) way.0 (omega arith) way.1 ll) in
      elim (h.board.cells p m lp lm) [
        | inl none ↦ absurd (omega (arith, none, is, h.fit.bounded.floor p lp, h.top, ln))
        | inr fine ↦ omega (arith, fine.0, is, price, h.members m lm w.member, few_steps way.0 way.1)
      ]

  rise_owes : (p m n : ℕ) → p < b.papers → m < b.members → Owes b c t p m → price_of v p m + n ≡ worth b p m
      → v.nobody + n ≤ most + 40 * (b.members + 1)
  rise_owes p m n lp lm w is =
      let step = h.steps.found m (omega (arith, lm)) w.member in
      let price : v.nobody ≤ get_or v.members.items m 0 + 40 * step.0 =
      subst (λ k. v.nobody ≤ get_or v.members.items k 0 + 40 * step.0) step.2
      (near (suc step.0) step.0 (omega arith) step.1 (omega (arith, step.2, lm))) in
      elim (h.board.cells p m lp lm) [
        | inl none ↦ absurd (omega (arith, none, is, h.fit.bounded.floor p lp, h.top))
        | inr fine ↦ omega (arith, fine.1, is, price, h.papers p lp w.paper, few_steps step.0 step.1)
      ]

  -- a pair that is worth its prices would have led on, so prices move
  pub rise : (n : ℕ) → IsGap b v c t n → n ≢ far → (0 < n) × (v.nobody + n ≤ most + 40 * (b.members + 1))
  rise n gap ne = elim gap.meets [
    | inl all ↦ absurd (ne all)
    | inr one ↦ elim one.4 [
      | inl w ↦ (
        elim (cases_eq n 0) [
          | inr nz ↦ omega (arith, nz)
          | inl z ↦ absurd (elim ((h.fit.tight one.0 one.1 one.2 one.3).1 (omega (arith, z, w.1))) [
            | inl takes ↦ w.0.member (h.done.0.spread one.0 w.0.paper one.1 one.3 takes)
            | inr drops ↦ w.0.lacks (h.fit.draft.drops one.0 one.1 one.2 one.3 drops)
          ])
        ],
        rise_wants one.0 one.1 n one.2 one.3 (omega (arith, ne, gap.most)) w.0 w.1,
      )
      | inr o ↦ (
        elim (cases_eq n 0) [
          | inr nz ↦ omega (arith, nz)
          | inl z ↦ absurd (elim ((h.fit.tight one.0 one.1 one.2 one.3).1 (omega (arith, z, o.1))) [
            | inl takes ↦ h.fit.draft.takes one.0 one.1 one.2 one.3 takes o.0.has
            | inr drops ↦ o.0.paper
                (seen_by one.1 one.0 (omega (arith, one.3)) (omega (arith, one.2)) o.0.member drops).0
          ])
        ],
        rise_owes one.0 one.1 n one.2 one.3 o.0 o.1,
      )
    ]
  ]

  -- where no pair leads on, no prices do
  pub stuck : (n : ℕ) → IsGap b v c t n → n ≡ far → IsStuck b c u t
  stuck n gap all = record {
    draft = h.fit.draft;
    wants = λ p m lp lm w. elim (h.board.cells p m lp lm) [
      | inl none ↦ none
      | inr fine ↦ absurd (omega (
        arith,
        fine.0,
        (gap.clears p m lp lm).0 w,
        all,
        h.fit.bounded.ceiling p lp,
        h.fit.bounded.members m lm,
        h.top,
      ))
    ];
    owes = λ p m lp lm o. elim (h.board.cells p m lp lm) [
      | inl none ↦ absurd (omega (arith, none, (gap.clears p m lp lm).1 o, all))
      | inr fine ↦ absurd (omega (arith, fine.1, (gap.clears p m lp lm).1 o, all, h.fit.bounded.floor p lp, h.top))
    ];
    full = full;
    lacks = lacking_seen;
    most = h.fit.most;
    pairs = λ p m lp lm has none. absurd
        (omega (arith, none, h.fit.suits.held p m lp lm has, h.fit.bounded.floor p lp, h.top));
    trail = h.roomy;
  }
