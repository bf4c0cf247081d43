-- SPDX-License-Identifier: Apache-2.0 OR MIT
-- A turn on its way: which steps are left, and what one step back keeps.
use Rattle.cr_match.proofs.Common.{◌≢◌, inl, inr, ℕ, ◌<◌, ◌≤◌, Bool, false, true, arith, sym, subst, cases_eq}
use Rattle.cr_match.proofs.Common.{AreSteps, Board, Choice, Drops, IsDraft, Moves, Path, Step, Takes, Turns, step_of}
use Rattle.cr_match.specs.Draft.{Flips, Lends}
use Rattle.cr_match.proofs.Flipped.{or_all}
use Rattle.cr_match.proofs.Turned.{ends, gives, lends_itself, takes}

-- step j may be turned: its paper may take its member, and the member of the step before may drop that paper, or is
-- nobody
abbrev Leads : Board → Moves → Path → ℕ → Type 0
Leads b w t j = Takes b w (step_of t j).paper (step_of t j).member
    × ((step_of t (step_of t j).from).member < b.members
    → Drops b w (step_of t (step_of t j).from).member (step_of t j).paper)

-- the steps behind n are turned: the holder has one member more, and the member of step n may drop it
pub record IsTurning (b : Board) (t : Path) (target : ℕ) (c : Choice) (u : Moves) (holder n : ℕ) (d : Choice)
    (w : Moves) : Type 0 where
  pub draft : IsDraft b d w
  pub lends : Lends b target holder c u d w
  pub root : t.root ≤ n
  pub count : n < t.count
  pub row : holder ≤ b.papers
  pub leads : (j : ℕ) → t.root < j → j ≤ n → Leads b w t j
  pub dropped : Drops b u (step_of t n).member holder
  pub drops : (step_of t n).member < b.members → Drops b w (step_of t n).member holder

-- a flip of the member of step n leaves those before it
module _ {b : Board} {t : Path} {u : Moves} (steps : AreSteps b u t) where
  leads_on : {d e : Choice} {w z : Moves} (p n : ℕ) (holds : Bool) → n < t.count
      → Flips b p (step_of t n).member holds d w e z → (j : ℕ) → t.root < j → j < n → Leads b w t j → Leads b z t j
  leads_on p n holds ln f j lr lj old =
      let lc : j < t.count = omega (arith, lj, ln) in
      let back = steps.after j lr lc in (
        (f.others (step_of t j).paper (step_of t j).member (steps.rows j lc) (steps.taken j lr lc)
            (λ e. steps.apart n j lj ln (sym e))).0 old.0,
        λ lx. (f.others (step_of t j).paper (step_of t (step_of t j).from).member (steps.rows j lc) lx
            (λ e. steps.apart n (step_of t j).from (omega (arith, back.1, lj)) ln (sym e))).1 (old.1 lx),
      )

module _ {b : Board} {t : Path} {target : ℕ} {c : Choice} {u : Moves} (steps : AreSteps b u t) where
  pub begun : (n : ℕ) → t.root ≤ n → n < t.count → target ≤ b.papers → IsDraft b c u
      → Drops b u (step_of t n).member target → IsTurning b t target c u target n c u
  begun n root count row draft drops = record {
    draft = draft;
    lends = lends_itself target;
    root = root;
    count = count;
    row = row;
    leads = λ j lr lj.
        let lc : j < t.count = omega (arith, lj, count) in
        elim (steps.leads j lc) [
          | inl same ↦ absurd (omega (arith, same, (steps.after j lr lc).1))
          | inr way ↦ (way.1, λ _. way.2)
        ];
    dropped = drops;
    drops = λ _. drops;
  }

  module _ {holder n : ℕ} {d : Choice} {w : Moves} (h : IsTurning b t target c u holder n d w) where
    module _ (lr : t.root < n) where
      abbrev x : Step
      x = step_of t n

      pub member : x.member < b.members
      member = steps.taken n lr h.count

      -- the other paper still may take her
      pub still : {e : Choice} {y : Moves} → Flips b holder x.member false d w e y → Takes b y x.paper x.member
      still one =
          let free : Takes b w x.paper x.member = (h.leads n lr (omega arith)).0 in
          one.column x.paper (steps.rows n h.count) member (elim (cases_eq x.paper holder) [
            | inr ne ↦ inl ne
            | inl same ↦ elim (or_all holder b.papers h.row) [
              | inr all ↦ inr all
              | inl less ↦ absurd (h.draft.takes holder x.member less member
                  (subst (λ k. Takes b w k x.member) same free)
                  (h.draft.drops holder x.member less member (h.drops member)))
            ]
          ]) free

      pub passed : {e f : Choice} {y z : Moves} → Flips b holder x.member false d w e y
          → Flips b x.paper x.member true e y f z → IsTurning b t target c u x.paper x.from f z
      passed one two =
          let row = steps.rows n h.count in
          let back = steps.after n lr h.count in record {
            draft = two.draft;
            lends = takes member row (still one) (gives member h.row h.draft (h.drops member) h.lends one) two;
            root = back.0;
            count = omega (arith, back.1, h.count);
            row = row;
            leads = λ j lj le.
                let less : j < n = omega (arith, le, back.1) in
                leads_on steps x.paper n true h.count two j lj less
                (leads_on steps holder n false h.count one j lj less (h.leads j lj (omega (arith, less))));
            dropped = elim (steps.leads n h.count) [
              | inl same ↦ absurd (omega (arith, same, back.1))
              | inr way ↦ way.2
            ];
            drops = λ lx.
                let apart : (step_of t x.from).member ≢ x.member = λ e. steps.apart n x.from back.1 h.count (sym e) in
                (two.others x.paper (step_of t x.from).member row lx apart).1
                ((one.others x.paper (step_of t x.from).member row lx apart).1
                ((h.leads n lr (omega arith)).1 lx));
          }

    -- at last the member of the root is given up, and no paper takes her
    pub ended : {e : Choice} {z : Moves} → IsDraft b c u → Flips b holder (step_of t n).member false d w e z
        → Turns b target (step_of t n).member c u e z
    ended draft last = elim (or_all (step_of t n).member b.members (steps.inside n h.count)) [
      | inl less ↦ gives less h.row h.draft (h.drops less) h.lends last
      | inr all ↦ ends all h.row draft h.dropped h.lends last
    ]
