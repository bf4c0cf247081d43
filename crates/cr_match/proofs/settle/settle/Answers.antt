-- SPDX-License-Identifier: Apache-2.0 OR MIT
use Rattle.cr_match.proofs.Common.{false, ◌≡◌, ◌+◌, inl, inr, subst, sym, Draft, Holds, IsSearched, IsSettling, nth}
use Rattle.cr_match.proofs.Held.{inside_at}
use Rattle.cr_match.proofs.Settled.{brought, closed_searched, closing, settled_held, settled_low, settled_out}
use Rattle.cr_match.proofs.Walks.{refuted}
use Rattle.cr_match.proofs.settle.settle.Goals.{After-tell}
use Rattle.cr_match.proofs.settle.settle.Goals as goal

pub attend-requires : goal.attend-requires
attend-requires c = c.requires.trail.roomy

pub holds-held-requires-clause-inside : goal.holds-held-requires-clause-inside
holds-held-requires-clause-inside c = let w = inside_at c.requires.board.0 c.args.i c.requires.place in (w.0, w.1)

pub tell-requires : goal.tell-requires
tell-requires c =
    let w = inside_at c.requires.board.0 c.args.i c.requires.place in (c.requires.settling.draft.moves, w.0, w.1)

pub is_tight-requires-clause-inside : goal.is_tight-requires-clause-inside
is_tight-requires-clause-inside c = let w = inside_at c.requires.board.0 c.args.i c.requires.place in (w.0, w.1)

still : (c : After-tell) → IsSettling c.args.pairs.now c.args.board.now c.args.levels.now c.args.draft.now.choice
    c.tell.new.moves (c.args.i + 1) c.args.i
still c = closing c.requires.board.0 c.args.i c.requires.place c.requires.settling c.tell.ensures

searched : (c : After-tell) → IsSearched c.args.board.now c.tell.new.moves (nth c.args.pairs.now c.args.i).paper
    c.attend.new.order.trail
searched c =
    let w = inside_at c.requires.board.0 c.args.i c.requires.place in
    closed_searched w.0 w.1 c.tell.ensures (c.attend.ensures.searched c.args.draft.now.moves c.requires.trail)

trail : (c : After-tell)
    → IsSearched c.args.board.now c.tell.new.moves c.attend.new.order.searched c.attend.new.order.trail
trail c = subst (λ n. IsSearched c.args.board.now c.tell.new.moves n c.attend.new.order.trail)
    (sym c.attend.ensures.paper)
    (searched c)

pub returns-then-held-clause-settling : goal.returns-then-held-clause-settling
returns-then-held-clause-settling c =
    settled_held c.requires.board.0 c.args.i c.requires.place (still c.before) (c.holds-held.ensures.0 c.if-held.true)

pub returns-then-held-clause-trail : goal.returns-then-held-clause-trail
returns-then-held-clause-trail c = trail c.before

lacks : (c : After-tell) → c.holds-held.result ≡ false
    → Holds c.args.board.now c.args.draft.now.choice (nth c.args.pairs.now c.args.i).paper
    (nth c.args.pairs.now c.args.i).member
    → ⊥
lacks c isnt = refuted c.holds-held.ensures.1 isnt

pub returns-then-not-is_tight-clause-settling : goal.returns-then-not-is_tight-clause-settling
returns-then-not-is_tight-clause-settling c =
    settled_low c.requires.board.0 c.args.i c.requires.place (still c.before.before.before)
    (lacks c.before.before.before c.if-held.false)
    (refuted c.is_tight.ensures.1 c.if-not-is_tight.true)

pub returns-then-not-is_tight-clause-trail : goal.returns-then-not-is_tight-clause-trail
returns-then-not-is_tight-clause-trail c = trail c.before.before.before

pub bring-requires-clause-draft : goal.bring-requires-clause-draft
bring-requires-clause-draft c = (still c.before.before.before.before.before).draft

pub bring-requires-clause-inside : goal.bring-requires-clause-inside
bring-requires-clause-inside c = let w = inside_at c.requires.board.0 c.args.i c.requires.place in (w.0, w.1)

pub bring-requires-clause-trail : goal.bring-requires-clause-trail
bring-requires-clause-trail c = searched c.before.before.before.before.before

pub bring-requires-clause-lacks : goal.bring-requires-clause-lacks
bring-requires-clause-lacks c = lacks c.before.before.before.before.before c.if-held.false

pub returns-clause-settling : goal.returns-clause-settling
returns-clause-settling c =
    let told = c.before.before.before.before.before.before in
    let tight = c.is_tight.ensures.0 c.if-not-is_tight.false in
    elim c.bring.ensures.brings [
      | inl brings ↦ brought c.requires.board.0 c.args.i c.requires.place (still told)
          (lacks told c.if-held.false) tight c.bring.ensures.draft brings
      | inr none ↦ subst (λ (d : Draft). IsSettling c.args.pairs.now c.args.board.now c.args.levels.now d.choice d.moves
          (c.args.i + 1) (c.args.i + 1)) (sym none.0)
          (settled_out c.requires.board.0 c.args.i c.requires.place (still told)
          (lacks told c.if-held.false) tight
          (subst (λ (d : Draft). IsSearched c.args.board.now d.moves
          (nth c.args.pairs.now c.args.i).paper c.bring.new.trail)
          none.0 c.bring.ensures.trail) none.1)
    ]

pub returns-clause-trail : goal.returns-clause-trail
returns-clause-trail c =
    subst (λ n. IsSearched c.args.board.now c.bring.new.draft.moves n c.bring.new.trail) (sym c.attend.ensures.paper)
    c.bring.ensures.trail
