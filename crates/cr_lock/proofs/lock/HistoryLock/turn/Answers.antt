-- SPDX-License-Identifier: Apache-2.0 OR MIT
use Rattle.std.proofs.Common.{rules, refl, arith, ap, subst, ◌∙◌, ◌+◌}
use Rattle.std.specs.Fn.{FnOnceReturnsAtMut}
use mathlib.Core.List.{IsPrefix}
use Rattle.cr_lock.specs.Passes.{after_turn, IsAsLeft}
use Rattle.cr_lock.proofs.Prefixes.{prefix_length}
use Rattle.cr_lock.proofs.Turns.{put_back, notes_from, noted_from, goes_on_from, went_from}
use Rattle.cr_lock.proofs.lock.HistoryLock.turn.Goals as goal

pub overflow_sub-added : goal.overflow_sub-added
overflow_sub-added g c =
    let called : FnOnceReturnsAtMut g.F.FnOnce c.args.act c.wait_and_take-value.result c.act-answer.result
    c.act-answer.new.arg2 =
    record { shown = _; shows = refl; left = _; met = c.act-answer.ensures; leaves = refl } in
    let grows = (c.requires.appends _ _ _ called).0 in let le = prefix_length _ _ grows in
    let a = c.entries-before.ensures in let b = c.entries.ensures in omega arith

pub fetch_add-requires : goal.fetch_add-requires
fetch_add-requires g c =
    let called : FnOnceReturnsAtMut g.F.FnOnce c.args.act c.wait_and_take-value.result c.act-answer.result
    c.act-answer.new.arg2 =
    record { shown = _; shows = refl; left = _; met = c.act-answer.ensures; leaves = refl } in
    let e = c.requires.appends _ _ _ called in
    let v = c.pass.inside.seat.me.0 in let t = c.wait_and_take-value.ensures.state.0 in let x =
    c.wait_and_take-value.result in let y = c.act-answer.new.arg2 in
    let is = put_back g.T.Stands.list g.T.Stands.faults g.T.Stands.root c.self.inside.table.shared.key.value _ _ _
    c.exchange-empty.new.seat.me y
    c.wait_and_take-value.ensures.state.1 c.wait_and_take-value.ensures.seat.1 c.exchange-empty.ensures.3 in (
      search rules,
      search rules,
      notes_from g.T.Stands.list g.T.Stands.faults g.T.Stands.root c.self.inside.table.shared.key.value _ _
          c.exchange-empty.new.seat.me v t x y _ _
          is e.0 e.1 e.2 c.entries-before.ensures c.entries.ensures c.entries.type_inv,
    )

pub fetch_add-requires-2 : goal.fetch_add-requires-2
fetch_add-requires-2 g c =
    let v = c.pass.inside.seat.me.0 in let t = c.wait_and_take-value.ensures.state.0 in let x =
    c.wait_and_take-value.result in let y = c.act-answer.new.arg2 in
    let is = put_back g.T.Stands.list g.T.Stands.faults g.T.Stands.root c.self.inside.table.shared.key.value _ _ _
    c.exchange-empty.new.seat.me y
    c.wait_and_take-value.ensures.state.1 c.wait_and_take-value.ensures.seat.1 c.exchange-empty.ensures.3 in
    let next = noted_from g.T.Stands.list g.T.Stands.faults g.T.Stands.root c.self.inside.table.shared.key.value
    c.exchange-empty.new.seat.me c.fetch_add.new.seat.me v t 0 0 0
    x y is c.fetch_add.ensures.2 in (
      search rules,
      search rules,
      goes_on_from g.T.Stands.list g.T.Stands.faults g.T.Stands.root
          c.self.inside.table.shared.key.value _ _ c.fetch_add.new.seat.me v t x y next,
    )

pub invariant_of-pass : goal.invariant_of-pass
invariant_of-pass g c =
    let r = c.pass.invariant in
    let v = c.pass.inside.seat.me.0 in let t = c.wait_and_take-value.ensures.state.0 in let x =
    c.wait_and_take-value.result in let y = c.act-answer.new.arg2 in
    let is = put_back g.T.Stands.list g.T.Stands.faults g.T.Stands.root c.self.inside.table.shared.key.value _ _ _
    c.exchange-empty.new.seat.me y
    c.wait_and_take-value.ensures.state.1 c.wait_and_take-value.ensures.seat.1 c.exchange-empty.ensures.3 in
    let next = noted_from g.T.Stands.list g.T.Stands.faults g.T.Stands.root c.self.inside.table.shared.key.value
    c.exchange-empty.new.seat.me c.fetch_add.new.seat.me v t 0 0 0
    x y is c.fetch_add.ensures.2 in
    let last = went_from g.T.Stands.list g.T.Stands.faults g.T.Stands.root c.self.inside.table.shared.key.value
    c.fetch_add.new.seat.me c.fetch_add-2.new.seat.me
    v t 0 0 x y r.1 next c.fetch_add-2.ensures.2 in (
      ap (λ m. m.1) last.0,
      ap (λ m. m.0.activity) last.0 ∙ r.1,
      ap (λ m. m.0.share) last.0
          ∙ r.2,
      ap (λ m. m.0.turns) last.0 ∙ ap (λ n. n + 1) r.3,
      r.4,
      last.1,
    )

pub returns-clause-turn : goal.returns-clause-turn
returns-clause-turn g c =
    let r = c.pass.invariant in
    let called : FnOnceReturnsAtMut g.F.FnOnce c.args.act c.wait_and_take-value.result c.act-answer.result
    c.act-answer.new.arg2 =
    record { shown = _; shows = refl; left = _; met = c.act-answer.ensures; leaves = refl } in
    let v = c.pass.inside.seat.me.0 in let t = c.wait_and_take-value.ensures.state.0 in let x =
    c.wait_and_take-value.result in let y = c.act-answer.new.arg2 in
    let is = put_back g.T.Stands.list g.T.Stands.faults g.T.Stands.root c.self.inside.table.shared.key.value _ _ _
    c.exchange-empty.new.seat.me y
    c.wait_and_take-value.ensures.state.1 c.wait_and_take-value.ensures.seat.1 c.exchange-empty.ensures.3 in
    let next = noted_from g.T.Stands.list g.T.Stands.faults g.T.Stands.root c.self.inside.table.shared.key.value
    c.exchange-empty.new.seat.me c.fetch_add.new.seat.me v t 0 0 0
    x y is c.fetch_add.ensures.2 in
    let last = went_from g.T.Stands.list g.T.Stands.faults g.T.Stands.root c.self.inside.table.shared.key.value
    c.fetch_add.new.seat.me c.fetch_add-2.new.seat.me
    v t 0 0 x y r.1 next c.fetch_add-2.ensures.2 in
    let id = c.fetch_add-2.ensures.0
    ∙ (c.fetch_add.ensures.0 ∙ (c.exchange-empty.ensures.0 ∙ c.wait_and_take-value.ensures.seat.0)) in (
      x,
      y,
      subst (λ seen. IsPrefix seen (g.T.Stands.list x)) (ap (λ p. p.seen) c.pass.view_is)
          c.wait_and_take-value.ensures.seen,
      subst (λ p. IsAsLeft p x) c.pass.view_is c.wait_and_take-value.ensures.as_left,
      (c.requires.appends _ _ _ called).0,
      called,
      (λ i. record {
        lock = id i;
        share = (last.0 i).0.share;
        turns = (last.0 i).0.turns;
        seen = (last.0 i).0.seen;
        mine = (last.0 i).0.mine;
        left = (last.0 i).0.left;
      })
          ∙ ap (λ p. after_turn p x y (g.T.Stands.list x) (g.T.Stands.list y) (g.T.Stands.faults x) (g.T.Stands.faults y))
          c.pass.view_is,
    )
