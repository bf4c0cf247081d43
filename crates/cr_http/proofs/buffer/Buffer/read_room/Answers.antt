-- SPDX-License-Identifier: Apache-2.0 OR MIT
use Rattle.std.proofs.Common.{◌≡◌, ◌∙◌, [], ◌+◌, ◌≤◌, ◌++◌, ap, arith, length, take, drop}
use Rattle.std.proofs.lemmas.List.{with_items_is}
use Rattle.cr_http.proofs.Blocks.{grown, not_grown}
use Rattle.cr_http.proofs.Moving.{one_read}
use Rattle.cr_http.specs.Buffer.{text_of}
use Rattle.cr_http.proofs.buffer.Buffer.read_room.Goals as goal

pub returns-in-Got-clause-moves : goal.returns-in-Got-clause-moves
returns-in-Got-clause-moves g c =
    let b = c.args.self.now in
    let n = c.in-Got.n in
    let old = c.deref_mut.result.now in
    let block = c.read_behind.new.block in
    let len : length block ≡ b.block.len =
    (let l = c.deref_mut.ensures.len in let k = c.read_behind.auto.block in omega (arith, l, k)) in
    let within : b.end ≤ length block = (let w = b.within in omega (arith, w, len)) in
    record {
      got = take n (drop b.end block);
      given = c.in-Got.ensures.bytes;
      kept = ap (λ t. drop b.start (take (b.end + n) t)) (with_items_is b.block block len)
          ∙ grown b.start b.end n old block b.ordered within c.in-Got.ensures.front
          ∙ ap (λ t. drop b.start (take b.end t) ++ take n (drop b.end block)) c.deref_mut.ensures.value;
    }

pub returns-in-Got-clause-once : goal.returns-in-Got-clause-once
unfolding returns-in-Got-clause-moves
returns-in-Got-clause-once g c =
    let moves = returns-in-Got-clause-moves g c in
    one_read g.S.Source.left g.S.Source.read_gives c.args.source.now c.read_behind.new.source
    (text_of c.args.self.now) _ moves.got c.in-Got.ensures.gives moves.kept

pub returns-in-End-clause-once : goal.returns-in-End-clause-once
returns-in-End-clause-once g c =
    let b = c.args.self.now in
    let block = c.read_behind.new.block in
    let len : length block ≡ b.block.len =
    (let l = c.deref_mut.ensures.len in let k = c.read_behind.auto.block in omega (arith, l, k)) in
    one_read g.S.Source.left g.S.Source.read_gives c.args.source.now c.read_behind.new.source (text_of b) _ []
    c.in-End.ensures.gives
    (not_grown b.start b.end _ block b.block.items _ (with_items_is b.block block len) c.in-End.ensures.front
    c.deref_mut.ensures.value)

pub returns-in-Failed-clause-once : goal.returns-in-Failed-clause-once
returns-in-Failed-clause-once g c =
    let b = c.args.self.now in
    let block = c.read_behind.new.block in
    let len : length block ≡ b.block.len =
    (let l = c.deref_mut.ensures.len in let k = c.read_behind.auto.block in omega (arith, l, k)) in
    one_read g.S.Source.left g.S.Source.read_gives c.args.source.now c.read_behind.new.source (text_of b) _ []
    c.in-Failed.ensures.gives
    (not_grown b.start b.end _ block b.block.items _ (with_items_is b.block block len) c.in-Failed.ensures.front
    c.deref_mut.ensures.value)
