-- SPDX-License-Identifier: Apache-2.0 OR MIT
use Rattle.std.proofs.Common.{◌∙◌, List, ap, sym, subst, arith}
use Rattle.cr_rooms.specs.Rooms.{IsNoLess}
use Rattle.cr_rooms.proofs.RoomLaws.{no-less-behind}
use Rattle.cr_pairs.specs.Seen.{SeenPairs}
use Rattle.cr_pairs.specs.Rows.{ties_in, rooms_of, AreRows}
use Rattle.cr_pairs.proofs.RowLaws.{rows-behind, ties-behind}
use Rattle.cr_pairs.proofs.pair_rows.fill.Goals as goal

pub loop-alloc-preserved : goal.loop-alloc-preserved
loop-alloc-preserved g c =
    let V = g.row.V.Denot in
    let before = c.loop-alloc.rows.items in
    let row = c.new.result in
    let more = c.in_ok-push.ensures.items in (
      subst (λ (rs : List (SeenPairs V)). AreRows c.args.order 0 rs) (sym more)
          (rows-behind c.args.order 0 before row c.new.ensures.order c.new.ensures.ties c.loop-alloc.invariant.0),
      ap (λ (rs : List (SeenPairs V)). ties_in rs) more ∙ ties-behind before row c.new.ensures.ties
          ∙ c.loop-alloc.invariant.1,
      λ p. let kept = subst {A = List (SeenPairs V)}
          (λ (rs : List (SeenPairs V)). IsNoLess (rooms_of before) (rooms_of rs)) (sym more)
          (no-less-behind (λ (r : SeenPairs V). r.room) before row) p in
          omega (arith, kept, c.loop-alloc.invariant.2 p),
    )
