-- SPDX-License-Identifier: Apache-2.0 OR MIT
use Rattle.std.proofs.Common.{◌≡◌, ◌<◌, ◌≤◌, ◌+◌, ◌∙◌, length, set, inr, ap, sym, subst, arith}
use Rattle.cr_base.specs.Pairs.{major, without_pair}
use Rattle.cr_rooms.specs.Rooms.{IsNoLess}
use Rattle.cr_rooms.proofs.RoomLaws.{no-less-row}
use Rattle.cr_pairs.specs.Seen.{SeenPairs}
use Rattle.cr_pairs.specs.Seen.{SeenRows}
use Rattle.cr_pairs.specs.Rows.{rooms_of}
use Rattle.cr_pairs.proofs.RowLaws.{removed, rows-untouched}
use Rattle.cr_pairs.proofs.pair_rows.PairRows.remove.Goals as goal

pub invariant_of-self : goal.invariant_of-self
invariant_of-self g c =
    let lt : c.major-index.result < length c.self.inside.rows.items =
    omega (arith, c.if-index-len.true, c.len.ensures) in
    (removed c.self.inside.order c.major-index.result c.self.inside.rows.items c.index_mut-row.result.now
    c.remove.new.self _ lt c.index_mut-row.ensures.value c.self.invariant c.remove.ensures.order
    c.args.pair.now c.major-index.ensures.value c.remove.ensures.ties).1

pub returns-then-index-len-clause-ties : goal.returns-then-index-len-clause-ties
returns-then-index-len-clause-ties g c =
    let lt : c.major-index.result < length c.self.inside.rows.items =
    omega (arith, c.if-index-len.true, c.len.ensures) in
    (removed c.self.inside.order c.major-index.result c.self.inside.rows.items c.index_mut-row.result.now
    c.remove.new.self _ lt c.index_mut-row.ensures.value c.self.invariant c.remove.ensures.order
    c.args.pair.now c.major-index.ensures.value c.remove.ensures.ties).0
    ∙ ap (λ (v : SeenRows g.row.V.Denot). without_pair c.args.pair.now v.ties) c.self.view_is

pub returns-then-index-len-clause-rooms : goal.returns-then-index-len-clause-rooms
returns-then-index-len-clause-rooms g c =
    let rows = c.self.inside.rows.items in
    let lt : c.major-index.result < length rows = omega (arith, c.if-index-len.true, c.len.ensures) in
    let kept = no-less-row (λ (r : SeenPairs g.row.V.Denot). r.room) c.major-index.result rows
    c.index_mut-row.result.now c.remove.new.self
    (subst (λ (r : SeenPairs g.row.V.Denot). r.room ≤ c.remove.new.self.room) c.index_mut-row.ensures.value
    c.remove.ensures.room) in
    subst (λ (v : SeenRows g.row.V.Denot). IsNoLess v.rooms
    (rooms_of (set rows c.major-index.result c.remove.new.self))) c.self.view_is kept

pub returns-else-index-len-clause-ties : goal.returns-else-index-len-clause-ties
returns-else-index-len-clause-ties g c =
    let rows = c.self.inside.rows.items in
    let away : 0 + length rows ≤ major c.self.inside.order c.args.pair.now =
    omega (arith, c.if-index-len.false, c.len.ensures, c.major-index.ensures.value) in
    subst (λ (v : SeenRows g.row.V.Denot). v.ties ≡ without_pair c.args.pair.now v.ties) c.self.view_is
    (sym (rows-untouched c.self.inside.order c.args.pair.now 0 rows (inr away) c.self.invariant))
