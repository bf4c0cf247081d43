-- SPDX-License-Identifier: Apache-2.0 OR MIT
use Rattle.std.proofs.Common.{ℕ, ◌<◌, ◌≤◌, ◌+◌, ◌∙◌, length, get_or, set, ap, sym, subst}
use Rattle.cr_base.specs.Pairs.{major, with_tie}
use Rattle.cr_rooms.specs.Rooms.{IsOneLess}
use Rattle.cr_rooms.proofs.RoomLaws.{one-less-row, has-row}
use Rattle.cr_pairs.specs.Seen.{SeenPairs}
use Rattle.cr_pairs.specs.Seen.{SeenRows}
use Rattle.cr_pairs.specs.Rows.{rooms_of}
use Rattle.cr_pairs.proofs.RowLaws.{inserted}
use Rattle.cr_pairs.proofs.pair_rows.PairRows.insert.Goals as goal

pub invariant_of-self : goal.invariant_of-self
invariant_of-self g c =
    let order = c.self.inside.order in
    let rows = c.self.inside.rows.items in
    let s = c.args.tie in
    let room = subst (λ (v : SeenRows g.row.V.Denot). 0 < get_or v.rooms (major v.order s.pair) 0) (sym c.self.view_is)
    c.requires in
    let lt = subst (λ (i : ℕ). i < length rows) (sym c.major.ensures.value)
    (has-row (λ (r : SeenPairs g.row.V.Denot). r.room) (major order s.pair) rows room) in
    (inserted order c.major.result rows c.index_mut-row.result.now c.insert.new.self _ lt c.index_mut-row.ensures.value
    c.self.invariant c.insert.ensures.order s c.major.ensures.value c.insert.ensures.ties).1

pub returns-clause-ties : goal.returns-clause-ties
returns-clause-ties g c =
    let order = c.self.inside.order in
    let rows = c.self.inside.rows.items in
    let s = c.args.tie in
    let room = subst (λ (v : SeenRows g.row.V.Denot). 0 < get_or v.rooms (major v.order s.pair) 0) (sym c.self.view_is)
    c.requires in
    let lt = subst (λ (i : ℕ). i < length rows) (sym c.major.ensures.value)
    (has-row (λ (r : SeenPairs g.row.V.Denot). r.room) (major order s.pair) rows room) in
    (inserted order c.major.result rows c.index_mut-row.result.now c.insert.new.self _ lt c.index_mut-row.ensures.value
    c.self.invariant c.insert.ensures.order s c.major.ensures.value c.insert.ensures.ties).0
    ∙ ap (λ (v : SeenRows g.row.V.Denot). with_tie v.order s v.ties) c.self.view_is

pub returns-clause-rooms : goal.returns-clause-rooms
returns-clause-rooms g c =
    let order = c.self.inside.order in
    let rows = c.self.inside.rows.items in
    let s = c.args.tie in
    let room = subst (λ (v : SeenRows g.row.V.Denot). 0 < get_or v.rooms (major v.order s.pair) 0) (sym c.self.view_is)
    c.requires in
    let lt = subst (λ (i : ℕ). i < length rows) (sym c.major.ensures.value)
    (has-row (λ (r : SeenPairs g.row.V.Denot). r.room) (major order s.pair) rows room) in
    let less = one-less-row (λ (r : SeenPairs g.row.V.Denot). r.room) c.major.result rows c.index_mut-row.result.now
    c.insert.new.self
    (subst (λ (r : SeenPairs g.row.V.Denot). r.room ≤ c.insert.new.self.room + 1) c.index_mut-row.ensures.value
    c.insert.ensures.room) in
    let new = rooms_of (set rows c.major.result c.insert.new.self) in
    let at = subst (λ (i : ℕ). IsOneLess i (rooms_of rows) new) c.major.ensures.value less in
    subst (λ (v : SeenRows g.row.V.Denot). IsOneLess (major v.order s.pair) v.rooms new) c.self.view_is at
