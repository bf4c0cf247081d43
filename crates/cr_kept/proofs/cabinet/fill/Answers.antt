-- SPDX-License-Identifier: Apache-2.0 OR MIT
use Rattle.std.proofs.Common.{◌∙◌, List, ap, sym, subst, arith}
use Rattle.cr_kept.specs.Seen.{SeenDrawer}
use Rattle.cr_kept.specs.Drawers.{files_from, rooms_of}
use Rattle.cr_rooms.specs.Rooms.{IsNoLess}
use Rattle.cr_rooms.proofs.RoomLaws.{no-less-behind}
use Rattle.cr_kept.proofs.DrawerLaws.{more-drawers}
use Rattle.cr_kept.proofs.cabinet.fill.Goals as goal

pub loop-alloc-preserved : goal.loop-alloc-preserved
loop-alloc-preserved g c =
    let V = g.row.V.Denot in
    let before = c.loop-alloc.drawers.items in
    let more = sym c.in_ok-push.ensures.items in (
      ap (λ (ds : List (SeenDrawer V)). files_from 0 ds) c.in_ok-push.ensures.items
          ∙ more-drawers 0 before c.new.result c.new.ensures ∙ c.loop-alloc.invariant.0,
      λ p. let kept = subst {A = List (SeenDrawer V)}
          (λ (ds : List (SeenDrawer V)). IsNoLess (rooms_of before) (rooms_of ds)) more
          (no-less-behind (λ (d : SeenDrawer V). d.room) before c.new.result) p in
          omega (arith, kept, c.loop-alloc.invariant.1 p),
    )
