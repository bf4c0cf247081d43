-- SPDX-License-Identifier: Apache-2.0 OR MIT
use Rattle.std.proofs.Common.{◌∙◌, ◌∷◌, List, ap, subst, sym}
use Rattle.cr_base.specs.declared.row.Row.{Row}
use Rattle.cr_journal.specs.Keeping.{OpensTo}
use Rattle.cr_journal.specs.Standing.{doubted}
use Rattle.cr_journal.proofs.Keeping.{among_rest, opens_wider, stops_between}
use Rattle.cr_ports.proofs.StopLaws.{started}
use Rattle.cr_journal.proofs.keeper.JournalKeeperKeeper.append_all.Goals as goal

pub returns-in-Err-clause-any_moment : goal.returns-in-Err-clause-any_moment
returns-in-Err-clause-any_moment g c = λ told.
    let inside = c.self.inside in
    let rows = inside.rows.items in
    let doubt = inside.doubt.items in
    let before = doubted inside.journal.in_doubt doubt in
    let group = c.args.added.now in
    rw (← c.self.view_is) (
    started g.D.Disk.moment g.D.Disk.left_since inside.journal.disk (OpensTo rows (group ∷ before))
    (λ f left. opens_wider rows before (group ∷ before) f (among_rest group before)
    (stops_between g.D.Disk.seen g.D.Disk.may_leave inside.journal rows doubt (c.self.invariant.1 told) f
    (g.met.D.Disk.only_now inside.journal.disk f left))))

pub returns-in-Ok-clause-between : goal.returns-in-Ok-clause-between
returns-in-Ok-clause-between g c = λ told image left.
    let k = c.keep_group.new in
    stops_between g.D.Disk.seen g.D.Disk.may_leave k.journal k.rows.items k.doubt.items
    (c.keep_group.ensures.keeps told) image
    (g.met.D.Disk.only_now k.journal.disk image left)

pub returns-in-Err-clause-between : goal.returns-in-Err-clause-between
returns-in-Err-clause-between g c = λ told image left.
    let inside = c.self.inside in
    subst (λ (rows : List Row). OpensTo rows (doubted inside.journal.in_doubt inside.doubt.items) image)
    (sym c.prepare.ensures.same)
    (stops_between g.D.Disk.seen g.D.Disk.may_leave inside.journal inside.rows.items inside.doubt.items
    (c.self.invariant.1 told) image
    (g.met.D.Disk.only_now inside.journal.disk image left))

pub returns-in-Err-clause-memory : goal.returns-in-Err-clause-memory
returns-in-Err-clause-memory g c = λ is.
    ap
    (λ (rows : List Row). record {
      disk = c.self.inside.journal.disk;
      rows = rows;
      doubted = doubted c.self.inside.journal.in_doubt c.self.inside.doubt.items;
    })
    c.prepare.ensures.same ∙ c.self.view_is
