-- SPDX-License-Identifier: Apache-2.0 OR MIT
use Rattle.std.proofs.Common.{◌∙◌, ◌++◌, false, List, ap, refl, subst, sym}
use Rattle.cr_base.specs.declared.row.Row.{Row}
use Rattle.cr_journal.specs.Grammar.{FitsGroup}
use Rattle.cr_journal.specs.Keeping.{rows_of}
use Rattle.cr_journal.specs.declared.state.Journal.{Journal}
use Rattle.cr_journal.proofs.GateByGate.{is_journal}
use Rattle.cr_journal.proofs.OpenLaws.{opened_keeps}
use Rattle.cr_journal.proofs.keeper.JournalKeeper.open.Goals as goal

pub invariant_of-result : goal.invariant_of-result
invariant_of-result g c = (
  c.in-Ok.ensures.gate,
  λ tells.
      let journal : Journal g.row.D.Denot =
      record { disk = c.open_or_make.new.disk; gate = c.in-Ok.gate; in_doubt = false } in
      let found = c.in-Ok.ensures.found tells in
      let rows = found.3 ∙ ap (λ (l : List Row). l ++ rows_of found.0) c.new-rows.ensures.items in
      opened_keeps g.D.Disk.seen g.D.Disk.may_leave journal c.open_or_make.new.rows.items c.new.result.items refl
      (subst FitsGroup (sym c.new.ensures.items) tt) (found.0, found.1, rows) found.2 (c.in-Ok.ensures.durable tells),
)

pub returns-in-Ok-clause-found : goal.returns-in-Ok-clause-found
returns-in-Ok-clause-found g c = λ tells.
    let found = c.in-Ok.ensures.found tells in
    let rows = found.3 ∙ ap (λ (l : List Row). l ++ rows_of found.0) c.new-rows.ensures.items in
    (found.0, is_journal (g.D.Disk.seen c.open_or_make.new.disk) c.in-Ok.gate found.0 found.1 found.2, sym rows)
