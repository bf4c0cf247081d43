-- SPDX-License-Identifier: Apache-2.0 OR MIT
use Rattle.std.proofs.Common.{◌∙◌, sym}
use Rattle.cr_journal.proofs.Shelving.{told_before}
use Rattle.cr_journal.proofs.Stored.{stored_opened}
use Rattle.cr_journal.proofs.shelf.JournalShelfShelf.open.Goals as goal

pub returns-in-Ok-clause-found : goal.returns-in-Ok-clause-found
returns-in-Ok-clause-found g c =
    let path = c.args.path.now in
    let files = g.D.Disks.files c.self.inside.disks in
    let k = c.in-Ok.keeper in
    rw (← c.self.view_is) (told_before g.D.Disk.Disk.tells files path k.rows (λ told.
    let there = c.in_ok-disk.ensures.found told in
    let opened = c.in-Ok.ensures.found told in
    stored_opened opened.0 k.rows (files path) (g.D.Disk.Disk.seen k.disk)
    (λ some. c.in-Ok.ensures.same told (λ none. some (sym there ∙ none)) ∙ there)
    (λ none. c.in-Ok.ensures.made told (there ∙ none)) opened.1 opened.2))
