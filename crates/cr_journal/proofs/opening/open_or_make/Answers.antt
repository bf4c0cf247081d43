-- SPDX-License-Identifier: Apache-2.0 OR MIT
use Rattle.cr_journal.proofs.OpenLaws.{new_found}
use Rattle.cr_journal.proofs.opening.open_or_make.Goals as goal

pub returns-in-Ok-clause-found : goal.returns-in-Ok-clause-found
returns-in-Ok-clause-found g c = λ told.
    new_found (g.D.Disk.seen c.make.new.disk) c.in-Ok.gate c.args.rows.now.items c.in-Ok.ensures.gate
    (c.in-Ok.ensures.made told)

pub returns-clause-empty : goal.returns-clause-empty
returns-clause-empty g c = λ told is. absurd (c.read_all.ensures.reads is)

pub returns-clause-not_made : goal.returns-clause-not_made
returns-clause-not_made g c = λ is. absurd (c.read_all.ensures.reads is)
