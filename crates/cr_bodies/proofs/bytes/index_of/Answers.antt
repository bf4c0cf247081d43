-- SPDX-License-Identifier: Apache-2.0 OR MIT
use Rattle.std.proofs.Common.{sym}
use Rattle.cr_bodies.proofs.Texts.{none_at}
use Rattle.cr_bodies.proofs.bytes.index_of.Goals as goal

pub returns-in-None-clause-value : goal.returns-in-None-clause-value
returns-in-None-clause-value c = none_at _ _ (sym c.in-None.ensures)
