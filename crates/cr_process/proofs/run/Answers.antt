-- SPDX-License-Identifier: Apache-2.0 OR MIT
use Rattle.std.proofs.Common.{inl, inr, refl}
use Rattle.cr_top.specs.declared.exit.Exit.TheVariants as exits
use Rattle.cr_process.proofs.run.Goals as goal

pub returns-in_default : goal.returns-in_default
returns-in_default g c = (exits.OutOfMemory, c.status_of.ensures, inl refl)

pub returns : goal.returns
returns g c = (c.exit_of_run-exit.result, c.status_of-2.ensures, inr c.exit_of_run-exit.ensures)
