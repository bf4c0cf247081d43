-- SPDX-License-Identifier: Apache-2.0 OR MIT
-- The exit of a run, by how its connection ended, and its status.
use Rattle.std.specs.Prelude.{ℕ, Bool, true, false}
use Rattle.cr_ports.specs.declared.keeper.KeeperError.{KeeperError}
use Rattle.cr_ports.specs.declared.keeper.KeeperError.TheVariants as refusals
use Rattle.cr_book.specs.declared.opening.OpenError.{OpenError}
use Rattle.cr_book.specs.declared.opening.OpenError.TheVariants as errors
use Rattle.cr_session.specs.declared.serve.Ending.{Ending}
use Rattle.cr_session.specs.declared.serve.Ending.TheVariants as endings
use Rattle.cr_workers.specs.declared.worked.Worked.{Worked}
use Rattle.cr_workers.specs.declared.worked.Worked.TheVariants as worked
use Rattle.cr_top.specs.declared.exit.Exit.{Exit}
use Rattle.cr_top.specs.declared.exit.Exit.TheVariants as exits

-- the exit of a run whose connection ended so
abbrev pub exit_of : Ending → Exit
exit_of endings.Clean = exits.Done
exit_of (endings.Closed why) = exits.Done
exit_of endings.Cut = exits.Cut
exit_of endings.ReadFault = exits.ReadFault
exit_of endings.WriteFault = exits.WriteFault
exit_of endings.ClockFault = exits.ClockFault
exit_of endings.OutOfMemory = exits.OutOfMemory

-- the exit of a run whose store the shelf didn't open
abbrev pub exit_of_shelf : KeeperError → Exit
exit_of_shelf refusals.Failed = exits.KeeperFault
exit_of_shelf refusals.OutOfMemory = exits.OutOfMemory

-- the exit of a run whose store has rows that don't open
abbrev pub exit_of_rows : OpenError → Exit
exit_of_rows (errors.BadStore row found) = exits.BadStore row found.kind
exit_of_rows errors.KeeperFault = exits.KeeperFault
exit_of_rows errors.OutOfMemory = exits.OutOfMemory

-- the exit of a run whose workers ended so, and whose last line was written or wasn't
abbrev pub exit_of_workers : Worked → Bool → Exit
exit_of_workers worked.OutOfMemory written = exits.OutOfMemory
exit_of_workers worked.DoorFailed written = exits.ListenFault
exit_of_workers worked.Done true = exits.Done
exit_of_workers worked.Done false = exits.WriteFault

-- the status that the process ends with
abbrev pub exit_status : Exit → ℕ
exit_status exits.Done = 0
exit_status exits.Cut = 1
exit_status exits.Usage = 2
exit_status (exits.BadStore row kind) = 3
exit_status exits.ReadFault = 4
exit_status exits.WriteFault = 5
exit_status exits.KeeperFault = 6
exit_status exits.ListenFault = 7
exit_status exits.NoUser = 8
exit_status exits.OutOfMemory = 9
exit_status exits.ClockFault = 10
