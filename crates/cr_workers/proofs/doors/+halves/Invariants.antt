-- SPDX-License-Identifier: Apache-2.0 OR MIT
use Rattle.std.proofs.Common.{◌+◌, ◌*◌, length}
use Rattle.cr_workers.proofs.doors.+halves.Given as goal

abbrev pub decreases-serve_doors : goal.decreases-serve_doors
decreases-serve_doors g l = 2 * length l.doors.items

abbrev pub decreases-first_half : goal.decreases-first_half
decreases-first_half g l = 2 * length l.front.items + 1

abbrev pub decreases-second_half : goal.decreases-second_half
decreases-second_half g l = 2 * length l.back.items + 1
