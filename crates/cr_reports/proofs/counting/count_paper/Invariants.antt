-- SPDX-License-Identifier: Apache-2.0 OR MIT
use Rattle.std.proofs.Common.{◌≡◌, length, take}
use Rattle.cr_base.specs.Reviews.{is_written_in}
use Rattle.cr_reports.specs.Loads.{Becomes, with_seats}
use Rattle.cr_reports.proofs.counting.count_paper.Given as goal

abbrev pub invariant-loop-seat : goal.invariant-loop-seat
invariant-loop-seat l =
    (length l.loads ≡ 10000)
    × Becomes l.initial.loads l.loads (λ user load. with_seats (is_written_in l.live.tables.reviews l.fn.paper) user
    (take l.seat-index l.seats) load)
