-- SPDX-License-Identifier: Apache-2.0 OR MIT
use Rattle.std.proofs.Common.{ℕ, Bool, ◌+◌, arith}
use Rattle.cr_base.specs.Reviews.{is_written_in}
use Rattle.cr_reports.proofs.CountLaws.{few-within}
use Rattle.cr_reports.proofs.counting.count_paper.Goals as goal

pub count_seat-requires-clause-few : goal.count_seat-requires-clause-few
count_seat-requires-clause-few c =
    let written : ℕ → Bool = is_written_in c.args.live.now.tables.reviews c.args.paper in
    few-within 2147483648 4294967296 c.args.loads.now c.loop-seat.loads written c.seats-seats.result.now
    c.loop-seat.seat-index
    c.loop-seat.invariant.1 c.seats-seats.ensures.few (omega arith) c.requires.few

pub returns-clause-few : goal.returns-clause-few
returns-clause-few c =
    let written : ℕ → Bool = is_written_in c.args.live.now.tables.reviews c.args.paper in
    λ n few.
    few-within n (n + 26) c.args.loads.now c.loop-seat.loads written c.seats-seats.result.now c.loop-seat.seat-index
    c.loop-seat.invariant.1 c.seats-seats.ensures.few (omega arith) few
