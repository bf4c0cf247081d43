-- SPDX-License-Identifier: Apache-2.0 OR MIT
use Rattle.std.proofs.Common.{[], map, refl, ap, subst}
use Rattle.cr_lock.specs.Closing.{Closes}
use Rattle.cr_book.specs.Seen.{SeenBook}
use Rattle.cr_session.specs.Passing.{KnownPass}
use Rattle.cr_session.specs.Replay.{ledger_of}
use Rattle.cr_session.specs.Tries.{tries_of}
use Rattle.cr_workers.specs.Connections.{streams_of}
use Rattle.cr_workers.specs.Doors.{door_of}
use Rattle.cr_workers.proofs.Closed.{book-closed, history-unasked}
use Rattle.cr_workers.proofs.history.serve_book.Goals as goal

pub returns-in-Err-clause-serves : goal.returns-in-Err-clause-serves
returns-in-Err-clause-serves g c =
    rw c.in-Err.ensures (
      history-unasked
          (streams_of (tries_of g.K.Keeper) g.D.In.Source.left g.D.In.Source.read_gives g.D.In.Source.faults
          g.D.Out.Sink.taken g.D.Out.Sink.faults g.D.Clock.Clock.coming g.D.Clock.Clock.faults)
          (map (door_of g.D.Door.left g.D.Door.is_out g.D.Door.faults g.D.Door.log) c.args.doors.items)
          (ledger_of g.K.Keeper.faults c.args.book),
      record { turns = []; made = tt; leads = refl },
    )

pub returns-clause-serves : goal.returns-clause-serves
returns-clause-serves g c =
    let made = c.in-Ok.ensures in
    let list = λ (b : SeenBook g.row.K.Denot). b.log in
    let faults = λ (b : SeenBook g.row.K.Denot). g.K.Keeper.faults b.keeper in
    let root = λ (b : SeenBook g.row.K.Denot). b.opened in
    let mine = ap (λ (p : KnownPass g.row.K.Denot). p.mine) made.1 in
    let closes = subst (λ (b : SeenBook g.row.K.Denot). Closes list faults root b c.serve_doors-pass.result.0
    c.close.result) made.0 c.close.ensures in
    book-closed list faults root _ _ _ _ c.args.book c.close.result c.in-Ok.made.1 c.serve_doors-pass.result.0
    (ap (λ (p : KnownPass g.row.K.Denot). p.seen) made.1) mine c.serve_doors-pass.ensures.serves closes
