-- SPDX-License-Identifier: Apache-2.0 OR MIT
use borrow.Author.Rules.{rules}
use denote.Param
use denote.Param.Send.{IsSend, IsSync, sendable}
use Rattle.std.proofs.Common.{◌∙◌, map, ap, subst}
use Rattle.std.proofs.Crossing.{crosses}
use Rattle.std.proofs.lemmas.List.{map-append}
use Rattle.cr_lock.proofs.lock.HistoryLock.TheSendSync as locks
use Rattle.cr_lock.proofs.pass.Pass.TheSendSync as passes
use Rattle.cr_log.proofs.log.Log.TheSendSync as logs
use Rattle.cr_lock.specs.Passes.{larger_half, smaller_half}
use Rattle.cr_session.specs.Passing.{KnownPass}
use Rattle.cr_session.specs.Tries.{tries_of}
use Rattle.cr_workers.specs.Connections.{streams_of}
use Rattle.cr_workers.specs.Doors.{door_of, ServesDoors}
use Rattle.cr_workers.proofs.Halves.{doors-unasked, doors-both}
use Rattle.cr_view.proofs.live.Live.TheSendSync as lives
use Rattle.cr_workers.proofs.doors.+halves.Goals as goal

pub returns-in-Err-clause-serves : goal.returns-in-Err-clause-serves
returns-in-Err-clause-serves g t c =
    rw c.in-Err.ensures.all
    (doors-unasked
    (streams_of (tries_of g.K.Keeper) g.D.In.Source.left g.D.In.Source.read_gives g.D.In.Source.faults
    g.D.Out.Sink.taken g.D.Out.Sink.faults g.D.Clock.Clock.coming g.D.Clock.Clock.faults)
    (map (door_of g.D.Door.left g.D.Door.is_out g.D.Door.faults g.D.Door.log) c.args.doors.items) c.args.pass)

pub returns-clause-serves : goal.returns-clause-serves
returns-clause-serves g t c =
    let streams =
    streams_of (tries_of g.K.Keeper) g.D.In.Source.left g.D.In.Source.read_gives g.D.In.Source.faults
    g.D.Out.Sink.taken g.D.Out.Sink.faults g.D.Clock.Clock.coming g.D.Clock.Clock.faults in
    let seen = door_of g.D.Door.left g.D.Door.is_out g.D.Door.faults g.D.Door.log in
    let front = c.in-Ok.halves.0.items in
    let back = c.in-Ok.halves.1.items in
    let one = c.join-one.result.0 in
    let other = c.join-one.result.1 in
    let first : ServesDoors streams one.2 (map seen front) (map seen one.1.items) (larger_half c.args.pass) one.0 =
    subst (λ (p : KnownPass g.row.K.Denot). ServesDoors streams one.2 (map seen front) (map seen one.1.items) p one.0)
    c.in-Ok-split.ensures.1 c.join-one.ensures.first.0 in
    let second : ServesDoors streams other.2 (map seen back) (map seen other.1.items) (smaller_half c.args.pass)
    other.0 =
    subst (λ (p : KnownPass g.row.K.Denot). ServesDoors streams other.2 (map seen back) (map seen other.1.items) p
    other.0) c.in-Ok-split.ensures.2
    c.join-one.ensures.second.0 in
    let before = ap (map seen) c.in-Ok.ensures.whole ∙ map-append seen front back in
    let after = ap (map seen) c.rejoin.ensures.items ∙ map-append seen one.1.items other.1.items in
    rw c.and.ensures (rw c.join.ensures.both (rw before (rw after
    (doors-both streams one.2 other.2 (map seen front) (map seen one.1.items) (map seen back)
    (map seen other.1.items) c.args.pass one.0 other.0 first second c.join.ensures.agree))))

-- ---- what may go to another thread: a book may, though it has a snapshot, of which no struct is found out by itself

pub join-one-requires-send-F : goal.join-one-requires-send-F
join-one-requires-send-F g t c κs within =
    let r : IsSync (Param.param 0 g.row.R) = search (rules, c.requires-raw) parts 8 in
    let k : IsSend (Param.param 1 g.row.K) = search (rules, c.requires-raw) parts 8 in
    let d : IsSend (Param.param 2 g.row.D) = search (rules, c.requires-raw) parts 8 in
    search (crosses, passes.the_send, locks.the_sync, lives.the_send, logs.the_send, sendable) depth 60 fits 200000

pub join-one-requires-send-A : goal.join-one-requires-send-A
join-one-requires-send-A g t c κs within =
    let k : IsSend (Param.param 1 g.row.K) = search (rules, c.requires-raw) parts 8 in
    let d : IsSend (Param.param 2 g.row.D) = search (rules, c.requires-raw) parts 8 in
    search (crosses, passes.the_send, lives.the_send, logs.the_send, sendable) depth 60 fits 200000
