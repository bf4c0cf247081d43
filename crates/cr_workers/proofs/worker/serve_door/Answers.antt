-- SPDX-License-Identifier: Apache-2.0 OR MIT
use Rattle.std.proofs.Common.{[], ◌∷◌, ◌*◌, Bool, sym, subst}
use Rattle.cr_session.specs.Passing.{KnownPass, StaysPass}
use Rattle.cr_session.specs.Tries.{tries_of}
use Rattle.cr_workers.specs.Connections.{streams_of}
use Rattle.cr_workers.specs.Doors.{door_of, ServesDoors}
use Rattle.cr_workers.specs.declared.worked.Worked.{Worked}
use Rattle.cr_workers.proofs.Serving.{ServesSoFar, serves-none, serves-next, serves-end, so-few}
use Rattle.cr_workers.proofs.worker.serve_door.Goals as goal

pub serving-init : goal.serving-init
serving-init g c =
    let streams =
    streams_of (tries_of g.K.Keeper) g.D.In.Source.left g.D.In.Source.read_gives g.D.In.Source.faults
    g.D.Out.Sink.taken g.D.Out.Sink.faults g.D.Clock.Clock.coming g.D.Clock.Clock.faults in
    serves-none streams (door_of g.D.Door.left g.D.Door.is_out g.D.Door.faults g.D.Door.log c.args.door.now)
    c.args.pass.now c.requires.back

pub serving-preserved : goal.serving-preserved
serving-preserved g c =
    let streams =
    streams_of (tries_of g.K.Keeper) g.D.In.Source.left g.D.In.Source.read_gives g.D.In.Source.faults
    g.D.Out.Sink.taken g.D.Out.Sink.faults g.D.Clock.Clock.coming g.D.Clock.Clock.faults in
    let seen = door_of g.D.Door.left g.D.Door.is_out g.D.Door.faults g.D.Door.log in
    subst (λ (b : Bool). ServesSoFar streams b (seen c.args.door.now) (seen c.serve_next_connection.new.door)
    c.args.pass.now c.serve_next_connection.new.pass)
    (sym c.has_lacked-lacked.ensures)
    (serves-next streams c.serving.lacked c.in-Ok.ending (seen c.args.door.now) (seen c.serving.door)
    (seen c.serve_next_connection.new.door) c.args.pass.now c.serving.pass c.serve_next_connection.new.pass
    c.serving.invariant c.in-Ok.ensures.serves c.in-Ok.ensures.pass)

pub returns-in-Err-clause-serves : goal.returns-in-Err-clause-serves
returns-in-Err-clause-serves g c =
    let streams =
    streams_of (tries_of g.K.Keeper) g.D.In.Source.left g.D.In.Source.read_gives g.D.In.Source.faults
    g.D.Out.Sink.taken g.D.Out.Sink.faults g.D.Clock.Clock.coming g.D.Clock.Clock.faults in
    let seen = door_of g.D.Door.left g.D.Door.is_out g.D.Door.faults g.D.Door.log in
    subst (λ (w : Worked). ServesDoors streams w (seen c.args.door.now ∷ [])
    (seen c.serve_next_connection.new.door ∷ []) c.args.pass.now c.serve_next_connection.new.pass)
    (sym c.ended_by.ensures)
    (serves-end streams c.serving.lacked c.in-Err.last (seen c.args.door.now) (seen c.serving.door)
    (seen c.serve_next_connection.new.door) c.args.pass.now c.serving.pass c.serve_next_connection.new.pass
    c.serving.invariant c.in-Err.ensures.serves)

pub returns-in-Err-clause-pass : goal.returns-in-Err-clause-pass
returns-in-Err-clause-pass g c =
    let streams =
    streams_of (tries_of g.K.Keeper) g.D.In.Source.left g.D.In.Source.read_gives g.D.In.Source.faults
    g.D.Out.Sink.taken g.D.Out.Sink.faults g.D.Clock.Clock.coming g.D.Clock.Clock.faults in
    let seen = door_of g.D.Door.left g.D.Door.is_out g.D.Door.faults g.D.Door.log in
    subst (λ (x : KnownPass g.row.K.Denot). StaysPass (1048576 * g.D.Door.left c.args.door.now) c.args.pass.now x)
    (sym c.in-Err.ensures.serves.0)
    (so-few streams c.serving.lacked (seen c.args.door.now) (seen c.serving.door) c.args.pass.now c.serving.pass
    c.serving.invariant)
