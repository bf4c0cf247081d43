-- SPDX-License-Identifier: Apache-2.0 OR MIT
use Rattle.cr_session.specs.Tries.{tries_of}
use Rattle.cr_workers.specs.Connections.{streams_of}
use Rattle.cr_workers.specs.Doors.{door_of}
use Rattle.cr_workers.proofs.Serving.{ServesSoFar}
use Rattle.cr_workers.proofs.worker.serve_door.Given as goal

abbrev pub invariant-serving : goal.invariant-serving
invariant-serving g l = (let seen = door_of g.D.Door.left g.D.Door.is_out g.D.Door.faults g.D.Door.log in
    ServesSoFar
    (streams_of (tries_of g.K.Keeper) g.D.In.Source.left g.D.In.Source.read_gives g.D.In.Source.faults
    g.D.Out.Sink.taken g.D.Out.Sink.faults g.D.Clock.Clock.coming g.D.Clock.Clock.faults) l.lacked
    (seen l.initial.door) (seen l.door) l.initial.pass l.pass)

abbrev pub decreases-serving : goal.decreases-serving
decreases-serving g l = g.D.Door.left l.door
