-- SPDX-License-Identifier: Apache-2.0 OR MIT
use Rattle.std.proofs.Common.{◌≤◌, ◌-◌, [], vec_capacity}
use Rattle.cr_session.specs.Serving.{GoesOnInHistory, world_of}
use Rattle.cr_session.specs.Passing.{StaysPass}
use Rattle.cr_session.specs.Tries.{tries_of}
use Rattle.cr_session.proofs.serve.serve_connection.Given as goal

abbrev pub invariant-serving : goal.invariant-serving
invariant-serving g l =
    let world = world_of g.S.Source.faults g.O.Sink.taken g.O.Sink.faults g.C.Clock.coming g.C.Clock.faults in
    let K = g.K.Keeper in
    let tries = tries_of K in
    record {
      goes_on : GoesOnInHistory tries g.S.Source.left g.S.Source.read_gives l.space.number 0 [] l.space.inbox
          (world l.initial.pass l.initial.source l.initial.sink l.initial.clock) (world l.pass l.source l.sink l.clock);
      few : l.space.number ≤ 1048575;
      pass : StaysPass l.space.number l.initial.pass l.pass;
      room : 512 ≤ vec_capacity l.space.reply;
    }

abbrev pub decreases-serving : goal.decreases-serving
decreases-serving g l = 1048576 - l.space.number
