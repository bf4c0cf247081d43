-- SPDX-License-Identifier: Apache-2.0 OR MIT
use Rattle.std.proofs.Common.{rules, ◌≡◌, length}
use Rattle.std.proofs.lemmas.List.{nil_from_length}
use Rattle.cr_session.specs.Tries.{tries_of}
use Rattle.cr_workers.specs.Connections.{streams_of}
use Rattle.cr_workers.proofs.Halves.{doors-none}
use Rattle.cr_workers.proofs.doors.serve_last.Goals as goal

pub returns-in_default-clause-serves : goal.returns-in_default-clause-serves
returns-in_default-clause-serves g c =
    let before : length c.args.doors.items ≡ 0 = search rules in
    let after : length c.pop.new.self.items ≡ 0 = search rules in
    rw (nil_from_length c.args.doors.items before) (rw (nil_from_length c.pop.new.self.items after)
    (doors-none
    (streams_of (tries_of g.K.Keeper) g.D.In.Source.left g.D.In.Source.read_gives g.D.In.Source.faults
    g.D.Out.Sink.taken g.D.Out.Sink.faults g.D.Clock.Clock.coming g.D.Clock.Clock.faults) c.args.pass))
