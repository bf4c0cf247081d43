-- SPDX-License-Identifier: Apache-2.0 OR MIT
use Rattle.std.proofs.Common.{◌∙◌, refl, arith}
use Rattle.cr_session.specs.Serving.{world_of}
use Rattle.cr_session.specs.Tries.{tries_of}
use Rattle.cr_workers.specs.Connections.{ServedConnection}
use Rattle.cr_workers.proofs.Grown.{grown-connection}
use Rattle.cr_workers.proofs.Serving.{tells-one}
use Rattle.cr_workers.proofs.worker.serve_next_connection.Goals as goal

pub returns-in-Conn-clause-serves : goal.returns-in-Conn-clause-serves
returns-in-Conn-clause-serves g c =
    let n = c.in-Conn.ensures in
    let served = c.serve_connection-ending in
    let world = world_of g.D.In.Source.faults g.D.Out.Sink.taken g.D.Out.Sink.faults g.D.Clock.Clock.coming
    g.D.Clock.Clock.faults in
    let grown =
    grown-connection (tries_of g.K.Keeper) g.D.In.Source.left g.D.In.Source.read_gives served.result
    (world c.args.pass.now c.in-Conn.source c.in-Conn.sink c.in-Conn.clock)
    (world served.new.pass served.new.source served.new.sink served.new.clock) served.ensures.connection in
    let connection : ServedConnection g.row.K.Denot g.row.D-In.Denot g.row.D-Out.Denot g.row.D-Clock.Denot = record {
      ending = served.result;
      before = c.args.pass.now;
      after = served.new.pass;
      turns = grown.turns;
      ends =
          record {
            given = (c.in-Conn.source, c.in-Conn.sink, c.in-Conn.clock);
            back = (served.new.source, served.new.sink, served.new.clock);
          };
    } in (
      connection,
      record {
        connection = served.ensures.connection;
        whole = served.ensures.whole;
        seen = grown.seen;
        mine = grown.mine;
        places = grown.places;
        judges = grown.judges;
      },
      refl,
      refl,
      refl,
      record {
        left = (let a = n.left in let b = c.give_back.ensures.left in omega (arith, a, b));
        back = c.give_back.ensures.out;
        faults = c.give_back.ensures.faults ∙ n.faults;
        log = tells-one connection (g.D.Door.log c.args.door.now) (g.D.Door.log c.next.new.self)
            (g.D.Door.log c.give_back.new.self) n.log c.give_back.ensures.log;
      },
    )
