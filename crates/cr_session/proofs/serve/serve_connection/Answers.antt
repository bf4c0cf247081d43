-- SPDX-License-Identifier: Apache-2.0 OR MIT
use Rattle.std.proofs.Common.{ℕ, ◌+◌, refl, sym, arith, subst, []}
use Rattle.cr_session.specs.declared.serve.Ending.{Ending}
use Rattle.cr_session.specs.Serving.{world_of, ConnectionInHistory, GoesOnInHistory}
use Rattle.cr_session.specs.Tries.{Tries, tries_of}
use Rattle.cr_session.specs.Passing.{StaysPass, TakesTurns}
use Rattle.cr_session.specs.Turning.{TurnsInVain}
use Rattle.cr_session.proofs.Connections.{started, ends_after, goes_after}
use Rattle.cr_session.proofs.NoMemory.{round_unbegun}
use Rattle.cr_session.proofs.Rounds.{not_last}
use Rattle.cr_session.proofs.Passes.{stays-now, stays-then}
use Rattle.cr_session.proofs.Whole.{whole_text, read_rises, write_rises, clock_rises}
use Rattle.cr_session.proofs.serve.serve_connection.Given.{Over}
use Rattle.cr_session.proofs.serve.serve_connection.Goals as goal

-- what turns do with the keeper
abbrev tries-here : (g : Over) → Tries g.row.K.Denot
tries-here g = tries_of g.K.Keeper

pub returns-in_default-clause-connection : goal.returns-in_default-clause-connection
returns-in_default-clause-connection g c =
    let world = world_of g.S.Source.faults g.O.Sink.taken g.O.Sink.faults g.C.Clock.coming g.C.Clock.faults in
    let w = world c.args.pass.now c.args.source.now c.args.sink.now c.args.clock.now in
    let w' = world c.args.pass.now c.args.source.now c.note_no_memory.new.sink c.note_no_memory.new.clock in
    subst (λ (e : Ending). ConnectionInHistory (tries-here g) g.S.Source.left g.S.Source.read_gives e 0 [] w w')
    (sym c.note_no_memory.ensures.ending)
    (round_unbegun (TakesTurns (tries-here g)) (TurnsInVain (tries-here g)) (λ p. refl) g.S.Source.left
    g.S.Source.read_gives 0 w w' refl refl c.note_no_memory.ensures.notes refl)

pub returns-in_default-clause-whole : goal.returns-in_default-clause-whole
returns-in_default-clause-whole g c b told =
    whole_text (TakesTurns (tries-here g)) (TurnsInVain (tries-here g)) g.S.Source.left g.S.Source.read_gives _ b _ _
    (returns-in_default-clause-connection g c) told

pub serving-init : goal.serving-init
serving-init g c =
    let w = world_of g.S.Source.faults g.O.Sink.taken g.O.Sink.faults g.C.Clock.coming g.C.Clock.faults
    c.args.pass.now c.args.source.now c.args.sink.now c.args.clock.now in
    let first = c.in-Ok.ensures.2 in
    record {
      goes_on = subst (λ n. GoesOnInHistory (tries-here g) g.S.Source.left g.S.Source.read_gives n 0 []
          c.in-Ok.space.inbox w w) (sym first)
          (subst (λ i. GoesOnInHistory (tries-here g) g.S.Source.left g.S.Source.read_gives 0 0 [] i w w)
          (sym c.in-Ok.ensures.0)
          (started (tries-here g) g.S.Source.left g.S.Source.read_gives w));
      few = omega (arith, first);
      pass = subst (λ (n : ℕ). StaysPass n c.args.pass.now c.args.pass.now) (sym first) (stays-now c.args.pass.now);
      room = c.in-Ok.ensures.1;
    }

pub returns-in-Some-clause-connection : goal.returns-in-Some-clause-connection
returns-in-Some-clause-connection g c =
    ends_after (tries-here g) g.S.Source.left g.S.Source.read_gives _ _ _ _ _ _ _ c.serving.invariant.goes_on
    c.in-Some.ensures.round

pub returns-in-Some-clause-whole : goal.returns-in-Some-clause-whole
returns-in-Some-clause-whole g c b told =
    whole_text (TakesTurns (tries-here g)) (TurnsInVain (tries-here g)) g.S.Source.left g.S.Source.read_gives _ b _ _
    (returns-in-Some-clause-connection g c) told

pub returns-in-Some-clause-read_fault : goal.returns-in-Some-clause-read_fault
returns-in-Some-clause-read_fault g c is =
    read_rises (TakesTurns (tries-here g)) (TurnsInVain (tries-here g)) g.S.Source.left g.S.Source.read_gives _ _ _ _ _
    (returns-in-Some-clause-connection g c) is

pub returns-in-Some-clause-write_fault : goal.returns-in-Some-clause-write_fault
returns-in-Some-clause-write_fault g c is =
    write_rises (TakesTurns (tries-here g)) (TurnsInVain (tries-here g)) g.S.Source.left g.S.Source.read_gives _ _ _ _ _
    (returns-in-Some-clause-connection g c) is

pub returns-in-Some-clause-clock_fault : goal.returns-in-Some-clause-clock_fault
returns-in-Some-clause-clock_fault g c is =
    clock_rises (TakesTurns (tries-here g)) (TurnsInVain (tries-here g)) g.S.Source.left g.S.Source.read_gives _ _ _ _ _
    (returns-in-Some-clause-connection g c) is

pub serving-preserved : goal.serving-preserved
serving-preserved g c =
    let next = c.serve_next_request.new in
    let world = world_of g.S.Source.faults g.O.Sink.taken g.O.Sink.faults g.C.Clock.coming g.C.Clock.faults in
    let w = world c.args.pass.now c.args.source.now c.args.sink.now c.args.clock.now in
    let u = world next.pass next.source next.sink next.clock in
    let last = not_last (tries-here g) g.S.Source.left g.S.Source.read_gives c.serving.space.number _ _ _ u
    c.in_default-serve_next_request.ensures.round in
    let few = c.serving.invariant.few in
    let same = c.serve_next_request.ensures.number in
    record {
      goes_on = subst (λ (n : ℕ). GoesOnInHistory (tries-here g) g.S.Source.left g.S.Source.read_gives (n + 1) 0 []
          next.space.inbox w u) (sym same)
          (goes_after (tries-here g) g.S.Source.left g.S.Source.read_gives _ 1 _ _ _ _ _ u
          c.serving.invariant.goes_on c.in_default-serve_next_request.ensures.round);
      few = omega (arith, last, few, same);
      pass = subst (λ (n : ℕ). StaysPass (n + 1) c.args.pass.now next.pass) (sym same)
          (stays-then c.serving.space.number 1 c.args.pass.now c.serving.pass next.pass
          c.serving.invariant.pass c.serve_next_request.ensures.pass);
      room = c.serve_next_request.ensures.room;
    }

pub returns-in-Some-clause-own : goal.returns-in-Some-clause-own
returns-in-Some-clause-own g c =
    let now = stays-then c.serving.space.number 1 c.args.pass.now c.serving.pass c.serve_next_request.new.pass
    c.serving.invariant.pass c.in-Some.ensures.pass in
    (now.lock, now.share)

pub returns-in-Some-clause-turns : goal.returns-in-Some-clause-turns
returns-in-Some-clause-turns g c =
    let few = c.serving.invariant.few in
    let now = stays-then c.serving.space.number 1 c.args.pass.now c.serving.pass c.serve_next_request.new.pass
    c.serving.invariant.pass c.in-Some.ensures.pass in
    let most = now.few in
    omega (arith, few, most)
