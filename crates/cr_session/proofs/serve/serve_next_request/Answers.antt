-- SPDX-License-Identifier: Apache-2.0 OR MIT
use Rattle.std.proofs.Common.{ℕ, List, refl, sym, subst}
use Rattle.cr_session.specs.Answering.{desk_of}
use Rattle.cr_session.specs.Serving.{world_of, GoesOnInHistory}
use Rattle.cr_session.specs.Tries.{tries_of}
use Rattle.cr_session.proofs.Rounds.{round_goes, round_closes, round_write_fault, round_no_memory, round_unread}
use Rattle.cr_session.proofs.Rounds.{round_refused, round_cut, round_clean, round_read_fault, round_clock_fault}
use Rattle.cr_session.proofs.serve.serve_next_request.Goals as goal

pub returns-in-Goes-clause-round : goal.returns-in-Goes-clause-round
returns-in-Goes-clause-round g c =
    let world = world_of g.S.Source.faults g.O.Sink.taken g.O.Sink.faults g.C.Clock.coming g.C.Clock.faults in
    let w = world c.args.pass.now c.args.source.now c.args.sink.now c.args.clock.now in
    let w' = world c.serve_request.new.pass c.read_wish.new.source c.serve_request.new.sink c.read_wish.new.clock in
    let K = g.K.Keeper in
    let tries = tries_of K in
    subst (λ (inbox : List ℕ). GoesOnInHistory tries g.S.Source.left g.S.Source.read_gives 1 c.args.space.now.number
    c.args.space.now.inbox inbox w w')
    (sym c.serve_request.ensures.inbox)
    (round_goes tries g.S.Source.left g.S.Source.read_gives _ _ _ _ w w' c.in-Wish.ensures.reads c.in-Wish.ensures.clock
    c.in-Goes.ensures.serves
    (c.in-Wish.ensures.steady (λ is. cc)))

pub returns-in-Closes-clause-round : goal.returns-in-Closes-clause-round
returns-in-Closes-clause-round g c =
    round_closes _ _ _ _ _ _ _ _ _ c.in-Wish.ensures.reads c.in-Wish.ensures.clock c.in-Closes.ensures.serves
    (c.in-Wish.ensures.steady (λ is. cc))

pub returns-in-WriteFault-clause-round : goal.returns-in-WriteFault-clause-round
returns-in-WriteFault-clause-round g c =
    round_write_fault _ _ _ _ _ _ _ _ _ c.in-Wish.ensures.reads c.in-Wish.ensures.clock c.in-WriteFault.ensures.serves
    (c.in-Wish.ensures.steady (λ is. cc))

pub returns-in-OutOfMemory-serve_request-clause-round : goal.returns-in-OutOfMemory-serve_request-clause-round
returns-in-OutOfMemory-serve_request-clause-round g c =
    round_no_memory _ _ _ _ _ _ _ _ _ _
    (desk_of g.O.Sink.taken g.O.Sink.faults g.C.Clock.coming g.C.Clock.faults c.serve_request.new.sink
    c.read_wish.new.clock)
    c.note_no_memory.ensures.ending c.in-Wish.ensures.reads c.in-Wish.ensures.clock
    c.in-OutOfMemory-serve_request.ensures.serves
    c.note_no_memory.ensures.notes (c.in-Wish.ensures.steady (λ is. cc))

pub returns-in-Malformed-clause-round : goal.returns-in-Malformed-clause-round
returns-in-Malformed-clause-round g c =
    round_refused _ _ _ _ _ _ _ _ _ _ _ _ c.in-Malformed.ensures.reads c.in-Malformed.ensures.clock
    c.refuse.ensures.refuses refl
    (c.in-Malformed.ensures.steady (λ is. cc))

pub returns-in-Clean-clause-round : goal.returns-in-Clean-clause-round
returns-in-Clean-clause-round g c =
    round_clean _ _ _ _ _ _ _ _ c.in-Clean.ensures.reads c.in-Clean.ensures.clock refl refl
    (c.in-Clean.ensures.steady (λ is. cc))

pub returns-in-Cut-clause-round : goal.returns-in-Cut-clause-round
returns-in-Cut-clause-round g c =
    round_cut _ _ _ _ _ _ _ _ c.in-Cut.ensures.reads c.in-Cut.ensures.clock refl refl
    (c.in-Cut.ensures.steady (λ is. cc))

pub returns-in-ReadFault-clause-round : goal.returns-in-ReadFault-clause-round
returns-in-ReadFault-clause-round g c =
    round_read_fault _ _ _ _ _ _ _ _ c.in-ReadFault.ensures.reads c.in-ReadFault.ensures.clock
    (c.read_wish.ensures.count, c.in-ReadFault.ensures.fault refl) refl refl

pub returns-in-ClockFault-clause-round : goal.returns-in-ClockFault-clause-round
returns-in-ClockFault-clause-round g c =
    round_clock_fault _ _ _ _ _ _ _ _ c.in-ClockFault.ensures.reads c.in-ClockFault.ensures.clock refl refl
    (c.in-ClockFault.ensures.steady (λ is. cc))

pub returns-in-OutOfMemory-clause-round : goal.returns-in-OutOfMemory-clause-round
returns-in-OutOfMemory-clause-round g c =
    round_unread _ _ _ _ _ _ _ _ _ _ _
    (desk_of g.O.Sink.taken g.O.Sink.faults g.C.Clock.coming g.C.Clock.faults c.args.sink.now c.read_wish.new.clock)
    c.note_no_memory-in-OutOfMemory.ensures.ending c.in-OutOfMemory.ensures.reads c.in-OutOfMemory.ensures.clock refl
    refl
    c.note_no_memory-in-OutOfMemory.ensures.notes (c.in-OutOfMemory.ensures.steady (λ is. cc))
