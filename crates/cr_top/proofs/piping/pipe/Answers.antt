-- SPDX-License-Identifier: Apache-2.0 OR MIT
use Rattle.std.proofs.Common.{refl, ap, subst, sym, ◌∙◌, ◌++◌}
use Rattle.cr_base.specs.Lists.{listed}
use Rattle.cr_book.specs.Seen.{SeenBook}
use Rattle.cr_book.specs.Stopping.{CountsTried, KeepsTold}
use Rattle.cr_lock.specs.Closing.{Closes}
use Rattle.cr_session.specs.Passing.{KnownPass}
use Rattle.cr_session.specs.Stopping.{KeepsWishesTold}
use Rattle.cr_session.specs.Tries.{Tries, tries_of}
use Rattle.cr_session.proofs.StopLaws.{wishes-none}
use Rattle.cr_session.proofs.Stops.{stops-closed}
use Rattle.cr_top.specs.Runs.{Keeps, KeepsSince, desk, outside_of}
use Rattle.cr_top.proofs.Answering.{pipe_answers}
use Rattle.cr_top.proofs.Serving.{pipes-locked, pipes-unlocked}
use Rattle.cr_top.proofs.piping.pipe.Given.{Over}
use Rattle.cr_top.proofs.piping.pipe.Goals as goal

-- what is kept since the opening of a book
abbrev keeps-here : (g : Over) → SeenBook g.row.K.Denot → g.row.K.Denot → Keeps
keeps-here g book now =
    KeepsSince g.K.Keeper book now

-- what turns do with the keeper
abbrev tries-here : (g : Over) → Tries g.row.K.Denot
tries-here g = tries_of g.K.Keeper

pub returns-in-Err-clause-pipes : goal.returns-in-Err-clause-pipes
returns-in-Err-clause-pipes g c =
    let K = g.K.Keeper in
    let o = outside_of g.I.Source.faults g.O.Sink.taken g.O.Sink.faults g.C.Clock.coming g.C.Clock.faults
    c.args.input.now c.args.out.now c.args.clock.now in
    let o' = outside_of g.I.Source.faults g.O.Sink.taken g.O.Sink.faults g.C.Clock.coming g.C.Clock.faults
    c.args.input.now c.note_no_memory.new.sink c.note_no_memory.new.clock in
    let same = c.in-Err.ensures in
    pipes-unlocked K.rows (keeps-here g c.args.book c.close.result) K.faults g.I.Source.left g.I.Source.read_gives
    c.note_no_memory.result c.args.book c.in-Err.book c.close.result o o'
    same c.note_no_memory.ensures.ending c.note_no_memory.ensures.notes refl refl c.close.ensures.same
    c.close.ensures.legal c.close.ensures.kept
    (λ judged. (
      subst (λ (b : SeenBook g.row.K.Denot). KeepsTold K
          b.opened c.close.result c.in-Err.book.log) same
          c.close.ensures.stops,
      subst (λ (k : g.row.K.Denot). KeepsWishesTold K
          c.args.book.keeper k c.args.book.log c.in-Err.book.log judged)
          (sym (c.close.ensures.same ∙ ap (λ (b : SeenBook g.row.K.Denot). b.keeper) same))
          (wishes-none K c.args.book.keeper c.args.book.log
          c.in-Err.book.log judged),
    ))

pub returns-clause-pipes : goal.returns-clause-pipes
returns-clause-pipes g c =
    let K = g.K.Keeper in
    let o = outside_of g.I.Source.faults g.O.Sink.taken g.O.Sink.faults g.C.Clock.coming g.C.Clock.faults
    c.args.input.now c.args.out.now c.args.clock.now in
    let o' = outside_of g.I.Source.faults g.O.Sink.taken g.O.Sink.faults g.C.Clock.coming g.C.Clock.faults
    c.serve_connection-ending.new.source c.serve_connection-ending.new.sink c.serve_connection-ending.new.clock in
    let made = c.in-Ok.ensures in
    let p = c.in-Ok.made.1 in
    let p' = c.serve_connection-ending.new.pass in
    let book = c.args.book in
    let x = c.close-book.result in
    let connection = c.serve_connection-ending.ensures.connection in
    let closes =
    subst (λ (b : SeenBook g.row.K.Denot). Closes (λ (b : SeenBook g.row.K.Denot). b.log)
    (λ (b : SeenBook g.row.K.Denot). K.faults b.keeper)
    (λ (b : SeenBook g.row.K.Denot). b.opened) b p' x) made.0 c.close-book.ensures in
    let seen = ap (λ (q : KnownPass g.row.K.Denot). q.seen) made.1 in
    let bare = ap (λ (q : KnownPass g.row.K.Denot). q.mine) made.1 in
    pipes-locked (tries-here g) K.rows (keeps-here g book c.close-2.result) K.faults g.I.Source.left
    g.I.Source.read_gives c.serve_connection-ending.result book
    x c.close-2.result p p' o o' seen bare closes c.close-2.ensures.same c.close-2.ensures.legal c.close-2.ensures.kept
    connection (
      subst (λ (k : g.row.K.Denot). KeepsTold K k
          c.close-2.result x.log)
          (c.close-book.ensures.root ∙ ap (λ (b : SeenBook g.row.K.Denot). b.opened) made.0) c.close-2.ensures.stops,
      subst (λ (k : g.row.K.Denot). KeepsWishesTold K book.keeper k
          book.log x.log
          (connection.answered ++ listed connection.failed))
          (sym c.close-2.ensures.same)
          (stops-closed K
          (λ (b : SeenBook g.row.K.Denot). b.log)
          (λ (b : SeenBook g.row.K.Denot). K.faults b.keeper) (λ (b : SeenBook g.row.K.Denot). b.opened) book x
          g.I.Source.left g.I.Source.read_gives
          c.serve_connection-ending.result p p' o.input o'.input o.read_faults o'.read_faults (desk o) (desk o')
          (ap (λ (q : KnownPass g.row.K.Denot). q.share) made.1) (ap (λ (q : KnownPass g.row.K.Denot). q.left) made.1)
          seen bare closes connection),
    )

pub returns-clause-answers : goal.returns-clause-answers
returns-clause-answers g c b left faultless idle =
    let o = outside_of g.I.Source.faults g.O.Sink.taken g.O.Sink.faults g.C.Clock.coming g.C.Clock.faults
    c.args.input.now c.args.out.now c.args.clock.now in
    let o' = outside_of g.I.Source.faults g.O.Sink.taken g.O.Sink.faults g.C.Clock.coming g.C.Clock.faults
    c.serve_connection-ending.new.source c.serve_connection-ending.new.sink c.serve_connection-ending.new.clock in
    pipe_answers g.K.Keeper.rows (keeps-here g c.args.book c.close-2.result) g.K.Keeper.faults g.I.Source.left
    g.I.Source.read_gives c.args.book.log c.serve_connection-ending.result c.args.book.keeper
    c.close-2.result b o o'
    (returns-clause-pipes g c) left faultless idle

-- ---- the keeper that is handed back

pub returns-in-Err-clause-alike : goal.returns-in-Err-clause-alike
returns-in-Err-clause-alike g c =
    c.close.ensures.alike ∙ ap (λ (b : SeenBook g.row.K.Denot). g.K.Keeper.kind b.opened) c.in-Err.ensures

pub returns-in-Err-clause-counted : goal.returns-in-Err-clause-counted
returns-in-Err-clause-counted g c = λ told.
    subst (λ (b : SeenBook g.row.K.Denot). CountsTried g.K.Keeper b.opened c.close.result)
    c.in-Err.ensures (c.close.ensures.counted told)

pub returns-clause-alike : goal.returns-clause-alike
returns-clause-alike g c =
    c.close-2.ensures.alike
    ∙ ap g.K.Keeper.kind
    (c.close-book.ensures.root ∙ ap (λ (b : SeenBook g.row.K.Denot). b.opened) c.in-Ok.ensures.0)

pub returns-clause-counted : goal.returns-clause-counted
returns-clause-counted g c = λ told.
    subst (λ (k : g.row.K.Denot). CountsTried g.K.Keeper k c.close-2.result)
    (c.close-book.ensures.root ∙ ap (λ (b : SeenBook g.row.K.Denot). b.opened) c.in-Ok.ensures.0)
    (c.close-2.ensures.counted told)
