-- SPDX-License-Identifier: Apache-2.0 OR MIT
use Rattle.std.proofs.Common.{◌++◌, ◌∙◌, refl, arith, Ok}
use Rattle.cr_base.specs.Rows.{rows_of}
use Rattle.cr_book.proofs.StoreLaws.{untold-explains, untold-counted, answered-steady, read-more, all-read, bad-row}
use Rattle.cr_book.proofs.StopLaws.{still-on}
use Rattle.cr_book.proofs.opening.read_rows.Goals as goal

pub returns-in-Err-clause-still : goal.returns-in-Err-clause-still
returns-in-Err-clause-still g c =
    still-on g.K.Keeper.tells_stops c.args.keeper.now c.loop-i.keeper c.row.new.self c.loop-i.invariant.still
    c.in-Err.ensures.still

pub returns-in-Err-read-clause-still : goal.returns-in-Err-read-clause-still
returns-in-Err-read-clause-still g c =
    still-on g.K.Keeper.tells_stops c.args.keeper.now c.loop-i.keeper c.row.new.self c.loop-i.invariant.still
    c.in-Ok.ensures.still

pub returns-in-Err-clause-bad : goal.returns-in-Err-clause-bad
returns-in-Err-clause-bad g c =
    untold-explains (g.K.Keeper.rows c.args.keeper.now) c.in-Err.error c.untold.result c.untold.ensures

pub returns-in-Err-clause-cause : goal.returns-in-Err-clause-cause
returns-in-Err-clause-cause g c =
    untold-counted (g.K.Keeper.faults c.args.keeper.now) (g.K.Keeper.faults c.loop-i.keeper)
    (g.K.Keeper.faults c.row.new.self) c.in-Err.error c.untold.result c.loop-i.invariant.steady c.in-Err.ensures.cause
    c.untold.ensures

pub returns-in-Err-read-clause-bad : goal.returns-in-Err-read-clause-bad
returns-in-Err-read-clause-bad g c =
    bad-row (g.K.Keeper.rows c.args.keeper.now) (g.K.Keeper.rows c.loop-i.keeper) c.loop-i.i c.in-Ok.row
    (rows_of c.loop-i.reading.log ++ rows_of c.loop-i.reading.begun) c.in-Err-read.error c.refusal.result
    c.loop-i.invariant.same c.loop-i.invariant.read c.in-Ok.ensures.told c.in-Err-read.ensures.refused c.refusal.ensures

pub loop-i-preserved : goal.loop-i-preserved
loop-i-preserved g c =
    record {
      same = c.in-Ok.ensures.same ∙ c.loop-i.invariant.same;
      alike = c.in-Ok.ensures.alike ∙ c.loop-i.invariant.alike;
      still = λ told. still-on g.K.Keeper.tells_stops c.args.keeper.now c.loop-i.keeper c.row.new.self
          c.loop-i.invariant.still
          c.in-Ok.ensures.still told;
      steady = answered-steady (g.K.Keeper.faults c.loop-i.keeper) (g.K.Keeper.faults c.row.new.self) (Ok c.in-Ok.row)
          c.in-Ok.row c.in-Ok.ensures.cause refl ∙ c.loop-i.invariant.steady;
      read = read-more (g.K.Keeper.rows c.args.keeper.now) (g.K.Keeper.rows c.loop-i.keeper) c.loop-i.i c.in-Ok.row
          (rows_of c.loop-i.reading.log ++ rows_of c.loop-i.reading.begun)
          (rows_of c.in-Ok-read.after.log ++ rows_of c.in-Ok-read.after.begun)
          c.loop-i.invariant.same c.loop-i.invariant.read c.in-Ok.ensures.told c.in-Ok-read.ensures.ok;
    }

pub returns-clause-spelled : goal.returns-clause-spelled
returns-clause-spelled g c =
    all-read (g.K.Keeper.rows c.args.keeper.now) (rows_of c.loop-i.reading.log ++ rows_of c.loop-i.reading.begun)
    c.loop-i.i c.args.count c.requires c.loop-i.invariant.read
    (let end = c.loop-i.auto.i-end in let test = c.loop-i-test.false in omega (arith, end, test))
