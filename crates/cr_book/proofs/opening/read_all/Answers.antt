-- SPDX-License-Identifier: Apache-2.0 OR MIT
use Rattle.std.proofs.Common.{◌≡◌, ◌++◌, List, subst, IfSome, Option}
use Rattle.cr_base.specs.declared.row.Row.{Row}
use Rattle.cr_base.specs.Rows.{rows_of}
use Rattle.cr_book.proofs.StopLaws.{still-on}
use Rattle.cr_book.proofs.StoreLaws.{cut-store}
use Rattle.cr_book.proofs.opening.read_all.Goals as goal

pub returns-in-Err-finish-clause-bad : goal.returns-in-Err-finish-clause-bad
returns-in-Err-finish-clause-bad g c =
    let all =
    subst (λ (o : Option (List Row)). IfSome o
    (λ rows. rows_of c.in-Ok-read_rows.reading.log ++ rows_of c.in-Ok-read_rows.reading.begun ≡ rows))
    c.in-Ok.ensures.same c.in-Ok-read_rows.ensures.spelled in
    cut-store (g.K.Keeper.rows c.args.keeper.now) c.in-Ok.count c.saturating_sub.result c.in-Ok-read_rows.reading.log
    c.in-Ok-read_rows.reading.begun c.in-Err-finish.last c.refusal.result
    c.in-Ok.ensures.told c.saturating_sub.ensures all c.in-Err-finish.ensures.cut c.refusal.ensures

pub returns-in-Err-read_rows-clause-still : goal.returns-in-Err-read_rows-clause-still
returns-in-Err-read_rows-clause-still g c =
    still-on g.K.Keeper.tells_stops c.args.keeper.now c.len.new.self c.read_rows.new.keeper c.in-Ok.ensures.still
    c.in-Err-read_rows.ensures.still

pub returns-in-Ok-finish-clause-still : goal.returns-in-Ok-finish-clause-still
returns-in-Ok-finish-clause-still g c =
    still-on g.K.Keeper.tells_stops c.args.keeper.now c.len.new.self c.read_rows.new.keeper c.in-Ok.ensures.still
    c.in-Ok-read_rows.ensures.still

pub returns-in-Err-finish-clause-still : goal.returns-in-Err-finish-clause-still
returns-in-Err-finish-clause-still g c =
    still-on g.K.Keeper.tells_stops c.args.keeper.now c.len.new.self c.read_rows.new.keeper c.in-Ok.ensures.still
    c.in-Ok-read_rows.ensures.still
