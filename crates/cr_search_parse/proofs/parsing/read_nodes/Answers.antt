-- SPDX-License-Identifier: Apache-2.0 OR MIT
use Rattle.std.proofs.Common.{drop, length-drop, arith}
use Rattle.std.proofs.lemmas.List.{take_rest}
use Rattle.cr_search_parse.specs.Cutting.{run_told}
use Rattle.cr_search_parse.specs.Runs.{runs_of, run_length}
use Rattle.cr_search_parse.proofs.StopLaws.{read-run, stop-reads}
use Rattle.cr_search_parse.proofs.parsing.read_nodes.Goals as goal

pub returns-in-Err : goal.returns-in-Err
returns-in-Err c =
    let so = c.loop-at.invariant in
    let text = c.args.text.now in
    let run = run_told c.first_run-run.result in
    let first = rw (take_rest text c.loop-at.at) at c.first_run-run.ensures.first in
    rw c.error_at.ensures
    (stop-reads text c.loop-at.at so.0 run (runs_of (drop (run_length run) (drop c.loop-at.at text))) c.in-Err.stop so.1
    first (c.in-Err.ensures.takes so.0 so.2))

pub loop-at-preserved : goal.loop-at-preserved
loop-at-preserved c =
    let so = c.loop-at.invariant in
    let text = c.args.text.now in
    let run = run_told c.first_run-run.result in
    let first = rw (take_rest text c.loop-at.at) at c.first_run-run.ensures.first in
    let taken = c.in-Ok.ensures.takes so.0 so.2 in (
      taken.0,
      read-run text c.loop-at.at so.0 taken.0 run c.len-at.result so.1 first c.len-at.ensures taken.1,
      taken.2,
      omega (arith, so.3, c.in-Ok.ensures.grows, c.len-at.ensures),
      omega (
        arith,
        so.4,
        rw (take_rest text c.loop-at.at) at c.first_run-run.ensures.within,
        c.len-at.ensures,
        length-drop c.loop-at.at text,
      ),
    )
