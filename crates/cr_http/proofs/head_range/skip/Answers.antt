-- SPDX-License-Identifier: Apache-2.0 OR MIT
use Rattle.std.proofs.lemmas.List.{take_rest}
use Rattle.cr_http.specs.declared.head_range.Search.TheVariants as searches
use Rattle.cr_http.proofs.Searching.{skips, begins, looks_on, waits}
use Rattle.cr_http.proofs.head_range.skip.Goals as goal

pub lines-preserved : goal.lines-preserved
lines-preserved c =
    skips c.args.bytes.now c.args.from c.lines.at c.in-Empty.len c.lines.invariant (rw take_rest at c.in-Empty.ensures)

pub returns-in-Other : goal.returns-in-Other
returns-in-Other c =
    looks_on c.args.bytes.now (searches.Skipping c.args.from) (searches.InHead c.lines.at c.lines.at)
    c.look_in_head.result
    (begins c.args.bytes.now c.args.from c.lines.at c.lines.invariant (rw take_rest at c.in-Other.ensures))
    c.look_in_head.ensures

pub returns-in-Open : goal.returns-in-Open
returns-in-Open c = waits c.args.bytes.now c.args.from c.lines.at c.lines.invariant (rw take_rest at c.in-Open.ensures)
