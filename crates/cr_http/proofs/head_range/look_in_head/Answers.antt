-- SPDX-License-Identifier: Apache-2.0 OR MIT
use Rattle.std.proofs.lemmas.List.{take_rest}
use Rattle.cr_http.proofs.Searching.{ends, waits_at_lf, waits_at_end}
use Rattle.cr_http.proofs.head_range.look_in_head.Goals as goal

pub returns-in-Empty : goal.returns-in-Empty
returns-in-Empty c =
    ends c.args.bytes.now c.args.start c.args.from c.bytes.at c.in-Empty.len c.bytes.invariant c.bytes-test.true
    c.if-bytes-at-eq10.true
    (rw take_rest at c.in-Empty.ensures)

pub returns-in-Open : goal.returns-in-Open
returns-in-Open c =
    waits_at_lf c.args.bytes.now c.args.start c.args.from c.bytes.at c.bytes.invariant c.bytes-test.true
    c.if-bytes-at-eq10.true
    (rw take_rest at c.in-Open.ensures)

pub returns : goal.returns
returns c = waits_at_end c.args.bytes.now c.args.start c.args.from c.bytes.at c.bytes.invariant c.bytes-test.false
