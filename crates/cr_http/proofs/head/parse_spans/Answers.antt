-- SPDX-License-Identifier: Apache-2.0 OR MIT
use Rattle.std.proofs.Common.{◌≤◌, [], length, arith, ap, sym, ◌∙◌, append-nil}
use Rattle.httparse.specs.Grammar.{print_request}
use Rattle.httparse.specs.Spans.{IsRequestAt}
use Rattle.cr_http.proofs.Fields.{few_fields}
use Rattle.cr_http.proofs.head.parse_spans.Goals as goal

pub returns-else-spans-bytes-clause-none : goal.returns-else-spans-bytes-clause-none
returns-else-spans-bytes-clause-none c h reads =
    let few = few_fields c.args.bytes.now [] h reads c.requires.few in
    let fits : length h.fields ≤ length c.args.headers.now = let room = c.requires.room in omega (arith, few, room) in
    let found = c.parse_request.ensures.found h [] reads fits in
    let at : IsRequestAt c.args.bytes.now c.parse_request.new.headers c.in-Ok-Complete.spans h =
    rw c.in-Ok-Complete.field-0-is at (rw c.in-Ok-Complete.is at found) in
    c.if-spans-bytes.false (at.len ∙ sym (ap length (reads.1 ∙ append-nil (print_request h))))

pub returns-in_default-2-clause-none : goal.returns-in_default-2-clause-none
returns-in_default-2-clause-none c h reads =
    let few = few_fields c.args.bytes.now [] h reads c.requires.few in
    let fits : length h.fields ≤ length c.args.headers.now = let room = c.requires.room in omega (arith, few, room) in
    let found = c.parse_request.ensures.found h [] reads fits in
    rw c.in_default.is at found
