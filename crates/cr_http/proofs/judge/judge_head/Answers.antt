-- SPDX-License-Identifier: Apache-2.0 OR MIT
use Rattle.std.proofs.Common.{arith, ◌≤◌}
use Rattle.std.specs.Prelude.{slice_range}
use Rattle.cr_http.specs.Found.{line_feeds}
use Rattle.cr_http.proofs.Judging.{stands_no_head}
use Rattle.cr_http.proofs.Windows.{head_at_bounds}
use Rattle.cr_http.proofs.judge.judge_head.Goals as goal

pub between-bytes-requires-clause-ordered : goal.between-bytes-requires-clause-ordered
between-bytes-requires-clause-ordered c = let b =
    head_at_bounds c.args.text.now (c.args.range.start, c.args.range.end) c.requires.range in omega (arith, b)

pub between-bytes-requires-clause-within : goal.between-bytes-requires-clause-within
between-bytes-requires-clause-within c =
    (head_at_bounds c.args.text.now (c.args.range.start, c.args.range.end) c.requires.range).1

pub returns-in_default : goal.returns-in_default
returns-in_default c =
    let few : line_feeds (slice_range c.args.text.now c.args.range.start c.args.range.end) ≤ 66 =
    rw (← c.between-bytes.ensures) (let n = c.count_lines.ensures in omega (arith, n)) in
    let none = rw (c.in_default.is, c.between-bytes.ensures) at c.parse_spans.ensures.none in
    stands_no_head c.args.text.now c.args.range.start c.args.range.end c.requires.range few none
