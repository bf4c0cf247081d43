-- SPDX-License-Identifier: Apache-2.0 OR MIT
use Rattle.std.proofs.lemmas.List.{take_rest}
use Rattle.cr_http.proofs.Searching.{skips_blank, stops_blank}
use Rattle.cr_http.proofs.head_range.blank_end.Goals as goal

pub lines-preserved : goal.lines-preserved
lines-preserved c =
    skips_blank c.args.bytes.now c.lines.at c.in-Empty.len c.lines.invariant (rw take_rest at c.in-Empty.ensures)

pub returns-in_default : goal.returns-in_default
returns-in_default c =
    record {
      is = stops_blank c.args.bytes.now c.lines.at c.line_at.result c.lines.invariant
          (rw take_rest at c.line_at.ensures) c.in_default.not-Empty;
      within = c.lines.invariant.1;
    }
