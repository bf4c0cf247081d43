-- SPDX-License-Identifier: Apache-2.0 OR MIT
use Rattle.std.proofs.Common.{arith}
use Rattle.json.specs.Print.{escape_byte}
use Rattle.cr_json.proofs.Lists.{written_range}
use Rattle.cr_json.proofs.quoted.append_escaped.Goals as goal

pub runs-preserved : goal.runs-preserved
runs-preserved c = record {
  within = c.in_ok-at.ensures.within;
  written = written_range escape_byte _ _ _ _ _ _ (omega (arith, c.in_ok-at.ensures.after)) c.runs.invariant.written
      c.in_ok-at.ensures.puts.items;
  grows = record {
    within = omega (arith, c.in_ok-at.ensures.after, c.in_ok-at.ensures.puts.within);
    capacity = omega (arith, c.in_ok-at.ensures.puts.capacity);
  };
}
