-- SPDX-License-Identifier: Apache-2.0 OR MIT
use Rattle.std.proofs.Common.{sym, ◌∙◌, arith}
use Rattle.cr_base.proofs.ParseLaws.{high, low, parts}
use Rattle.cr_base.proofs.parse.parse_paper.Goals as goal

pub decimal_value-requires : goal.decimal_value-requires
decimal_value-requires c =
    let all = parts c.args.text.now (sym c.is_paper_number.ensures ∙ c.if-is_paper_number.true) in
    record { digits = all.2; short = omega (arith, all.0) }

pub new-requires : goal.new-requires
new-requires c =
    let is = sym c.is_paper_number.ensures ∙ c.if-is_paper_number.true in
    record {
      low = rw c.decimal_value.ensures (low c.args.text.now is);
      high = rw c.decimal_value.ensures (high c.args.text.now is);
    }
