-- SPDX-License-Identifier: Apache-2.0 OR MIT
use Rattle.std.proofs.Common.{ℕ, ◌≤◌, subst, sym, arith, ◌∙◌}
use Rattle.cr_wire.proofs.Numbers.{short_digits, short_low}
use Rattle.cr_wire.proofs.query.number_to.Goals as goal

pub decimal_value-number-requires : goal.decimal_value-number-requires
decimal_value-number-requires c =
    let is = short_digits c.args.text.now (sym c.is_short_number.ensures ∙ c.if-not-is_short_number.false) in
    record { digits = is.0; short = is.1 }

pub returns-clause-within : goal.returns-clause-within
returns-clause-within c =
    let low = short_low c.args.text.now (sym c.is_short_number.ensures ∙ c.if-not-is_short_number.false) in
    (subst (λ (n : ℕ). 1 ≤ n) (sym c.decimal_value-number.ensures) low, omega (arith, c.if-number-most.false))
