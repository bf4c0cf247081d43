-- SPDX-License-Identifier: Apache-2.0 OR MIT
use Rattle.std.proofs.Common.{sym, ◌∙◌}
use Rattle.cr_wire.proofs.Numbers.{number_digits, number_told}
use Rattle.cr_wire.proofs.number.number_of.Goals as goal

pub decimal_value-requires : goal.decimal_value-requires
decimal_value-requires c =
    let read = number_digits c.args.value.now (sym c.is_command_number.ensures ∙ c.if-not-is_command_number.false) in
    record { digits = read.0; short = read.1 }

pub returns : goal.returns
returns c =
    number_told c.args.value.now _ _ (sym c.is_command_number.ensures ∙ c.if-not-is_command_number.false)
    c.decimal_value.ensures c.new.ensures
