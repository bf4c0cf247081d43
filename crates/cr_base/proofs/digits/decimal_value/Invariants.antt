-- SPDX-License-Identifier: Apache-2.0 OR MIT
use Rattle.std.proofs.Common.{◌≡◌, ◌<◌, ◌^◌, drop}
use Rattle.std.specs.Str.Parse.{digits_value, digits_value_after}
use Rattle.cr_base.proofs.digits.decimal_value.Given as goal

abbrev pub invariant-digits : goal.invariant-digits
invariant-digits l = record {
  value : digits_value_after 10 l.number (drop l.digit-index l.digits) ≡ digits_value 10 l.digits;
  small : l.number < 10 ^ l.digit-index;
}
