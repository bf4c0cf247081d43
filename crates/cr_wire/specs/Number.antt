-- SPDX-License-Identifier: Apache-2.0 OR MIT
-- Number: the number that a client gives a command by the field Command-Number, and the key that it makes with the
-- mark of the request (Keys).
use Rattle.std.specs.Prelude.{ℕ, List, [], ◌∷◌, length, Bool, ◌&&◌, nat_le}
use Rattle.std.specs.Prelude.{Option, Some, None, Result, Ok, Err, option_map, if◌then◌else◌, codes}
use Rattle.std.specs.Str.Parse.{digits_value}
use Rattle.cr_base.specs.Traits.{ask_reads_number}
use Rattle.cr_base.specs.declared.ask.Ask.{Ask}
use Rattle.cr_base.specs.declared.retry.RetryKey.{RetryKey}
use Rattle.cr_bodies.specs.Mark.{mark_of}
use Rattle.cr_http.specs.Head.{values_of}
use Rattle.cr_http.specs.Requests.{RequestText}
use Rattle.cr_wire.specs.Paper.{is_number}
use Rattle.cr_wire.specs.Target.{path_of}
use Rattle.cr_wire.specs.declared.numbered.Numbered.{Numbered}
use Rattle.cr_wire.specs.declared.number.BadCommandNumber.{BadCommandNumber}

-- ---- the field

-- a number in decimal of at most 18 digits
abbrev pub is_command_number : List ℕ → Bool
is_command_number value = nat_le (length value) 18 && is_number value

-- the number that a field's value is
abbrev pub number_of : List ℕ → Result (Option ℕ) BadCommandNumber
number_of value = if is_command_number value then Ok (Some (digits_value 10 value)) else Err (record {})

-- the number that the values of the fields Command-Number tell, without the spaces and tabs around each: none if there
-- is no value, a number if there is one value and it is a number; else it is bad
abbrev pub number_by : List (List ℕ) → Result (Option ℕ) BadCommandNumber
number_by [] = Ok None
number_by (value ∷ []) = number_of value
number_by (value ∷ other ∷ values) = Err (record {})

-- the number that the fields of a head tell a request that reads it; none of a request that doesn't
abbrev pub number_for : Ask → List (List ℕ × List ℕ) → Result (Option ℕ) BadCommandNumber
number_for ask fields = if ask_reads_number ask then number_by (values_of (codes "command-number") fields) else Ok None

-- ---- the key

-- the key that a number makes with the mark of a request: of its method, its path without the query string, and its
-- body, all as they were sent
abbrev pub key_with : RequestText → ℕ → RetryKey
key_with r number =
    record { number = number; mark = mark_of r.head.method (path_of r.head.target) r.body }

-- the key that a number, if there is one, makes with the mark of a request
abbrev pub key_of : Option ℕ → RequestText → Option RetryKey
key_of number r = option_map (key_with r) number

-- the request that the program has, which it lends, as a value
abbrev pub request_of : Numbered → RequestText
request_of n = record { head = n.head.now; body = n.body.now }

-- the key of the request that the program has, if it has a number
abbrev pub own_key : Numbered → Option RetryKey
own_key n = key_of n.number (request_of n)
