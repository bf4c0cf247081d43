-- SPDX-License-Identifier: Apache-2.0 OR MIT
-- Numbers of papers and names of users, as texts spell them.
use Rattle.std.specs.Prelude.{ℕ, List, length, Bool, ◌&&◌, ◌==◌, not, nat_le}
use Rattle.std.specs.Prelude.{Option, Some, None, if◌then◌else◌, slice_index}
use Rattle.std.specs.Char.{is_ascii_digit}
use Rattle.std.specs.List.{list_all}
use Rattle.std.specs.Str.Parse.{digits_value}
use Rattle.cr_base.specs.Texts.{is_name}

-- from one to four bytes
abbrev pub is_short : List ℕ → Bool
is_short text = nat_le 1 (length text) && nat_le (length text) 4

-- a number from 1 to 9,999 in decimal: so many digits, of which the first isn't 0
abbrev pub is_paper_number : List ℕ → Bool
is_paper_number text = is_short text && not (slice_index text 0 == 48) && list_all is_ascii_digit text

-- the paper of a text
abbrev pub parse_paper : List ℕ → Option ℕ
parse_paper text = if is_paper_number text then Some (digits_value 10 text) else None

-- the text, if it passes the test; else `None`
abbrev pub passing : (List ℕ → Bool) → List ℕ → Option (List ℕ)
passing test text = if test text then Some text else None

-- the name that a text is
abbrev pub parse_name : List ℕ → Option (List ℕ)
parse_name text = passing is_name text
