-- SPDX-License-Identifier: Apache-2.0 OR MIT
-- The paper, the version, the user and the tag that a path's parameters name.
use Rattle.std.specs.Prelude.{ℕ, ◌^◌, List, length, Bool, ◌&&◌, ◌==◌, not, nat_le, nat_lt}
use Rattle.std.specs.Prelude.{Option, Some, None, option_and_then, if◌then◌else◌, slice_index}
use Rattle.std.specs.Char.{is_ascii_digit}
use Rattle.std.specs.List.{list_all}
use Rattle.std.specs.Option.{option_map_or}
use Rattle.std.specs.Str.Parse.{digits_value}
use Rattle.cr_base.specs.Parse.{parse_paper, parse_name}
use Rattle.cr_base.specs.TagTexts.{is_tag}
use Rattle.cr_routes.specs.Parts.{FoundPath}

-- the paper that a path is about, which its first parameter names; `None` if that is no valid number of a paper
abbrev pub paper_of : FoundPath → Option ℕ
paper_of found = option_and_then parse_paper found.first

-- a number in decimal: digits, of which the first isn't 0
abbrev pub is_number : List ℕ → Bool
is_number text = nat_le 1 (length text) && not (slice_index text 0 == 48) && list_all is_ascii_digit text

-- the version that a text tells: a number in decimal below 2 ^ 64, and else 0, which no version has
abbrev pub parse_version : List ℕ → ℕ
parse_version text = if is_number text && nat_lt (digits_value 10 text) (2 ^ 64) then digits_value 10 text else 0

-- the version that a path is about: its second parameter names it
abbrev pub version_of : FoundPath → ℕ
version_of found = option_map_or parse_version found.second 0

-- the user that a path on a paper is about, whose name is its second parameter; `None` if that is no valid name
abbrev pub user_of : FoundPath → Option (List ℕ)
user_of found = option_and_then parse_name found.second

-- the user that a path on no paper is about, whose name is its first parameter; `None` if that is no valid name
abbrev pub member_of : FoundPath → Option (List ℕ)
member_of found = option_and_then parse_name found.first

-- the tag of a text; `None` if it is no valid tag
abbrev pub parse_tag : List ℕ → Option (List ℕ)
parse_tag text = if is_tag text then Some text else None

-- the tag that a path is about, which is its second parameter; `None` if that is no valid tag
abbrev pub tag_of : FoundPath → Option (List ℕ)
tag_of found = option_and_then parse_tag found.second
