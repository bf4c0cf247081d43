-- SPDX-License-Identifier: Apache-2.0 OR MIT
-- What the field Connection says (RFC 9110, sections 5.6.1 and 7.6.1).
use Rattle.std.specs.Prelude.{ℕ, List, Bool, ◌==◌, codes}
use Rattle.std.specs.List.{list_any, slice_split}
use Rattle.std.specs.Str.{str_eq_ignore_ascii_case}
use Rattle.httparse.specs.Grammar.{trim_ows}

-- an element is `close`, whatever the case of its letters, without the blanks around it
abbrev pub is_close : List ℕ → Bool
is_close element = str_eq_ignore_ascii_case (trim_ows element) (codes "close")

-- one of the elements between commas is `close`
abbrev pub has_close : List ℕ → Bool
has_close value = list_any is_close (slice_split (λ b. b == 44) value)
