-- SPDX-License-Identifier: Apache-2.0 OR MIT
-- Where the head of a request lies in a text: after the empty lines at its front, up to the first empty line
-- (RFC 9112, sections 2.1 and 2.2).
use Rattle.std.specs.Prelude.{ℕ, ◌+◌, List, [], ◌∷◌, take, drop, Option, Some, None, ◌&&◌, ◌==◌, if◌then◌else◌}

-- how many bytes an empty line at the front takes, LF or CR LF, or 0
abbrev pub empty_line_len : List ℕ → ℕ
empty_line_len [] = 0
empty_line_len (a ∷ []) = if a == 10 then 1 else 0
empty_line_len (a ∷ b ∷ bytes) = if a == 10 then 1 else if a == 13 && b == 10 then 2 else 0

-- where the empty lines at the front end, for bytes that begin at this offset
abbrev pub blank_end_from : ℕ → List ℕ → ℕ
blank_end_from at [] = at
blank_end_from at (a ∷ []) = if a == 10 then at + 1 else at
blank_end_from at (a ∷ b ∷ bytes) =
    if a == 10 then blank_end_from (at + 1) (b ∷ bytes)
    else if a == 13 && b == 10 then blank_end_from (at + 2) bytes else at

-- the offset after an LF and the empty line that follows it there, if one does; else what comes later
abbrev pub or_later : ℕ → ℕ → Option ℕ → Option ℕ
or_later at empty later = if empty == 0 then later else Some (at + 1 + empty)

-- where the first LF that an empty line follows ends, with that line
abbrev pub head_end_from : ℕ → List ℕ → Option ℕ
head_end_from at [] = None
head_end_from at (a ∷ bytes) =
    if a == 10 then or_later at (empty_line_len bytes) (head_end_from (at + 1) bytes) else head_end_from (at + 1) bytes

-- the range from this offset to that end, if there is one
abbrev pub starting_at : ℕ → Option ℕ → Option (ℕ × ℕ)
starting_at start None = None
starting_at start (Some end) = Some (start, end)

-- the bytes that are looked at for a head
abbrev pub window : List ℕ → List ℕ
window text = take 16384 text

-- where the head begins and ends
abbrev pub head_within : List ℕ → Option (ℕ × ℕ)
head_within bytes =
    starting_at (blank_end_from 0 bytes) (head_end_from (blank_end_from 0 bytes) (drop (blank_end_from 0 bytes) bytes))

-- the range of the head of a text; `None` if it isn't whole
abbrev pub head_at : List ℕ → Option (ℕ × ℕ)
head_at text = head_within (window text)
