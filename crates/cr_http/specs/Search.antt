-- SPDX-License-Identifier: Apache-2.0 OR MIT
-- Where the search for the end of a head stands, and what it says of however the bytes go on.
use Rattle.std.specs.Prelude.{◌≡◌, ℕ, ◌<◌, ◌≤◌, List, ◌++◌, length, drop, Option, Some, None}
use Rattle.cr_http.specs.HeadRange.{empty_line_len, blank_end_from, head_end_from, starting_at, window, head_at}
use Rattle.cr_http.specs.declared.head_range.Line.{Line}
use Rattle.cr_http.specs.declared.head_range.Line.TheVariants as lines
use Rattle.cr_http.specs.declared.head_range.Search.{Search}
use Rattle.cr_http.specs.declared.head_range.Search.TheVariants as searches
use Rattle.cr_http.specs.declared.head_range.Look.{Look}
use Rattle.cr_http.specs.declared.head_range.Look.TheVariants as looks

-- what the bytes at an offset say of whether an empty line begins there
abbrev pub IsLine : Line → List ℕ → Type 0
IsLine (lines.Empty n) bytes = (0 < n) × (n ≤ length bytes) × ((more : List ℕ) → empty_line_len (bytes ++ more) ≡ n)
IsLine lines.Other bytes = (0 < length bytes) × ((more : List ℕ) → empty_line_len (bytes ++ more) ≡ 0)
IsLine lines.Open bytes =
    (empty_line_len bytes ≡ 0) × ((at : ℕ) → (blank_end_from at bytes ≡ at) × (head_end_from at bytes ≡ None))

-- the offset up to which a search has come
abbrev pub reached : Search → ℕ
reached (searches.Skipping at) = at
reached (searches.InHead start at) = at

-- where a head begins and ends, found from there on
abbrev pub found_from : Search → List ℕ → Option (ℕ × ℕ)
found_from (searches.Skipping at) bytes =
    starting_at (blank_end_from at (drop at bytes))
    (head_end_from (blank_end_from at (drop at bytes)) (drop (blank_end_from at (drop at bytes)) bytes))
found_from (searches.InHead start at) bytes = starting_at start (head_end_from at (drop at bytes))

-- However the bytes go on, the search from the one state finds what it finds from the other.
pub record FindsSame (bytes : List ℕ) (from to : Search) : Type 0 where
  pub within : reached to ≤ length bytes
  pub same : (more : List ℕ) → found_from from (bytes ++ more) ≡ found_from to (bytes ++ more)

-- what a look at these bytes says, from this state of the search
abbrev pub Looks : List ℕ → Search → Look → Type 0
Looks bytes from (looks.Found range) = found_from from bytes ≡ Some (range.start, range.end)
Looks bytes from (looks.NotYet to) = (found_from from bytes ≡ None) × FindsSame bytes from to

-- The search stands there for a text that begins so, however it goes on.
pub record StandsThere (text : List ℕ) (search : Search) : Type 0 where
  pub within : reached search ≤ length (window text)
  pub same : (more : List ℕ) → head_at (text ++ more) ≡ found_from search (window (text ++ more))
