-- SPDX-License-Identifier: Apache-2.0 OR MIT
-- Whether an answer to what stands at the front of a text is one to HEAD, and so has no content (RFC 9110, section
-- 9.3.2).
use Rattle.std.specs.Prelude.{◌≡◌, ◌⊎◌, ℕ, [], nat_lt, List, slice_range, Bool, false, Option, Some, None, MatchBool}
use Rattle.httparse.specs.Grammar.{RequestHead, ReadsRequest}
use Rattle.cr_http.specs.Found.{line_feeds, IsNoHead}
use Rattle.cr_http.specs.Head.{head_of, is_head_method}
use Rattle.cr_http.specs.HeadRange.{head_at}

-- these bytes are a head whose method is HEAD or isn't, or they are no head
abbrev pub IsToHeadBy : List ℕ → Bool → Type 0
IsToHeadBy bytes is_head =
    ((h : RequestHead) × ReadsRequest bytes h [] × (is_head ≡ is_head_method (head_of h)))
    ⊎ (IsNoHead bytes × (is_head ≡ false))

-- this says whether the head in this range of the text has the method HEAD; false if there is no head, or it has too
-- many lines
abbrev pub IsToHeadFrom : List ℕ → Option (ℕ × ℕ) → Bool → Type 0
IsToHeadFrom text None is_head = is_head ≡ false
IsToHeadFrom text (Some range) is_head =
    MatchBool (nat_lt 66 (line_feeds (slice_range text range.0 range.1)))
    (is_head ≡ false)
    (IsToHeadBy (slice_range text range.0 range.1) is_head)

-- the answer is to HEAD exactly where a head was read, whether its body came or not, and its method is HEAD
abbrev pub IsToHead : List ℕ → Bool → Type 0
IsToHead text is_head = IsToHeadFrom text (head_at text) is_head
