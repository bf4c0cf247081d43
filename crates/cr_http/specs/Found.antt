-- SPDX-License-Identifier: Apache-2.0 OR MIT
-- What is at the front of a text that is the whole rest of a stream: a request, a refusal or an end. A head is
-- what `httparse` reads as one; which refusal comes first, and the limits, are the server's own (docs/API.md).
use Rattle.std.specs.Prelude.{◌≡◌, ◌⊎◌, ℕ, [], ◌==◌, nat_lt, nat_le, List, length, take, drop, slice_range}
use Rattle.std.specs.Prelude.{count_by, Bool, false, Option, Some, None, if◌then◌else◌, MatchBool, ◌++◌, ⊤}
use Rattle.httparse.specs.Grammar.{RequestHead, ReadsRequest}
use Rattle.cr_http.specs.declared.framing.Framing.{Framing}
use Rattle.cr_http.specs.declared.framing.Framing.TheVariants.{Body, Refuse}
use Rattle.cr_http.specs.declared.refusal.Refusal.{Refusal}
use Rattle.cr_http.specs.declared.refusal.Refusal.TheVariants.{HeadTooLarge, BadHttp}
use Rattle.cr_http.specs.HeadRange.{blank_end_from, head_at}
use Rattle.cr_http.specs.Head.{HeadText, head_of, framing_of, is_head_method}

pub data Found : Type 0 where
  -- a request by its head and body, and what follows it
  whole : HeadText → List ℕ → List ℕ → Found
  -- the refusal that closes, and whether its content is left out
  refused : Refusal → Bool → Found
  -- the stream ends between requests, or inside one
  clean cut : Found

-- the text has no head in the bytes that are looked at
abbrev pub without_head : List ℕ → Found
without_head text =
    if nat_lt (length text) 16384 then (if blank_end_from 0 text == length text then clean else cut)
    else refused HeadTooLarge false

-- a head was read, and this follows it
abbrev pub with_body : HeadText → Framing → List ℕ → Found
with_body h (Body n) rest = if nat_le n (length rest) then whole h (take n rest) (drop n rest) else cut
with_body h (Refuse why) rest = refused why (is_head_method h)

-- how many lines end in these bytes
abbrev pub line_feeds : List ℕ → ℕ
line_feeds bytes = count_by (λ b. b == 10) bytes

-- no head of the grammar is these bytes, from the first to the last
abbrev pub IsNoHead : List ℕ → Type 0
IsNoHead bytes = (h : RequestHead) → ReadsRequest bytes h [] → ⊥

-- the bytes are a head of the grammar, or are refused
abbrev pub StandsAfter : List ℕ → List ℕ → Found → Type 0
StandsAfter bytes rest found =
    ((h : RequestHead) × ReadsRequest bytes h [] × (found ≡ with_body (head_of h) (framing_of (head_of h)) rest))
    ⊎ (IsNoHead bytes × (found ≡ refused BadHttp false))

-- this is at the front of the text, by the range of its head
abbrev pub StandsFrom : List ℕ → Option (ℕ × ℕ) → Found → Type 0
StandsFrom text None found = found ≡ without_head text
StandsFrom text (Some range) found =
    MatchBool (nat_lt 66 (line_feeds (slice_range text range.0 range.1)))
    (found ≡ refused HeadTooLarge false)
    (StandsAfter (slice_range text range.0 range.1) (drop range.1 text) found)

-- what is at the front of the text: a request, a refusal or an end
abbrev pub StandsAt : List ℕ → Found → Type 0
StandsAt text found = StandsFrom text (head_at text) found

-- what is at the front stays there however the text goes on
abbrev pub IsFinal : Found → Type 0
IsFinal (whole h body rest) = ⊤
IsFinal (refused why head) = ⊤
IsFinal clean = ⊥
IsFinal cut = ⊥

-- what is at the front of a text that goes on with these bytes
abbrev pub found_and : Found → List ℕ → Found
found_and (whole h body rest) more = whole h body (rest ++ more)
found_and (refused why head) more = refused why head
found_and clean more = clean
found_and cut more = cut

-- The head between these two offsets was read, and its body is to have so many bytes.
pub record IsFramed (text : List ℕ) (start end : ℕ) (head : HeadText) (len : ℕ) : Type 0 where
  pub range : head_at text ≡ Some (start, end)
  pub few : nat_lt 66 (line_feeds (slice_range text start end)) ≡ false
  pub tree : RequestHead
  pub reads : ReadsRequest (slice_range text start end) tree []
  pub head_is : head ≡ head_of tree
  pub framing : framing_of head ≡ Body len
