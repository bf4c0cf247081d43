-- SPDX-License-Identifier: Apache-2.0 OR MIT
-- Where a whole request lies in the bytes that were read.
use Rattle.std.specs.Prelude.{ℕ, ◌≤◌, List, length, map, take, drop, slice_range, Option, Some, None}
use Rattle.std.specs.Option.{option_map}
use Rattle.httparse.specs.declared.spans.HeaderSpan.{HeaderSpan}
use Rattle.httparse.specs.declared.spans.RequestSpans.{RequestSpans}
use Rattle.httparse.specs.Spans.{IsRequestWithin, span_bytes, header_bytes}
use Rattle.cr_http.specs.Body.{IsBody}
use Rattle.cr_http.specs.Head.{HeadText, version_of}
use Rattle.cr_http.specs.Requests.{RequestText}
use Rattle.cr_http.specs.declared.inbox.Extent.{Extent}

-- the head whose parts the spans cover
abbrev pub spans_head : List ℕ → List HeaderSpan → RequestSpans → HeadText
spans_head bytes headers s = record {
  method = span_bytes bytes s.method;
  target = span_bytes bytes s.path;
  version = version_of s.version;
  fields = map (header_bytes bytes) (take s.headers headers);
}

-- its body: what of the text follows its head, or what lies in a block of its own
abbrev pub extent_body : List ℕ → Extent → Option (List ℕ) → List ℕ
extent_body text e None = slice_range text e.range.end e.end
extent_body text e (Some block) = block

-- the request that lies there
abbrev pub extent_text : List ℕ → List HeaderSpan → Option (List ℕ) → Extent → RequestText
extent_text text headers block e = record {
  head = spans_head (slice_range text e.range.start e.range.end) headers e.spans;
  body = extent_body text e block;
}

-- how many bytes of the text a request takes with the empty lines before it
abbrev pub used : Option Extent → ℕ
used None = 0
used (Some e) = e.end

-- The request lies in the text, and its spans in its head.
pub record IsExtent (text : List ℕ) (headers : List HeaderSpan) (block : Option (List ℕ)) (e : Extent) : Type 0 where
  pub head : e.range.start ≤ e.range.end
  pub body : e.range.end ≤ e.end
  pub short : IsBody (extent_body text e block)
  pub within : e.end ≤ length text
  pub spans : IsRequestWithin (slice_range text e.range.start e.range.end) headers e.spans

-- an inbox: the request that was read last, and the bytes that were read and not used
pub record InboxText : Type 0 where
  pub request : Option RequestText
  pub rest : List ℕ

-- the inbox's text, by where its parts lie
abbrev pub inbox_text : List ℕ → List HeaderSpan → Option (List ℕ) → Option Extent → InboxText
inbox_text text headers block request =
    record { request = option_map (extent_text text headers block) request; rest = drop (used request) text }
