-- SPDX-License-Identifier: Apache-2.0 OR MIT
-- What one call of `read_request` says.
use Rattle.std.specs.Prelude.{◌≡◌, ◌⊎◌, ◌≤◌, ℕ, List, ◌++◌, drop, slice_range, Option, Some, None, IsSomeAnd, ⊤}
use Rattle.httparse.specs.declared.spans.HeaderSpan.{HeaderSpan}
use Rattle.httparse.specs.Spans.{IsRequestWithin}
use Rattle.cr_ports.specs.Stream.{and_left}
use Rattle.cr_http.specs.declared.inbox.Extent.{Extent}
use Rattle.cr_http.specs.declared.head_range.HeadRange.{HeadRange}
use Rattle.cr_http.specs.declared.read.RequestRead.{RequestRead}
use Rattle.cr_http.specs.declared.read.RequestRead.TheVariants as reads
use Rattle.cr_http.specs.declared.judge.HeadJudgement.{HeadJudgement}
use Rattle.cr_http.specs.declared.judge.HeadJudgement.TheVariants as judged
use Rattle.cr_http.specs.Extent.{spans_head, extent_text, IsExtent, InboxText}
use Rattle.cr_http.specs.Filling.{IsAtEnd, Moves, ReadsWhile}
use Rattle.cr_http.specs.Found.{Found, whole, refused, clean, cut, StandsAt, IsFinal, IsFramed}
use Rattle.cr_http.specs.Head.{is_head_method}
use Rattle.cr_http.specs.Requests.{RequestText}
use Rattle.cr_http.specs.ToHead.{IsToHead}

-- the request is at the front of the text, and these bytes follow it
abbrev pub StandsWhole : List ℕ → RequestText → List ℕ → Type 0
StandsWhole text r rest = StandsAt text (whole r.head r.body rest)

-- a request or a refusal is at the front of the text, however it goes on
abbrev pub IsSettled : List ℕ → Type 0
IsSettled text = (found : Found) × IsFinal found × StandsAt text found

-- what is at the front can't be told without more bytes, or the end
abbrev pub IsUnsettled : List ℕ → Type 0
IsUnsettled text = IsSettled text → ⊥

-- all of the text is kept, and no request
abbrev pub KeepsAll : List ℕ → InboxText → Type 0
KeepsAll text inbox = (inbox.request ≡ None) × (inbox.rest ≡ text)

-- what the answer says of the text that came so far, and what of it is kept
abbrev pub SaysOf : RequestRead → List ℕ → InboxText → Type 0
SaysOf reads.Whole text inbox = IsSomeAnd inbox.request (λ r. StandsWhole text r inbox.rest)
SaysOf (reads.Refused why is_head) text inbox = StandsAt text (refused why is_head) × KeepsAll text inbox
SaysOf reads.Clean text inbox = StandsAt text clean × KeepsAll text inbox
SaysOf reads.Cut text inbox = StandsAt text cut × KeepsAll text inbox
SaysOf reads.ReadFault text inbox = (StandsAt text clean ⊎ StandsAt text cut) × KeepsAll text inbox
SaysOf (reads.OutOfMemory is_head) text inbox =
    (StandsAt text clean ⊎ StandsAt text cut) × IsToHead text is_head × KeepsAll text inbox

-- an answer that says that the stream has ended is given only at its end
abbrev pub AtEndIfEnded : RequestRead → Option (List ℕ) → Type 0
AtEndIfEnded reads.Whole left = ⊤
AtEndIfEnded (reads.Refused why is_head) left = ⊤
AtEndIfEnded reads.Clean left = IsAtEnd left
AtEndIfEnded reads.Cut left = IsAtEnd left
AtEndIfEnded reads.ReadFault left = ⊤
AtEndIfEnded (reads.OutOfMemory is_head) left = ⊤

-- The source gave these bytes. After those of the inbox they are a text, and the answer is what is at its front. No
-- read was made once that was settled.
pub record Reads {S : Type 0} (left : S → Option (List ℕ)) (gives : S → S → List ℕ → Type 0)
    (source source' : S) (inbox inbox' : InboxText) (answer : RequestRead) : Type 0 where
  pub got : List ℕ
  pub given : left source ≡ and_left got (left source')
  pub answers : SaysOf answer (inbox.rest ++ got) inbox'
  pub ended : AtEndIfEnded answer (left source')
  pub needed : ReadsWhile left gives IsUnsettled source source' inbox.rest (inbox.rest ++ got)

-- the answer by where a request lies in what is kept of the text
abbrev pub Lies : RequestRead → List ℕ → List ℕ → List HeaderSpan → Option (List ℕ) → Option Extent → Type 0
Lies reads.Whole text kept headers block None = ⊥
Lies reads.Whole text kept headers block (Some e) =
    IsExtent kept headers block e × StandsWhole text (extent_text kept headers block e) (drop e.end kept)
Lies (reads.Refused why is_head) text kept headers block request =
    (request ≡ None) × (kept ≡ text) × StandsAt text (refused why is_head)
Lies reads.Clean text kept headers block request = (request ≡ None) × (kept ≡ text) × StandsAt text clean
Lies reads.Cut text kept headers block request = (request ≡ None) × (kept ≡ text) × StandsAt text cut
Lies reads.ReadFault text kept headers block request =
    (request ≡ None) × (kept ≡ text) × (StandsAt text clean ⊎ StandsAt text cut)
Lies (reads.OutOfMemory is_head) text kept headers block request =
    (request ≡ None) × (kept ≡ text) × (StandsAt text clean ⊎ StandsAt text cut) × IsToHead text is_head

-- The source gave what makes this text of the bytes that were there, and the answer is what is at its front.
pub record ReadsInto {S : Type 0} (left : S → Option (List ℕ)) (gives : S → S → List ℕ → Type 0)
    (source source' : S) (old kept : List ℕ) (headers : List HeaderSpan) (block : Option (List ℕ))
    (request : Option Extent)
    (answer : RequestRead) : Type 0 where
  pub text : List ℕ
  pub moves : Moves (left source) (left source') old text
  pub needed : ReadsWhile left gives IsUnsettled source source' old text
  pub lies : Lies answer text kept headers block request

-- what is known once a head was looked at
abbrev pub JudgesHead : List ℕ → HeadRange → List HeaderSpan → HeadJudgement → Type 0
JudgesHead text range headers (judged.Framed spans len is_head) =
    IsFramed text range.start range.end (spans_head (slice_range text range.start range.end) headers spans) len
    × (len ≤ 4194304)
    × IsRequestWithin (slice_range text range.start range.end) headers spans
    × (is_head ≡ is_head_method (spans_head (slice_range text range.start range.end) headers spans))
JudgesHead text range headers (judged.Refused why is_head) = StandsAt text (refused why is_head)
