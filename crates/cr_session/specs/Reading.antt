-- SPDX-License-Identifier: Apache-2.0 OR MIT
-- What one call of `read_wish` says.
use Rattle.std.specs.Prelude.{◌≡◌, ◌⊎◌, ℕ, List, [], ◌∷◌, ◌++◌, Bool, Option, Some, None, IfSome}
use Rattle.cr_ports.specs.Stream.{and_left}
use Rattle.cr_http.specs.declared.refusal.Refusal.{Refusal}
use Rattle.cr_http.specs.Filling.{IsAtEnd, ReadsWhile}
use Rattle.cr_http.specs.Found.{whole, refused, clean, cut, StandsAt}
use Rattle.cr_http.specs.Reading.{IsSettled, IsUnsettled}
use Rattle.cr_http.specs.Requests.{RequestText}
use Rattle.cr_http.specs.ToHead.{IsToHead}
use Rattle.cr_base.specs.Lists.{listed}
use Rattle.cr_wire.specs.declared.what.Wish.{Wish}
use Rattle.cr_http.specs.Head.{is_head_method}
use Rattle.cr_wire.specs.Asked.{LooksBehindPath}
use Rattle.cr_wire.specs.Wish.{wish_text}
use Rattle.cr_session.specs.declared.reading.WishRead.{WishRead}
use Rattle.cr_session.specs.declared.reading.WishRead.TheVariants as reads
use Rattle.cr_session.specs.Answering.{ClockState, GivesMoments, FailsBehind}
use Rattle.cr_session.specs.Turning.{IsBoundedWish}

-- at the front of the text is the request of this wish, at the wish's timestamp, and this rest follows it
pub record StandsWish (text : List ℕ) (w : Wish) (rest : List ℕ) : Type 0 where
  pub request : RequestText
  pub stands : StandsAt text (whole request.head request.body rest)
  pub wish : w ≡ wish_text request w.at

-- neither a whole request nor what is refused as one is at the front of the text
abbrev pub IsUnfinished : List ℕ → Type 0
IsUnfinished text = StandsAt text clean ⊎ StandsAt text cut

-- memory may run out for the body, the search or the plan of the request at the front, which has this timestamp
abbrev pub MayWantToLook : ℕ → List ℕ → Type 0
MayWantToLook at text =
    (w : Wish) × (rest : List ℕ) × StandsWish text w rest × LooksBehindPath w.what × (w.at ≡ at)

-- memory may run out in reading: if no timestamp was read for the next request, for more bytes; else for the body, the
-- search or the plan of the request at the front
abbrev pub MayWantToRead : Option ℕ → List ℕ → Type 0
MayWantToRead None text = IsUnfinished text
MayWantToRead (Some at) text = MayWantToLook at text

-- what the answer says of the text that came so far, and of what is kept of it
abbrev pub Says : WishRead → List ℕ → List ℕ → Type 0
Says (reads.Wish w) text kept = StandsWish text w kept
Says (reads.Malformed why head at) text kept = StandsAt text (refused why head)
Says reads.Clean text kept = StandsAt text clean
Says reads.Cut text kept = StandsAt text cut
Says reads.ReadFault text kept = IsUnfinished text
Says reads.ClockFault text kept = IsSettled text
Says (reads.OutOfMemory head at) text kept = IsToHead text head × MayWantToRead at text

-- an answer that says that the stream has ended is given only at its end
abbrev pub AtEndIfEnded : WishRead → Option (List ℕ) → Type 0
AtEndIfEnded (reads.Wish w) left = Unit {0}
AtEndIfEnded (reads.Malformed why head at) left = Unit {0}
AtEndIfEnded reads.Clean left = IsAtEnd left
AtEndIfEnded reads.Cut left = IsAtEnd left
AtEndIfEnded reads.ReadFault left = Unit {0}
AtEndIfEnded reads.ClockFault left = Unit {0}
AtEndIfEnded (reads.OutOfMemory head at) left = Unit {0}

-- a command that is wished is within the bounds on commands, and so is its timestamp
abbrev pub IsBoundedRead : WishRead → Type 0
IsBoundedRead (reads.Wish w) = IsBoundedWish w
IsBoundedRead (reads.Malformed why head at) = Unit {0}
IsBoundedRead reads.Clean = Unit {0}
IsBoundedRead reads.Cut = Unit {0}
IsBoundedRead reads.ReadFault = Unit {0}
IsBoundedRead reads.ClockFault = Unit {0}
IsBoundedRead (reads.OutOfMemory head at) = Unit {0}

-- the answer is the wish of the request at hand at this timestamp, or says that memory ran out where its body or its
-- search was read, to HEAD exactly if the request is one to HEAD
abbrev pub IsWishedAt : WishRead → ℕ → Option RequestText → Type 0
IsWishedAt (reads.Wish w) at request = IfSome request (λ r. w ≡ wish_text r at)
IsWishedAt (reads.OutOfMemory head None) at request = ⊥
IsWishedAt (reads.OutOfMemory head (Some said)) at request =
    IfSome request (λ r. (head ≡ is_head_method r.head) × LooksBehindPath (wish_text r at).what × (said ≡ at))
IsWishedAt (reads.Malformed why head said) at request = ⊥
IsWishedAt reads.Clean at request = ⊥
IsWishedAt reads.Cut at request = ⊥
IsWishedAt reads.ReadFault at request = ⊥
IsWishedAt reads.ClockFault at request = ⊥

-- the answer is the wish of the request at hand at some timestamp (`IsWishedAt`), or says that the clock failed; that
-- the timestamp is the clock's, `ReadsClock` says
abbrev pub IsWishedNow : WishRead → Option RequestText → Type 0
IsWishedNow reads.ClockFault request = Unit {0}
IsWishedNow answer request = (at : ℕ) × IsWishedAt answer at request

-- the answer is this refusal at some timestamp, or says that the clock failed; that the timestamp is the clock's,
-- `ReadsClock` says
abbrev pub IsRefusedNow : WishRead → Refusal → Bool → Type 0
IsRefusedNow (reads.Malformed said to_head at) why head = (said ≡ why) × (to_head ≡ head)
IsRefusedNow reads.ClockFault why head = Unit {0}
IsRefusedNow (reads.Wish w) why head = ⊥
IsRefusedNow reads.Clean why head = ⊥
IsRefusedNow reads.Cut why head = ⊥
IsRefusedNow reads.ReadFault why head = ⊥
IsRefusedNow (reads.OutOfMemory to_head at) why head = ⊥

-- The source gave these bytes; after those of the inbox they are a text, and the answer is what is at its front. No
-- read was made once that was settled.
pub record ReadsWish {S : Type 0} (left : S → Option (List ℕ)) (gives : S → S → List ℕ → Type 0)
    (source source' : S) (inbox inbox' : List ℕ) (answer : WishRead) : Type 0 where
  pub got : List ℕ
  pub given : left source ≡ and_left got (left source')
  pub says : Says answer (inbox ++ got) inbox'
  pub ended : AtEndIfEnded answer (left source')
  pub needed : ReadsWhile left gives IsUnsettled source source' inbox (inbox ++ got)

-- the timestamps that the clock gave for what was read: one for a wish, a refusal, and a request for whose body or
-- search memory ran out
abbrev pub moments_read : WishRead → List ℕ
moments_read (reads.Wish w) = w.at ∷ []
moments_read (reads.Malformed why head at) = at ∷ []
moments_read reads.Clean = []
moments_read reads.Cut = []
moments_read reads.ReadFault = []
moments_read reads.ClockFault = []
moments_read (reads.OutOfMemory head at) = listed at

-- what reading did to the clock
abbrev pub ReadsClock : WishRead → ClockState → ClockState → Type 0
ReadsClock reads.ClockFault c c' = FailsBehind [] c c'
ReadsClock answer c c' = GivesMoments (moments_read answer) c c'
