-- SPDX-License-Identifier: Apache-2.0 OR MIT
-- From what one read of a request says to what its wish says.
use Rattle.std.proofs.Common.{◌≡◌, ◌∙◌, ℕ, List, ◌++◌, Bool, Option, Some, None, refl, sym, ap, subst}
use Rattle.std.specs.Prelude.{IsSomeAnd}
use Rattle.cr_http.specs.declared.refusal.Refusal.{Refusal}
use Rattle.cr_http.specs.Extent.{InboxText}
use Rattle.cr_http.specs.Filling.{ReadsWhile}
use Rattle.cr_http.specs.Found.{Found, whole, refused, StandsAt}
use Rattle.cr_http.specs.Reading.{Reads, StandsWhole, IsUnsettled}
use Rattle.cr_http.specs.Requests.{RequestText}
use Rattle.cr_http.proofs.HeadsRead.{to_head_of}
use Rattle.cr_http.specs.declared.read.RequestRead.{RequestRead}
use Rattle.cr_http.specs.declared.read.RequestRead.TheVariants as requests
use Rattle.cr_session.specs.declared.reading.WishRead.{WishRead}
use Rattle.cr_session.specs.declared.reading.WishRead.TheVariants as reads
use Rattle.cr_session.specs.Reading.{ReadsWish, Says, AtEndIfEnded, IsRefusedNow, IsWishedNow}
use Rattle.cr_wire.specs.declared.what.Wish.{Wish}
use Rattle.cr_wire.specs.Wish.{wish_text}

module _ {S : Type 0} (left : S → Option (List ℕ)) (gives : S → S → List ℕ → Type 0) where
  -- the answer says so of the text, and no more was read than it needs
  read_as : (source source' : S) (old kept : List ℕ) (inbox inbox' : InboxText) (read : RequestRead) (answer : WishRead)
      → old ≡ inbox.rest
      → (x : Reads left gives source source' inbox inbox' read) → Says answer (inbox.rest ++ x.got) kept
      → AtEndIfEnded answer (left source')
      → ReadsWish left gives source source' old kept answer
  read_as source source' old kept inbox inbox' read answer same x says ended = record {
    got = x.got;
    given = x.given;
    says = subst (λ (t : List ℕ). Says answer (t ++ x.got) kept) (sym same) says;
    ended = ended;
    needed =
        subst (λ (t : List ℕ). ReadsWhile left gives IsUnsettled source source' t (t ++ x.got)) (sym same) x.needed;
  }

  -- memory ran out before a whole request was read
  pub read_no_memory : (source source' : S) (old kept : List ℕ) (inbox inbox' : InboxText) (head : Bool)
      → old ≡ inbox.rest
      → Reads left gives source source' inbox inbox' (requests.OutOfMemory head)
      → ReadsWish left gives source source' old kept (reads.OutOfMemory head None)
  read_no_memory source source' old kept inbox inbox' head same x =
      read_as source source' old kept inbox inbox' (requests.OutOfMemory head) (reads.OutOfMemory head None) same x
      (x.answers.1, x.answers.0) tt

  -- what stands there is no request, and the clock gave the moment for the refusal, or failed
  pub read_refused : (source source' : S) (old kept : List ℕ) (inbox inbox' : InboxText) (why : Refusal) (head : Bool)
      (answer : WishRead) → old ≡ inbox.rest
      → Reads left gives source source' inbox inbox' (requests.Refused why head) → IsRefusedNow answer why head
      → ReadsWish left gives source source' old kept answer
  read_refused source source' old kept inbox inbox' why head (reads.Malformed said to at) same x now =
      read_as source source' old kept inbox inbox' (requests.Refused why head) (reads.Malformed said to at) same x
      (subst (λ (f : Found). StandsAt (inbox.rest ++ x.got) f) (λ i. refused (sym now.0 i) (sym now.1 i)) x.answers.0)
      tt
  read_refused source source' old kept inbox inbox' why head reads.ClockFault same x now =
      read_as source source' old kept inbox inbox' (requests.Refused why head) reads.ClockFault same x
      (refused why head, tt, x.answers.0) tt
  read_refused source source' old kept inbox inbox' why head (reads.Wish w) same x now = absurd now
  read_refused source source' old kept inbox inbox' why head reads.Clean same x now = absurd now
  read_refused source source' old kept inbox inbox' why head reads.Cut same x now = absurd now
  read_refused source source' old kept inbox inbox' why head reads.ReadFault same x now = absurd now
  read_refused source source' old kept inbox inbox' why head (reads.OutOfMemory to at) same x now = absurd now

  says : (answer : WishRead) (text kept : List ℕ) (request : Option RequestText)
      → IsSomeAnd request (λ r. StandsWhole text r kept) → IsWishedNow answer request
      → Says answer text kept
  says answer text kept None stands now = absurd stands
  says (reads.Wish w) text kept (Some r) stands now =
      record { request = r; stands = stands; wish = now.1 ∙ ap (wish_text r) (sym (ap (λ (x : Wish). x.at) now.1)) }
  says (reads.OutOfMemory head None) text kept (Some r) stands now = absurd now.1
  says (reads.OutOfMemory head (Some said)) text kept (Some r) stands now = (
    to_head_of text (whole r.head r.body kept) head stands now.1.0,
    (wish_text r now.0, kept, record { request = r; stands = stands; wish = refl }, now.1.1, sym now.1.2),
  )
  says reads.ClockFault text kept (Some r) stands now = (whole r.head r.body kept, tt, stands)
  says (reads.Malformed why head at) text kept (Some r) stands now = absurd now.1
  says reads.Clean text kept (Some r) stands now = absurd now.1
  says reads.Cut text kept (Some r) stands now = absurd now.1
  says reads.ReadFault text kept (Some r) stands now = absurd now.1

  ended : (answer : WishRead) (left' : Option (List ℕ)) (request : Option RequestText) → IsWishedNow answer request
      → AtEndIfEnded answer left'
  ended (reads.Wish w) left' request now = tt
  ended (reads.OutOfMemory head at) left' request now = tt
  ended reads.ClockFault left' request now = tt
  ended (reads.Malformed why head at) left' request now = tt
  ended reads.Clean left' request now = absurd now.1
  ended reads.Cut left' request now = absurd now.1
  ended reads.ReadFault left' request now = tt

  -- a whole request was read; this is its wish, or memory ran out for it, or the clock failed
  pub read_whole : (source source' : S) (old : List ℕ) (inbox inbox' : InboxText) (answer : WishRead) → old ≡ inbox.rest
      → Reads left gives source source' inbox inbox' requests.Whole → IsWishedNow answer inbox'.request
      → ReadsWish left gives source source' old inbox'.rest answer
  read_whole source source' old inbox inbox' answer same x now =
      read_as source source' old inbox'.rest inbox inbox' requests.Whole answer same x
      (says answer (inbox.rest ++ x.got) inbox'.rest inbox'.request x.answers now)
      (ended answer (left source') inbox'.request now)
