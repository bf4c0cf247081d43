-- SPDX-License-Identifier: Apache-2.0 OR MIT
-- From where a request lies to what the inbox then tells.
use Rattle.std.proofs.Common.{◌≡◌, ℕ, List, ◌++◌, Option, Some, None, refl, sym, ◌∙◌, ap, subst, inl, inr}
use Rattle.std.specs.Prelude.{◌⊎◌}
use Rattle.httparse.specs.declared.spans.HeaderSpan.{HeaderSpan}
use Rattle.cr_http.specs.declared.inbox.Extent.{Extent}
use Rattle.cr_http.specs.declared.read.RequestRead.{RequestRead}
use Rattle.cr_http.specs.declared.read.RequestRead.TheVariants as reads
use Rattle.cr_http.specs.Extent.{InboxText, inbox_text}
use Rattle.cr_http.specs.Filling.{Moves, ReadsWhile}
use Rattle.cr_http.specs.Found.{StandsAt, clean, cut}
use Rattle.cr_http.specs.Reading.{SaysOf, AtEndIfEnded, IsUnsettled, KeepsAll, Lies, Reads, ReadsInto}
use Rattle.cr_http.proofs.Moving.{moves_on, reads_on, stays}

keeps : (text kept : List ℕ) (headers : List HeaderSpan) (block : Option (List ℕ)) (request : Option Extent)
    → request ≡ None → kept ≡ text
    → KeepsAll text (inbox_text kept headers block request)
keeps text kept headers block None is all = (refl, all)
keeps text kept headers block (Some e) is all = absurd (cc)

answers : (answer : RequestRead) (text kept : List ℕ) (headers : List HeaderSpan) (block : Option (List ℕ))
    (request : Option Extent)
    → Lies answer text kept headers block request
    → SaysOf answer text (inbox_text kept headers block request)
answers reads.Whole text kept headers block None is = absurd is
answers reads.Whole text kept headers block (Some e) is = is.1
answers (reads.Refused why is_head) text kept headers block request is =
    (is.2, keeps text kept headers block request is.0 is.1)
answers reads.Clean text kept headers block request is = (is.2, keeps text kept headers block request is.0 is.1)
answers reads.Cut text kept headers block request is = (is.2, keeps text kept headers block request is.0 is.1)
answers reads.ReadFault text kept headers block request is = (is.2, keeps text kept headers block request is.0 is.1)
answers (reads.OutOfMemory is_head) text kept headers block request is =
    (is.2, is.3, keeps text kept headers block request is.0 is.1)

-- where the stream has ended
pub ends_lie : (answer : RequestRead) (text : List ℕ) (headers : List HeaderSpan) (block : Option (List ℕ))
    (request : Option Extent) → request ≡ None
    → (answer ≡ reads.Clean) ⊎ (answer ≡ reads.Cut) → (answer ≡ reads.Clean → StandsAt text clean)
    → (answer ≡ reads.Cut → StandsAt text cut)
    → Lies answer text text headers block request
ends_lie answer text headers block request none (inl is) f g =
    subst (λ (a : RequestRead). Lies a text text headers block request) (sym is) (none, refl, f is)
ends_lie answer text headers block request none (inr is) f g =
    subst (λ (a : RequestRead). Lies a text text headers block request) (sym is) (none, refl, g is)

module _ {S : Type 0} (left : S → Option (List ℕ)) (gives : S → S → List ℕ → Type 0) where
  -- what one call says, where the inbox had these bytes
  pub reads_lying : (source source' : S) (inbox : InboxText) (old kept : List ℕ) (headers : List HeaderSpan)
      (block : Option (List ℕ))
      (request : Option Extent) (answer : RequestRead)
      → inbox.rest ≡ old → ReadsInto left gives source source' old kept headers block request answer
      → AtEndIfEnded answer (left source')
      → Reads left gives source source' inbox (inbox_text kept headers block request) answer
  reads_lying source source' inbox old kept headers block request answer rest into ended =
      let m = into.moves in
      let came : into.text ≡ inbox.rest ++ m.got = m.kept ∙ ap (λ t. t ++ m.got) (sym rest) in
      record {
        got = m.got;
        given = m.given;
        answers = subst (λ (t : List ℕ). SaysOf answer t (inbox_text kept headers block request)) came
            (answers answer into.text kept headers block request into.lies);
        ended = ended;
        needed = subst (ReadsWhile left gives IsUnsettled source source' inbox.rest) came
            (subst (λ (t : List ℕ). ReadsWhile left gives IsUnsettled source source' t into.text) (sym rest)
            into.needed);
      }

  -- where nothing is read
  pub reads_none : (source : S) (text : List ℕ) (headers : List HeaderSpan) (block : Option (List ℕ))
      (request : Option Extent) (answer : RequestRead)
      → Lies answer text text headers block request
      → ReadsInto left gives source source text text headers block request answer
  reads_none source text headers block request answer lies =
      record { text = text; moves = stays (left source) text; needed = inl (refl, refl); lies = lies }

  -- where all of the text is kept
  pub reads_all : (source source' : S) (old text : List ℕ) (headers : List HeaderSpan) (block : Option (List ℕ))
      (request : Option Extent)
      (answer : RequestRead)
      → Moves (left source) (left source') old text → ReadsWhile left gives IsUnsettled source source' old text
      → Lies answer text text headers block request
      → ReadsInto left gives source source' old text headers block request answer
  reads_all source source' old text headers block request answer m needed lies =
      record { text = text; moves = m; needed = needed; lies = lies }

  -- first the one, and then the other
  pub reads_into_on : (a b c : S) (old text kept : List ℕ) (headers : List HeaderSpan) (block : Option (List ℕ))
      (request : Option Extent)
      (answer : RequestRead)
      → Moves (left a) (left b) old text → ReadsWhile left gives IsUnsettled a b old text
      → ReadsInto left gives b c text kept headers block request answer
      → ReadsInto left gives a c old kept headers block request answer
  reads_into_on a b c old text kept headers block request answer m needed into = record {
    text = into.text;
    moves = moves_on _ _ _ _ _ _ m into.moves;
    needed = reads_on left gives IsUnsettled a b c old text into.text m needed into.needed;
    lies = into.lies;
  }
