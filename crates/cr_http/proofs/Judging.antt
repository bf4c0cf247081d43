-- SPDX-License-Identifier: Apache-2.0 OR MIT
-- From what one call knows to what it says of the text.
use Rattle.std.proofs.Common.{◌≡◌, ℕ, ◌+◌, ◌-◌, ◌<◌, ◌≤◌, List, ◌++◌, length, take, drop, Option, Some, None, Bool}
use Rattle.std.proofs.Common.{true, false, refl, sym, ◌∙◌, ap, subst, arith, inl, inr, length-drop, length-take}
use Rattle.std.proofs.Common.{length-take-le, take_all, take-append-drop, drop_of_length-le}
use Rattle.std.specs.Prelude.{◌⊎◌, nat_lt, nat_le, slice_range, MatchBool, if◌then◌else◌, ◌==◌}
use Rattle.httparse.specs.declared.spans.HeaderSpan.{HeaderSpan}
use Rattle.httparse.specs.declared.spans.RequestSpans.{RequestSpans}
use Rattle.httparse.specs.Spans.{IsRequestWithin}
use Rattle.cr_http.specs.Extent.{spans_head}
use Rattle.cr_http.specs.declared.framing.Framing.TheVariants.{Body}
use Rattle.cr_http.specs.declared.refusal.Refusal.TheVariants.{HeadTooLarge, BadHttp}
use Rattle.std.proofs.lemmas.List.{drop-drop}
use Rattle.std.proofs.lemmas.Bool.{le-leb, lt-ltb, leb-true}
use Rattle.cr_http.specs.declared.fill_body.BodyFill.{BodyFill}
use Rattle.cr_http.specs.declared.head_range.HeadRange.{HeadRange}
use Rattle.cr_http.specs.declared.inbox.Extent.{Extent}
use Rattle.cr_http.specs.declared.read.RequestRead.{RequestRead}
use Rattle.cr_http.specs.BodyFill.{FillsBody}
use Rattle.cr_http.specs.declared.read.RequestRead.TheVariants as reads
use Rattle.cr_http.specs.Reading.{IsSettled, IsUnsettled, Lies, ReadsInto}
use Rattle.cr_http.specs.HeadRange.{blank_end_from, head_at}
use Rattle.cr_http.specs.ToHead.{IsToHead, IsToHeadFrom}
use Rattle.cr_http.proofs.Unique.{StandsAt-unique}
use Rattle.cr_http.specs.Head.{HeadText, framing_of}
use Rattle.cr_http.specs.Filling.{IsStill, Moves, NeedsHead, ReadsWhile}
use Rattle.cr_http.proofs.Moving.{reads_for}
use Rattle.cr_http.specs.Found.{Found, whole, refused, cut, with_body, line_feeds, IsNoHead, StandsAfter, StandsFrom}
use Rattle.cr_http.specs.Found.{StandsAt, IsFramed, IsFinal, without_head, clean}
use Rattle.cr_http.proofs.Windows.{head_at-append, head_at_bounds}
use Rattle.cr_http.proofs.Founds.{slice_range-append, settled-append}

le_false : (m n : ℕ) → n < m → nat_le m n ≡ false
le_false m n lt = grind arith

-- where the head lies, what stands there is what stands after it
at_place : (text : List ℕ) (start end : ℕ) (found : Found) → head_at text ≡ Some (start, end)
    → StandsFrom text (Some (start, end)) found → StandsAt text found
at_place text start end found range is = subst (λ (o : Option (ℕ × ℕ)). StandsFrom text o found) (sym range) is

stands_few : (text : List ℕ) (start end : ℕ) (found : Found) → head_at text ≡ Some (start, end)
    → nat_lt 66 (line_feeds (slice_range text start end)) ≡ false
    → StandsAfter (slice_range text start end) (drop end text) found → StandsAt text found
stands_few text start end found range few is = at_place text start end found range
    (subst (λ (b : Bool). MatchBool b (found ≡ refused HeadTooLarge false)
    (StandsAfter (slice_range text start end) (drop end text) found)) (sym few) is)

few_is : (n : ℕ) → n ≤ 66 → nat_lt 66 n ≡ false
few_is n le = grind arith

pub stands_no_head : (text : List ℕ) (start end : ℕ) → head_at text ≡ Some (start, end)
    → line_feeds (slice_range text start end) ≤ 66
    → IsNoHead (slice_range text start end) → StandsAt text (refused BadHttp false)
stands_no_head text start end range few none =
    stands_few text start end (refused BadHttp false) range (few_is _ few) (inr (none, refl))

pub framed_stands : (text : List ℕ) (start end : ℕ) (head : HeadText) (len : ℕ) → IsFramed text start end head len
    → StandsAt text (with_body head (Body len) (drop end text))
framed_stands text start end head len f =
    stands_few text start end (with_body head (Body len) (drop end text)) f.range f.few
    (inl (
      f.tree,
      f.reads,
      ap (λ k. with_body head k (drop end text)) (sym f.framing)
          ∙ ap (λ h. with_body h (framing_of h) (drop end text)) f.head_is,
    ))

pub IsFramed-append : (text more : List ℕ) (start end : ℕ) (head : HeadText) (len : ℕ)
    → IsFramed text start end head len
    → IsFramed (text ++ more) start end head len
IsFramed-append text more start end head len f =
    let b = head_at_bounds text (start, end) f.range in
    let same : slice_range (text ++ more) start end ≡ slice_range text start end =
    slice_range-append text more start end b.0 b.1 in
    record {
      range = head_at-append text more (start, end) f.range;
      few = rw same f.few;
      tree = f.tree;
      reads = (f.reads.0, same ∙ f.reads.1);
      head_is = f.head_is;
      framing = f.framing;
    }

pub framed_whole : (text : List ℕ) (start end : ℕ) (head : HeadText) (len : ℕ) → IsFramed text start end head len
    → end + len ≤ length text
    → StandsAt text (whole head (take len (drop end text)) (drop len (drop end text)))
framed_whole text start end head len f le =
    let d = length-drop end text in
    let enough : nat_le len (length (drop end text)) ≡ true =
    le-leb len (length (drop end text)) (omega (arith, d, le)) in
    subst (StandsAt text) (ap (λ b. if b then whole head (take len (drop end text)) (drop len (drop end text)) else cut)
    enough)
    (framed_stands text start end head len f)

pub framed_cut : (text : List ℕ) (start end : ℕ) (head : HeadText) (len : ℕ) → IsFramed text start end head len
    → length text < end + len → StandsAt text cut
framed_cut text start end head len f lt =
    let b = head_at_bounds text (start, end) f.range in
    let d = length-drop end text in
    let short : nat_le len (length (drop end text)) ≡ false =
    le_false len (length (drop end text)) (omega (arith, d, b, lt)) in
    subst (StandsAt text) (ap (λ b. if b then whole head (take len (drop end text)) (drop len (drop end text)) else cut)
    short)
    (framed_stands text start end head len f)

-- a head that was framed is still framed once bytes have moved
pub framed_moved : (left left' : Option (List ℕ)) (text moved : List ℕ) (start end : ℕ) (head : HeadText) (len : ℕ)
    → Moves left left' text moved
    → IsFramed text start end head len → IsFramed moved start end head len
framed_moved left left' text moved start end head len m f =
    subst (λ (t : List ℕ). IsFramed t start end head len) (sym m.kept) (IsFramed-append text m.got start end head len f)

-- a body is as long as it is told to be, at most
short_body : (most e len : ℕ) (text : List ℕ) → len ≤ most → length (slice_range text e (e + len)) ≤ most
short_body most e len text few = let l = length-take (e + len - e) (drop e text) in omega (arith, l, few)

-- the request that lies in the text once its body has come
pub request_lies : (left left' : Option (List ℕ)) (old text : List ℕ) (headers : List HeaderSpan) (range : HeadRange)
    (spans : RequestSpans) (len : ℕ)
    → Moves left left' old text → IsFramed old range.start range.end
    (spans_head (slice_range old range.start range.end) headers spans) len
    → IsRequestWithin (slice_range old range.start range.end) headers spans → len ≤ 4194304
    → range.end + len ≤ length text
    → Lies reads.Whole text text headers None (Some (record { range = range; spans = spans; end = range.end + len }))
request_lies left left' old text headers range spans len m f within few full =
    let s = range.start in
    let e = range.end in
    let b = head_at_bounds old (s, e) f.range in
    let same : slice_range text s e ≡ slice_range old s e =
    ap (λ t. slice_range t s e) m.kept ∙ slice_range-append old m.got s e b.0 b.1 in
    let head : spans_head (slice_range old s e) headers spans ≡ spans_head (slice_range text s e) headers spans =
    ap (λ t. spans_head t headers spans) (sym same) in
    let n : len ≡ e + len - e = omega arith in
    let body : take len (drop e text) ≡ slice_range text e (e + len) = ap (λ k. take k (drop e text)) n in
    let rest : drop len (drop e text) ≡ drop (e + len) text = drop-drop len e text in
    let stands = framed_whole text s e _ len (framed_moved left left' old text s e _ len m f) full in (
      record {
        head = omega (arith, b);
        body = omega arith;
        short = short_body 4194304 e len text few;
        within = full;
        spans = rw same within;
      },
      subst (StandsAt text) (λ i. whole (head i) (body i) (rest i)) stands,
    )

-- the same in what is kept of the text, where that is all of it
pub request_kept : (left left' : Option (List ℕ)) (old text kept : List ℕ) (headers : List HeaderSpan)
    (block : Option (List ℕ)) (range : HeadRange)
    (spans : RequestSpans) (len : ℕ)
    → Moves left left' old text → IsFramed old range.start range.end
    (spans_head (slice_range old range.start range.end) headers spans) len
    → IsRequestWithin (slice_range old range.start range.end) headers spans → len ≤ 4194304 → block ≡ None
    → (kept ≡ text) × (range.end + len ≤ length text)
    → Lies reads.Whole text kept headers block (Some (record { range = range; spans = spans; end = range.end + len }))
request_kept left left' old text kept headers block range spans len m f within few none is =
    let e : Extent = record { range = range; spans = spans; end = range.end + len } in
    subst (λ (b : Option (List ℕ)). Lies reads.Whole text kept headers b (Some e)) (sym none)
    (subst (λ (k : List ℕ). Lies reads.Whole text k headers None (Some e)) (sym is.0)
    (request_lies left left' old text headers range spans len m f within few is.1))

-- the request whose body has come into a block of its own
pub block_lies : (left left' : Option (List ℕ)) (old text kept block : List ℕ) (headers : List HeaderSpan)
    (range : HeadRange) (spans : RequestSpans) (len : ℕ)
    → Moves left left' old text → IsFramed old range.start range.end
    (spans_head (slice_range old range.start range.end) headers spans) len
    → IsRequestWithin (slice_range old range.start range.end) headers spans → len ≤ 4194304
    → (kept ≡ take range.end text) × (block ≡ drop range.end text) × (length text ≡ range.end + len)
    → Lies reads.Whole text kept headers (Some block) (Some (record { range = range; spans = spans; end = range.end }))
block_lies left left' old text kept block headers range spans len m f within few is =
    let s = range.start in
    let e = range.end in
    let b = head_at_bounds old (s, e) f.range in
    let all = is.2 in
    let front : length kept ≡ e = ap length is.0 ∙ length-take-le e text (omega (arith, all)) in
    let long : length block ≡ len = ap length is.1 ∙ length-drop e text ∙ left_of e len (length text) all in
    let whole_is : text ≡ kept ++ block =
    sym (take-append-drop e text) ∙ ap (λ t. t ++ drop e text) (sym is.0) ∙ ap (λ t. kept ++ t) (sym is.1) in
    let same : slice_range kept s e ≡ slice_range old s e =
    sym (slice_range-append kept block s e b.0 (omega (arith, front)))
    ∙ ap (λ t. slice_range t s e) (sym whole_is ∙ m.kept)
    ∙ slice_range-append old m.got s e b.0 b.1 in
    let head : spans_head (slice_range old s e) headers spans ≡ spans_head (slice_range kept s e) headers spans =
    ap (λ t. spans_head t headers spans) (sym same) in
    let body : take len (drop e text) ≡ block = ap (take len) (sym is.1) ∙ take_all len block (omega (arith, long)) in
    let rest : drop len (drop e text) ≡ drop e kept =
    ap (drop len) (sym is.1) ∙ drop_of_length-le block (omega (arith, long))
    ∙ sym (drop_of_length-le kept (omega (arith, front))) in
    let stands = framed_whole text s e _ len (framed_moved left left' old text s e _ len m f) (omega (arith, all)) in (
      record {
        head = omega (arith, b);
        body = omega arith;
        short = few_of 4194304 len (length block) long few;
        within = omega (arith, front);
        spans = rw same within;
      },
      subst (StandsAt text) (λ i. whole (head i) (body i) (rest i)) stands,
    )
  where
    left_of : (e len n : ℕ) → n ≡ e + len → n - e ≡ len
    left_of e len n is = omega (arith, is)

    few_of : (most len n : ℕ) → n ≡ len → len ≤ most → n ≤ most
    few_of most len n is le = omega (arith, is, le)

-- the text ends before the body does
pub body_cut : (left left' : Option (List ℕ)) (old text : List ℕ) (range : HeadRange) (head : HeadText) (len : ℕ)
    → Moves left left' old text → IsFramed old range.start range.end head len → length text < range.end + len
    → StandsAt text cut
body_cut left left' old text range head len m f short =
    framed_cut text range.start range.end head len (framed_moved left left' old text range.start range.end head len m f)
    short

past_is : (m n : ℕ) → nat_le m n ≡ false → n < m
past_is m n e = grind arith

-- what stands where no head does
no_head : (text : List ℕ) (found : Found) → head_at text ≡ None → found ≡ without_head text → StandsAt text found
no_head text found none is = subst (λ (o : Option (ℕ × ℕ)). StandsFrom text o found) (sym none) is

pub full_stands : (text : List ℕ) → head_at text ≡ None → nat_lt (length text) 16384 ≡ false
    → StandsAt text (refused HeadTooLarge false)
full_stands text none full = no_head text (refused HeadTooLarge false) none
    (ap (λ (t : Bool). if t then (if blank_end_from 0 text == length text then clean else cut) else refused HeadTooLarge
    false) (sym full))

pub short_stands : (text : List ℕ) → head_at text ≡ None → nat_lt (length text) 16384 ≡ true
    → StandsAt text clean ⊎ StandsAt text cut
short_stands text none short = by (blank_end_from 0 text == length text) refl
  where
    is : (u : Bool) → (blank_end_from 0 text == length text) ≡ u → without_head text ≡ (if u then clean else cut)
    is u e =
        ap (λ (t : Bool). if t then (if blank_end_from 0 text == length text then clean else cut) else refused
        HeadTooLarge false) short
        ∙ ap (λ (u : Bool). if u then clean else cut) e

    by : (u : Bool) → (blank_end_from 0 text == length text) ≡ u → StandsAt text clean ⊎ StandsAt text cut
    by true e = inl (no_head text clean none (sym (is true e)))
    by false e = inr (no_head text cut none (sym (is false e)))

pub no_head_to : (text : List ℕ) → head_at text ≡ None → IsToHead text false
no_head_to text none = subst (λ (o : Option (ℕ × ℕ)). IsToHeadFrom text o false) (sym none) refl

pub is_full : (m n : ℕ) → m ≤ n → nat_lt n m ≡ false
is_full m n le = grind arith

-- where something stands however the text goes on, a head ends or none can
pub settled_needs_no_head : (text : List ℕ) → IsSettled text → NeedsHead text → ⊥
settled_needs_no_head text s needs =
    let is : s.0 ≡ without_head text = subst (λ (o : Option (ℕ × ℕ)). StandsFrom text o s.0) needs.0 s.2 in
    none (nat_lt (length text) 16384) (blank_end_from 0 text == length text) (lt-ltb (length text) 16384 needs.1)
    (subst IsFinal is s.1)
  where
    none : (t u : Bool) → t ≡ true → IsFinal (if t then (if u then clean else cut) else refused HeadTooLarge false) → ⊥
    none true true e final = final
    none true false e final = final
    none false u e final = absurd (cc)

-- and where its head has a body, the body is there
pub settled_has_body : (text : List ℕ) (start end : ℕ) (head : HeadText) (len : ℕ) → IsFramed text start end head len
    → IsSettled text → end + len ≤ length text
settled_has_body text start end head len f s = there (nat_le (end + len) (length text)) refl
  where
    there : (t : Bool) → nat_le (end + len) (length text) ≡ t → end + len ≤ length text
    there true e = leb-true (end + len) (length text) e
    there false e =
        let short : length text < end + len = past_is (end + len) (length text) e in
        let same = StandsAt-unique text s.0 cut s.2 (framed_cut text start end head len f short) in
        absurd (subst IsFinal same s.1)

module _ {S : Type 0} (left : S → Option (List ℕ)) (gives : S → S → List ℕ → Type 0) where
  -- what is read while no head is there is read while nothing is settled
  pub head_needed : (a b : S) (t u : List ℕ) → ReadsWhile left gives NeedsHead a b t u
      → ReadsWhile left gives IsUnsettled a b t u
  head_needed a b t u reads =
      reads_for left gives NeedsHead IsUnsettled a b t u
      (λ text left' moves needs settled. settled_needs_no_head text settled needs) reads

  -- and so is what is read while a body isn't
  pub body_needed : (a b : S) (t u : List ℕ) (start end : ℕ) (head : HeadText) (len : ℕ) → IsFramed t start end head len
      → ReadsWhile left gives (λ text. length text < end + len) a b t u → ReadsWhile left gives IsUnsettled a b t u
  body_needed a b t u start end head len framed reads =
      reads_for left gives (λ text. length text < end + len) IsUnsettled a b t u
      (λ text left' moves short settled. too_short text (settled_has_body text start end head len
      (framed_moved (left a) left' t text start end head len moves framed) settled) short) reads
    where
      too_short : (text : List ℕ) → end + len ≤ length text → length text < end + len → ⊥
      too_short text le lt = omega arith

  -- where what stands at the front was settled before, nothing is read
  pub settled_is_still : (a b : S) (t u : List ℕ) → ReadsWhile left gives IsUnsettled a b t u → IsSettled t
      → IsStill a b t u
  settled_is_still a b t u (inl still) settled = still
  settled_is_still a b t u (inr last) settled =
      absurd (last.wants (subst IsSettled (sym last.before.kept) (settled-append t last.before.got settled)))

  -- what is read behind a head, where the answer is right of it
  pub reads_body : (a b : S) (old kept : List ℕ) (start end : ℕ) (head : HeadText) (len : ℕ) (headers : List HeaderSpan)
      (block : Option (List ℕ))
      (request : Option Extent)
      (filled : BodyFill) (answer : RequestRead) → IsFramed old start end head len
      → (f : FillsBody left gives a b old kept end (end + len) filled)
      → Lies answer f.text kept headers block request → ReadsInto left gives a b old kept headers block request answer
  reads_body a b old kept start end head len headers block request filled answer framed f lies = record {
    text = f.text;
    moves = f.moves;
    needed = body_needed a b old f.text start end head len framed f.needed;
    lies = lies;
  }
