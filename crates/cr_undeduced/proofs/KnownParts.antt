-- SPDX-License-Identifier: Apache-2.0 OR MIT
-- What the table shows somebody of an entry she was told, by the words of the bounds: so it is known, and stays.
use Rattle.std.proofs.Common.{ℕ, Bool, true, false, ◌≡◌, List, [], ◌∷◌, refl, sym, ap, ◌∙◌, ◌||◌, ◌&&◌}
use Rattle.std.proofs.Common.{Option, Some}
use Rattle.std.specs.Prelude.{is_some, not}
use Rattle.std.proofs.lemmas.Bool.{true≢false, and_from, or_left}
use Rattle.cr_base.specs.declared.entry.Entry.{Entry}
use Rattle.cr_base.specs.declared.entry.Entry.TheVariants as entries
use Rattle.cr_base.specs.declared.entry.Stamp.{Stamp}
use Rattle.cr_base.specs.Drawn.{stamped}
use Rattle.cr_base.specs.History.{History}
use Rattle.cr_policy.specs.Part as part
use Rattle.cr_policy.specs.Part.{Part}
use Rattle.cr_bounds.specs.ShownTo.{PartFor, is_told, digest_for, title_for, abstract_for, content_for, value_for}
use Rattle.cr_bounds.specs.ShownTo.{review_kind_for, score_for, confidence_for, to_authors_for, to_pc_for, text_for}
use Rattle.cr_bounds.specs.ShownTo.{tag_for, switch_for, decision_for}
use Rattle.cr_policy.specs.Sighting.{where_shown, masked, entire}
use Rattle.cr_policy.specs.Triggers.{reader, Around, TriggerRow, applies_any, shows}
use Rattle.cr_policy.specs.View.{rows_at}
use Rattle.cr_bounds.proofs.BoundsParts.{IsWriters, IsWithin, seen-told, digest-one, title-one, abstract-one}
use Rattle.cr_bounds.proofs.BoundsParts.{content-one}
use Rattle.cr_bounds.proofs.BoundsParts.{switch-one, value-one, seat-one, score-one, confidence-one, to_authors-one}
use Rattle.cr_bounds.proofs.BoundsParts.{to_pc-one, comment-one, tag-one, decision-one}
use Rattle.cr_undeduced.specs.Payload.{Payload, Known, own_if, are_for_same, with_other}

-- ---- one part

-- what is shown is kept, where it is known
part-kept : {A : Type 0} (shown known : Bool) (own other : A) → (shown ≡ true → known ≡ true)
    → where_shown shown (Some own) ≡ where_shown shown (Some (own_if known own other))
part-kept true true own other h = refl
part-kept true false own other h = absurd (true≢false (sym (h refl)))
part-kept false known own other h = refl

-- a row that shows a part applies
shown-applies : (rows : List TriggerRow) (p : Part) → shows rows p ≡ true → applies_any rows ≡ true
shown-applies [] p is = is
shown-applies (row ∷ rows) p is = by (row.parts p) row.applies is (shown-applies rows p)
  where
    by : (has applies : Bool) → ((has && applies) || shows rows p) ≡ true
        → (shows rows p ≡ true → applies_any rows ≡ true) → (applies || applies_any rows) ≡ true
    by has true is rest = refl
    by true false is rest = rest is
    by false false is rest = rest is

-- a part that is shown, and as the bounds have it, is there in these
there : {A : Type 0} (shown : Bool) (own : A) (known : Option A) → where_shown shown (Some own) ≡ known
    → shown ≡ true → is_some known ≡ true
there shown own known same is = ap is_some (sym same ∙ ap (λ b. where_shown b (Some own)) is)

-- ---- one entry

module _ (u : Option ℕ) (T : History) (at : Around) (stamp : Stamp) (more : Bool) where
  -- the parts that the table shows her
  abbrev pub shown : Entry → Part → Bool
  shown e = shows (rows_at (reader u T) at (stamped stamp more e))

  -- the bounds tell her the part
  abbrev pub tells : {A : Type 0} → PartFor (Option A) → Entry → Bool
  tells part e = is_told u T at.before at.after stamp.maker e && is_some (part u T at.before at.after stamp e)

  pub told : (e : Entry) → IsWithin T at e → (p : Part) → shown e p ≡ true
      → is_told u T at.before at.after stamp.maker e ≡ true
  told e within p is =
      sym (seen-told u T at stamp more e within)
      ∙ shown-applies (rows_at (reader u T) at (stamped stamp more e)) p is

  -- all that the bounds tell her of the entry is known
  pub record KnowsAll (known : Known) (e : Entry) : Type 0 where
    pub digest : tells digest_for e ≡ true → known.digest ≡ true
    pub title : tells title_for e ≡ true → known.title ≡ true
    pub abstract_ : tells abstract_for e ≡ true → known.abstract_ ≡ true
    pub content : tells content_for e ≡ true → known.content ≡ true
    pub value : tells value_for e ≡ true → known.value ≡ true
    pub kind : tells review_kind_for e ≡ true → known.kind ≡ true
    pub score : tells score_for e ≡ true → known.score ≡ true
    pub confidence : tells confidence_for e ≡ true → known.confidence ≡ true
    pub to_authors : tells to_authors_for e ≡ true → known.to_authors ≡ true
    pub to_pc : tells to_pc_for e ≡ true → known.to_pc ≡ true
    pub text : tells text_for e ≡ true → known.text ≡ true
    pub tag : tells tag_for e ≡ true → known.tag ≡ true
    pub on : tells switch_for e ≡ true → known.on ≡ true
    pub decision : tells decision_for e ≡ true → known.decision ≡ true

  -- one part is kept, where all that is told of it is known
  keeps : {A : Type 0} (e : Entry) (p : Part) (part : PartFor (Option A)) (known : Bool) (own other : A)
      → IsWithin T at e → (tells part e ≡ true → known ≡ true)
      → (is_told u T at.before at.after stamp.maker e ≡ true
      → where_shown (shown e p) (Some own) ≡ part u T at.before at.after stamp e)
      → where_shown (shown e p) (Some own) ≡ where_shown (shown e p) (Some (own_if known own other))
  keeps e p part known own other within knows same =
      part-kept (shown e p) known own other (λ is.
      let tells = told e within p is in
      knows (and_from (is_told u T at.before at.after stamp.maker e) (is_some (part u T at.before at.after stamp e)) tells
      (there (shown e p) own (part u T at.before at.after stamp e) (same tells) is)))

  -- so with the other payload in all parts but those that are known it shows her the same
  pub entry-kept : (known : Known) (x : Payload) (e : Entry) → IsWithin T at e → IsWriters u T stamp.maker e
      → KnowsAll known e
      → masked (shown e) false (entire stamp e) ≡ masked (shown e) false (entire stamp (with_other known x e))
  entry-kept known x (entries.Registered user name digest) within writes knows =
      let e : Entry = entries.Registered user name digest in
      λ i. record (masked (shown e) false (entire stamp e)) {
        digest =
            keeps e part.digest digest_for known.digest digest x.digest within knows.digest
            (λ told. digest-one u T at stamp more e) i;
      }
  entry-kept known x (entries.Submitted paper title abstract) within writes knows =
      let e : Entry = entries.Submitted paper title abstract in
      λ i. record (masked (shown e) false (entire stamp e)) {
        title =
            keeps e part.title title_for known.title title x.title within knows.title
            (λ told. title-one u T at stamp more e writes) i;
        abstract =
            keeps e part.abstract abstract_for known.abstract_ abstract x.abstract_ within knows.abstract_
            (λ told. abstract-one u T at stamp more e writes) i;
      }
  entry-kept known x (entries.Revised paper title abstract) within writes knows =
      let e : Entry = entries.Revised paper title abstract in
      λ i. record (masked (shown e) false (entire stamp e)) {
        title =
            keeps e part.title title_for known.title title x.title within knows.title
            (λ told. title-one u T at stamp more e writes) i;
        abstract =
            keeps e part.abstract abstract_for known.abstract_ abstract x.abstract_ within knows.abstract_
            (λ told. abstract-one u T at stamp more e writes) i;
      }
  entry-kept known x (entries.Uploaded paper version content) within writes knows =
      let e : Entry = entries.Uploaded paper version content in
      λ i. record (masked (shown e) false (entire stamp e)) {
        content =
            keeps e part.content content_for known.content content x.content within knows.content
            (λ told. content-one u T at stamp more e) i;
      }
  entry-kept known x (entries.Bid paper value) within writes knows =
      let e : Entry = entries.Bid paper value in
      λ i. record (masked (shown e) false (entire stamp e)) {
        value =
            keeps e part.value value_for known.value value x.value within knows.value
            (λ told. value-one u T at stamp more e told) i;
      }
  entry-kept known x (entries.Assigned paper user review_kind ordinal) within writes knows =
      let e : Entry = entries.Assigned paper user review_kind ordinal in
      λ i. record (masked (shown e) false (entire stamp e)) {
        review_kind =
            keeps e part.review_kind review_kind_for known.kind review_kind x.kind within knows.kind
            (λ told. seat-one u T at stamp more e) i;
      }
  entry-kept known x (entries.Reviewed paper ordinal version form) within writes knows =
      let e : Entry = entries.Reviewed paper ordinal version form in
      λ i. record (masked (shown e) false (entire stamp e)) {
        score =
            keeps e part.score score_for known.score form.score x.form.score within knows.score
            (λ told. score-one u T at stamp more e within) i;
        confidence =
            keeps e part.confidence confidence_for known.confidence form.confidence x.form.confidence within
            knows.confidence
            (λ told. confidence-one u T at stamp more e within) i;
        to_authors =
            keeps e part.to_authors to_authors_for known.to_authors form.to_authors x.form.to_authors within
            knows.to_authors
            (λ told. to_authors-one u T at stamp more e within) i;
        to_pc =
            keeps e part.to_pc to_pc_for known.to_pc form.to_pc x.form.to_pc within knows.to_pc
            (λ told. to_pc-one u T at stamp more e) i;
      }
  entry-kept known x (entries.Commented paper n ordinal text) within writes knows =
      let e : Entry = entries.Commented paper n ordinal text in
      λ i. record (masked (shown e) false (entire stamp e)) {
        text =
            keeps e part.text text_for known.text text x.text within knows.text
            (λ told. comment-one u T at stamp more e told) i;
      }
  entry-kept known x (entries.Tagged paper tag on) within writes knows =
      let e : Entry = entries.Tagged paper tag on in
      λ i. record (masked (shown e) false (entire stamp e)) {
        tag =
            keeps e part.tag tag_for (known.tag || not (are_for_same tag x.tag)) tag x.tag within
            (λ tells. or_left known.tag (not (are_for_same tag x.tag)) (knows.tag tells))
            (λ told. tag-one u T at stamp more e told) i;
        on =
            keeps e part.on switch_for known.on on x.on within knows.on
            (λ told. switch-one u T at stamp more e told) i;
      }
  entry-kept known x (entries.Decided paper decision) within writes knows =
      let e : Entry = entries.Decided paper decision in
      λ i. record (masked (shown e) false (entire stamp e)) {
        decision =
            keeps e part.decision decision_for known.decision decision x.decision within knows.decision
            (λ told. decision-one u T at stamp more e) i;
      }
  entry-kept known x (entries.Responded paper text) within writes knows =
      let e : Entry = entries.Responded paper text in
      λ i. record (masked (shown e) false (entire stamp e)) {
        text =
            keeps e part.text text_for known.text text x.text within knows.text
            (λ told. comment-one u T at stamp more e told) i;
      }
  entry-kept known x e within writes knows = refl
