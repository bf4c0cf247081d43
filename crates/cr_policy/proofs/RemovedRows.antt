-- SPDX-License-Identifier: Apache-2.0 OR MIT
-- What becomes of the rows for an entry, where another one that shows the reader nothing is taken out.
use Rattle.std.proofs.Common.{◌≡◌, ℕ, Bool, true, false, List, [], ◌∷◌, ◌++◌, refl, sym, ap, subst, ◌∙◌, ◌||◌, ◌&&◌}
use Rattle.std.proofs.Common.{eqb}
use Rattle.std.specs.Prelude.{map, not}
use Rattle.std.specs.List.{flat_map, list_any}
use Rattle.std.proofs.Math.Bool.{and_assoc}
use Rattle.std.proofs.lemmas.Bool.{eqb-true, and_parts, or_parts, or_left, true≢false}
use Rattle.std.proofs.lemmas.List.Concat.{flat_map-append}
use Rattle.std.proofs.lemmas.List.Folds.{list_any-append}
use Rattle.cr_base.specs.declared.entry.Entry.{Entry}
use Rattle.cr_base.specs.declared.entry.Entry.TheVariants.{PhaseSet, Submitted, Revised, Uploaded, Reviewed, Decided}
use Rattle.cr_base.specs.declared.entry.Stamp.{Stamp}
use Rattle.cr_base.specs.declared.entry.Stamped.{Stamped}
use Rattle.cr_base.specs.declared.words.Phase.{Phase}
use Rattle.cr_base.specs.declared.words.Phase.TheVariants.{Response}
use Rattle.cr_base.specs.Lists.{given, is_nothing, until}
use Rattle.cr_base.specs.Drawn.{stamped}
use Rattle.cr_base.specs.History.{History, opens, title_told, upload_told, form_told, decision_told}
use Rattle.cr_base.specs.Page.{is_clear_chair, is_clear_external, reads_paper}
use Rattle.cr_base.specs.Phases.{committee_reads_from}
use Rattle.cr_base.specs.Phases.{members_see_papers, authors_read_early_reviews, authors_read_reviews}
use Rattle.cr_base.specs.Phases.{authors_read_decisions}
use Rattle.cr_history.proofs.ListCuts.{until-append, until-before}
use Rattle.cr_policy.specs.Part.{Part}
use Rattle.cr_policy.specs.Triggers.{Reader, Around, Position, position_of, standing_to, members, authors, TriggerRow}
use Rattle.cr_policy.specs.Triggers.{rows, applies_any, none_in, none_alike, published, reads_reviews}
use Rattle.cr_policy.specs.View.{is_seen, rows_at}
use Rattle.cr_policy.proofs.Walk.{is_nothing-append}

-- ---- rows that show the same parts

abbrev applied : List TriggerRow → List Bool
applied rows = map (λ (row : TriggerRow). row.applies) rows

abbrev parts_of : List TriggerRow → List (Part → Bool)
parts_of rows = map (λ (row : TriggerRow). row.parts) rows

-- each applies where the other does
abbrev ApplyAlike : List TriggerRow → List TriggerRow → Type 0
ApplyAlike [] [] = Unit {0}
ApplyAlike (row ∷ rows) (other ∷ others) = (row.applies ≡ other.applies) × ApplyAlike rows others
ApplyAlike _ _ = ⊥

-- they are the same then
alike-rows : (xs ys : List TriggerRow) → parts_of xs ≡ parts_of ys → ApplyAlike xs ys → xs ≡ ys
alike-rows xs ys parts alike = from xs ∙ (λ i. put (applies xs ys alike i) (parts i)) ∙ sym (from ys)
  where
    put : List Bool → List (Part → Bool) → List TriggerRow
    put [] parts = []
    put (b ∷ bs) [] = []
    put (b ∷ bs) (p ∷ parts) = record { applies = b; parts = p } ∷ put bs parts

    from : (xs : List TriggerRow) → xs ≡ put (applied xs) (parts_of xs)
    from [] = refl
    from (row ∷ xs) = ap (λ rest. row ∷ rest) (from xs)

    applies : (xs ys : List TriggerRow) → ApplyAlike xs ys → applied xs ≡ applied ys
    applies [] [] alike = refl
    applies [] (y ∷ ys) alike = absurd alike
    applies (x ∷ xs) [] alike = absurd alike
    applies (x ∷ xs) (y ∷ ys) alike = λ i. alike.0 i ∷ applies xs ys alike.1 i

-- where nothing is shown no row applies
abbrev NoneApplies : List TriggerRow → Type 0
NoneApplies [] = Unit {0}
NoneApplies (row ∷ rows) = (row.applies ≡ false) × NoneApplies rows

none-applies : (xs : List TriggerRow) → applies_any xs ≡ false → NoneApplies xs
none-applies [] h = tt
none-applies (row ∷ xs) h = let parts = or_parts row.applies (applies_any xs) h in (parts.0, none-applies xs parts.1)

-- ---- a place, with the entry and without it

-- what a row asks of a place, with the entry and without it: the same, where the two are of different series (apart);
-- and else it holds without it where it holds with it, or held of the entry itself (gone)
record Stands (apart with without gone : Bool) : Type 0 where
  same : apart ≡ true → with ≡ without
  stays : with ≡ true → without ≡ true
  comes : apart ≡ false → without ≡ true → (with || gone) ≡ true

stands-still : (apart with gone : Bool) → Stands apart with with gone
stands-still apart with gone = record { same = λ _. refl; stays = λ is. is; comes = λ _ is. or_left with gone is }

-- of those behind the place, where the entry stands among them
stands-last : (apart ahead behind gone : Bool) → (apart ≡ false → behind ≡ gone)
    → Stands apart (ahead && (apart && behind)) (ahead && behind) gone
stands-last true ahead behind gone h =
    record { same = λ _. refl; stays = λ is. is; comes = λ no. absurd (true≢false no) }
stands-last false true behind gone h = record {
  same = λ no. absurd (true≢false (sym no));
  stays = λ no. absurd (true≢false (sym no));
  comes = λ _ is. sym (h refl) ∙ is;
}
stands-last false false behind gone h = record {
  same = λ no. absurd (true≢false (sym no));
  stays = λ is. is;
  comes = λ _ no. absurd (true≢false (sym no));
}

-- of those ahead of it
stands-first : (apart ahead behind gone : Bool) → (apart ≡ false → ahead ≡ gone)
    → Stands apart (ahead && (apart && behind)) (ahead && behind) gone
stands-first true ahead behind gone h =
    record { same = λ _. refl; stays = λ is. is; comes = λ no. absurd (true≢false no) }
stands-first false true behind gone h = record {
  same = λ no. absurd (true≢false (sym no));
  stays = λ no. absurd (true≢false (sym no));
  comes = λ _ is. sym (h refl);
}
stands-first false false behind gone h = record {
  same = λ no. absurd (true≢false (sym no));
  stays = λ is. is;
  comes = λ _ no. absurd (true≢false (sym no));
}

-- before the discussion
stands-early : (apart early with without gone early' : Bool) → Stands apart with without gone
    → (apart ≡ false → early ≡ early')
    → Stands apart (early && with) (early && without) (early' && gone)
stands-early apart true with without gone early' s h = record {
  same = s.same;
  stays = s.stays;
  comes = λ no is. ap (λ b. with || (b && gone)) (sym (h no)) ∙ s.comes no is;
}
stands-early apart false with without gone early' s h = record {
  same = λ _. refl;
  stays = λ is. is;
  comes = λ _ no. absurd (true≢false (sym no));
}

-- ---- one row

-- where the same row shows nothing of the entry, it applies alike with the entry and without it
stands-row : (apart with without gone asked : Bool) → Stands apart with without gone
    → (apart ≡ false → (gone && asked) ≡ false)
    → (with && asked) ≡ (without && asked)
stands-row true with without gone asked s h = ap (λ b. b && asked) (s.same refl)
stands-row false with without gone asked s h = by with without gone asked s.stays (s.comes refl) (h refl)
  where
    by : (with without gone asked : Bool) → (with ≡ true → without ≡ true) → (without ≡ true → (with || gone) ≡ true)
        → (gone && asked) ≡ false
        → (with && asked) ≡ (without && asked)
    by true true gone asked stays comes none = refl
    by false false gone asked stays comes none = refl
    by true false gone asked stays comes none = absurd (true≢false (sym (stays refl)))
    by false true true asked stays comes none = sym none
    by false true false asked stays comes none = absurd (true≢false (sym (comes refl)))

stands-row_both : (apart with without gone a b : Bool) → Stands apart with without gone
    → (apart ≡ false → (gone && a && b) ≡ false)
    → (with && a && b) ≡ (without && a && b)
stands-row_both apart with without gone a b s h =
    and_assoc with a b
    ∙ stands-row apart with without gone (a && b) s (λ no. sym (and_assoc gone a b) ∙ h no)
    ∙ sym (and_assoc without a b)

-- the same of a row that asks three things
stands-row_all : (apart with without gone a b c : Bool) → Stands apart with without gone
    → (apart ≡ false → (gone && a && b && c) ≡ false)
    → (with && a && b && c) ≡ (without && a && b && c)
stands-row_all apart with without gone a b c s h =
    grouped with ∙ stands-row apart with without gone (a && b && c) s (λ no. sym (grouped gone) ∙ h no)
    ∙ sym (grouped without)
  where
    grouped : (x : Bool) → (x && a && b && c) ≡ (x && (a && b && c))
    grouped true = refl
    grouped false = refl

-- of forms that are discussed, the last before the discussion and all that came in it
stands-row_discussed : (apart with without gone since asked gone_since : Bool) → Stands apart with without gone
    → (apart ≡ false → ((gone || gone_since) && asked) ≡ false)
    → ((with || since) && asked) ≡ ((without || since) && asked)
stands-row_discussed true with without gone since asked gone_since s h = ap (λ b. (b || since) && asked) (s.same refl)
stands-row_discussed false with without gone since asked gone_since s h =
    by with without gone since asked gone_since s.stays (s.comes refl) (h refl)
  where
    by : (with without gone since asked gone_since : Bool) → (with ≡ true → without ≡ true)
        → (without ≡ true → (with || gone) ≡ true)
        → ((gone || gone_since) && asked) ≡ false → ((with || since) && asked) ≡ ((without || since) && asked)
    by true true gone since asked gone_since stays comes none = refl
    by false false gone since asked gone_since stays comes none = refl
    by true false gone since asked gone_since stays comes none = absurd (true≢false (sym (stays refl)))
    by false true true true asked gone_since stays comes none = refl
    by false true true false asked gone_since stays comes none = sym none
    by false true false since asked gone_since stays comes none = absurd (true≢false (sym (comes refl)))

-- ---- entries of one series

none_in-append : {A : Type 0} (told : Entry → List A) (H G : History)
    → none_in told (H ++ G) ≡ (none_in told H && none_in told G)
none_in-append told H G =
    ap is_nothing (flat_map-append (λ (e : Stamped). told e.entry) H G)
    ∙ is_nothing-append (flat_map (λ (e : Stamped). told e.entry) H) (flat_map (λ (e : Stamped). told e.entry) G)

none_alike-append : (e : Entry) (H G : History) → none_alike e (H ++ G) ≡ (none_alike e H && none_alike e G)
none_alike-append (Submitted paper title abstract) H G = none_in-append (title_told paper) H G
none_alike-append (Revised paper title abstract) H G = none_in-append (title_told paper) H G
none_alike-append (Uploaded paper version content) H G = none_in-append (upload_told paper) H G
none_alike-append (Reviewed paper ordinal version form) H G = none_in-append (form_told paper ordinal) H G
none_alike-append (Decided paper decision) H G = none_in-append (decision_told paper) H G
none_alike-append e H G = refl

-- with the entry among them and without it
none_alike-with : (e : Entry) (gone : Stamped) (H G : History)
    → none_alike e (H ++ gone ∷ G) ≡ (none_alike e H && (none_alike e (gone ∷ []) && none_alike e G))
none_alike-with e gone H G =
    none_alike-append e H (gone ∷ G) ∙ ap (λ b. none_alike e H && b) (none_alike-append e (gone ∷ []) G)

-- what tells of a paper names it
on_paper : {A : Type 0} (b : Bool) (x : A) → is_nothing (given b x ++ []) ≡ false → b ≡ true
on_paper true x h = refl
on_paper false x h = absurd (true≢false h)

-- whatever is of one series with the entry is of one series with what the entry is
titles-alike : (p : ℕ) (e : Entry) (H : History) → is_nothing (title_told p e ++ []) ≡ false
    → none_in (title_told p) H ≡ none_alike e H
titles-alike p (Submitted paper title abstract) H h =
    ap (λ q. none_in (title_told q) H) (sym (eqb-true paper p (on_paper (eqb paper p) title h)))
titles-alike p (Revised paper title abstract) H h =
    ap (λ q. none_in (title_told q) H) (sym (eqb-true paper p (on_paper (eqb paper p) title h)))
titles-alike p e H h = absurd (true≢false h)

uploads-alike : (p : ℕ) (e : Entry) (H : History) → is_nothing (upload_told p e ++ []) ≡ false
    → none_in (upload_told p) H ≡ none_alike e H
uploads-alike p (Uploaded paper version content) H h =
    ap (λ q. none_in (upload_told q) H) (sym (eqb-true paper p (on_paper (eqb paper p) _ h)))
uploads-alike p e H h = absurd (true≢false h)

forms-alike : (p o : ℕ) (e : Entry) (H : History) → is_nothing (form_told p o e ++ []) ≡ false
    → none_in (form_told p o) H ≡ none_alike e H
forms-alike p o (Reviewed paper ordinal version form) H h =
    let both = and_parts (eqb paper p) (eqb ordinal o) (on_paper (eqb paper p && eqb ordinal o) _ h) in
    λ i. none_in (form_told (sym (eqb-true paper p both.0) i) (sym (eqb-true ordinal o both.1) i)) H
forms-alike p o e H h = absurd (true≢false h)

decisions-alike : (p : ℕ) (e : Entry) (H : History) → is_nothing (decision_told p e ++ []) ≡ false
    → none_in (decision_told p) H ≡ none_alike e H
decisions-alike p (Decided paper decision) H h =
    ap (λ q. none_in (decision_told q) H) (sym (eqb-true paper p (on_paper (eqb paper p) decision h)))
decisions-alike p e H h = absurd (true≢false h)

none_alike-alike : (e : Entry) (gone : Stamped) (H : History) → none_alike e (gone ∷ []) ≡ false
    → none_alike e H ≡ none_alike gone.entry H
none_alike-alike (Submitted paper title abstract) gone H h = titles-alike paper gone.entry H h
none_alike-alike (Revised paper title abstract) gone H h = titles-alike paper gone.entry H h
none_alike-alike (Uploaded paper version content) gone H h = uploads-alike paper gone.entry H h
none_alike-alike (Reviewed paper ordinal version form) gone H h = forms-alike paper ordinal gone.entry H h
none_alike-alike (Decided paper decision) gone H h = decisions-alike paper gone.entry H h
none_alike-alike e gone H h = absurd (true≢false h)

-- the entry opens this phase
abbrev opens_at : Phase → Stamped → Bool
opens_at first e = opens first e.entry

-- an entry that sets a phase is of no series
no-opening : (first : Phase) (e : Stamped) (gone : Stamped) → none_alike e.entry (gone ∷ []) ≡ false
    → opens_at first e ≡ false
no-opening first e gone = of e.entry
  where
    of : (entry : Entry) → none_alike entry (gone ∷ []) ≡ false → opens_at first (stamped e.stamp e.more entry) ≡ false
    of (PhaseSet phase) h = absurd (true≢false h)
    of entry h = refl

-- nor does one that shows nothing
pub unseen-opens : (first : Phase) (r : Reader) (at : Around) (e : Stamped) → is_seen r at e ≡ false
    → opens first e.entry ≡ false
unseen-opens first r at e = of e.entry
  where
    of : (entry : Entry) → is_seen r at (stamped e.stamp e.more entry) ≡ false → opens first entry ≡ false
    of (PhaseSet phase) h = absurd (true≢false h)
    of entry h = refl

-- ---- the rows for one entry

-- the positions of an entry with the other and without it, beside that of the other
pub record Moved (apart : Bool) (with without gone : Position) : Type 0 where
  first : Stands apart with.first without.first gone.first
  last : Stands apart with.last without.last gone.last
  response : Stands apart with.last_before_response without.last_before_response gone.last_before_response
  early : Stands apart with.last_before_discussion without.last_before_discussion gone.last_before_discussion
  late : with.from_discussion ≡ without.from_discussion

-- none of these rows applies to an entry that gives a paper texts and shows nothing; it is the last of its series, or
-- it isn't
record SilentTexts (r : Reader) (last : Bool) (p : ℕ) : Type 0 where
  title : (last && members r && members_see_papers r.now) ≡ false
  external : (last && is_clear_external (standing_to r p) && members_see_papers r.now) ≡ false
  abstract : (last && reads_paper (standing_to r p) && members_see_papers r.now) ≡ false
  accepted : (last && r.accepted p) ≡ false
  published : (last && published r p) ≡ false

record SilentUpload (r : Reader) (last : Bool) (p : ℕ) : Type 0 where
  content : (last && reads_paper (standing_to r p) && members_see_papers r.now) ≡ false
  published : (last && published r p) ≡ false

record SilentForm (r : Reader) (place : Position) (p : ℕ) : Type 0 where
  done : (place.first && is_clear_chair (standing_to r p)) ≡ false
  discussed : ((place.last_before_discussion || place.from_discussion) && reads_reviews r p) ≡ false
  responded : (place.last_before_response && r.had_response && authors r p && authors_read_early_reviews r.now) ≡ false
  told : (place.last && authors r p && authors_read_reviews r.now) ≡ false

record SilentDecision (r : Reader) (last : Bool) (p : ℕ) : Type 0 where
  outcome : (last && authors r p && authors_read_decisions r.now) ≡ false
  accepted : (last && r.accepted p) ≡ false

module _ (r : Reader) (at : Around) (stamp : Stamp) (more : Bool) where
  silent-texts : (p : ℕ) (e : Entry) → is_seen r at (stamped stamp more e) ≡ false
      → is_nothing (title_told p e ++ []) ≡ false
      → SilentTexts r (none_alike e at.after) p
  silent-texts p (Submitted paper title abstract) unseen told = absurd (true≢false unseen)
  silent-texts p (Revised paper title abstract) unseen told =
      let none = none-applies (rows_at r at (stamped stamp more (Revised paper title abstract))) unseen in
      subst (λ q. SilentTexts r (none_alike (Revised paper title abstract) at.after) q)
      (eqb-true paper p (on_paper (eqb paper p) title told))
      (record {
        title = none.1.0;
        external = none.1.1.0;
        abstract = none.1.1.1.0;
        accepted = none.1.1.1.1.0;
        published = none.1.1.1.1.1.0;
      })
  silent-texts p e unseen told = absurd (true≢false told)

  silent-upload : (p : ℕ) (e : Entry) → is_seen r at (stamped stamp more e) ≡ false
      → is_nothing (upload_told p e ++ []) ≡ false
      → SilentUpload r (none_alike e at.after) p
  silent-upload p (Uploaded paper version content) unseen told =
      let none = none-applies (rows_at r at (stamped stamp more (Uploaded paper version content))) unseen in
      subst (λ q. SilentUpload r (none_alike (Uploaded paper version content) at.after) q)
      (eqb-true paper p (on_paper (eqb paper p) _ told))
      (record { content = none.1.0; published = none.1.1.0 })
  silent-upload p e unseen told = absurd (true≢false told)

  silent-form : (p o : ℕ) (e : Entry) → is_seen r at (stamped stamp more e) ≡ false
      → is_nothing (form_told p o e ++ []) ≡ false
      → SilentForm r (position_of at e) p
  silent-form p o (Reviewed paper ordinal version form) unseen told =
      let none = none-applies (rows_at r at (stamped stamp more (Reviewed paper ordinal version form))) unseen in
      let both = and_parts (eqb paper p) (eqb ordinal o) (on_paper (eqb paper p && eqb ordinal o) _ told) in
      subst (λ q. SilentForm r (position_of at (Reviewed paper ordinal version form)) q) (eqb-true paper p both.0)
      (record { done = none.0; discussed = none.1.0; responded = none.1.1.0; told = none.1.1.1.0 })
  silent-form p o e unseen told = absurd (true≢false told)

  silent-decision : (p : ℕ) (e : Entry) → is_seen r at (stamped stamp more e) ≡ false
      → is_nothing (decision_told p e ++ []) ≡ false
      → SilentDecision r (none_alike e at.after) p
  silent-decision p (Decided paper decision) unseen told =
      let none = none-applies (rows_at r at (stamped stamp more (Decided paper decision))) unseen in
      subst (λ q. SilentDecision r (none_alike (Decided paper decision) at.after) q)
      (eqb-true paper p (on_paper (eqb paper p) decision told))
      (record { outcome = none.1.0; accepted = none.1.1.0 })
  silent-decision p e unseen told = absurd (true≢false told)

module _ (r : Reader) (at : Around) (gone : Stamped) (unseen : is_seen r at gone ≡ false)
    (with without : Position) where
  abbrev place : Position
  place = position_of at gone.entry

  abbrev bidding : Bool
  bidding = members_see_papers r.now

  -- the rows that ask whether texts are the paper's last apply alike with the entry and without it
  record MovedTexts (p : ℕ) : Type 0 where
    title : (with.last && members r && members_see_papers r.now)
        ≡ (without.last && members r && members_see_papers r.now)
    external : (with.last && is_clear_external (standing_to r p) && members_see_papers r.now)
        ≡ (without.last && is_clear_external (standing_to r p) && members_see_papers r.now)
    abstract : (with.last && reads_paper (standing_to r p) && members_see_papers r.now)
        ≡ (without.last && reads_paper (standing_to r p) && members_see_papers r.now)
    accepted : (with.last && r.accepted p) ≡ (without.last && r.accepted p)
    published : (with.last && published r p) ≡ (without.last && published r p)

  moved-texts : (p : ℕ) → Moved (none_in (title_told p) (gone ∷ [])) with without place → MovedTexts p
  moved-texts p moved =
      let apart : Bool = none_in (title_told p) (gone ∷ []) in
      let silent = silent-texts r at gone.stamp gone.more p gone.entry unseen in
      record {
        title = stands-row_both apart with.last without.last place.last (members r) bidding moved.last
            (λ no. (silent no).title);
        external = stands-row_both apart with.last without.last place.last (is_clear_external (standing_to r p)) bidding
            moved.last (λ no. (silent no).external);
        abstract = stands-row_both apart with.last without.last place.last (reads_paper (standing_to r p)) bidding
            moved.last (λ no. (silent no).abstract);
        accepted =
            stands-row apart with.last without.last place.last (r.accepted p) moved.last (λ no. (silent no).accepted);
        published =
            stands-row apart with.last without.last place.last (published r p) moved.last (λ no. (silent no).published);
      }

  -- and so do all rows for any entry
  pub moved-rows : (by : ℕ) (e : Entry) → Moved (none_alike e (gone ∷ [])) with without place
      → rows r with by e ≡ rows r without by e
  moved-rows by (Submitted paper title abstract) moved =
      let texts = moved-texts paper moved in
      alike-rows _ _ refl (
        refl,
        (
          refl,
          (
            texts.title,
            (texts.external, (texts.abstract, (refl, (refl, (refl, (texts.accepted, (texts.published, tt))))))),
          ),
        ),
      )
  moved-rows by (Revised paper title abstract) moved =
      let texts = moved-texts paper moved in
      alike-rows _ _ refl
      (refl, (texts.title, (texts.external, (texts.abstract, (texts.accepted, (texts.published, tt))))))
  moved-rows by (Uploaded paper version content) moved =
      let apart : Bool = none_in (upload_told paper) (gone ∷ []) in
      let silent = silent-upload r at gone.stamp gone.more paper gone.entry unseen in
      alike-rows _ _ refl (
        refl,
        (
          stands-row_both apart with.last without.last place.last (reads_paper (standing_to r paper)) bidding moved.last
              (λ no. (silent no).content),
          (
            stands-row apart with.last without.last place.last (published r paper) moved.last
                (λ no. (silent no).published),
            tt,
          ),
        ),
      )
  moved-rows by (Reviewed paper ordinal version form) moved =
      let apart : Bool = none_in (form_told paper ordinal) (gone ∷ []) in
      let silent = silent-form r at gone.stamp gone.more paper ordinal gone.entry unseen in
      alike-rows _ _ refl (
        stands-row apart with.first without.first place.first (is_clear_chair (standing_to r paper)) moved.first
            (λ no. (silent no).done),
        (
          stands-row_discussed apart with.last_before_discussion without.last_before_discussion
              place.last_before_discussion with.from_discussion (reads_reviews r paper) place.from_discussion
              moved.early
              (λ no. (silent no).discussed)
              ∙ (λ i. (without.last_before_discussion || moved.late i) && reads_reviews r paper),
          (
            stands-row_all apart with.last_before_response without.last_before_response place.last_before_response
                r.had_response (authors r paper) (authors_read_early_reviews r.now) moved.response
                (λ no. (silent no).responded),
            (
              stands-row_both apart with.last without.last place.last (authors r paper) (authors_read_reviews r.now)
                  moved.last (λ no. (silent no).told),
              tt,
            ),
          ),
        ),
      )
  moved-rows by (Decided paper decision) moved =
      let apart : Bool = none_in (decision_told paper) (gone ∷ []) in
      let silent = silent-decision r at gone.stamp gone.more paper gone.entry unseen in
      alike-rows _ _ refl (
        refl,
        (
          stands-row_both apart with.last without.last place.last (authors r paper) (authors_read_decisions r.now)
              moved.last (λ no. (silent no).outcome),
          (
            stands-row apart with.last without.last place.last (r.accepted paper) moved.last
                (λ no. (silent no).accepted),
            tt,
          ),
        ),
      )
  moved-rows by e moved = refl

-- ---- where an entry stands, with the other and without it

-- ahead of it
pub moved-ahead : (r : Reader) (b between post : History) (e gone : Stamped)
    → is_seen r (record { before = b ++ e ∷ between; after = post }) gone ≡ false
    → Moved (none_alike e.entry (gone ∷ []))
    (position_of (record { before = b; after = between ++ gone ∷ post }) e.entry)
    (position_of (record { before = b; after = between ++ post }) e.entry)
    (position_of (record { before = b ++ e ∷ between; after = post }) gone.entry)
moved-ahead r b between post e gone unseen = record {
  first = stands-still apart _ _;
  last =
      subst (λ (with : Bool). Stands apart with (none_alike e.entry (between ++ post)) (none_alike gone.entry post))
      (sym (none_alike-with e.entry gone between post))
      (subst (λ (without : Bool). Stands apart (none_alike e.entry between && (apart && none_alike e.entry post))
      without (none_alike gone.entry post)) (sym (none_alike-append e.entry between post))
      (stands-last apart (none_alike e.entry between) (none_alike e.entry post) (none_alike gone.entry post)
      (none_alike-alike e.entry gone post)));
  response = early Response (list_any (opens_at Response) between) refl;
  early = early committee_reads_from (list_any (opens_at committee_reads_from) between) refl;
  late = refl;
}
  where
    apart : Bool
    apart = none_alike e.entry (gone ∷ [])

    -- before a phase is opened
    early : (first : Phase) (opened : Bool) → list_any (opens_at first) between ≡ opened
        → Stands apart
        (not (list_any (opens_at first) b) && none_alike e.entry (until (opens_at first) (between ++ gone ∷ post)))
        (not (list_any (opens_at first) b) && none_alike e.entry (until (opens_at first) (between ++ post)))
        (not (list_any (opens_at first) (b ++ e ∷ between)) && none_alike gone.entry (until (opens_at first) post))
    early first opened is = by opened is
      where
        test : Stamped → Bool
        test = opens_at first

        early-with : Bool
        early-with = not (list_any test b)

        gone-early : Bool
        gone-early = not (list_any test (b ++ e ∷ between))

        gone-last : Bool
        gone-last = none_alike gone.entry (until test post)

        or-false : (a : Bool) → a ≡ (a || false)
        or-false true = refl
        or-false false = refl

        not_opened : list_any test between ≡ false → apart ≡ false → list_any test b ≡ list_any test (b ++ e ∷ between)
        not_opened none one =
            or-false (list_any test b)
            ∙ (λ i. list_any test b || (sym (no-opening first e gone one) i || sym none i))
            ∙ sym (list_any-append test b (e ∷ between))

        by : (opened : Bool) → list_any test between ≡ opened → Stands apart
            (early-with && none_alike e.entry (until test (between ++ gone ∷ post)))
            (early-with && none_alike e.entry (until test (between ++ post)))
            (gone-early && gone-last)
        by true is =
            subst (λ (with : History). Stands apart (early-with && none_alike e.entry with)
            (early-with && none_alike e.entry (until test (between ++ post))) (gone-early && gone-last))
            (sym (until-before test between (gone ∷ post) is))
            (subst (λ (without : History). Stands apart (early-with && none_alike e.entry (until test between))
            (early-with && none_alike e.entry without) (gone-early && gone-last))
            (sym (until-before test between post is))
            (stands-still apart (early-with && none_alike e.entry (until test between)) (gone-early && gone-last)))
        by false is =
            let cut = until test post in
            let opened_cut : until test (between ++ gone ∷ post) ≡ between ++ gone ∷ cut =
            until-append test between (gone ∷ post) is
            ∙ ap (λ rest. between ++ rest) (until-append test (gone ∷ []) post
            (ap (λ b. b || false) (unseen-opens first r _ gone unseen))) in
            let stood : Stands apart (none_alike e.entry between && (apart && none_alike e.entry cut))
            (none_alike e.entry between && none_alike e.entry cut) gone-last =
            stands-last apart (none_alike e.entry between) (none_alike e.entry cut) gone-last
            (none_alike-alike e.entry gone cut) in
            let all_early =
            stands-early apart early-with _ _ gone-last gone-early stood (λ no. ap not (not_opened is no)) in
            subst (λ (with : Bool). Stands apart (early-with && with)
            (early-with && none_alike e.entry (until test (between ++ post))) (gone-early && gone-last))
            (sym (ap (none_alike e.entry) opened_cut ∙ none_alike-with e.entry gone between cut))
            (subst (λ (without : Bool). Stands apart
            (early-with && (none_alike e.entry between && (apart && none_alike e.entry cut)))
            (early-with && without) (gone-early && gone-last))
            (sym (ap (none_alike e.entry) (until-append test between post is) ∙ none_alike-append e.entry between
            cut)) all_early)

-- behind it
pub moved-behind : (r : Reader) (front between post : History) (e gone : Stamped)
    → is_seen r (record { before = front; after = between ++ e ∷ post }) gone ≡ false
    → Moved (none_alike e.entry (gone ∷ []))
    (position_of (record { before = front ++ gone ∷ between; after = post }) e.entry)
    (position_of (record { before = front ++ between; after = post }) e.entry)
    (position_of (record { before = front; after = between ++ e ∷ post }) gone.entry)
moved-behind r front between post e gone unseen = record {
  first =
      subst (λ (with : Bool). Stands apart with (none_alike e.entry (front ++ between)) (none_alike gone.entry front))
      (sym (none_alike-with e.entry gone front between))
      (subst (λ (without : Bool). Stands apart (none_alike e.entry front && (apart && none_alike e.entry between))
      without (none_alike gone.entry front)) (sym (none_alike-append e.entry front between))
      (stands-first apart (none_alike e.entry front) (none_alike e.entry between) (none_alike gone.entry front)
      (none_alike-alike e.entry gone front)));
  last = stands-still apart _ _;
  response = early Response;
  early = early committee_reads_from;
  late = opened committee_reads_from;
}
  where
    apart : Bool
    apart = none_alike e.entry (gone ∷ [])

    opened : (first : Phase) → list_any (opens_at first) (front ++ gone ∷ between) ≡ list_any (opens_at first)
        (front ++ between)
    opened first =
        list_any-append (opens_at first) front (gone ∷ between)
        ∙ (λ i. list_any (opens_at first) front ||
        (unseen-opens first r _ gone unseen i || list_any (opens_at first) between))
        ∙ sym (list_any-append (opens_at first) front between)

    -- before a phase is opened
    early : (first : Phase) → Stands apart
        (not (list_any (opens_at first) (front ++ gone ∷ between)) && none_alike e.entry (until (opens_at first) post))
        (not (list_any (opens_at first) (front ++ between)) && none_alike e.entry (until (opens_at first) post))
        (not (list_any (opens_at first) front) && none_alike gone.entry (until (opens_at first) (between ++ e ∷ post)))
    early first =
        let gone-early : Bool = not (list_any (opens_at first) front) && none_alike gone.entry
        (until (opens_at first) (between ++ e ∷ post)) in
        let rest : Bool = none_alike e.entry (until (opens_at first) post) in
        let without : Bool = not (list_any (opens_at first) (front ++ between)) && rest in
        subst (λ (opened : Bool). Stands apart (not opened && rest) without gone-early) (sym (opened first))
        (stands-still apart without gone-early)
