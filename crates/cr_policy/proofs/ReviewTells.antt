-- SPDX-License-Identifier: Apache-2.0 OR MIT
-- What a view says of a paper's reviews is what the history says, where the reader's standing tells them.
use Rattle.std.proofs.Common.{◌≡◌, ℕ, Bool, true, false, cond, List, [], ◌∷◌, ◌++◌, refl, sym, ap, ◌∙◌, ◌||◌, ◌&&◌}
use Rattle.std.proofs.Common.{Option, Some, None, arith}
use Rattle.std.specs.Prelude.{map, not, unwrap_or}
use Rattle.std.specs.List.{flat_map, list_any}
use Rattle.std.proofs.lemmas.Bool.{or_right}
use Rattle.std.proofs.lemmas.List.{map-append}
use Rattle.cr_base.specs.declared.entry.Entry.TheVariants.{Reviewed}
use Rattle.cr_base.specs.declared.entry.Stamped.{Stamped}
use Rattle.cr_base.specs.declared.form.Form.{Form}
use Rattle.cr_base.specs.declared.reply.AccountLine.{AccountLine}
use Rattle.cr_base.specs.declared.review.ReviewLine.{ReviewLine}
use Rattle.cr_base.specs.declared.standing.Standing.{Standing}
use Rattle.cr_base.specs.declared.words.Phase.TheVariants.{Response}
use Rattle.cr_base.specs.Answering.{review_told}
use Rattle.cr_base.specs.Lists.{is_nothing, last, last_from, last_or, listed, since, until}
use Rattle.cr_base.specs.Drawn.{stamped}
use Rattle.cr_base.specs.History.{History, FormTold, form_told, own_form_told, opens_discussion, opens_response}
use Rattle.cr_base.specs.History.{whole_form}
use Rattle.cr_base.specs.HistoryFacts.{standing_of, forms_of, last_form_of, early_form_of, had_response_of}
use Rattle.cr_base.specs.HistoryFacts.{forms_discussed_of, own_forms_of, is_written}
use Rattle.cr_base.specs.Page.{is_clear_member, is_clear_chair, where_told}
use Rattle.cr_base.specs.Phases.{committee_reads_from}
use Rattle.cr_base.specs.Phases.{members_read_reviews, authors_read_early_reviews, authors_read_reviews}
use Rattle.cr_policy.specs.Part as part
use Rattle.cr_policy.specs.Triggers.{Reader, reader, Around, position_of, reads_reviews, user_named, standing_to}
use Rattle.cr_policy.specs.View.{view}
use Rattle.cr_policy.specs.ViewFacts.{only, form_seen, own_form_seen, done_seen, discussion_seen, opening_response_seen}
use Rattle.cr_policy.specs.ViewFacts.{last_form_in_view, early_form_in_view, forms_discussed_in_view, own_forms_in_view}
use Rattle.cr_policy.specs.ViewFacts.{is_written_in_view}
use Rattle.cr_policy.proofs.Cuts.{opening_cuts, kept_until, sights_until-as, sights_since-as, last_from-kept_until}
use Rattle.cr_policy.proofs.Cuts.{kept_since-all}
use Rattle.cr_policy.proofs.FormTells.{masked_form, ShowsForm, form_tells, form_kept, own_form_tells, done_tells}
use Rattle.cr_policy.proofs.StandingLaws.{had_response-seen}
use Rattle.cr_policy.proofs.Tells.{passes}
use Rattle.cr_policy.proofs.Walk.{kept, kept-map, sights-all, sights-kept, is_nothing-kept, last-same, last_as}

-- ---- the reader's own

pub own_forms-seen : (u : Option ℕ) (p : ℕ) (H : History) → own_forms_in_view p (view u H) ≡ own_forms_of u p H
own_forms-seen u p H = sights-all (reader u H) (own_form_seen p)
    (λ (e : Stamped). own_form_told u p e.stamp.maker e.entry) (own_form_tells (reader u H) p) [] H

-- ---- whether there is a form

-- some marks are a mark
marked : {A : Type 0} (xs : List A) → last_or false (map (λ _. true) xs) ≡ not (is_nothing xs)
marked [] = refl
marked {A} (x ∷ xs) = from xs
  where
    from : (xs : List A) → unwrap_or (last_from (Some true) (map (λ _. true) xs)) false ≡ true
    from [] = refl
    from (x ∷ xs) = from xs

-- a clear chair sees of each label whether it has one
pub written-seen : (u : Option ℕ) (p o : ℕ) (H : History) → is_clear_chair (standing_of u (Some p) H) ≡ true
    → is_written_in_view p o (view u H) ≡ is_written p o H
written-seen u p o H told =
    ap (last_or false)
    (sights-kept r (done_seen p o) (λ (e : Stamped). map (λ _. true) (forms e)) (passes part.done r) (done_tells r p o)
    [] H
    ∙ kept-map (λ _. true) (passes part.done r) forms [] H)
    ∙ marked (kept (passes part.done r) forms [] H)
    ∙ ap not
    (is_nothing-kept (passes part.done r) forms
    (λ at e none. form_kept part.done r at p o
    (λ stamp more version form. shown (is_nothing (flat_map forms at.before)) (is_clear_chair (standing_to r p)) none
    told) e) [] H refl)
  where
    r : Reader
    r = reader u H

    forms : Stamped → List FormTold
    forms e = form_told p o e.entry

    shown : (first chair : Bool) → first ≡ true → chair ≡ true → ((first && chair) || false) ≡ true
    shown first chair hf hc = grind arith

-- ---- the forms, as some are told them

-- a form is told alike where its version and its text for the committee are alike, for one who is told these
told_alike : (by : Standing) (accounts : List AccountLine) (named : Bool) (user : Option ℕ) (label : ℕ) (whole : Bool)
    (version : ℕ) (form : Form)
    → (not by.author ≡ true → whole ≡ true)
    → review_told by accounts named user label (masked_form whole version form) ≡ review_told by accounts named user
    label (whole_form version form)
told_alike by accounts named user label whole version form same = from (not by.author) whole same
  where
    line : Bool → Bool → ReviewLine
    line member whole = record {
      confidence = form.confidence;
      label = label;
      score = form.score;
      to_authors = form.to_authors;
      to_pc = where_told member (masked_form whole version form).to_pc;
      user = (review_told by accounts named user label (whole_form version form)).user;
      version = where_told member (masked_form whole version form).version;
    }

    from : (member whole : Bool) → (member ≡ true → whole ≡ true) → line member whole ≡ line member true
    from true whole h = ap (line true) (h refl)
    from false true h = refl
    from false false h = refl

module _ (u : Option ℕ) (p : ℕ) (H : History) (accounts : List AccountLine) (named : Bool) (user : Option ℕ)
    (o : ℕ) where
  abbrev by : Standing
  by = standing_of u (Some p) H

  abbrev r : Reader
  r = reader u H

  abbrev tell : FormTold → ReviewLine
  tell = review_told by accounts named user o

  abbrev told : Stamped → List FormTold
  told e = form_told p o e.entry

  -- what the rows ask of a form: that it is among those that are discussed, and she reads these; and that it is the
  -- last before the response, which was opened
  abbrev reads_at : Around → ℕ → ℕ → Form → Bool
  reads_at at ordinal version form =
      ((position_of at (Reviewed p ordinal version form)).last_before_discussion
      || (position_of at (Reviewed p ordinal version form)).from_discussion)
      && reads_reviews r p

  abbrev is_early_at : Around → ℕ → ℕ → Form → Bool
  is_early_at at ordinal version form =
      (position_of at (Reviewed p ordinal version form)).last_before_response && r.had_response

  -- whoever isn't an author is shown all of a form or no grade of it
  shows-form : (at : Around) → ShowsForm tell r at p
  shows-form at stamp more ordinal version form graded =
      told_alike by accounts named user o (passes part.version r at
      (stamped stamp more (Reviewed p ordinal version form))) version form
      (λ member.
      whole (reads_at at ordinal version form) (is_early_at at ordinal version form)
      (authors_read_early_reviews by.phase)
      (position_of at (Reviewed p ordinal version form)).last by.author (authors_read_reviews by.phase)
      (user_named r stamp.maker) member graded)
    where
      whole : (d h e n a f own : Bool) → not a ≡ true
          → (d || ((h && a && e) || ((n && a && f) || (own || false)))) ≡ true → (d || (own || false)) ≡ true
      whole d h e n a f own hn is = grind (arith, hn, is)

  -- an author sees the last form of each label from the notification on
  pub last_form-seen : by.author ≡ true → authors_read_reviews by.phase ≡ true
      → map tell (listed (last_form_in_view p o (view u H))) ≡ map tell (listed (last_form_of p o H))
  last_form-seen author notified =
      last_as tell r (form_seen p o) told (passes part.score r) (form_tells tell r p o shows-form)
      (λ at e last. form_kept part.score r at p o
      (λ stamp more version form.
      shown (reads_at at o version form) (is_early_at at o version form && by.author && authors_read_early_reviews
      by.phase)
      (is_nothing (flat_map told at.after)) by.author (authors_read_reviews by.phase) (user_named r stamp.maker) last
      author notified) e) [] H
    where
      shown : (d e n a f own : Bool) → n ≡ true → a ≡ true → f ≡ true
          → (d || (e || ((n && a && f) || (own || false)))) ≡ true
      shown d e n a f own hn ha hf = grind (arith, hn, ha, hf)

  -- and from the response on, where it was opened, the last that was written before it
  pub early_form-seen : by.author ≡ true → authors_read_early_reviews by.phase ≡ true
      → map tell (listed (early_form_in_view p o (view u H))) ≡ map tell (listed (early_form_of p o H))
  early_form-seen author responding =
      ap
      (λ (opened : Bool).
      map tell
      (listed (cond opened (last (flat_map (form_seen p o) (until opening_response_seen (view u H)))) None)))
      (had_response-seen u H)
      ∙ from (had_response_of H) refl
    where
      shown : (d opened n had a f rest : Bool) → opened ≡ false → n ≡ true → had ≡ true → a ≡ true → f ≡ true
          → (d || (((not opened && n) && had && a && f) || rest)) ≡ true
      shown d opened n had a f rest ho hn hh ha hf = grind (arith, ho, hn, hh, ha, hf)

      from : (opened : Bool) → had_response_of H ≡ opened
          → map tell
          (listed (cond opened (last (flat_map (form_seen p o) (until opening_response_seen (view u H)))) None))
          ≡ map tell (listed (cond opened (last (forms_of p o (until opens_response H))) None))
      from true had =
          last-same tell (flat_map (form_seen p o) (until opening_response_seen (view u H)))
          (kept_until opens_response (passes part.score r) told [] H)
          (forms_of p o (until opens_response H))
          (sights_until-as tell opens_response (passes part.score r) told r opening_response_seen
          (opening_cuts r Response) (form_seen p o)
          (form_tells tell r p o shows-form) [] H)
          (last_from-kept_until opens_response (passes part.score r) told
          (λ at e opened none. form_kept part.score r at p o (λ stamp more version form.
          shown (reads_at at o version form) (list_any opens_response at.before)
          (is_nothing (flat_map told (until opens_response at.after)))
          (had_response_of H) by.author (authors_read_early_reviews by.phase)
          (((position_of at (Reviewed p o version form)).last && by.author && authors_read_reviews by.phase)
          || (user_named r stamp.maker || false))
          opened none had author responding) e) None [] H refl)
      from false had = refl

  -- who discusses the paper sees of each label's forms the last before the discussion, and all later ones
  module _ (clear : is_clear_member by ≡ true) (discussed : members_read_reviews by.phase ≡ true) where
    -- an entry that stands so is shown
    kept_at : (at : Around) (e : Stamped) (none : Bool)
        → none ≡ is_nothing (flat_map told (until opens_discussion at.after))
        → ((not (list_any opens_discussion at.before) && none) || list_any opens_discussion at.before) ≡ true
        → only (passes part.score r at e) (told e) ≡ told e
    kept_at at e none is placed =
        form_kept part.score r at p o (λ stamp more version form.
        shown (list_any opens_discussion at.before) none _ (is_clear_member by) (members_read_reviews by.phase) _ is
        placed clear discussed) e
      where
        shown : (opened none n c d rest : Bool) → none ≡ n → ((not opened && none) || opened) ≡ true → c ≡ true
            → d ≡ true
            → ((((not opened && n) || opened) && (c && d)) || rest) ≡ true
        shown opened none n c d rest hn hp hc hd = grind arith

    earlier : map tell (listed (last (flat_map (form_seen p o) (until discussion_seen (view u H)))))
        ≡ map tell (listed (last (forms_of p o (until opens_discussion H))))
    earlier =
        last-same tell (flat_map (form_seen p o) (until discussion_seen (view u H)))
        (kept_until opens_discussion (passes part.score r) told [] H)
        (forms_of p o (until opens_discussion H))
        (sights_until-as tell opens_discussion (passes part.score r) told r discussion_seen
        (opening_cuts r committee_reads_from) (form_seen p o)
        (form_tells tell r p o shows-form) [] H)
        (last_from-kept_until opens_discussion (passes part.score r) told
        (λ at e opened none. kept_at at e true (sym none) (before (list_any opens_discussion at.before) opened)) None []
        H refl)
      where
        before : (opened : Bool) → opened ≡ false → ((not opened && true) || opened) ≡ true
        before opened h = grind arith

    later : map tell (flat_map (form_seen p o) (since discussion_seen (view u H)))
        ≡ map tell (forms_of p o (since opens_discussion H))
    later =
        sights_since-as tell opens_discussion (passes part.score r) told r discussion_seen
        (opening_cuts r committee_reads_from) (form_seen p o)
        (form_tells tell r p o shows-form) [] H
        ∙ ap (map tell)
        (kept_since-all opens_discussion (passes part.score r) told
        (λ at e opened. kept_at at e (is_nothing (flat_map told (until opens_discussion at.after))) refl
        (or_right _ (list_any opens_discussion at.before) opened)) [] H)

    pub discussed-seen : map tell (forms_discussed_in_view p o (view u H)) ≡ map tell (forms_discussed_of p o H)
    discussed-seen =
        let before : List FormTold = listed (last (forms_of p o (until opens_discussion H))) in
        let seen : List FormTold = flat_map (form_seen p o) (since discussion_seen (view u H)) in
        map-append tell (listed (last (flat_map (form_seen p o) (until discussion_seen (view u H))))) seen
        ∙ ap (λ lines. lines ++ map tell seen) earlier
        ∙ ap (λ lines. map tell before ++ lines) later
        ∙ sym (map-append tell before (forms_of p o (since opens_discussion H)))
