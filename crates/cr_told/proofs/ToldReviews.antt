-- SPDX-License-Identifier: Apache-2.0 OR MIT
-- The reviews that are answered are those that the view shows.
use Rattle.std.proofs.Common.{◌≡◌, ℕ, Bool, true, false, List, [], ◌∷◌, ◌++◌, append-nil, refl, sym, ap, ◌∙◌, ◌||◌}
use Rattle.std.proofs.Common.{◌&&◌, Option, Some, None, eqb, arith}
use Rattle.std.specs.Prelude.{All, not, map, unwrap_or, if◌then◌else◌}
use Rattle.std.specs.List.{flat_map, list_any}
use Rattle.std.proofs.lemmas.Bool.{and_parts, eqb-true, false≢true, true≢false}
use Rattle.std.proofs.lemmas.List.{map-append}
use Rattle.std.proofs.lemmas.List.Elements.{All-nil, All-cons, All-head, All-tail}
use Rattle.cr_base.specs.declared.command.Query.TheVariants as queries
use Rattle.cr_base.specs.declared.entry.Entry.{Entry}
use Rattle.cr_base.specs.declared.entry.Entry.TheVariants.{Reviewed}
use Rattle.cr_base.specs.declared.entry.EntryKind.TheVariants as kinds
use Rattle.cr_base.specs.declared.entry.Stamp.{Stamp}
use Rattle.cr_base.specs.declared.entry.Stamped.{Stamped}
use Rattle.cr_base.specs.declared.reply.Reply.TheVariants as replies
use Rattle.cr_base.specs.declared.reply.Rule.TheVariants as rules
use Rattle.cr_base.specs.declared.review.ReviewLine.{ReviewLine}
use Rattle.cr_base.specs.declared.standing.Standing.{Standing}
use Rattle.cr_base.specs.declared.words.Phase.{Phase}
use Rattle.cr_base.specs.declared.words.Phase.TheVariants.{Setup, Submission, Bidding, Reviewing, Response}
use Rattle.cr_base.specs.declared.words.Phase.TheVariants.{Discussion}
use Rattle.cr_base.specs.declared.words.Phase.TheVariants.{Notification, Closed}
use Rattle.cr_base.specs.Drawn.{stamped}
use Rattle.cr_base.specs.Answering.{reply_or_rule}
use Rattle.cr_base.specs.Checks.{judged, ◌breaks◌, reads_all_forms, reads_own_forms}
use Rattle.cr_base.specs.History.{History, FormTold}
use Rattle.cr_base.specs.HistoryFacts.{standing_of, phase_of, role_of, is_author, is_conflict_on, is_conflicted}
use Rattle.cr_base.specs.HistoryFacts.{is_external, is_reviewer, assigned_under, had_response_of}
use Rattle.cr_base.specs.Labels.{by_labels, most_labels}
use Rattle.cr_base.specs.Lists.{listed, last, is_number, until, since}
use Rattle.cr_base.specs.Rows.{kind_number}
use Rattle.cr_base.specs.Page.{is_admitted, where_told, shows_reviewer}
use Rattle.cr_base.specs.Phases.{is_from, externals_read_own, reviewers_read_own, authors_read_reviews}
use Rattle.cr_base.specs.Sources.{has_paper}
use Rattle.cr_base.specs.Words.{is_member}
use Rattle.cr_base.proofs.LastLaws.{last_from-map, listed-map}
use Rattle.cr_history.specs.Invariants.{IsSubmitted, IsInOrder, InTurn}
use Rattle.cr_policy.specs.Judge.{answer}
use Rattle.cr_policy.specs.Sighting.{Sighting}
use Rattle.cr_policy.specs.View.{View, view}
use Rattle.cr_policy.specs.ViewFacts.{only, is_kind, form_shown, form_seen, own_form_seen, discussion_seen}
use Rattle.cr_policy.specs.ViewFacts.{forms_in_view, own_forms_in_view, seats_in_view}
use Rattle.cr_policy.specs.ViewFacts.{facts_in_view, ordinal_in_view, had_response_in_view, opening_response_seen}
use Rattle.cr_policy.specs.ViewFacts.{shows_phase}
use Rattle.cr_policy.proofs.Cuts.{flat_map-cut}
use Rattle.cr_policy.proofs.LegalLaws.{legal_invariants}
use Rattle.cr_policy.proofs.StandingLaws.{standing_from_view, had_response-seen}
use Rattle.cr_policy.proofs.Walk.{map-flat_map}
use Rattle.cr_bounds.specs.ShownTo.{is_on_committee, is_past_submission, is_past_reviewing, is_past_discussion}
use Rattle.cr_bounds.specs.ShownTo.{discusses, is_notified, is_author_since_response, is_responded_to, where_known}
use Rattle.cr_bounds.specs.ShownTo.{is_told, visits}
use Rattle.cr_bounds.specs.ViewBounds.{is_others}
use Rattle.cr_bounds.proofs.BoundsWords.{phase-words, response-tests}
use Rattle.cr_bounds.proofs.BoundsWalk.{shown_to, each-view}
use Rattle.cr_bounds.proofs.BoundsWritten.{responded-opened}
use Rattle.cr_bounds.proofs.ResponseBoundLaws.{reviews-behind}
use Rattle.cr_told.specs.ToldPages.{label_shown_of}
use Rattle.cr_told.specs.ToldLists.{name_shown, knows_reviewers}
use Rattle.cr_told.specs.ToldReviews.{reviews_answered, review_shown, forms_listed, reviews_listed, is_reviewing_now}
use Rattle.cr_told.specs.ToldReviews.{was_asked_to_respond, reviews_now, reviews_visiting, ReviewsTold}
use Rattle.cr_told.proofs.ToldWords.{member-committee, visits-same}
use Rattle.cr_told.proofs.ToldEach.{all-sightings}
use Rattle.cr_told.proofs.ToldLists.{is-there, knows}
use Rattle.cr_told.proofs.ToldPhases.{IsByOther, by-others}
use Rattle.cr_told.proofs.ToldShown as reads
use Rattle.cr_told.proofs.ToldShown.{flat_map-same, readings}

-- ---- the sightings before one, and those behind it

All-until : {X : Type 0} (P : X → Type 0) (test : X → Bool) (xs : List X) → All P xs → All P (until test xs)
All-until P test [] all = all
All-until {X} P test (x ∷ xs) all = by (test x) (All-until P test xs (All-tail P x xs all))
  where
    by : (b : Bool) → All P (until test xs) → All P (if b then [] else x ∷ until test xs)
    by true rest = All-nil P
    by false rest = All-cons P x (until test xs) (All-head P x xs all) rest

All-since : {X : Type 0} (P : X → Type 0) (test : X → Bool) (xs : List X) → All P xs → All P (since test xs)
All-since P test [] all = all
All-since {X} P test (x ∷ xs) all = by (test x) (All-since P test xs (All-tail P x xs all))
  where
    by : (b : Bool) → All P (since test xs) → All P (if b then xs else since test xs)
    by true rest = All-tail P x xs all
    by false rest = rest

-- ---- phases

-- externals read their own forms in the reviewing and later
visiting-now : (phase : Phase) → externals_read_own phase ≡ (is_reviewing_now phase || is_past_reviewing phase)
visiting-now Setup = refl
visiting-now Submission = refl
visiting-now Bidding = refl
visiting-now Reviewing = refl
visiting-now Response = refl
visiting-now Discussion = refl
visiting-now Notification = refl
visiting-now Closed = refl

reviewing-now : (phase : Phase) → reviewers_read_own phase ≡ is_reviewing_now phase
reviewing-now Setup = refl
reviewing-now Submission = refl
reviewing-now Bidding = refl
reviewing-now Reviewing = refl
reviewing-now Response = refl
reviewing-now Discussion = refl
reviewing-now Notification = refl
reviewing-now Closed = refl

reviewing-serves : (phase : Phase) → (is_past_submission phase && is_reviewing_now phase) ≡ is_reviewing_now phase
reviewing-serves Setup = refl
reviewing-serves Submission = refl
reviewing-serves Bidding = refl
reviewing-serves Reviewing = refl
reviewing-serves Response = refl
reviewing-serves Discussion = refl
reviewing-serves Notification = refl
reviewing-serves Closed = refl

-- ---- what authors are shown before the notification

-- to whom a form is shown because she responds to it, to her the response was opened
pub heard-responds : (u : Option ℕ) (H : History) (paper ordinal : ℕ) (before later : History) (stamp : Stamp)
    (more : Bool) (e : Entry)
    → before ++ stamped stamp more e ∷ later ≡ H
    → (not (is_author_since_response u paper H && is_responded_to paper ordinal before later) || was_asked_to_respond u
    paper H) ≡ true
heard-responds u H paper ordinal before later stamp more e whole =
    by (is_author u paper H) _ (is_responded_to paper ordinal before later) refl
    (λ responded. ap (λ (test : Stamped → Bool). list_any test H) response-tests
    ∙ responded-opened paper ordinal before later stamp more e H whole responded)
  where
    so : (a w h : Bool) → h ≡ true → (not ((a && w) && true) || (a && h)) ≡ true
    so a w h is = grind (arith, is)

    not-so : (a w h : Bool) → (not ((a && w) && false) || (a && h)) ≡ true
    not-so a w h = grind arith

    by : (a w responded : Bool) → is_responded_to paper ordinal before later ≡ responded
        → (is_responded_to paper ordinal before later ≡ true → had_response_of H ≡ true)
        → (not ((a && w) && responded) || (a && had_response_of H)) ≡ true
    by a w true e opened = so a w (had_response_of H) (opened e)
    by a w false e opened = not-so a w (had_response_of H)

-- what none of the sightings shows
none-shown : {X A : Type 0} (P Q : X → Type 0) (f : X → List A) → ((x : X) → P x → Q x → f x ≡ []) → (xs : List X)
    → All P xs → All Q xs
    → flat_map f xs ≡ []
none-shown P Q f none [] all others = refl
none-shown P Q f none (x ∷ xs) all others =
    ap (λ ys. ys ++ flat_map f xs) (none x (All-head P x xs all) (All-head Q x xs others))
    ∙ none-shown P Q f none xs (All-tail P x xs all) (All-tail Q x xs others)

-- an author is shown no form of hers, nor before the notification another's behind the beginning of the response
module _ (u : Option ℕ) (p : ℕ) (H : History) (order : InTurn IsInOrder [] H) (wrote : is_author u p H ≡ true) where
  abbrev IsApart : Sighting → Type 0
  IsApart s = (is_kind kinds.Reviewed s && (is_number s.paper p && s.mine)) ≡ false

  none-own : All IsApart (view u H)
  none-own = all-sightings u H IsApart (λ (e : Stamped). IsByOther H e.stamp.maker e.entry) each (by-others H order)
    where
      same-maker : (v : Option ℕ) (maker : ℕ) → is_number v maker ≡ true → v ≡ Some maker
      same-maker None maker h = absurd (false≢true h)
      same-maker (Some v) maker h = ap (λ (n : ℕ). Some n) (eqb-true v maker h)

      each : (earlier later : History) (stamp : Stamp) (more : Bool) (e : Entry)
          → earlier ++ stamped stamp more e ∷ later ≡ H → IsByOther H stamp.maker e
          → is_told u H earlier later stamp.maker e ≡ true → IsApart (shown_to u H earlier later stamp e)
      each earlier later stamp more (Reviewed paper ordinal version form) whole other told =
          by (eqb paper p) refl (is_number u stamp.maker) refl
        where
          by : (same : Bool) → eqb paper p ≡ same → (mine : Bool) → is_number u stamp.maker ≡ mine
              → (same && mine) ≡ false
          by true same true mine =
              absurd
              (true≢false (sym wrote ∙ ap (λ n. is_author u n H) (sym (eqb-true paper p same))
              ∙ ap (λ v. is_author v paper H) (same-maker u stamp.maker mine) ∙ other))
          by true same false mine = refl
          by false same mine is = refl
      each earlier later stamp more e whole other told = refl

  module _ (early : is_past_discussion (phase_of H) ≡ false) (o : ℕ) where
    none-behind : forms_in_view p o (since opening_response_seen (view u H)) ≡ []
    none-behind =
        none-shown IsApart (λ (s : Sighting). is_others kinds.Reviewed p s ≡ false) (form_seen p o)
        (λ s. none (is_kind kinds.Reviewed s) (is_number s.paper p) s.mine (is_number s.ordinal o) _)
        (since opening_response_seen (view u H))
        (All-since IsApart opening_response_seen (view u H) none-own) (reviews-behind u p H wrote early)
      where
        none : (kind same mine label : Bool) (forms : List FormTold) → (kind && (same && mine)) ≡ false
            → (kind && same && not mine) ≡ false
            → only (same && label) (if kind then forms else []) ≡ []
        none true true true label forms own other = absurd (true≢false own)
        none true true false label forms own other = absurd (true≢false other)
        none true false mine label [] own other = refl
        none true false mine label (form ∷ forms) own other = refl
        none false same mine label forms own other = refl

    -- so all that she is shown stand before it
    pub shown-early : last (forms_in_view p o (until opening_response_seen (view u H)))
        ≡ last (forms_in_view p o (view u H))
    shown-early =
        ap last
        (sym (append-nil (forms_in_view p o (until opening_response_seen (view u H))))
        ∙ ap (λ forms. forms_in_view p o (until opening_response_seen (view u H)) ++ forms) (sym none-behind)
        ∙ flat_map-cut opening_response_seen (form_seen p o) (λ s. silent s) (view u H))
      where
        -- what opens it is no form
        silent : (s : Sighting) → opening_response_seen s ≡ true → form_seen p o s ≡ []
        silent s opens =
            let opened = (and_parts (is_kind kinds.PhaseSet s) (shows_phase Response s.phase) opens).0 in
            ap (λ n. only (is_number s.paper p && is_number s.ordinal o)
            (if eqb n (kind_number kinds.Reviewed) then form_shown s.version s.score s.confidence s.to_authors s.to_pc
            else []))
            (eqb-true (kind_number s.kind) (kind_number kinds.PhaseSet) opened)

module _ (u : Option ℕ) (p : ℕ) (H : History) where
  abbrev V : View
  V = view u H

  abbrev stands : Standing
  stands = standing_of u (Some p) H

  -- a form as she is told it
  abbrev pub told : Bool → Bool → ℕ → FormTold → ReviewLine
  told named entire o form = record {
    confidence = form.confidence;
    label = o;
    score = form.score;
    to_authors = form.to_authors;
    to_pc = where_told entire form.to_pc;
    user = where_told named (name_shown (assigned_under o (seats_in_view p V)) V);
    version = where_told entire form.version;
  }

  -- what one sighting shows of a form
  form-one : (named entire : Bool) (o : ℕ) (same known : Bool) (version : Option ℕ) (score confidence : ℕ)
      (to_authors : List ℕ) (to_pc : Option (List ℕ))
      → map (told named entire o)
      (only same (form_shown version (where_known known score) (where_known known confidence)
      (where_known known to_authors) to_pc))
      ≡ only same (map (λ (score : ℕ). record {
        confidence = unwrap_or (where_known known confidence) 0;
        label = o;
        score = score;
        to_authors = unwrap_or (where_known known to_authors) [];
        to_pc = if entire then to_pc else None;
        user = if named then name_shown (assigned_under o (seats_in_view p V)) V else None;
        version = if entire then version else None;
      }) (listed (where_known known score)))
  form-one named entire o true true version score confidence to_authors to_pc = refl
  form-one named entire o true false version score confidence to_authors to_pc = refl
  form-one named entire o false true version score confidence to_authors to_pc = refl
  form-one named entire o false false version score confidence to_authors to_pc = refl

  abbrev form : Bool → Bool → ℕ → Sighting → List ReviewLine
  form named entire o s = only (is_kind kinds.Reviewed s && (is_number s.paper p && is_number s.ordinal o))
      (review_shown named entire p V o s)

  all-forms : (named entire : Bool) (o : ℕ)
      → All (λ (s : Sighting). map (told named entire o) (form_seen p o s) ≡ form named entire o s) V
  all-forms named entire o =
      each-view u H (λ (s : Sighting). map (told named entire o) (form_seen p o s) ≡ form named entire o s)
      (λ before later stamp e seen. one before later stamp e)
    where
      one : (before later : History) (stamp : Stamp) (e : Entry)
          → map (told named entire o) (form_seen p o (shown_to u H before later stamp e))
          ≡ form named entire o (shown_to u H before later stamp e)
      one before later stamp (Reviewed paper ordinal version f) =
          let s : Sighting = shown_to u H before later stamp (Reviewed paper ordinal version f) in
          form-one named entire o (eqb paper p && eqb ordinal o) _ s.version f.score f.confidence f.to_authors s.to_pc
      one before later stamp e = refl

  forms-among : (named entire : Bool) (o : ℕ) (seen : View)
      → All (λ (s : Sighting). map (told named entire o) (form_seen p o s) ≡ form named entire o s) seen
      → map (told named entire o) (flat_map (form_seen p o) seen) ≡ forms_listed named entire p V o seen
  forms-among named entire o seen all =
      map-flat_map (told named entire o) (form_seen p o) seen
      ∙ flat_map-same (λ (s : Sighting). map (told named entire o) (form_seen p o s)) (form named entire o) seen all

  -- the last of them
  last-form : (named entire : Bool) (o : ℕ) (seen : View)
      → All (λ (s : Sighting). map (told named entire o) (form_seen p o s) ≡ form named entire o s) seen
      → map (told named entire o) (listed (last (flat_map (form_seen p o) seen)))
      ≡ listed (last (forms_listed named entire p V o seen))
  last-form named entire o seen all =
      sym (listed-map (told named entire o) (last (flat_map (form_seen p o) seen)))
      ∙ ap listed (sym (last_from-map (told named entire o) None (flat_map (form_seen p o) seen))
      ∙ ap last (forms-among named entire o seen all))

  pub discussed-forms : (named : Bool) (o : ℕ)
      → map (told named true o) (listed (last (forms_in_view p o (until discussion_seen V)))
      ++ forms_in_view p o (since discussion_seen V))
      ≡ listed (last (forms_listed named true p V o (until discussion_seen V))) ++ forms_listed named true p V o
      (since discussion_seen V)
  discussed-forms named o =
      let P : Sighting → Type 0 = λ s. map (told named true o) (form_seen p o s) ≡ form named true o s in
      map-append (told named true o) (listed (last (forms_in_view p o (until discussion_seen V))))
      (forms_in_view p o (since discussion_seen V))
      ∙ (λ i. last-form named true o (until discussion_seen V) (All-until P discussion_seen V (all-forms named true o))
      i
      ++ forms-among named true o (since discussion_seen V) (All-since P discussion_seen V (all-forms named true o)) i)

  own-forms : (o : ℕ) → map (told false true o) (own_forms_in_view p V)
      ≡ flat_map (λ (s : Sighting). only (is_kind kinds.Reviewed s && (is_number s.paper p && s.mine))
      (review_shown false true p V o s)) V
  own-forms o =
      map-flat_map (told false true o) (own_form_seen p) V
      ∙ readings u p H (λ (s : Sighting). map (told false true o) (own_form_seen p s))
      (λ (s : Sighting). only (is_kind kinds.Reviewed s && (is_number s.paper p && s.mine))
      (review_shown false true p V o s)) one
    where
      one : (before later : History) (stamp : Stamp) (e : Entry)
          → map (told false true o) (own_form_seen p (shown_to u H before later stamp e))
          ≡ (let s : Sighting = shown_to u H before later stamp e in
          only (is_kind kinds.Reviewed s && (is_number s.paper p && s.mine)) (review_shown false true p V o s))
      one before later stamp (Reviewed paper ordinal version f) =
          let s : Sighting = shown_to u H before later stamp (Reviewed paper ordinal version f) in
          form-one false true o (eqb paper p && s.mine) _ s.version f.score f.confidence f.to_authors s.to_pc
      one before later stamp e = refl

  module _ (there : IsSubmitted H p) (order : InTurn IsInOrder [] H) where
    -- ---- the answer

    gate : (there author over member conflicted opened : Bool) (lines : List ReviewLine) → there ≡ true
        → reviews_answered (reply_or_rule
        (judged (not there breaks rules.NoPaper ∷ (author && not over) breaks rules.WrongPhase ∷ not (author || member)
        breaks rules.NotMember
        ∷ (not author && conflicted) breaks rules.Conflict ∷ not opened breaks rules.WrongPhase ∷ [])
        (replies.Reviews lines)))
        ≡ where_known (not (author && not over) && (author || member) && not (not author && conflicted) && opened) lines
    gate false author over member conflicted opened lines h = absurd (true≢false (sym h))
    gate true true false member conflicted opened lines h = refl
    gate true true true member conflicted false lines h = refl
    gate true true true member conflicted true lines h = refl
    gate true false over false conflicted opened lines h = refl
    gate true false over true true opened lines h = refl
    gate true false over true false false lines h = refl
    gate true false over true false true lines h = refl

    -- whether authors are told them: they are notified, or the response was opened
    abbrev told_over : Bool
    told_over = authors_read_reviews (phase_of H)

    abbrev told_opened : Bool
    told_opened = had_response_in_view V

    answered-to : (not (is_author u p H && not (told_over || told_opened)) && (is_author u p H || is_admitted stands)
        && not (not (is_author u p H) && is_conflicted u p H)
        && (is_author u p H || reads_all_forms stands || reads_own_forms stands))
        ≡ (is_notified u p H || was_asked_to_respond u p H || discusses u p H || reviews_now u p H
        || reviews_visiting u p H)
    answered-to =
        to (is_member (role_of u H)) _ (is_external u p H) _ (is_past_submission (phase_of H))
        (is_from Discussion (phase_of H)) _ (is_from Notification (phase_of H)) _ told_opened _
        (reviewers_read_own (phase_of H)) _ (externals_read_own (phase_of H)) (is_author u p H) (is_conflict_on u p H)
        (is_reviewer u p H)
        (member-committee (role_of u H)) (visits-same u p H) (phase-words (phase_of H)).discussion
        (phase-words (phase_of H)).notification (had_response-seen u H) (reviewing-now (phase_of H))
        (visiting-now (phase_of H)) (phase-words (phase_of H)).discussion_later (reviewing-serves (phase_of H))
      where
        to : (m m' e e' s d d' n n' h h' w w' x a y r : Bool) → m ≡ m' → e ≡ e' → d ≡ d' → n ≡ n' → h ≡ h' → w ≡ w'
            → x ≡ (w' || d') → (s && d') ≡ d' → (s && w') ≡ w'
            → (not (a && not (n || h)) && (a || (m || e)) && not (not a && (a || y))
            && (a || (m && d) || (r && (w || (e && x)))))
            ≡ ((a && n') || (a && h') || (((m' && s) && not (a || y)) && d') || (((m' && s) && not (a || y)) && r && w')
            || (((e' && not (a || y)) && s) && r && (w' || d')))
        to m m' e e' s d d' n n' h h' w w' x a y r hm he hd hn hh hw hx hs hsw =
            grind (arith, hm, he, hd, hn, hh, hw, hx, hs, hsw)

    -- to whom of the authors it is answered, she is notified, or the response was opened
    of-author : (is_notified u p H || was_asked_to_respond u p H || discusses u p H || reviews_now u p H
        || reviews_visiting u p H) ≡ true → is_author u p H ≡ true
        → (told_over || told_opened) ≡ true
    of-author due wrote =
        by (is_author u p H) (is_from Notification (phase_of H)) _ told_opened _
        (is_on_committee (role_of u H) && is_past_submission (phase_of H)) (is_conflict_on u p H)
        (is_past_reviewing (phase_of H)) (is_reviewer u p H) (is_reviewing_now (phase_of H))
        (is_reviewing_now (phase_of H) || is_past_reviewing (phase_of H))
        (visits u p H) (is_past_submission (phase_of H)) (phase-words (phase_of H)).notification (had_response-seen u H)
        wrote due
      where
        by : (a n n' h h' s y d r w x v b : Bool) → n ≡ n' → h ≡ h' → a ≡ true
            → ((a && n') || (a && h') || ((s && not (a || y)) && d) || ((s && not (a || y)) && r && w)
            || (((v && not (a || y)) && b) && r && x)) ≡ true
            → (n || h) ≡ true
        by a n n' h h' s y d r w x v b hn hh ha due = grind (arith, hn, hh, ha, due)

    -- the form of a label that authors are told
    abbrev authors_told : ℕ → Option FormTold
    authors_told o =
        if told_over then last (forms_in_view p o V)
        else (if told_opened then last (forms_in_view p o (until opening_response_seen V)) else None)

    -- it is the last that they are shown
    authors-told : is_author u p H ≡ true → (told_over || told_opened) ≡ true → (o : ℕ)
        → authors_told o ≡ last (forms_in_view p o V)
    authors-told wrote due o = by told_over refl told_opened due
      where
        by : (over : Bool) → told_over ≡ over → (opened : Bool) → (over || opened) ≡ true
            → (if over then last (forms_in_view p o V) else
            (if opened then last (forms_in_view p o (until opening_response_seen V)) else None))
            ≡ last (forms_in_view p o V)
        by true e opened due = refl
        by false e true due = shown-early u p H order wrote (sym (phase-words (phase_of H)).notification ∙ e) o
        by false e false due = absurd (false≢true due)

    -- the lines, by who she is
    abbrev lines_by : Bool → Bool → Bool → Bool → Option ℕ → List ReviewLine
    lines_by author begun named entire seat =
        if author
        then by_labels (λ (o : ℕ). map (told named entire o) (listed (authors_told o))) most_labels
        else (if begun
        then by_labels (λ (o : ℕ). map (told named entire o)
        (listed (last (forms_in_view p o (until discussion_seen V)))
        ++ forms_in_view p o (since discussion_seen V))) most_labels
        else map (told false entire (unwrap_or seat 0)) (own_forms_in_view p V))

    lines-same : (author begun named : Bool) (seat label : Option ℕ)
        → (author ≡ true → (o : ℕ) → authors_told o ≡ last (forms_in_view p o V)) → seat ≡ label
        → lines_by author begun named (not author) seat
        ≡ (if author
        then by_labels (λ (o : ℕ). listed (last (forms_listed named false p V o V))) most_labels
        else (if begun
        then by_labels
        (λ (o : ℕ). listed (last (forms_listed named true p V o (until discussion_seen V))) ++ forms_listed named true p
        V o (since discussion_seen V)) most_labels
        else flat_map (λ (s : Sighting). only (is_kind kinds.Reviewed s && (is_number s.paper p && s.mine))
        (review_shown false true p V (unwrap_or label 0) s)) V))
    lines-same true begun named seat label theirs is =
        (λ i. by_labels (λ (o : ℕ). map (told named false o) (listed (theirs refl o i))) most_labels)
        ∙ (λ i. by_labels (λ (o : ℕ). last-form named false o V (all-forms named false o) i) most_labels)
    lines-same false true named seat label theirs is = λ i. by_labels (λ (o : ℕ). discussed-forms named o i) most_labels
    lines-same false false named seat label theirs is =
        own-forms (unwrap_or seat 0)
        ∙ ap
        (λ (o : Option ℕ). flat_map (λ (s : Sighting).
        only (is_kind kinds.Reviewed s && (is_number s.paper p && s.mine))
        (review_shown false true p V (unwrap_or o 0) s)) V) is

    -- what is answered where it is
    answered-same : (due : Bool) (lines shown : List ReviewLine) → (due ≡ true → lines ≡ shown)
        → where_known due lines ≡ where_known due shown
    answered-same true lines shown h = ap (where_known true) (h refl)
    answered-same false lines shown h = refl

    reviews-told : reviews_answered (answer u V (queries.Reviews (Some p)))
        ≡ where_known (is_notified u p H || was_asked_to_respond u p H || discusses u p H || reviews_now u p H
        || reviews_visiting u p H) (reviews_listed u p H)
    reviews-told =
        ap (λ (by : Standing). reviews_answered (reply_or_rule
        (judged (not (has_paper (facts_in_view u V) (Some p)) breaks rules.NoPaper
        ∷ (by.author && not (authors_read_reviews by.phase || told_opened)) breaks rules.WrongPhase
        ∷ not (by.author || is_admitted by) breaks rules.NotMember
        ∷ (not by.author && by.conflicted) breaks rules.Conflict
        ∷ not (by.author || reads_all_forms by || reads_own_forms by) breaks rules.WrongPhase
        ∷ [])
        (replies.Reviews
        (if by.author
        then by_labels
        (λ (o : ℕ). map (told (shows_reviewer by) (not by.author) o)
        (listed
        (if authors_read_reviews by.phase then last (forms_in_view p o V)
        else (if told_opened then last (forms_in_view p o (until opening_response_seen V)) else None)))) most_labels
        else (if reads_all_forms by
        then by_labels
        (λ (o : ℕ). map (told (shows_reviewer by) (not by.author) o)
        (listed (last (forms_in_view p o (until discussion_seen V))) ++ forms_in_view p o (since discussion_seen V)))
        most_labels
        else map (told false (not by.author) (unwrap_or (ordinal_in_view u p V) 0)) (own_forms_in_view p V)))))))
        (standing_from_view u (Some p) H)
        ∙ gate (has_paper (facts_in_view u V) (Some p)) (is_author u p H) (told_over || told_opened)
        (is_admitted stands) (is_conflicted u p H)
        (is_author u p H || reads_all_forms stands || reads_own_forms stands)
        (lines_by (is_author u p H) (reads_all_forms stands) (shows_reviewer stands) (not (is_author u p H))
        (ordinal_in_view u p V)) (is-there u p H there order)
        ∙ (λ i. where_known (answered-to i)
        (lines_by (is_author u p H) (member-committee (role_of u H) i && (phase-words (phase_of H)).discussion i)
        (knows u p H there order i) (not (is_author u p H))
        (ordinal_in_view u p V)))
        ∙ answered-same (is_notified u p H || was_asked_to_respond u p H || discusses u p H || reviews_now u p H
        || reviews_visiting u p H) _ (reviews_listed u p H)
        (λ due.
        lines-same (is_author u p H) (is_on_committee (role_of u H) && is_past_reviewing (phase_of H))
        (knows_reviewers u p H) (ordinal_in_view u p V)
        (label_shown_of u p V) (λ wrote. authors-told wrote (of-author due wrote)) (reads.labels u p H u))

pub reviews_told : ReviewsTold
reviews_told u p H legal there = reviews-told u p H there (legal_invariants H legal).in_order
