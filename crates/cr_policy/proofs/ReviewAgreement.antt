-- SPDX-License-Identifier: Apache-2.0 OR MIT
-- Where the tables tell what a history tells, what a reader is told of a paper's reviewers and reviews is what the
-- tables have.
use Rattle.std.proofs.Common.{ℕ, Bool, true, false, cond, ◌≡◌, List, [], refl, sym, ap, subst, ◌∙◌, ◌||◌, ◌&&◌, arith}
use Rattle.std.proofs.Common.{Option, Some, Ok, Result}
use Rattle.std.specs.Prelude.{map, not, unwrap_or}
use Rattle.std.specs.Option.{option_map, option_and_then}
use Rattle.std.proofs.lemmas.Bool.{and_parts}
use Rattle.cr_base.specs.declared.page.Reviewer.{Reviewer}
use Rattle.cr_base.specs.declared.reply.AccountLine.{AccountLine}
use Rattle.cr_base.specs.declared.reply.Reply.{Reply}
use Rattle.cr_base.specs.declared.reply.Reply.TheVariants as replies
use Rattle.cr_base.specs.declared.reply.Rule.{Rule}
use Rattle.cr_base.specs.declared.review.ReviewLine.{ReviewLine}
use Rattle.cr_base.specs.declared.standing.Standing.{Standing}
use Rattle.cr_base.specs.Answering.{reviewer_told, review_told, authors_form, reviews_by}
use Rattle.cr_base.specs.Labels.{by_labels, most_labels}
use Rattle.cr_base.specs.Checks.{judged, of_there, reviews_checks, reads_all_forms}
use Rattle.cr_base.specs.History.{History, SeatTold, FormTold}
use Rattle.cr_base.specs.HistoryFacts.{assigned_under, reviewers_of, last_form_of, early_form_of, forms_discussed_of}
use Rattle.cr_base.specs.Lists.{listed}
use Rattle.cr_base.specs.Page.{is_clear_chair, is_clear_member, gets_conflicts, gets_reviewers, shows_reviewer}
use Rattle.cr_base.specs.Page.{where_told}
use Rattle.cr_base.specs.Phases.{members_read_reviews, authors_read_early_reviews, authors_read_reviews}
use Rattle.cr_base.specs.Reviews.{last_form_in, early_form_in, forms_discussed_in, is_written_in, written_told}
use Rattle.cr_base.specs.Seats.{seats_in, reviewers_in}
use Rattle.cr_base.specs.Sources.{Facts, Shown, standing_at, has_paper, name_in, facts_of_tables, shown_in_tables}
use Rattle.cr_base.specs.Tables.{tables_of}
use Rattle.cr_base.specs.Words.{is_member}
use Rattle.cr_base.proofs.CheckLaws.{judged-behind}
use Rattle.cr_base.proofs.Small.{and_not_from}
use Rattle.cr_history.specs.Invariants.{IsRespondedInTime}
use Rattle.cr_history.specs.Laws.{AreTold, AreFormsTold}
use Rattle.cr_history.proofs.ReviewAgreement.{is_written-tables, last_form_of-tables}
use Rattle.cr_policy.specs.View.{view}
use Rattle.cr_policy.specs.ViewFacts.{seats_in_view, reviewers_in_view, last_form_in_view, early_form_in_view}
use Rattle.cr_policy.specs.ViewFacts.{forms_discussed_in_view, is_written_in_view, shown_in_view}
use Rattle.cr_policy.proofs.ReviewerTells.{same_key, assigned-seen, reviewers-seen, reviewers-seen_by_chair}
use Rattle.cr_policy.proofs.ReviewTells.{written-seen, last_form-seen, early_form-seen, discussed-seen}

-- reviewers are told alike where clear chairs are told alike which labels have a form
reviewer_told-same : (by : Standing) (accounts : List AccountLine) (written written' : ℕ → Bool)
    → (is_clear_chair by ≡ true → (o : ℕ) → written o ≡ written' o)
    → reviewer_told by accounts written ≡ reviewer_told by accounts written'
reviewer_told-same by accounts written written' same = λ i seat. record {
  done = same_key (is_clear_chair by) (Some (written seat.ordinal)) (Some (written' seat.ordinal))
      (λ told. ap Some (same told seat.ordinal)) i;
  kind = where_told (is_clear_member by) seat.kind;
  label = seat.ordinal;
  user = where_told (shows_reviewer by) (option_and_then (name_in accounts) seat.user);
}

-- and reviews, where it is the same who wrote them, if that is told
review_told-same : (by : Standing) (accounts : List AccountLine) (named : Bool) (user user' : Option ℕ) (label : ℕ)
    → (named ≡ true → user ≡ user')
    → review_told by accounts named user label ≡ review_told by accounts named user' label
review_told-same by accounts named user user' label same = λ i form. record {
  confidence = form.confidence;
  label = label;
  score = form.score;
  to_authors = form.to_authors;
  to_pc = where_told (not by.author) form.to_pc;
  user = same_key named (option_and_then (name_in accounts) user) (option_and_then (name_in accounts) user')
      (λ told. ap (option_and_then (name_in accounts)) (same told)) i;
  version = where_told (not by.author) form.version;
}

module _ (u : Option ℕ) (H : History) (told : AreTold H) (p : ℕ) where
  -- how she stands to the paper, by the tables
  abbrev by : Standing
  by = standing_at (tables_of H) u (Some p)

  -- ---- reviewers

  -- whether there is a form under a label, as the view of a clear chair shows it
  pub written-tables : is_clear_chair by ≡ true → (o : ℕ)
      → is_written_in_view p o (view u H) ≡ is_written_in (tables_of H).reviews p o
  written-tables may o =
      written-seen u p o H (ap is_clear_chair (told.standing u (Some p)) ∙ may) ∙ is_written-tables p o H

  -- the reviewers, as far as any reader is told of them
  pub reviewers-tables : (accounts : List AccountLine) → gets_reviewers by ≡ true
      → map (reviewer_told by accounts (λ o. is_written_in_view p o (view u H))) (reviewers_in_view p (view u H))
      ≡ map (reviewer_told by accounts (is_written_in (tables_of H).reviews p)) (reviewers_in (tables_of H).seats p)
  reviewers-tables accounts may =
      subst
      (λ (s : Standing). gets_reviewers s ≡ true
      → map (reviewer_told s accounts written) (reviewers_in_view p (view u H)) ≡ map (reviewer_told s accounts written)
      (reviewers_of p H))
      (told.standing u (Some p)) (λ gets. reviewers-seen u p H accounts written gets) may
      ∙ ap (map (reviewer_told by accounts written)) (told.reviewers p)
      ∙ ap (λ (tell : SeatTold → Reviewer). map tell (reviewers_in (tables_of H).seats p))
      (reviewer_told-same by accounts written (is_written_in (tables_of H).reviews p) (λ chair. written-tables chair))
    where
      written : ℕ → Bool
      written o = is_written_in_view p o (view u H)

  -- and all of each, as the view of a clear chair shows them from the bidding on
  pub seats-tables : gets_conflicts by ≡ true → reviewers_in_view p (view u H) ≡ reviewers_in (tables_of H).seats p
  seats-tables may =
      reviewers-seen_by_chair u p H (ap gets_conflicts (told.standing u (Some p)) ∙ may) ∙ told.reviewers p

  -- who has a label, or has had it, where reviewers are told by name
  pub assigned-tables : shows_reviewer by ≡ true → (o : ℕ)
      → assigned_under o (seats_in_view p (view u H)) ≡ assigned_under o (seats_in (tables_of H).seats p)
  assigned-tables may o =
      assigned-seen u p H (ap shows_reviewer (told.standing u (Some p)) ∙ may) o ∙ ap (assigned_under o) (told.seats p)

  -- ---- reviews

  module _ (accounts : List AccountLine) (named : Bool) (user : Option ℕ) (o : ℕ) where
    abbrev tell : FormTold → ReviewLine
    tell = review_told by accounts named user o

    -- the last form of a label, as an author is told of it
    pub last_form-tables : by.author ≡ true → authors_read_reviews by.phase ≡ true
        → map tell (listed (last_form_in_view p o (view u H)))
        ≡ map tell (listed (option_map written_told (last_form_in (tables_of H).reviews p o)))
    last_form-tables author notified =
        subst
        (λ (s : Standing). s.author ≡ true → authors_read_reviews s.phase ≡ true
        → map (review_told s accounts named user o) (listed (last_form_in_view p o (view u H)))
        ≡ map (review_told s accounts named user o) (listed (last_form_of p o H)))
        (told.standing u (Some p)) (λ author notified. last_form-seen u p H accounts named user o author notified)
        author notified
        ∙ ap (λ (form : Option FormTold). map tell (listed form)) (last_form_of-tables p o H)

    -- and the last before the response, from it on
    pub early_form-tables : AreFormsTold H → by.author ≡ true → authors_read_early_reviews by.phase ≡ true
        → map tell (listed (early_form_in_view p o (view u H)))
        ≡ map tell (listed (early_form_in (tables_of H).stage.had_response (tables_of H).reviews p o))
    early_form-tables forms author responding =
        subst
        (λ (s : Standing). s.author ≡ true → authors_read_early_reviews s.phase ≡ true
        → map (review_told s accounts named user o) (listed (early_form_in_view p o (view u H)))
        ≡ map (review_told s accounts named user o) (listed (early_form_of p o H)))
        (told.standing u (Some p)) (λ author responding. early_form-seen u p H accounts named user o author responding)
        author responding
        ∙ ap (λ (form : Option FormTold). map tell (listed form)) (forms.early p o)

    -- the forms that are discussed, as one who discusses the paper is told of them
    pub discussed-tables : AreFormsTold H → is_clear_member by ≡ true → members_read_reviews by.phase ≡ true
        → map tell (forms_discussed_in_view p o (view u H)) ≡ map tell (forms_discussed_in (tables_of H).reviews p o)
    discussed-tables forms clear discussed =
        subst
        (λ (s : Standing). is_clear_member s ≡ true → members_read_reviews s.phase ≡ true
        → map (review_told s accounts named user o) (forms_discussed_in_view p o (view u H))
        ≡ map (review_told s accounts named user o) (forms_discussed_of p o H))
        (told.standing u (Some p)) (λ clear discussed. discussed-seen u p H accounts named user o clear discussed) clear
        discussed
        ∙ ap (map tell) (forms.discussed p o)

  -- what is told of each label is the same
  each-label : {A : Type 0} (f g : ℕ → List A) → ((o : ℕ) → f o ≡ g o)
      → by_labels f most_labels ≡ by_labels g most_labels
  each-label f g same = ap (λ (told : ℕ → List _). by_labels told most_labels) (λ i o. same o i)

  abbrev facts : Facts
  facts = facts_of_tables (tables_of H) u

  -- the reviews that are told by these forms
  abbrev reviews_with : Shown → Bool → Bool → List ReviewLine
  reviews_with source author discussed =
      let lines = λ (named : Bool) (o : ℕ) (forms : List FormTold).
      map (review_told by facts.accounts named (source.assigned p o) o) forms in
      cond author (by_labels (λ (o : ℕ). lines (shows_reviewer by) o (listed (authors_form source by p o))) most_labels)
      (cond discussed (by_labels (λ (o : ℕ). lines (shows_reviewer by) o (source.forms_discussed p o)) most_labels)
      (lines false (unwrap_or (facts.own_ordinal p) 0) (facts.own_forms p)))

  abbrev shown : Shown
  shown = shown_in_view u (view u H)

  abbrev tabled : Shown
  tabled = shown_in_tables (tables_of H)

  -- forms are told alike, where it is the same who has the label, if that is told
  forms-same : (accounts : List AccountLine) (o : ℕ) (forms : List FormTold)
      → map (review_told by accounts (shows_reviewer by) (shown.assigned p o) o) forms
      ≡ map (review_told by accounts (shows_reviewer by) (tabled.assigned p o) o) forms
  forms-same accounts o forms =
      ap (λ (tell : FormTold → ReviewLine). map tell forms)
      (review_told-same by accounts (shows_reviewer by) (shown.assigned p o) (tabled.assigned p o) o
      (λ names. assigned-tables names o))

  -- the form of a label that an author is told is the same: the last from the notification on, and before it, where
  -- the response was opened, the last before that
  authors_form-same : AreFormsTold H → IsRespondedInTime H
      → (accounts : List AccountLine) (named : Bool) (user : Option ℕ) (o : ℕ) → by.author ≡ true
      → (authors_read_reviews by.phase || facts.had_response) ≡ true
      → map (review_told by accounts named user o) (listed (authors_form shown by p o))
      ≡ map (review_told by accounts named user o) (listed (authors_form tabled by p o))
  authors_form-same forms in_time accounts named user o author may = from (authors_read_reviews by.phase) refl may
    where
      from : (notified : Bool) → authors_read_reviews by.phase ≡ notified → (notified || facts.had_response) ≡ true
          → map (review_told by accounts named user o)
          (listed (cond notified (shown.last_form p o) (shown.early_form p o)))
          ≡ map (review_told by accounts named user o)
          (listed (cond notified (tabled.last_form p o) (tabled.early_form p o)))
      from true is may = last_form-tables accounts named user o author is
      from false is may =
          early_form-tables accounts named user o forms author
          (sym (ap (λ (s : Standing). authors_read_early_reviews s.phase) (told.standing u (Some p)))
          ∙ in_time (told.had_response ∙ may))

  -- the reviews by any user's view are those by the tables, where she may ask for them
  reviews-same : AreFormsTold H → IsRespondedInTime H → (author discussed : Bool) → by.author ≡ author
      → reads_all_forms by ≡ discussed
      → (author ≡ true → (authors_read_reviews by.phase || facts.had_response) ≡ true)
      → (author ≡ false → by.conflicted ≡ false)
      → reviews_with shown author discussed ≡ reviews_with tabled author discussed
  reviews-same forms in_time true discussed ha hd notified clear =
      each-label _ _ (λ o.
      authors_form-same forms in_time facts.accounts (shows_reviewer by) (shown.assigned p o) o ha (notified refl)
      ∙ forms-same facts.accounts o (listed (authors_form tabled by p o)))
  reviews-same forms in_time false true ha hd notified clear =
      let all = and_parts (is_member by.role) (members_read_reviews by.phase) hd in
      each-label _ _ (λ o.
      discussed-tables facts.accounts (shows_reviewer by) (shown.assigned p o) o forms
      (and_not_from (is_member by.role) by.conflicted all.0 (clear refl)) all.1
      ∙ forms-same facts.accounts o (tabled.forms_discussed p o))
  reviews-same forms in_time false false ha hd notified clear = refl

  -- and they matter only where she may
  pub reviews-tables : AreFormsTold H → IsRespondedInTime H
      → judged (reviews_checks by facts.had_response (of_there (has_paper facts (Some p))))
      (replies.Reviews (reviews_by facts shown p))
      ≡ judged (reviews_checks by facts.had_response (of_there (has_paper facts (Some p))))
      (replies.Reviews (reviews_by facts tabled p))
  reviews-tables forms in_time =
      judged-behind (reviews_checks by facts.had_response (of_there (has_paper facts (Some p)))) [] []
      (replies.Reviews (reviews_by facts shown p)) (replies.Reviews (reviews_by facts tabled p))
      (λ none. ap (λ (lines : List ReviewLine). answered lines)
      (reviews-same forms in_time by.author (reads_all_forms by) refl refl
      (λ author. notified by.author (authors_read_reviews by.phase || facts.had_response) author none.1.0)
      (λ other. clear by.author by.conflicted other none.1.1.1.0)))
    where
      answered : List ReviewLine → Result Reply Rule
      answered lines = Ok (replies.Reviews lines)

      notified : (a f : Bool) → a ≡ true → (a && not f) ≡ false → f ≡ true
      notified a f ha h = grind arith

      clear : (a c : Bool) → a ≡ false → (not a && c) ≡ false → c ≡ false
      clear a c ha hc = grind arith
