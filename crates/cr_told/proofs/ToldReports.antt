-- SPDX-License-Identifier: Apache-2.0 OR MIT
-- Reports have what the view shows.
use Rattle.std.proofs.Common.{◌≡◌, ℕ, Bool, true, false, List, [], ◌∷◌, ◌++◌, refl, sym, ap, ◌∙◌, ◌||◌, ◌&&◌, Option}
use Rattle.std.proofs.Common.{Some, None}
use Rattle.std.specs.Prelude.{◌==◌, not, map, filter, length, unwrap_or, if◌then◌else◌}
use Rattle.std.specs.Option.{option_map}
use Rattle.std.specs.List.{flat_map, list_any}
use Rattle.std.proofs.lemmas.Bool.{true≢false}
use Rattle.cr_base.specs.declared.entry.Entry.{Entry}
use Rattle.cr_base.specs.declared.entry.Entry.TheVariants.{Reviewed}
use Rattle.cr_base.specs.declared.entry.Stamp.{Stamp}
use Rattle.cr_base.specs.declared.reply.AccountLine.{AccountLine}
use Rattle.cr_base.specs.declared.reply.Reply.TheVariants as replies
use Rattle.cr_base.specs.declared.reply.Rule.TheVariants as rules
use Rattle.cr_base.specs.declared.review.ReviewLine.{ReviewLine}
use Rattle.cr_base.specs.declared.standing.Standing.{Standing}
use Rattle.cr_base.specs.declared.words.Decision.TheVariants.{Accept}
use Rattle.cr_base.specs.declared.words.Kind.TheVariants.{Primary, Secondary, Pc}
use Rattle.cr_base.specs.Answering.{reply_or_rule}
use Rattle.cr_base.specs.Checks.{judged, ◌breaks◌}
use Rattle.cr_base.specs.History.{History, SeatTold, FormTold}
use Rattle.cr_base.specs.HistoryFacts.{phase_of, role_of, is_author, assigned_under}
use Rattle.cr_base.specs.Labels.{by_labels, most_labels}
use Rattle.cr_base.specs.Lists.{listed, last, last_or, is_number, total, until, since}
use Rattle.cr_base.specs.Page.{shows_reviewer}
use Rattle.cr_base.specs.Phases.{members_see_papers, chairs_see_reviewers, members_read_reviews}
use Rattle.cr_base.specs.Phases.{members_read_decisions}
use Rattle.cr_base.specs.Phases.{letters_are_sent}
use Rattle.cr_base.specs.Reports.{in_four, space, line_end, to_left, paper_mark, papers_end, scores_line}
use Rattle.cr_base.specs.Reports.{is_seat_of_kind, decision_word, decisions_end, is_accepting, is_rejecting}
use Rattle.cr_base.specs.Reports.{is_undecided, paper_named_line, decision_named_line, letter_form, letter_told}
use Rattle.cr_base.specs.Reports.{members_report, chairs_report, letter_checks, papers_told, scores_told, load_told}
use Rattle.cr_base.specs.Reports.{decisions_told}
use Rattle.cr_base.specs.Sources.{Facts, Shown, has_paper}
use Rattle.cr_base.specs.Words.{is_member, is_chair}
use Rattle.cr_base.proofs.LastLaws.{last_from-map}
use Rattle.cr_policy.specs.Sighting.{Sighting}
use Rattle.cr_policy.specs.View.{View, view}
use Rattle.cr_policy.specs.ViewFacts.{only, facts_in_view, shown_in_view, accounts_in_view, papers_in_view}
use Rattle.cr_policy.specs.ViewFacts.{reviewers_in_view, last_form_in_view, seats_in_view, standing_in_view}
use Rattle.cr_policy.specs.ViewFacts.{is_conflicted_in_view, is_written_in_view, done_seen, discussion_seen}
use Rattle.cr_policy.specs.ViewFacts.{forms_discussed_in_view}
use Rattle.cr_policy.proofs.LegalLaws.{legal_invariants}
use Rattle.cr_policy.proofs.StandingLaws.{papers-seen, standing_from_view}
use Rattle.cr_bounds.specs.ShownTo.{where_known}
use Rattle.cr_bounds.proofs.BoundsWords.{phase-words}
use Rattle.cr_bounds.proofs.BoundsWalk.{shown_to}
use Rattle.cr_told.specs.ToldLists.{name_shown, is_shown_done, knows_reviewers}
use Rattle.cr_told.specs.ToldReports.{report_answered, is_own_or_in_conflict, decision_shown, papers_clear}
use Rattle.cr_told.specs.ToldReports.{papers_open, papers_text, scores_shown, scores_text, load_text, decisions_text}
use Rattle.cr_told.specs.ToldReports.{ReportsTold, LettersTold}
use Rattle.cr_told.specs.ToldReviews.{forms_listed}
use Rattle.cr_told.proofs.ToldLists.{knows}
use Rattle.cr_told.proofs.ToldReviews.{told, discussed-forms}
use Rattle.cr_told.proofs.ToldShown as reads
use Rattle.cr_told.proofs.ToldShown.{readings}
use Rattle.cr_told.proofs.ToldWords.{member-committee, chair-leads}

-- ---- to whom

to-members : (a b : Bool) (text : List ℕ)
    → report_answered
    (reply_or_rule (judged (not a breaks rules.NotMember ∷ not b breaks rules.WrongPhase ∷ []) (replies.Report text)))
    ≡ where_known (a && b) text
to-members true true text = refl
to-members true false text = refl
to-members false b text = refl

to-chairs : (a b : Bool) (text : List ℕ)
    → report_answered
    (reply_or_rule (judged (not a breaks rules.NotChair ∷ not b breaks rules.WrongPhase ∷ []) (replies.Report text)))
    ≡ where_known (a && b) text
to-chairs true true text = refl
to-chairs true false text = refl
to-chairs false b text = refl

to-authors : (there a b : Bool) (text : List ℕ) → there ≡ true
    → report_answered
    (reply_or_rule
    (judged (not there breaks rules.NoPaper ∷ not a breaks rules.NotAuthor ∷ not b breaks rules.WrongPhase ∷ [])
    (replies.Report text)))
    ≡ where_known (a && b) text
to-authors false a b text h = absurd (true≢false (sym h))
to-authors true true true text h = refl
to-authors true true false text h = refl
to-authors true false b text h = refl

module _ (u : Option ℕ) (H : History) where
  abbrev V : View
  V = view u H

  abbrev F : Facts
  F = facts_in_view u V

  abbrev S : Shown
  S = shown_in_view u V

  -- ---- what the view shows of a paper

  pub conflicted : (p : ℕ) → is_conflicted_in_view u p V ≡ is_own_or_in_conflict u p V
  conflicted p = λ i. list_any (is_number u) (reads.writers u p H i) || reads.in_conflict u p H u i

  decided : (p : ℕ) → (if F.accepted p then Some Accept else S.decision p) ≡ decision_shown p V
  decided p = λ i. if reads.accepted u p H i then Some Accept else last (reads.decisions u p H i)

  pub written : (p o : ℕ) → is_written_in_view p o V ≡ is_shown_done p o V
  written p o =
      ap (last_or false) (readings u p H (done_seen p o)
      (λ (s : Sighting). only (is_number s.paper p && is_number s.ordinal o) (listed s.done)) one)
    where
      one : (before later : History) (stamp : Stamp) (e : Entry)
          → done_seen p o (shown_to u H before later stamp e)
          ≡ (let s : Sighting = shown_to u H before later stamp e in only (is_number s.paper p && is_number s.ordinal o)
          (listed s.done))
      one before later stamp (Reviewed paper ordinal version form) = refl
      one before later stamp e = refl

  clear : filter (λ (p : ℕ). not (is_conflicted_in_view u p V)) (papers_in_view V) ≡ papers_clear u V
  clear = λ i. filter (λ (p : ℕ). not (conflicted p i)) (papers_in_view V)

  open' : filter (λ (p : ℕ). not (S.withdrawn p))
      (filter (λ (p : ℕ). not (is_conflicted_in_view u p V)) (papers_in_view V)) ≡ papers_open u V
  open' = λ i. filter (λ (p : ℕ). not (reads.withdrawn u p H i)) (clear i)

  -- ---- the texts

  papers-same : papers_told F S ≡ papers_text u V
  papers-same = λ i.
      flat_map
      (λ (p : ℕ). in_four p ++ space ++ paper_mark (reads.withdrawn u p H i) (conflicted p i) ++ space
      ++ unwrap_or (last (reads.titles u p H i)) [] ++ line_end)
      (papers_in_view V)
      ++ papers_end (length (papers_in_view V))

  score-listed : (p o : ℕ) (form : Option FormTold) → map (λ (form : FormTold). form.score) (listed form)
      ≡ map (λ (line : ReviewLine). line.score) (listed (option_map (told u p H false true o) form))
  score-listed p o None = refl
  score-listed p o (Some form) = refl

  score-one : (p o : ℕ) → map (λ (form : FormTold). form.score) (listed (last (forms_discussed_in_view p o V)))
      ≡ map (λ (line : ReviewLine). line.score)
      (listed
      (last
      (listed (last (forms_listed false true p V o (until discussion_seen V))) ++ forms_listed false true p V o
      (since discussion_seen V))))
  score-one p o =
      score-listed p o (last (forms_discussed_in_view p o V))
      ∙ ap (λ x. map (λ (line : ReviewLine). line.score) (listed x))
      (sym (last_from-map (told u p H false true o) None (forms_discussed_in_view p o V)))
      ∙ ap (λ lines. map (λ (line : ReviewLine). line.score) (listed (last lines))) (discussed-forms u p H false o)

  scores-same : (p : ℕ)
      → by_labels (λ (o : ℕ). map (λ (form : FormTold). form.score) (listed (last (forms_discussed_in_view p o V))))
      most_labels ≡ scores_shown p V
  scores-same p = λ i. by_labels (λ (o : ℕ). score-one p o i) most_labels

  scores-text : scores_told F S ≡ scores_text u V
  scores-text =
      λ i. flat_map (λ (p : ℕ). scores_line p (scores-same p i) (unwrap_or (last (reads.titles u p H i)) [])) (open' i)

  decisions-text : decisions_told F S ≡ decisions_text u V
  decisions-text = λ i.
      flat_map
      (λ (p : ℕ). in_four p ++ space ++ to_left 6 (decision_word (decided p i)) ++ space
      ++ unwrap_or (last (reads.titles u p H i)) [] ++ line_end) (open' i)
      ++ decisions_end
      (length (filter (λ (p : ℕ). is_accepting (decided p i)) (open' i)))
      (length (filter (λ (p : ℕ). is_rejecting (decided p i)) (open' i)))
      (length (filter (λ (p : ℕ). is_undecided (decided p i)) (open' i)))

  load-text : load_told F S ≡ load_text u V
  load-text = λ i.
      flat_map
      (λ (a : AccountLine).
      to_left 32 a.name
      ++ space
      ++ in_four
      (total
      (map
      (λ (p : ℕ). length (filter (λ (seat : SeatTold). is_number seat.user a.user && is_seat_of_kind Primary seat)
      (reviewers_in_view p V))) (clear i)))
      ++ space
      ++ in_four
      (total
      (map
      (λ (p : ℕ).
      length (filter (λ (seat : SeatTold). is_number seat.user a.user && is_seat_of_kind Secondary seat)
      (reviewers_in_view p V))) (clear i)))
      ++ space
      ++ in_four
      (total
      (map
      (λ (p : ℕ). length (filter (λ (seat : SeatTold). is_number seat.user a.user && is_seat_of_kind Pc seat)
      (reviewers_in_view p V))) (clear i)))
      ++ space
      ++ in_four
      (total
      (map
      (λ (p : ℕ). length (filter (λ (seat : SeatTold). is_number seat.user a.user && written p seat.ordinal i)
      (reviewers_in_view p V))) (clear i)))
      ++ line_end)
      (filter (λ (a : AccountLine). member-committee a.role i) (accounts_in_view V))

pub reports_told : ReportsTold
reports_told u H = record {
  papers =
      ap
      (λ (by : Standing). report_answered
      (reply_or_rule (judged (members_report by (members_see_papers by.phase))
      (replies.Report (papers_told (F u H) (S u H)))))) (standing_from_view u None H)
      ∙ to-members (is_member (role_of u H)) (members_see_papers (phase_of H)) (papers_told (F u H) (S u H))
      ∙ (λ i. where_known (member-committee (role_of u H) i && (phase-words (phase_of H)).bidding i)
      (papers-same u H i));
  scores =
      ap
      (λ (by : Standing). report_answered
      (reply_or_rule (judged (members_report by (members_read_reviews by.phase))
      (replies.Report (scores_told (F u H) (S u H)))))) (standing_from_view u None H)
      ∙ to-members (is_member (role_of u H)) (members_read_reviews (phase_of H)) (scores_told (F u H) (S u H))
      ∙ (λ i. where_known (member-committee (role_of u H) i && (phase-words (phase_of H)).discussion i)
      (scores-text u H i));
  load =
      ap
      (λ (by : Standing). report_answered
      (reply_or_rule (judged (chairs_report by (chairs_see_reviewers by.phase))
      (replies.Report (load_told (F u H) (S u H)))))) (standing_from_view u None H)
      ∙ to-chairs (is_chair (role_of u H)) (chairs_see_reviewers (phase_of H)) (load_told (F u H) (S u H))
      ∙ (λ i. where_known (chair-leads (role_of u H) i && (phase-words (phase_of H)).bidding i) (load-text u H i));
  decisions =
      ap
      (λ (by : Standing). report_answered
      (reply_or_rule (judged (members_report by (members_read_decisions by.phase))
      (replies.Report (decisions_told (F u H) (S u H)))))) (standing_from_view u None H)
      ∙ to-members (is_member (role_of u H)) (members_read_decisions (phase_of H)) (decisions_told (F u H) (S u H))
      ∙ (λ i. where_known (member-committee (role_of u H) i && (phase-words (phase_of H)).discussion i)
      (decisions-text u H i));
}

pub letters_told : LettersTold
letters_told u p H legal there =
    ap (λ (by : Standing). report_answered (reply_or_rule
    (judged (letter_checks by (has_paper (F u H) (Some p))) (replies.Report (letter_told (F u H) (S u H) p)))))
    (standing_from_view u (Some p) H)
    ∙ to-authors (has_paper (F u H) (Some p)) (is_author u p H) (letters_are_sent (phase_of H))
    (letter_told (F u H) (S u H) p)
    (ap (λ papers. list_any (λ q. q == p) papers) (papers-seen u H) ∙ there)
    ∙ (λ i. where_known (is_author u p H && (phase-words (phase_of H)).notification i)
    (paper_named_line p (unwrap_or (last (reads.titles u p H i)) [])
    ++ decision_named_line (decision_word (decided u H p i))
    ++ by_labels
    (λ (o : ℕ).
    flat_map
    (letter_form o (if named i then name_shown (assigned_under o (seats_in_view p (view u H))) (view u H) else None))
    (listed (last_form_in_view p o (view u H))))
    most_labels))
  where
    named : shows_reviewer (standing_in_view u (Some p) (view u H)) ≡ knows_reviewers u p H
    named = ap shows_reviewer (standing_from_view u (Some p) H) ∙ knows u p H there (legal_invariants H legal).in_order
