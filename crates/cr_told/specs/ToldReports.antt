-- SPDX-License-Identifier: Apache-2.0 OR MIT
-- Told of reports: to whom each is answered, and that its lines have what the view shows. How a line is laid out is
-- said in Reports. Who reviews a paper, in the load, and the forms of the letter are the facts of the view by which the
-- reviewers on a page and the reviews are answered.
use Rattle.std.specs.Prelude.{ℕ, Bool, true, false, not, ◌≡◌, ◌&&◌, ◌||◌, List, [], ◌++◌}
use Rattle.std.specs.Prelude.{length, map, filter, Option, Some, None, unwrap_or, if◌then◌else◌}
use Rattle.std.specs.List.{flat_map, list_any}
use Rattle.cr_base.specs.declared.command.Query.TheVariants as queries
use Rattle.cr_base.specs.declared.entry.EntryKind.TheVariants as kinds
use Rattle.cr_base.specs.declared.reply.AccountLine.{AccountLine}
use Rattle.cr_base.specs.declared.reply.Reply.{Reply}
use Rattle.cr_base.specs.declared.reply.Reply.TheVariants as replies
use Rattle.cr_base.specs.declared.report.Report.TheVariants as reports
use Rattle.cr_base.specs.declared.review.ReviewLine.{ReviewLine}
use Rattle.cr_base.specs.declared.words.Decision.{Decision}
use Rattle.cr_base.specs.declared.words.Decision.TheVariants.{Accept}
use Rattle.cr_base.specs.declared.words.Kind.TheVariants.{Primary, Secondary, Pc}
use Rattle.cr_base.specs.Labels.{by_labels, most_labels}
use Rattle.cr_base.specs.Lists.{listed, last, is_number, total, until, since}
use Rattle.cr_base.specs.History.{History, SeatTold}
use Rattle.cr_base.specs.HistoryFacts.{phase_of, role_of, assigned_under}
use Rattle.cr_base.specs.Reports.{in_four, space, line_end, to_left, paper_mark, papers_end}
use Rattle.cr_base.specs.Reports.{scores_line, is_seat_of_kind, decision_word, decisions_end}
use Rattle.cr_base.specs.Reports.{is_accepting, is_rejecting, is_undecided}
use Rattle.cr_base.specs.Reports.{paper_named_line, decision_named_line, letter_form}
use Rattle.cr_history.specs.Invariants.{IsSubmitted}
use Rattle.cr_policy.specs.Judge.{answer}
use Rattle.cr_policy.specs.Legal.{Legal}
use Rattle.cr_policy.specs.Sighting.{Sighting}
use Rattle.cr_policy.specs.View.{View, view}
use Rattle.cr_policy.specs.ViewFacts.{accounts_in_view, papers_in_view, discussion_seen}
use Rattle.cr_policy.specs.ViewFacts.{reviewers_in_view, last_form_in_view, seats_in_view}
use Rattle.cr_bounds.specs.ShownTo.{is_on_committee, chairs_committee, is_past_submission}
use Rattle.cr_bounds.specs.ShownTo.{is_past_reviewing, serves, is_notified, where_known}
use Rattle.cr_told.specs.ToldPages.{shown_on, is_shown, writers_shown, is_shown_in_conflict, is_shown_accepted}
use Rattle.cr_told.specs.ToldLists.{name_shown, is_shown_done, knows_reviewers}
use Rattle.cr_told.specs.ToldReviews.{forms_listed}

-- the text of the report that a reply tells; `None` if it tells none
abbrev pub report_answered : Reply → Option (List ℕ)
report_answered (replies.Report text) = Some text
report_answered _ = None

-- ---- what the view shows of a paper

-- the last title of the paper that is shown; empty if none is
abbrev pub title_shown : ℕ → View → List ℕ
title_shown p V = unwrap_or (last (shown_on p (λ (s : Sighting). s.title) V)) []

-- the reader is shown to be an author of the paper, or in conflict with it
abbrev pub is_own_or_in_conflict : Option ℕ → ℕ → View → Bool
is_own_or_in_conflict u p V = list_any (is_number u) (writers_shown p V) || is_shown_in_conflict u p V

-- the decision on the paper that is shown: to accept it, if it is shown to be accepted; else the last
abbrev pub decision_shown : ℕ → View → Option Decision
decision_shown p V = if is_shown_accepted p V then Some Accept else last (shown_on p (λ (s : Sighting). s.decision) V)

-- the papers with which the reader is in no conflict
abbrev pub papers_clear : Option ℕ → View → List ℕ
papers_clear u V = filter (λ (p : ℕ). not (is_own_or_in_conflict u p V)) (papers_in_view V)

-- those of these papers that aren't shown to be withdrawn
abbrev pub papers_open : Option ℕ → View → List ℕ
papers_open u V = filter (λ (p : ℕ). not (is_shown kinds.Withdrawn p V)) (papers_clear u V)

-- ---- the texts

-- the report of all papers, each with its number, its mark and its title
abbrev pub papers_text : Option ℕ → View → List ℕ
papers_text u V =
    flat_map
    (λ (p : ℕ). in_four p ++ space ++ paper_mark (is_shown kinds.Withdrawn p V) (is_own_or_in_conflict u p V)
    ++ space ++ title_shown p V ++ line_end)
    (papers_in_view V)
    ++ papers_end (length (papers_in_view V))

-- the scores on the paper: of each label that of the last form that the committee discusses
abbrev pub scores_shown : ℕ → View → List ℕ
scores_shown p V =
    by_labels
    (λ (o : ℕ).
    map (λ (line : ReviewLine). line.score)
    (listed
    (last
    (listed (last (forms_listed false true p V o (until discussion_seen V)))
    ++ forms_listed false true p V o (since discussion_seen V)))))
    most_labels

-- the report of scores: the open papers that have some
abbrev pub scores_text : Option ℕ → View → List ℕ
scores_text u V = flat_map (λ (p : ℕ). scores_line p (scores_shown p V) (title_shown p V)) (papers_open u V)

-- how many of the seats on the clear papers are the user's, and satisfy this test
abbrev pub held_shown : Option ℕ → ℕ → (ℕ → SeatTold → Bool) → View → ℕ
held_shown u user test V =
    total (map
    (λ (p : ℕ). length
    (filter (λ (seat : SeatTold). is_number seat.user user && test p seat) (reviewers_in_view p V)))
    (papers_clear u V))

-- the report of the load: the accounts on the committee, each with its counts
abbrev pub load_text : Option ℕ → View → List ℕ
load_text u V =
    flat_map
    (λ (a : AccountLine).
    to_left 32 a.name
    ++ space ++ in_four (held_shown u a.user (λ p seat. is_seat_of_kind Primary seat) V)
    ++ space ++ in_four (held_shown u a.user (λ p seat. is_seat_of_kind Secondary seat) V)
    ++ space ++ in_four (held_shown u a.user (λ p seat. is_seat_of_kind Pc seat) V)
    ++ space ++ in_four (held_shown u a.user (λ p seat. is_shown_done p seat.ordinal V) V)
    ++ line_end)
    (filter (λ (a : AccountLine). is_on_committee a.role) (accounts_in_view V))

-- the report of decisions: the open papers, each with its decision, and how many have which
abbrev pub decisions_text : Option ℕ → View → List ℕ
decisions_text u V =
    flat_map (λ (p : ℕ). in_four p ++ space ++ to_left 6 (decision_word (decision_shown p V)) ++ space
    ++ title_shown p V ++ line_end) (papers_open u V)
    ++ decisions_end
    (length (filter (λ (p : ℕ). is_accepting (decision_shown p V)) (papers_open u V)))
    (length (filter (λ (p : ℕ). is_rejecting (decision_shown p V)) (papers_open u V)))
    (length (filter (λ (p : ℕ). is_undecided (decision_shown p V)) (papers_open u V)))

-- the letter on a paper: its title, its decision, and of each label the last form, with its writer if the reader may
-- know who reviews
abbrev pub letter_text : Option ℕ → ℕ → History → List ℕ
letter_text u p H =
    paper_named_line p (title_shown p (view u H))
    ++ decision_named_line (decision_word (decision_shown p (view u H)))
    ++ by_labels
    (λ (o : ℕ).
    flat_map (letter_form o
    (if knows_reviewers u p H then name_shown (assigned_under o (seats_in_view p (view u H))) (view u H) else None))
    (listed (last_form_in_view p o (view u H))))
    most_labels

-- ---- to whom

-- to whom reports are answered, and with which text: all papers to the committee from the bidding on, scores and
-- decisions to the committee from the discussion on, the load to chairs from the bidding on
pub record ReportsToldTo (u : Option ℕ) (H : History) : Type 0 where
  pub papers : report_answered (answer u (view u H) (queries.Report reports.Papers))
      ≡ where_known (serves u H) (papers_text u (view u H))
  pub scores : report_answered (answer u (view u H) (queries.Report reports.Scores))
      ≡ where_known (is_on_committee (role_of u H) && is_past_reviewing (phase_of H)) (scores_text u (view u H))
  pub load : report_answered (answer u (view u H) (queries.Report reports.Load))
      ≡ where_known (chairs_committee (role_of u H) && is_past_submission (phase_of H)) (load_text u (view u H))
  pub decisions : report_answered (answer u (view u H) (queries.Report reports.Decisions))
      ≡ where_known (is_on_committee (role_of u H) && is_past_reviewing (phase_of H)) (decisions_text u (view u H))

-- ReportsToldTo holds of every user on every history
abbrev pub ReportsTold : Type 0
ReportsTold = (u : Option ℕ) (H : History) → ReportsToldTo u H

-- the letter on a paper is answered to its authors, from the notification on
abbrev pub LettersTold : Type 0
LettersTold =
    (u : Option ℕ) (p : ℕ) (H : History) → Legal H → IsSubmitted H p
    → report_answered (answer u (view u H) (queries.Report (reports.Letter (Some p))))
    ≡ where_known (is_notified u p H) (letter_text u p H)
