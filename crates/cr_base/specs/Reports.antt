-- SPDX-License-Identifier: Apache-2.0 OR MIT
-- Reports: plain text of what is told of each paper. Their lines are the server's own.
use Rattle.std.specs.Prelude.{ℕ, Bool, true, false, not, ◌+◌, ◌-◌, ◌*◌, ◌/◌, ◌%◌, ◌&&◌, ◌==◌}
use Rattle.std.specs.Prelude.{List, [], ◌∷◌, ◌++◌, length, map, filter, replicate, decimal, codes}
use Rattle.std.specs.Prelude.{Option, Some, None, unwrap_or, if◌then◌else◌}
use Rattle.std.specs.Option.{option_map_or, option_and_then}
use Rattle.std.specs.List.{flat_map}
use Rattle.cr_base.specs.declared.reply.AccountLine.{AccountLine}
use Rattle.cr_base.specs.declared.reply.Rule.TheVariants as rules
use Rattle.cr_base.specs.declared.report.Report.{Report}
use Rattle.cr_base.specs.declared.report.Report.TheVariants as reports
use Rattle.cr_base.specs.declared.report.ReportKind.{ReportKind}
use Rattle.cr_base.specs.declared.report.ReportKind.TheVariants as kinds
use Rattle.cr_base.specs.declared.standing.Standing.{Standing}
use Rattle.cr_base.specs.declared.words.Decision.{Decision}
use Rattle.cr_base.specs.declared.words.Decision.TheVariants.{Accept, Reject}
use Rattle.cr_base.specs.declared.words.Kind.{Kind}
use Rattle.cr_base.specs.declared.words.Kind.TheVariants.{Primary, Secondary, Pc}
use Rattle.cr_base.specs.Checks.{Check, ◌breaks◌}
use Rattle.cr_base.specs.History.{SeatTold, FormTold}
use Rattle.cr_base.specs.Labels.{by_labels, most_labels}
use Rattle.cr_base.specs.Lists.{listed, last, is_number, total}
use Rattle.cr_base.specs.Page.{shows_reviewer}
use Rattle.cr_base.specs.Phases.{members_see_papers, chairs_see_reviewers, members_read_reviews}
use Rattle.cr_base.specs.Phases.{members_read_decisions, letters_are_sent}
use Rattle.cr_base.specs.Sources.{Facts, Shown, decision_by, name_in, has_paper}
use Rattle.cr_base.specs.Words.{is_member, is_chair, decision_name, review_kind_number}

-- ---- kinds

-- the kind of a report
abbrev pub report_kind : Report → ReportKind
report_kind reports.Papers = kinds.Papers
report_kind reports.Scores = kinds.Scores
report_kind reports.Load = kinds.Load
report_kind reports.Decisions = kinds.Decisions
report_kind (reports.Letter paper) = kinds.Letter

-- the report of a kind; a letter is on the paper told
abbrev pub report_on : ReportKind → Option ℕ → Report
report_on kinds.Papers paper = reports.Papers
report_on kinds.Scores paper = reports.Scores
report_on kinds.Load paper = reports.Load
report_on kinds.Decisions paper = reports.Decisions
report_on kinds.Letter paper = reports.Letter paper

-- ---- who may have which

-- members, once they see what it tells, and chairs
abbrev pub members_report : Standing → Bool → List Check
members_report by seen =
    not (is_member by.role) breaks rules.NotMember
    ∷ not seen breaks rules.WrongPhase
    ∷ []

-- the rules of a report for chairs, in the phases of which the `Bool` says that it may be had
abbrev pub chairs_report : Standing → Bool → List Check
chairs_report by seen =
    not (is_chair by.role) breaks rules.NotChair
    ∷ not seen breaks rules.WrongPhase
    ∷ []

-- the letter: a paper's authors, once letters are sent
abbrev pub letter_checks : Standing → Bool → List Check
letter_checks by there =
    not there breaks rules.NoPaper
    ∷ not by.author breaks rules.NotAuthor
    ∷ not (letters_are_sent by.phase) breaks rules.WrongPhase
    ∷ []

-- the rules of a report
abbrev pub report_checks : Facts → Report → List Check
report_checks facts reports.Papers =
    let by = facts.standing None in members_report by (members_see_papers by.phase)
report_checks facts reports.Scores =
    let by = facts.standing None in members_report by (members_read_reviews by.phase)
report_checks facts reports.Load =
    let by = facts.standing None in chairs_report by (chairs_see_reviewers by.phase)
report_checks facts reports.Decisions =
    let by = facts.standing None in members_report by (members_read_decisions by.phase)
report_checks facts (reports.Letter paper) = letter_checks (facts.standing paper) (has_paper facts paper)

-- ---- columns

unfoldable pub space : List ℕ
space = codes " "

-- the end of a line
unfoldable pub line_end : List ℕ
line_end = codes "\n"

-- the text with spaces before it, up to this width
abbrev pub to_right : ℕ → List ℕ → List ℕ
to_right width text = replicate (width - length text) 32 ++ text

-- the text with spaces after it, up to this width
abbrev pub to_left : ℕ → List ℕ → List ℕ
to_left width text = text ++ replicate (width - length text) 32

-- the number, right-aligned in four columns
abbrev pub in_four : ℕ → List ℕ
in_four n = to_right 4 (decimal n)

-- the number, right-aligned in two columns
abbrev pub in_two : ℕ → List ℕ
in_two n = to_right 2 (decimal n)

-- ---- what a report lists

-- the caller is in no conflict with the paper
abbrev pub is_clear_of : Facts → ℕ → Bool
is_clear_of facts p = not (facts.standing (Some p)).conflicted

-- the papers with which the caller is in no conflict
abbrev pub clear_papers : Facts → List ℕ
clear_papers facts = filter (is_clear_of facts) facts.papers

-- those of these papers that aren't withdrawn
abbrev pub open_papers : Facts → Shown → List ℕ
open_papers facts shown = filter (λ (p : ℕ). not (shown.withdrawn p)) (clear_papers facts)

-- a paper's title; empty if it isn't told
abbrev pub title_by : Shown → ℕ → List ℕ
title_by shown p = unwrap_or (shown.title p) []

-- ---- all papers

-- a paper's mark: whether it is withdrawn, or the caller in conflict with it
unfoldable pub paper_mark : Bool → Bool → List ℕ
paper_mark withdrawn conflicted = if withdrawn then codes "W" else (if conflicted then codes "C" else codes "-")

-- a paper's line in the report of all papers
abbrev pub paper_line : Facts → Shown → ℕ → List ℕ
paper_line facts shown p =
    in_four p ++ space ++ paper_mark (shown.withdrawn p) (facts.standing (Some p)).conflicted ++ space
    ++ title_by shown p ++ line_end

-- the last line of the report of all papers
unfoldable pub papers_end : ℕ → List ℕ
papers_end count = decimal count ++ codes " papers" ++ line_end

-- the report of all papers
abbrev pub papers_told : Facts → Shown → List ℕ
papers_told facts shown = flat_map (paper_line facts shown) facts.papers ++ papers_end (length facts.papers)

-- ---- scores

-- the score of the last form under each label that the committee discusses, in the order of the labels
abbrev pub last_scores : Shown → ℕ → List ℕ
last_scores shown p =
    by_labels (λ (o : ℕ). map (λ (form : FormTold). form.score) (listed (last (shown.forms_discussed p o))))
    most_labels

-- the mean of n scores with this sum, in hundredths, rounded to the nearest, and up if two are equally near
abbrev pub hundredths : ℕ → ℕ → ℕ
hundredths sum n = (200 * sum + n) / (2 * n)

-- hundredths as a number with two decimals
unfoldable pub two_decimals : ℕ → List ℕ
two_decimals h = decimal (h / 100) ++ codes "." ++ decimal (h % 100 / 10) ++ decimal (h % 10)

-- the line of a paper with these scores; none if it has none
abbrev pub scores_line : ℕ → List ℕ → List ℕ → List ℕ
scores_line p [] title = []
scores_line p (score ∷ scores) title =
    let n = length (score ∷ scores) in
    in_four p ++ space ++ in_two n ++ space ++ two_decimals (hundredths (total (score ∷ scores)) n)
    ++ space ++ title ++ line_end

-- the report of scores
abbrev pub scores_told : Facts → Shown → List ℕ
scores_told facts shown =
    flat_map (λ (p : ℕ). scores_line p (last_scores shown p) (title_by shown p)) (open_papers facts shown)

-- ---- who reviews how much

-- of the assignments on the papers that the caller is in no conflict with, those that are the user's and pass a test
abbrev pub held : Facts → Shown → ℕ → (ℕ → SeatTold → Bool) → ℕ
held facts shown user test =
    total (map (λ (p : ℕ). length (filter (λ (seat : SeatTold). is_number seat.user user && test p seat)
    (shown.reviewers p))) (clear_papers facts))

-- the assignment is of this kind
abbrev pub is_seat_of_kind : Kind → SeatTold → Bool
is_seat_of_kind kind seat =
    option_map_or (λ (k : Kind). review_kind_number k == review_kind_number kind) seat.kind false

-- a member's line: how many papers they review as primary, as secondary, and otherwise, and of how many they have
-- written a form
abbrev pub load_line : Facts → Shown → AccountLine → List ℕ
load_line facts shown a =
    to_left 32 a.name
    ++ space ++ in_four (held facts shown a.user (λ p seat. is_seat_of_kind Primary seat))
    ++ space ++ in_four (held facts shown a.user (λ p seat. is_seat_of_kind Secondary seat))
    ++ space ++ in_four (held facts shown a.user (λ p seat. is_seat_of_kind Pc seat))
    ++ space ++ in_four (held facts shown a.user (λ p seat. shown.written p seat.ordinal))
    ++ line_end

-- by user number
abbrev pub load_told : Facts → Shown → List ℕ
load_told facts shown =
    flat_map (load_line facts shown) (filter (λ (a : AccountLine). is_member a.role) facts.accounts)

-- ---- decisions

-- a decision by its word
abbrev pub decision_word : Option Decision → List ℕ
decision_word decision = option_map_or decision_name decision (codes "none")

-- a paper's line in the report of decisions
abbrev pub decision_line : Facts → Shown → ℕ → List ℕ
decision_line facts shown p =
    in_four p ++ space ++ to_left 6 (decision_word (decision_by facts shown p)) ++ space
    ++ title_by shown p ++ line_end

-- which decision it is
abbrev pub is_accepting : Option Decision → Bool
is_accepting None = false
is_accepting (Some Accept) = true
is_accepting (Some Reject) = false

-- the decision is to reject
abbrev pub is_rejecting : Option Decision → Bool
is_rejecting None = false
is_rejecting (Some Accept) = false
is_rejecting (Some Reject) = true

-- there is no decision
abbrev pub is_undecided : Option Decision → Bool
is_undecided None = true
is_undecided (Some decision) = false

-- of the papers that the report lists, those of whose decision this holds
abbrev pub decided : Facts → Shown → (Option Decision → Bool) → ℕ
decided facts shown test = length (filter (λ (p : ℕ). test (decision_by facts shown p)) (open_papers facts shown))

-- the last line of the report of decisions: how many are accepted, rejected and undecided
unfoldable pub decisions_end : ℕ → ℕ → ℕ → List ℕ
decisions_end accepted rejected undecided =
    codes "accept " ++ decimal accepted ++ codes ", reject " ++ decimal rejected ++ codes ", none "
    ++ decimal undecided ++ line_end

-- the report of decisions
abbrev pub decisions_told : Facts → Shown → List ℕ
decisions_told facts shown =
    flat_map (decision_line facts shown) (open_papers facts shown)
    ++ decisions_end (decided facts shown is_accepting) (decided facts shown is_rejecting)
    (decided facts shown is_undecided)

-- ---- the letter

unfoldable pub paper_named_line : ℕ → List ℕ → List ℕ
paper_named_line p title = codes "Paper " ++ decimal p ++ codes ": " ++ title ++ line_end

-- the line of a letter that names the decision
unfoldable pub decision_named_line : List ℕ → List ℕ
decision_named_line word = codes "Decision: " ++ word ++ line_end

-- the line of a letter on who wrote a review, if that is told
unfoldable pub writer_named : Option (List ℕ) → List ℕ
writer_named writer = option_map_or (λ (name : List ℕ). codes " by " ++ name) writer []

-- a form: an empty line, its label, its grades, and what it tells authors
unfoldable pub letter_form : ℕ → Option (List ℕ) → FormTold → List ℕ
letter_form ordinal writer form =
    line_end
    ++ codes "Review " ++ ((64 + ordinal) ∷ []) ++ writer_named writer ++ line_end
    ++ codes "Score " ++ decimal form.score ++ codes ", confidence " ++ decimal form.confidence ++ line_end
    ++ form.to_authors ++ line_end

-- the last form under each label, by the label, and in the open mode by its writer
abbrev pub letter_forms : Facts → Shown → ℕ → List ℕ
letter_forms facts shown p =
    let writer = λ (o : ℕ). if shows_reviewer (facts.standing (Some p))
    then option_and_then (name_in facts.accounts) (shown.assigned p o) else None in
    by_labels (λ (o : ℕ). flat_map (letter_form o (writer o)) (listed (shown.last_form p o))) most_labels

-- the letter to a paper's authors
abbrev pub letter_told : Facts → Shown → ℕ → List ℕ
letter_told facts shown p =
    paper_named_line p (title_by shown p) ++ decision_named_line (decision_word (decision_by facts shown p))
    ++ letter_forms facts shown p

-- ---- what a report tells

abbrev pub report_told : Facts → Shown → Report → List ℕ
report_told facts shown reports.Papers = papers_told facts shown
report_told facts shown reports.Scores = scores_told facts shown
report_told facts shown reports.Load = load_told facts shown
report_told facts shown reports.Decisions = decisions_told facts shown
report_told facts shown (reports.Letter paper) = letter_told facts shown (unwrap_or paper 0)
