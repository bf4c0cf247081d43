-- SPDX-License-Identifier: Apache-2.0 OR MIT
-- What a user is told as a report, by the tables.
use Rattle.std.specs.Prelude.{ℕ, Bool, true, false, not, ◌≡◌, ◌+◌, ◌&&◌, List, [], ◌∷◌, ◌++◌}
use Rattle.std.specs.Prelude.{decimal, codes, Option, Some, None, Result, Ok, unwrap_or}
use Rattle.std.specs.List.{flat_map}
use Rattle.std.specs.Option.{option_map}
use Rattle.cr_base.specs.declared.report.Report.{Report}
use Rattle.cr_base.specs.declared.reply.Rule.{Rule}
use Rattle.cr_base.specs.declared.standing.Standing.{Standing}
use Rattle.cr_base.specs.declared.words.Decision.{Decision}
use Rattle.cr_base.specs.Checks.{judged}
use Rattle.cr_base.specs.History.{FormTold}
use Rattle.cr_base.specs.Lists.{listed}
use Rattle.cr_base.specs.Page.{shows_reviewer}
use Rattle.cr_base.specs.Reports.{decision_line, decision_word, hundredths, in_four, in_two}
use Rattle.cr_base.specs.Reports.{is_clear_of, last_scores, letter_form, line_end, paper_mark}
use Rattle.cr_base.specs.Reports.{report_checks, report_told, scores_line, space, title_by, to_left}
use Rattle.cr_base.specs.Reports.{two_decimals, writer_named}
use Rattle.cr_base.specs.Reviews.{last_form_in, written_told}
use Rattle.cr_base.specs.Sources.{decision_by, facts_of_tables, shown_in_tables}
use Rattle.cr_base.specs.Tables.{Tables}
use Rattle.cr_view.specs.declared.reports.ScoreSum.{ScoreSum}
use Rattle.cr_view.specs.PaperSeen.{PaperSeen, decision_seen, title_seen, withdrawn_seen}
use Rattle.cr_view.specs.Reviews.{label_name}

-- the report that is due to a user, or the first broken rule
abbrev pub report_due : Tables → ℕ → Report → Result (List ℕ) Rule
report_due t user report =
    let facts = facts_of_tables t (Some user) in
    judged (report_checks facts report) (report_told facts (shown_in_tables t) report)

-- the user may have it: no rule is broken
abbrev pub MayHave : Tables → ℕ → Report → Type 0
MayHave t user report =
    ◌≡◌ {A = Result (Unit {0}) Rule} (Ok tt) (judged (report_checks (facts_of_tables t (Some user)) report) tt)

-- the user is in no conflict with the paper, and it isn't withdrawn
abbrev pub is_open_to : Tables → ℕ → ℕ → Bool
is_open_to t user p = is_clear_of (facts_of_tables t (Some user)) p && not ((shown_in_tables t).withdrawn p)

-- the line of a paper's scores
abbrev pub scores_line_at : Tables → ℕ → List ℕ
scores_line_at t p = scores_line p (last_scores (shown_in_tables t) p) (title_by (shown_in_tables t) p)

-- 1 where it holds, else 0
abbrev pub one : Bool → ℕ
one true = 1
one false = 0

-- what was decided of a paper
abbrev pub decided : Tables → ℕ → Option Decision
decided t p = decision_by (facts_of_tables t None) (shown_in_tables t) p

-- the line of what was decided of a paper
abbrev pub decision_line_at : Tables → ℕ → List ℕ
decision_line_at t p = decision_line (facts_of_tables t None) (shown_in_tables t) p

-- 1 where the paper is told to the user and its decision is such a one, else 0
abbrev pub counted : Tables → ℕ → (Option Decision → Bool) → ℕ → ℕ
counted t user is_such p = one (is_open_to t user p && is_such (decided t p))

-- ---- the same, by what a caller sees of a paper

-- the paper is told to the caller: they are in no conflict with it, and it isn't withdrawn
abbrev pub is_open_seen : PaperSeen → Bool
is_open_seen s = not s.by.conflicted && not (withdrawn_seen s)

-- the paper's title; nothing if there is none
abbrev pub titled : PaperSeen → List ℕ
titled s = unwrap_or (title_seen s) []

-- the paper's line in the report of all papers
abbrev pub paper_line_seen : PaperSeen → List ℕ
paper_line_seen s =
    in_four s.paper ++ space ++ paper_mark (withdrawn_seen s) s.by.conflicted ++ space ++ titled s ++ line_end

-- the paper's line in the report of scores
abbrev pub scores_line_seen : Tables → PaperSeen → List ℕ
scores_line_seen t s = scores_line s.paper (last_scores (shown_in_tables t) s.paper) (titled s)

-- the paper's line in the report of decisions
abbrev pub decision_line_seen : PaperSeen → List ℕ
decision_line_seen s =
    in_four s.paper ++ space ++ to_left 6 (decision_word (decision_seen s)) ++ space ++ titled s ++ line_end

-- 1 if the paper is told to the caller and its decision is such a one, else 0
abbrev pub counted_seen : (Option Decision → Bool) → PaperSeen → ℕ
counted_seen is_such s = one (is_open_seen s && is_such (decision_seen s))

-- the last form under a label of a paper as the letter has it, for a user of this standing
abbrev pub forms_under : Tables → Standing → ℕ → ℕ → List ℕ
forms_under t by p o =
    flat_map (letter_form o (label_name t (shows_reviewer by) p o))
    (listed (option_map written_told (last_form_in t.reviews p o)))

-- the first lines of a form: an empty one, and its label with its writer
unfoldable pub form_heading : ℕ → Option (List ℕ) → List ℕ
form_heading ordinal writer = line_end ++ codes "Review " ++ ((64 + ordinal) ∷ []) ++ writer_named writer ++ line_end

-- the line of a form's grades
unfoldable pub form_grades : FormTold → List ℕ
form_grades form = codes "Score " ++ decimal form.score ++ codes ", confidence " ++ decimal form.confidence ++ line_end

-- the line of a paper with these scores
abbrev pub scored_line : ℕ → ScoreSum → List ℕ → List ℕ
scored_line p s title =
    in_four p ++ space ++ in_two s.count ++ space ++ two_decimals (hundredths s.sum s.count) ++ space ++ title
    ++ line_end
