-- SPDX-License-Identifier: Apache-2.0 OR MIT
-- What a caller is told of a query.
use Rattle.std.specs.Prelude.{ℕ, Bool, true, not, ◌&&◌, ◌≡◌, ◌≢◌, List, []}
use Rattle.std.specs.Prelude.{map, filter, Option, Some, None, unwrap_or, Result, Ok, Err, IsOk, if◌then◌else◌}
use Rattle.std.specs.List.{flat_map}
use Rattle.std.specs.Option.{option_map}
use Rattle.cr_base.specs.declared.command.Query.{Query}
use Rattle.cr_base.specs.declared.command.Query.TheVariants as queries
use Rattle.cr_base.specs.declared.page.Bidder.{Bidder}
use Rattle.cr_base.specs.declared.page.Page.{Page}
use Rattle.cr_base.specs.declared.page.Reviewer.{Reviewer}
use Rattle.cr_base.specs.declared.pairs.Tie.{Tie}
use Rattle.cr_base.specs.declared.reply.Conference.{Conference}
use Rattle.cr_base.specs.declared.reply.Reply.{Reply}
use Rattle.cr_base.specs.declared.reply.Reply.TheVariants as replies
use Rattle.cr_base.specs.declared.reply.Rule.{Rule}
use Rattle.cr_base.specs.declared.seat.Seat.{Seat}
use Rattle.cr_base.specs.declared.standing.Standing.{Standing}
use Rattle.cr_base.specs.Accounts.{lines_of}
use Rattle.cr_base.specs.Answering.{query_checks, page_by, uploads_told, upload_of, content_by}
use Rattle.cr_base.specs.Answering.{content_asked, reply_or_rule, bidder_told, reviewer_told, MayTakeMemory}
use Rattle.cr_base.specs.Checks.{judged, of_there, content_checks}
use Rattle.cr_base.specs.Deadlines.{deadline_in}
use Rattle.cr_base.specs.History.{Upload, BidTold, SeatTold}
use Rattle.cr_base.specs.Lists.{listed, at_some}
use Rattle.cr_base.specs.Page.{is_clear_chair, is_clear_member, shows_reviewer, where_told}
use Rattle.cr_base.specs.Papers.{paper_count, uploads_at}
use Rattle.cr_base.specs.Seats.{told_seat, ordinal_in}
use Rattle.cr_base.specs.Sources.{Facts, Shown, is_accepted_in, own_forms_in, standing_at}
use Rattle.cr_base.specs.Sources.{facts_of_tables, shown_in_tables, has_paper, names_in, name_in}
use Rattle.cr_base.specs.Tables.{Tables}
use Rattle.cr_base.specs.Ties.{BareTies, bid_in}
use Rattle.cr_view.specs.declared.queries.AnswerError.{AnswerError}
use Rattle.cr_view.specs.declared.queries.AnswerError.TheVariants as errors

-- the reply is no refusal
abbrev pub IsNoRefusal : Reply → Type 0
IsNoRefusal reply = (rule : Rule) → reply ≢ replies.Refused rule

-- a query to which this reply is due was answered by it, or by the rule that it tells; memory ran out only if it tells
-- none
abbrev pub AnswersAsDue : Result Reply AnswerError → Reply → Type 0
AnswersAsDue (Ok reply) due = (reply ≡ due) × IsNoRefusal due
AnswersAsDue (Err (errors.Rule rule)) due = due ≡ replies.Refused rule
AnswersAsDue (Err errors.OutOfMemory) due = IsNoRefusal due

-- a query to which this reply is due, maybe one for a plan, was answered by it: `AnswersAsDue`, and memory may also run
-- out if there is no plan, which takes memory to find
abbrev pub AnswersOrPlans : Result Reply AnswerError → Reply → Type 0
AnswersOrPlans (Ok reply) due = (reply ≡ due) × IsNoRefusal due
AnswersOrPlans (Err (errors.Rule rule)) due = due ≡ replies.Refused rule
AnswersOrPlans (Err errors.OutOfMemory) due = MayTakeMemory due

-- a page or a content that is due, or the broken rule, was answered; memory ran out only if no rule is broken
abbrev pub ShowsAsDue : {A : Type 0} → Result A AnswerError → Result A Rule → Type 0
ShowsAsDue (Ok shown) due = due ≡ Ok shown
ShowsAsDue (Err (errors.Rule rule)) due = due ≡ Err rule
ShowsAsDue (Err errors.OutOfMemory) due = IsOk due

-- ---- by the tables

-- the phase, the mode and the number of papers
abbrev pub conference_at : Tables → Conference
conference_at t = record { mode = t.stage.mode; papers = paper_count t.papers; phase = t.stage.phase }

-- the user's standing at the paper of which this query asks, or the first broken rule
abbrev pub reader_at : (Option ℕ → Query) → Tables → Option ℕ → Option ℕ → Result Standing Rule
reader_at asked t user paper =
    judged (query_checks (facts_of_tables t user) (shown_in_tables t) (asked paper)) (standing_at t user paper)

-- what a user is told of the paper of which this query asks, or the first broken rule
abbrev pub due_at : {A : Type 0} → (Option ℕ → Query) → (Facts → Shown → ℕ → A) → Tables → Option ℕ
    → Option ℕ → Result A Rule
due_at asked told t user paper =
    let facts = facts_of_tables t user in
    judged (query_checks facts (shown_in_tables t) (asked paper)) (told facts (shown_in_tables t) (unwrap_or paper 0))

-- the facts that what is told of a paper goes by, for a user with this standing at it
abbrev pub facts_at : Tables → Option ℕ → Standing → Facts
facts_at t user by = record {
  standing = λ (paper : Option ℕ). by;
  accounts = lines_of t.accounts;
  papers = [];
  own_papers = 0;
  own_bytes = 0;
  own_bid = bid_in t.ties user;
  own_ordinal = ordinal_in t.seats user;
  own_forms = λ p. own_forms_in t user p;
  own_comments = 0;
  accepted = is_accepted_in t;
  deadline = deadline_in t.stage.deadlines;
  had_response = t.stage.had_response;
}

-- the page that is due to a user, or the first broken rule
abbrev pub page_due : Tables → Option ℕ → Option ℕ → Result Page Rule
page_due t user paper = due_at queries.Page (λ (facts : Facts) (shown : Shown). page_by facts shown user) t user paper

-- the versions that authors, or others, are told of a paper
abbrev pub versions_at : Tables → Bool → ℕ → List ℕ
versions_at t author p = map (λ (u : Upload). u.version) (uploads_told author (uploads_at t.papers p))

-- the content of this version of a paper, or of its last, if authors, or others, are told it
abbrev pub content_at : Tables → Bool → ℕ → Option ℕ → Option (List ℕ)
content_at t author p version =
    option_map (λ (u : Upload). u.content) (upload_of version (uploads_told author (uploads_at t.papers p)))

-- the standing of a user at the paper whose content they may read, if there is one, or the first broken rule
abbrev pub content_reader_at : Tables → Option ℕ → Option ℕ → Result Standing Rule
content_reader_at t user paper =
    let by = standing_at t user paper in
    judged
    (content_checks by (at_some (is_accepted_in t) paper) (of_there (has_paper (facts_of_tables t user) paper)) true)
    by

-- the content that is due to a user, or the first broken rule
abbrev pub content_due : Tables → Option ℕ → Option ℕ → Option ℕ → Result (List ℕ) Rule
content_due t user paper version =
    let facts = facts_of_tables t user in
    judged
    (content_asked facts (shown_in_tables t) paper version)
    (unwrap_or (content_by facts (shown_in_tables t) paper version) [])

-- the reply with the content that is due to a user, or with the first broken rule
abbrev pub content_reply_at : Tables → Option ℕ → Option ℕ → Option ℕ → Reply
content_reply_at t user paper version =
    let facts = facts_of_tables t user in
    let content = unwrap_or (content_by facts (shown_in_tables t) paper version) [] in
    reply_or_rule (judged (content_asked facts (shown_in_tables t) paper version) (replies.Content content))

-- the names of the users of these ties
abbrev pub names_of : Tables → BareTies → List (List ℕ)
names_of t ties = names_in (lines_of t.accounts) (map (λ (tie : Tie (Unit {0})). tie.pair.user) ties)

-- the bid of a tie
abbrev pub bid_of : Tie ℕ → BidTold
bid_of tie = record { user = tie.pair.user; value = tie.value }

-- these bids, each with the name of the user who made it
abbrev pub bidders_of : Tables → List BidTold → List Bidder
bidders_of t bids = flat_map (λ (bid : BidTold). listed (bidder_told (lines_of t.accounts) bid)) bids

-- those of these seats that aren't left
abbrev pub seated : List (Tie Seat) → List SeatTold
seated seats = map told_seat (filter (λ (seat : Tie Seat). not seat.value.vacated) seats)

-- these reviewers, as a caller with this standing at their paper is told them; the function says under which labels
-- there is a form
abbrev pub reviewers_of : Tables → Standing → (ℕ → Bool) → List SeatTold → List Reviewer
reviewers_of t by written seats = map (reviewer_told by (lines_of t.accounts) written) seats

-- the name of the user who has this seat, if a caller with this standing is told it and the seat isn't left
abbrev pub holder_name : Tables → Standing → Tie Seat → Option (List ℕ)
holder_name t by seat =
    where_told (not seat.value.vacated && shows_reviewer by) (name_in (lines_of t.accounts) seat.pair.user)

-- the reviewer who has this seat, with this name, who has written a form or hasn't; `None` if the seat is left
abbrev pub reviewer_of : Standing → Tie Seat → Bool → Option (List ℕ) → Option Reviewer
reviewer_of by seat written name = if seat.value.vacated then None else Some (record {
  done = where_told (is_clear_chair by) (Some written);
  kind = where_told (is_clear_member by) (Some seat.value.kind);
  label = seat.value.ordinal;
  user = name;
})
