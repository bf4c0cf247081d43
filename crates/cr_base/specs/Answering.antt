-- SPDX-License-Identifier: Apache-2.0 OR MIT
-- The answer to each query, by what one is given of the conference (Facts) and of its papers (Shown). With the facts of
-- a view it is `answer` of cr_policy, with those of the tables `answer_by_role`.
use Rattle.std.specs.Prelude.{ℕ, Bool, true, false, not, ◌≢◌, ◌&&◌, ◌==◌, List, [], length, map, Option}
use Rattle.std.specs.Prelude.{Some, None, is_some, filter, find, unwrap_or, Result, Ok, Err, if◌then◌else◌}
use Rattle.std.specs.Option.{option_map, option_and_then}
use Rattle.std.specs.List.{flat_map}
use Rattle.cr_base.specs.declared.accepted.AcceptedPaper.{AcceptedPaper}
use Rattle.cr_base.specs.declared.command.Query.{Query}
use Rattle.cr_base.specs.declared.command.Query.TheVariants as queries
use Rattle.cr_base.specs.declared.comment.CommentLine.{CommentLine}
use Rattle.cr_base.specs.declared.found.FoundPaper.{FoundPaper}
use Rattle.cr_base.specs.declared.me.Me.{Me}
use Rattle.cr_base.specs.declared.page.Bidder.{Bidder}
use Rattle.cr_base.specs.declared.page.Page.{Page}
use Rattle.cr_base.specs.declared.page.Reviewer.{Reviewer}
use Rattle.cr_base.specs.declared.reply.AccountLine.{AccountLine}
use Rattle.cr_base.specs.declared.reply.Reply.{Reply}
use Rattle.cr_base.specs.declared.reply.Reply.TheVariants as replies
use Rattle.cr_base.specs.declared.reply.Rule.{Rule}
use Rattle.cr_base.specs.declared.reply.Rule.TheVariants as rules
use Rattle.cr_base.specs.declared.review.ReviewLine.{ReviewLine}
use Rattle.cr_base.specs.declared.search.Node.{Node}
use Rattle.cr_base.specs.declared.standing.Standing.{Standing}
use Rattle.cr_base.specs.Checks.{Check, judged, of_there, page_checks, content_checks, reviews_checks, comments_checks}
use Rattle.cr_base.specs.Checks.{response_checks, reads_all_forms}
use Rattle.cr_base.specs.Deadlines.{deadlines_told}
use Rattle.cr_base.specs.Decisions.{is_published}
use Rattle.cr_base.specs.History.{Upload, BidTold, SeatTold, FormTold, CommentTold}
use Rattle.cr_base.specs.Labels.{by_labels, most_labels}
use Rattle.cr_base.specs.Lists.{listed, last, at_some}
use Rattle.cr_base.specs.Logins.{query_wants_login}
use Rattle.cr_base.specs.Page.{is_clear_member, is_clear_chair, shows_reviewer, shows_writer, where_told, page_of}
use Rattle.cr_base.specs.Phases.{authors_read_reviews}
use Rattle.cr_base.specs.Plans.{planned_papers, planned_members, best_plan, is_too_large, plan_checks, plan_reply}
use Rattle.cr_base.specs.Reports.{report_checks, report_told}
use Rattle.cr_base.specs.Searching.{PaperTold, is_found, found_paper}
use Rattle.cr_base.specs.Sources.{Facts, Shown, decision_by, names_in, name_in}
use Rattle.cr_base.specs.Sources.{has_paper, facts_of_tables, shown_in_tables}
use Rattle.cr_base.specs.Calls.{maker_of}
use Rattle.cr_base.specs.Tables.{Tables}
use Rattle.cr_base.specs.Words.{is_chair}

-- the uploads of a paper that are told: all to its authors, to others only the last
abbrev pub uploads_told : Bool → List Upload → List Upload
uploads_told true uploads = uploads
uploads_told false uploads = listed (last uploads)

-- the upload of this version among these; the last one if no version is named
abbrev pub upload_of : Option ℕ → List Upload → Option Upload
upload_of None uploads = last uploads
upload_of (Some version) uploads = find (λ (u : Upload). u.version == version) uploads

-- the content of the paper of this version, or of its last if none is named; `None` if the caller isn't told it
abbrev pub content_by : Facts → Shown → Option ℕ → Option ℕ → Option (List ℕ)
content_by facts shown paper version =
    let told = λ (p : ℕ). upload_of version (uploads_told (facts.standing paper).author (shown.uploads p)) in
    option_map (λ (u : Upload). u.content) (option_and_then told paper)

-- the rules of asking for the content of the paper, of this version or the last
abbrev pub content_asked : Facts → Shown → Option ℕ → Option ℕ → List Check
content_asked facts shown paper version =
    content_checks (facts.standing paper) (at_some facts.accepted paper) (of_there (has_paper facts paper))
    (is_some (content_by facts shown paper version))

-- ---- who may ask

-- the paper whose page or content the query asks for: what is published is for everyone
abbrev pub paper_read : Query → Option ℕ
paper_read (queries.Page paper) = paper
paper_read (queries.Content paper) = paper
paper_read (queries.Version paper version) = paper
paper_read _ = None

-- the query requires authentication: it isn't one that everyone may ask, nor the page or the content of a published
-- paper
abbrev pub login_wanted : Facts → Query → Bool
login_wanted facts query =
    query_wants_login query
    && not (is_published (facts.standing None).phase (at_some facts.accepted (paper_read query)))

-- the rules of asking for a plan
abbrev pub plan_asked : Facts → Shown → ℕ → List Check
plan_asked facts shown per_paper =
    plan_checks (facts.standing None)
    (is_too_large per_paper (length (planned_papers facts shown per_paper)) (length (planned_members facts)))

-- the rules of a query, except `NoPlan`: that there is no plan is found with the answer
abbrev pub query_checks : Facts → Shown → Query → List Check
query_checks facts shown queries.Accounts = []
query_checks facts shown queries.Phase = []
query_checks facts shown queries.Deadlines = []
query_checks facts shown queries.AcceptedPapers = []
query_checks facts shown queries.Me = []
query_checks facts shown (queries.Search search only_count) = []
query_checks facts shown (queries.Page paper) =
    page_checks (facts.standing paper) (at_some facts.accepted paper) (of_there (has_paper facts paper))
query_checks facts shown (queries.Content paper) = content_asked facts shown paper None
query_checks facts shown (queries.Version paper version) = content_asked facts shown paper (Some version)
query_checks facts shown (queries.Reviews paper) =
    reviews_checks (facts.standing paper) facts.had_response (of_there (has_paper facts paper))
query_checks facts shown (queries.Comments paper) =
    comments_checks (facts.standing paper) (of_there (has_paper facts paper))
query_checks facts shown (queries.Response paper) =
    response_checks (facts.standing paper) (of_there (has_paper facts paper))
    (is_some (option_and_then shown.response paper))
query_checks facts shown (queries.Report report) = report_checks facts report
query_checks facts shown (queries.Plan per_paper load) = plan_asked facts shown per_paper

-- a bid with the name of the user who made it; `None` if the user has no account
abbrev pub bidder_told : List AccountLine → BidTold → Option Bidder
bidder_told accounts bid =
    option_map (λ (name : List ℕ). record { bid = bid.value; user = name }) (name_in accounts bid.user)

-- a reviewer, as a caller with this standing at the paper is told of them; `written` says under which ordinals there is
-- a form
abbrev pub reviewer_told : Standing → List AccountLine → (ℕ → Bool) → SeatTold → Reviewer
reviewer_told by accounts written seat = record {
  done = where_told (is_clear_chair by) (Some (written seat.ordinal));
  kind = where_told (is_clear_member by) seat.kind;
  label = seat.ordinal;
  user = where_told (shows_reviewer by) (option_and_then (name_in accounts) seat.user);
}

-- the page of a paper that is there, as the caller is told it
abbrev pub page_by : Facts → Shown → Option ℕ → ℕ → Page
page_by facts shown caller p =
    page_of (facts.standing (Some p)) (facts.accepted p) p (record {
      title = shown.title p;
      abstract_ = shown.abstract_ p;
      authors = names_in facts.accounts (shown.authors p);
      bid = facts.own_bid p;
      bids = flat_map (λ (bid : BidTold). listed (bidder_told facts.accounts bid)) (shown.bids p);
      conflicts = names_in facts.accounts (shown.conflicts p);
      decision = decision_by facts shown p;
      declared = names_in facts.accounts (shown.declared p);
      label = facts.own_ordinal p;
      reviewers = map (reviewer_told (facts.standing (Some p)) facts.accounts (shown.written p)) (shown.reviewers p);
      tags = shown.tags caller (is_chair (facts.standing (Some p)).role) p;
      versions = map (λ (u : Upload). u.version) (uploads_told (facts.standing (Some p)).author (shown.uploads p));
      withdrawn = shown.withdrawn p;
    })

-- ---- reviews and comments

-- a form under a label that this user wrote, as a caller with this standing at the paper is told it; `named` says
-- whether the user is named. Members read all of it, authors neither its number nor the text to the committee.
abbrev pub review_told : Standing → List AccountLine → Bool → Option ℕ → ℕ → FormTold → ReviewLine
review_told by accounts named user label form = record {
  confidence = form.confidence;
  label = label;
  score = form.score;
  to_authors = form.to_authors;
  to_pc = where_told (not by.author) form.to_pc;
  user = where_told named (option_and_then (name_in accounts) user);
  version = where_told (not by.author) form.version;
}

-- the form of the label of this ordinal that authors with this standing at the paper are told: from the notification on
-- the last, before it the one to which they respond
abbrev pub authors_form : Shown → Standing → ℕ → ℕ → Option FormTold
authors_form shown by p o = if authors_read_reviews by.phase then shown.last_form p o else shown.early_form p o

-- the reviews of the paper that the caller is told: authors one form of each label; members from the discussion on the
-- forms that are discussed; else reviewers their own, without their names
abbrev pub reviews_by : Facts → Shown → ℕ → List ReviewLine
reviews_by facts shown p =
    let by = facts.standing (Some p) in
    let told = λ (named : Bool) (o : ℕ) (forms : List FormTold).
    map (review_told by facts.accounts named (shown.assigned p o) o) forms in
    if by.author then by_labels (λ (o : ℕ). told (shows_reviewer by) o (listed (authors_form shown by p o))) most_labels
    else (if reads_all_forms by
    then by_labels (λ (o : ℕ). told (shows_reviewer by) o (shown.forms_discussed p o)) most_labels
    else told false (unwrap_or (facts.own_ordinal p) 0) (facts.own_forms p))

-- a comment, as a caller with this standing at the paper is told it: with the writer's name, or else with the writer's
-- label, if there is one
abbrev pub comment_line : Standing → List AccountLine → CommentTold → CommentLine
comment_line by accounts comment = record {
  label = where_told (not (shows_writer by)) comment.ordinal;
  n = comment.n;
  text = comment.text;
  user = where_told (shows_writer by) (option_and_then (name_in accounts) comment.writer);
}

-- the comments on the paper, as the caller is told them, in order
abbrev pub comments_by : Facts → Shown → ℕ → List CommentLine
comments_by facts shown p = map (comment_line (facts.standing (Some p)) facts.accounts) (shown.comments p)

-- the text that the paper's authors responded; empty if there is none
abbrev pub response_by : Shown → Option ℕ → List ℕ
response_by shown paper = unwrap_or (option_and_then shown.response paper) []

-- ---- the accepted papers

-- an accepted paper, as everyone is told it: its authors, its number and its title
abbrev pub accepted_paper : Facts → Shown → ℕ → AcceptedPaper
accepted_paper facts shown p = record {
  authors = names_in facts.accounts (shown.authors p);
  paper = p;
  title = unwrap_or (shown.title p) [];
}

-- the accepted papers, by number
abbrev pub accepted_by : Facts → Shown → List AcceptedPaper
accepted_by facts shown = map (accepted_paper facts shown) (filter facts.accepted facts.papers)

-- ---- the caller

-- what a user is told of themselves
abbrev pub me_by : Facts → ℕ → Me
me_by facts user = record {
  assigned = filter (λ p. (facts.standing (Some p)).reviewer) facts.papers;
  bytes = facts.own_bytes;
  comments = facts.own_comments;
  conflicts = filter (λ p. (facts.standing (Some p)).conflicted && not (facts.standing (Some p)).author) facts.papers;
  invited = filter (λ p. (facts.standing (Some p)).external) facts.papers;
  name = unwrap_or (name_in facts.accounts user) [];
  papers = filter (λ p. (facts.standing (Some p)).author) facts.papers;
  role = (facts.standing None).role;
  user = user;
}

-- ---- searches

-- the reply, or the broken rule as a reply
abbrev pub reply_or_rule : Result Reply Rule → Reply
reply_or_rule (Ok reply) = reply
reply_or_rule (Err rule) = replies.Refused rule

-- the reviews that a reply tells; none if it is a refusal
abbrev pub reviews_answered : Reply → List ReviewLine
reviews_answered (replies.Reviews lines) = lines
reviews_answered _ = []

-- the comments that a reply tells; none if it is a refusal
abbrev pub comments_answered : Reply → List CommentLine
comments_answered (replies.Comments lines) = lines
comments_answered _ = []

-- the reply tells a response
abbrev pub tells_response : Reply → Bool
tells_response (replies.Response text) = true
tells_response _ = false

-- what the caller is told of a paper by those queries which the terms of a search go by
abbrev pub told_of_paper : Facts → Shown → Option ℕ → ℕ → PaperTold
told_of_paper facts shown caller p = record {
  page = page_by facts shown caller p;
  accepted = facts.accepted p;
  conflicted = (facts.standing (Some p)).conflicted;
  reviews = reviews_answered (reply_or_rule
      (judged (query_checks facts shown (queries.Reviews (Some p))) (replies.Reviews (reviews_by facts shown p))));
  comments = comments_answered (reply_or_rule
      (judged (query_checks facts shown (queries.Comments (Some p))) (replies.Comments (comments_by facts shown p))));
  responded = tells_response (reply_or_rule
      (judged (query_checks facts shown (queries.Response (Some p))) (replies.Response (response_by shown (Some p)))));
}

-- the papers that a search finds, by number, each with what the search tells of it
abbrev pub found_by : Facts → Shown → Option ℕ → List Node → List FoundPaper
found_by facts shown caller search =
    map (λ (p : ℕ). found_paper p (told_of_paper facts shown caller p))
    (filter (λ (p : ℕ). is_found (told_of_paper facts shown caller p) search) facts.papers)

-- the reply to a search: the papers that it finds, or only how many there are
abbrev pub search_told : Facts → Shown → Option ℕ → List Node → Bool → Reply
search_told facts shown caller search true = replies.Count (length (found_by facts shown caller search))
search_told facts shown caller search false = replies.Found (found_by facts shown caller search)

-- the reply to a query that breaks no rule
abbrev pub told_by : Facts → Shown → Option ℕ → Query → Reply
told_by facts shown caller queries.Accounts = replies.Accounts facts.accounts
told_by facts shown caller queries.Phase =
    let by = facts.standing None in
    replies.Conference (record { mode = by.mode; papers = length facts.papers; phase = by.phase })
told_by facts shown caller queries.Deadlines = replies.Deadlines (deadlines_told facts.deadline)
told_by facts shown caller queries.AcceptedPapers = replies.AcceptedPapers (accepted_by facts shown)
told_by facts shown caller queries.Me = replies.Me (me_by facts (maker_of caller))
told_by facts shown caller (queries.Page paper) = replies.Page (page_by facts shown caller (unwrap_or paper 0))
told_by facts shown caller (queries.Content paper) = replies.Content (unwrap_or (content_by facts shown paper None) [])
told_by facts shown caller (queries.Version paper version) =
    replies.Content (unwrap_or (content_by facts shown paper (Some version)) [])
told_by facts shown caller (queries.Reviews paper) = replies.Reviews (reviews_by facts shown (unwrap_or paper 0))
told_by facts shown caller (queries.Comments paper) = replies.Comments (comments_by facts shown (unwrap_or paper 0))
told_by facts shown caller (queries.Response paper) = replies.Response (response_by shown paper)
told_by facts shown caller (queries.Search search only_count) = search_told facts shown caller search only_count
told_by facts shown caller (queries.Report report) = replies.Report (report_told facts shown report)
told_by facts shown caller (queries.Plan per_paper load) = plan_reply (best_plan facts shown per_paper load)

-- the answer to a query: the first broken rule of its list, or else the reply
abbrev pub answer_by : Facts → Shown → Option ℕ → Query → Reply
answer_by facts shown caller query =
    reply_or_rule (judged (query_checks facts shown query) (told_by facts shown caller query))

-- the reply may take memory to find: it is no refusal, or it is that there is no plan. All other refusals are told
-- whatever memory there is.
abbrev pub MayTakeMemory : Reply → Type 0
MayTakeMemory reply = (rule : Rule) → rule ≢ rules.NoPlan → reply ≢ replies.Refused rule

-- the answer to a user's query by checks on the tables
abbrev pub answer_by_role : Tables → Option ℕ → Query → Reply
answer_by_role t caller query = answer_by (facts_of_tables t caller) (shown_in_tables t) caller query
