-- SPDX-License-Identifier: Apache-2.0 OR MIT
-- What is read of a paper and of the lists that its page tells, for a caller: each once.
use Rattle.std.specs.Prelude.{ℕ, Bool, false, ◌≡◌, ◌+◌, ◌*◌, List, length, Option}
use Rattle.std.specs.Prelude.{Some, unwrap_or, is_some, if◌then◌else◌}
use Rattle.std.specs.Option.{option_map, option_map_or}
use Rattle.cr_base.specs.declared.page.Page.{Page}
use Rattle.cr_base.specs.declared.page.Reviewer.{Reviewer}
use Rattle.cr_base.specs.declared.paper.Paper.{Paper}
use Rattle.cr_base.specs.declared.standing.Standing.{Standing}
use Rattle.cr_base.specs.declared.words.Decision.{Decision}
use Rattle.cr_base.specs.declared.words.Decision.TheVariants.{Accept}
use Rattle.cr_base.specs.declared.pairs.Order.TheVariants.{ByPaper}
use Rattle.cr_base.specs.Accounts.{lines_of, role_in}
use Rattle.cr_base.specs.Decisions.{decision_in, is_accepted_when}
use Rattle.cr_base.specs.Filed.{filed_of}
use Rattle.cr_base.specs.History.{History, BidTold, SeatTold}
use Rattle.cr_base.specs.Lists.{numbered}
use Rattle.cr_base.specs.Page.{page_of, where_told, shows_author, gets_conflicts, gets_declared}
use Rattle.cr_base.specs.Page.{gets_abstract, gets_bid, gets_bids, gets_conflict, gets_decision, gets_label}
use Rattle.cr_base.specs.Page.{gets_reviewers, gets_title, gets_withdrawn}
use Rattle.cr_base.specs.Pairs.{ties_of, users_tied_to}
use Rattle.cr_base.specs.Papers.{uploads_at}
use Rattle.cr_base.specs.Reviews.{is_written_in}
use Rattle.cr_base.specs.Seats.{ordinal_in, reviewers_in}
use Rattle.cr_base.specs.Sources.{names_in, standing_at, is_external_in}
use Rattle.cr_base.specs.Steps.{TakesAtMost}
use Rattle.cr_base.specs.Tables.{Tables, tables_of}
use Rattle.cr_base.specs.Tags.{tags_in}
use Rattle.cr_base.specs.Ties.{authors_in, bid_in, bids_in, is_author_in, is_conflicted_in}
use Rattle.cr_base.specs.Words.{is_chair, no_bid}
use Rattle.cr_history.specs.Records.{entries_on}
use Rattle.cr_reviews.specs.Labels.{has_label}
use Rattle.cr_view.specs.declared.facts.PaperTie.{PaperTie}
use Rattle.cr_view.specs.Replies.{bidders_of, reviewers_of, versions_at}

-- ---- what is asked of one paper for one caller

-- what a user, or an unauthenticated caller, is to the paper
abbrev pub tie_at : Tables → Option ℕ → ℕ → PaperTie
tie_at t user p = record {
  author = is_author_in t.ties user p;
  conflicted = is_conflicted_in t.ties user p;
  label = ordinal_in t.seats user p;
  external = is_external_in t user p;
}

-- the standing of a user who is this to the paper
abbrev pub stance_at : Tables → Option ℕ → PaperTie → Standing
stance_at t user tie = record {
  phase = t.stage.phase;
  mode = t.stage.mode;
  role = role_in t.accounts user;
  author = tie.author;
  conflicted = tie.conflicted;
  reviewer = is_some tie.label;
  external = tie.external;
}

-- what is read of a paper: its number, the caller's standing at it, the ordinal under which the caller reviews it, the
-- last decision on it, and what is kept of it, if it is there
pub record PaperSeen : Type 0 where
  pub paper : ℕ
  pub by : Standing
  pub label : Option ℕ
  pub decision : Option Decision
  pub kept : Option Paper

-- what is read of the paper for a user
abbrev pub paper_seen_at : Tables → Option ℕ → ℕ → PaperSeen
paper_seen_at t user p = record {
  paper = p;
  by = standing_at t user (Some p);
  label = ordinal_in t.seats user p;
  decision = decision_in t.decisions p;
  kept = numbered t.papers.papers p;
}

-- the paper's title
abbrev pub title_seen : PaperSeen → Option (List ℕ)
title_seen s = option_map (λ (paper : Paper). paper.title) s.kept

-- the paper's abstract
abbrev pub abstract_seen : PaperSeen → Option (List ℕ)
abstract_seen s = option_map (λ (paper : Paper). paper.abstract_) s.kept

-- the paper is withdrawn
abbrev pub withdrawn_seen : PaperSeen → Bool
withdrawn_seen s = option_map_or (λ (paper : Paper). paper.withdrawn) s.kept false

-- the paper is accepted
abbrev pub accepted_seen : PaperSeen → Bool
accepted_seen s = is_accepted_when s.by.phase (withdrawn_seen s) s.decision

-- the decision on the paper: to accept it, if it is accepted; else the last one
abbrev pub decision_seen : PaperSeen → Option Decision
decision_seen s = if accepted_seen s then Some Accept else s.decision

-- ---- what its page tells of lists

-- the seats of a paper that aren't left, and a flag for each label: whether a form is written under it
pub record SeatsSeen : Type 0 where
  pub seats : List SeatTold
  pub flags : List Bool

-- the reviewers who have these seats, as a caller with this standing at the paper is told them
abbrev pub reviewers_read : Tables → Standing → SeatsSeen → List Reviewer
reviewers_read t by read = reviewers_of t by (has_label read.flags) read.seats

-- the paper's reviewers, if the caller is told them
abbrev pub reviewers_told : Tables → PaperSeen → Option (List Reviewer)
reviewers_told t s = where_told (gets_reviewers s.by)
    (Some (reviewers_of t s.by (is_written_in t.reviews s.paper) (reviewers_in t.seats s.paper)))

-- what is read of the lists of a paper: its authors, who is declared in conflict with it, whom its authors declared,
-- all by number; the last bids on it, the caller's own, and its reviewers; each if the caller is told it
pub record ListsSeen : Type 0 where
  pub authors : Option (List ℕ)
  pub conflicts : Option (List ℕ)
  pub declared : Option (List ℕ)
  pub bid : Option ℕ
  pub bids : Option (List BidTold)
  pub reviewers : Option SeatsSeen

-- what is read of the lists of the paper for a user, with these seats for the reviewers
abbrev pub lists_seen_at : Tables → Option ℕ → PaperSeen → Option SeatsSeen → ListsSeen
lists_seen_at t user s reviewers = record {
  authors = where_told (shows_author s.by (accepted_seen s)) (Some (authors_in t.ties s.paper));
  conflicts = where_told (gets_conflicts s.by) (Some (users_tied_to s.paper t.ties.conflicts));
  declared = where_told (gets_declared s.by) (Some (users_tied_to s.paper t.ties.declared));
  bid = where_told (gets_bid s.by) (Some (unwrap_or (bid_in t.ties user s.paper) no_bid));
  bids = where_told (gets_bids s.by) (Some (bids_in t.ties s.paper));
  reviewers = reviewers;
}

-- the paper's page for a user, by what is read of the paper
abbrev pub page_seen : Tables → Option ℕ → PaperSeen → Page
page_seen t user s = page_of s.by (accepted_seen s) s.paper (record {
  title = title_seen s;
  abstract_ = abstract_seen s;
  authors = names_in (lines_of t.accounts) (authors_in t.ties s.paper);
  bid = bid_in t.ties user s.paper;
  bids = bidders_of t (bids_in t.ties s.paper);
  conflicts = names_in (lines_of t.accounts) (users_tied_to s.paper t.ties.conflicts);
  decision = decision_seen s;
  declared = names_in (lines_of t.accounts) (users_tied_to s.paper t.ties.declared);
  label = s.label;
  reviewers = reviewers_of t s.by (is_written_in t.reviews s.paper) (reviewers_in t.seats s.paper);
  tags = tags_in t.tags user (is_chair s.by.role) s.paper;
  versions = versions_at t s.by.author s.paper;
  withdrawn = withdrawn_seen s;
})

-- the paper's page, by what is read of the paper and of its lists, with the versions and the tags that are told
abbrev pub page_listed : Tables → PaperSeen → ListsSeen → Option (List ℕ) → Option (List (List ℕ)) → Page
page_listed t s lists versions tags = record {
  paper = s.paper;
  abstract_ = where_told (gets_abstract s.by (accepted_seen s)) (abstract_seen s);
  authors = option_map (names_in (lines_of t.accounts)) lists.authors;
  bid = lists.bid;
  bids = option_map (bidders_of t) lists.bids;
  conflict = where_told (gets_conflict s.by) (Some s.by.conflicted);
  conflicts = option_map (names_in (lines_of t.accounts)) lists.conflicts;
  decision = where_told (gets_decision s.by (accepted_seen s)) (Some (decision_seen s));
  declared = option_map (names_in (lines_of t.accounts)) lists.declared;
  label = where_told (gets_label s.by) s.label;
  reviewers = option_map (reviewers_read t s.by) lists.reviewers;
  tags = tags;
  title = where_told (gets_title s.by (accepted_seen s)) (title_seen s);
  versions = versions;
  withdrawn = where_told (gets_withdrawn s.by) (Some (withdrawn_seen s));
}

-- ---- how many records are read

-- how many of the paper's records are read for what a caller is to it
abbrev pub tie_reads : Tables → ℕ → ℕ
tie_reads t p =
    length (authors_in t.ties p)
    + length (users_tied_to p t.ties.conflicts)
    + length (ties_of ByPaper p t.seats)
    + length (users_tied_to p t.invites)

-- how many of the paper's records are read for its facts
abbrev pub facts_reads : Tables → ℕ → ℕ
facts_reads t p = tie_reads t p + 4

-- how many of the paper's records are read for the caller's bid
abbrev pub bid_reads : Tables → ℕ → ℕ
bid_reads t p = length (bids_in t.ties p)

-- how many of the paper's records are read for the lists that its page tells
abbrev pub list_reads : Tables → Standing → ℕ → ℕ
list_reads t by p =
    length (authors_in t.ties p)
    + (if gets_conflicts by then length (users_tied_to p t.ties.conflicts) else 0)
    + (if gets_declared by then length (users_tied_to p t.ties.declared) else 0)
    + bid_reads t p
    + bid_reads t p
    + (length (ties_of ByPaper p t.seats) + length (filed_of p t.reviews.forms))

-- how many of the paper's records are read for its page
abbrev pub page_reads : Tables → Standing → ℕ → ℕ
page_reads t by p =
    list_reads t by p + (length (uploads_at t.papers p) + 1) + length (filed_of p t.tags)

-- a page takes at most twice as many steps as there are entries on the paper in a history with these tables, and 16
-- more
abbrev pub TakesFew : Tables → ℕ → Option ℕ → Option ℕ → Type 0
TakesFew t p old new = (h : History) → t ≡ tables_of h → TakesAtMost (2 * entries_on p h + 16) old new
