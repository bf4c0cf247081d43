-- SPDX-License-Identifier: Apache-2.0 OR MIT
-- A paper's page: which keys a caller is told, by their standing at the paper, and what the keys hold. From which phase
-- on follows CoCon's phases; title, abstract, authors, conflicts, review preferences and the kinds of review are the
-- HotCRP manual's. Each definition says of a caller with this standing whether a key is there; a `Bool` besides it says
-- whether the paper is accepted. An unconflicted user is one who is in no conflict with the paper.
use Rattle.std.specs.Prelude.{ℕ, Bool, not, ◌||◌, ◌&&◌, List, Option, Some, None, unwrap_or, if◌then◌else◌}
use Rattle.cr_base.specs.declared.page.Bidder.{Bidder}
use Rattle.cr_base.specs.declared.page.Page.{Page}
use Rattle.cr_base.specs.declared.page.Reviewer.{Reviewer}
use Rattle.cr_base.specs.declared.standing.Standing.{Standing}
use Rattle.cr_base.specs.declared.words.Decision.{Decision}
use Rattle.cr_base.specs.Decisions.{is_published}
use Rattle.cr_base.specs.Phases.{members_see_papers, committee_sees_authors, chairs_see_conflicts}
use Rattle.cr_base.specs.Phases.{members_see_own_bids, chairs_see_bids, committee_sees_tags}
use Rattle.cr_base.specs.Phases.{chairs_see_reviewers, members_see_reviewers, authors_see_reviewers}
use Rattle.cr_base.specs.Phases.{members_read_comments, members_read_decisions, authors_read_decisions}
use Rattle.cr_base.specs.Words.{is_anonymous, is_overt, is_member, is_chair, no_bid}

-- ---- who is told

-- an unconflicted member; chairs are members
abbrev pub is_clear_member : Standing → Bool
is_clear_member by = is_member by.role && not by.conflicted

-- an unconflicted chair
abbrev pub is_clear_chair : Standing → Bool
is_clear_chair by = is_chair by.role && not by.conflicted

-- a caller who may be shown more of the paper than everyone, besides its authors: a member, or an external of it
abbrev pub is_admitted : Standing → Bool
is_admitted by = is_member by.role || by.external

-- an unconflicted external of the paper
abbrev pub is_clear_external : Standing → Bool
is_clear_external by = by.external && not by.conflicted

-- an unconflicted member, or an unconflicted external of the paper
abbrev pub reads_paper : Standing → Bool
reads_paper by = is_clear_member by || is_clear_external by

-- the title: authors; members and unconflicted externals from the bidding on; everyone if the paper is accepted
abbrev pub gets_title : Standing → Bool → Bool
gets_title by accepted =
    by.author
    || (is_member by.role && members_see_papers by.phase)
    || (is_clear_external by && members_see_papers by.phase)
    || accepted

-- the abstract: authors; unconflicted members and externals from the bidding on; everyone if the paper is published
abbrev pub gets_abstract : Standing → Bool → Bool
gets_abstract by accepted =
    by.author || (reads_paper by && members_see_papers by.phase) || is_published by.phase accepted

-- who wrote the paper: its authors; from the bidding on unconflicted chairs, and unless the mode is anonymous
-- unconflicted members and externals; everyone if the paper is accepted
abbrev pub shows_author : Standing → Bool → Bool
shows_author by accepted =
    by.author
    || (is_clear_chair by && committee_sees_authors by.phase)
    || (reads_paper by && not (is_anonymous by.mode) && committee_sees_authors by.phase)
    || accepted

-- whether the caller is in conflict with the paper: members, externals and authors
abbrev pub gets_conflict : Standing → Bool
gets_conflict by = is_admitted by || by.author

-- who is declared in conflict with the paper: unconflicted chairs from the bidding on
abbrev pub gets_conflicts : Standing → Bool
gets_conflicts by = is_clear_chair by && chairs_see_conflicts by.phase

-- whom the authors declared in conflict with the paper: authors
abbrev pub gets_declared : Standing → Bool
gets_declared by = by.author

-- the versions of the content: authors all; unconflicted members and externals from the bidding on the last; everyone
-- the last if the paper is published
abbrev pub gets_versions : Standing → Bool → Bool
gets_versions by accepted =
    by.author || (reads_paper by && members_see_papers by.phase) || is_published by.phase accepted

-- whether the paper is withdrawn: authors; members and unconflicted externals from the bidding on
abbrev pub gets_withdrawn : Standing → Bool
gets_withdrawn by =
    by.author
    || (is_member by.role && members_see_papers by.phase)
    || (is_clear_external by && members_see_papers by.phase)

-- the caller's own bid: unconflicted members from the bidding on
abbrev pub gets_bid : Standing → Bool
gets_bid by = is_clear_member by && members_see_own_bids by.phase

-- all bids: unconflicted chairs from the bidding on
abbrev pub gets_bids : Standing → Bool
gets_bids by = is_clear_chair by && chairs_see_bids by.phase

-- the caller's own label: unconflicted members and externals who review the paper
abbrev pub gets_label : Standing → Bool
gets_label by = reads_paper by && by.reviewer

-- who reviews the paper, by names: unconflicted chairs from the bidding on; unconflicted members from the discussion on
-- unless the mode is anonymous; authors from the notification on in the open mode
abbrev pub shows_reviewer : Standing → Bool
shows_reviewer by =
    (is_clear_chair by && chairs_see_reviewers by.phase)
    || (is_clear_member by && not (is_anonymous by.mode) && members_see_reviewers by.phase)
    || (by.author && is_overt by.mode && authors_see_reviewers by.phase)

-- the reviewers, each by label at least: those to whom `shows_reviewer` shows names, and unconflicted members from the
-- discussion on
abbrev pub gets_reviewers : Standing → Bool
gets_reviewers by = shows_reviewer by || (is_clear_member by && members_see_reviewers by.phase)

-- who wrote a comment, by name: from the discussion on unconflicted chairs, and unconflicted members unless the mode is
-- anonymous
abbrev pub shows_writer : Standing → Bool
shows_writer by =
    is_clear_member by && (is_chair by.role || not (is_anonymous by.mode)) && members_read_comments by.phase

-- the tags that are on: unconflicted members from the bidding on
abbrev pub gets_tags : Standing → Bool
gets_tags by = is_clear_member by && committee_sees_tags by.phase

-- the decision: unconflicted members from the discussion on; authors from the notification on; everyone if the paper is
-- accepted
abbrev pub gets_decision : Standing → Bool → Bool
gets_decision by accepted =
    (is_clear_member by && members_read_decisions by.phase)
    || (by.author && authors_read_decisions by.phase)
    || accepted

-- ---- the page

-- what the keys of a page hold
pub record PaperTexts : Type 0 where
  pub title : Option (List ℕ)
  pub abstract_ : Option (List ℕ)
  pub authors : List (List ℕ)
  pub bid : Option ℕ
  pub bids : List Bidder
  pub conflicts : List (List ℕ)
  pub decision : Option Decision
  pub declared : List (List ℕ)
  pub label : Option ℕ
  pub reviewers : List Reviewer
  pub tags : List (List ℕ)
  pub versions : List ℕ
  pub withdrawn : Bool

-- the value if it is told, else `None`
abbrev pub where_told : {A : Type 0} → Bool → Option A → Option A
where_told told value = if told then value else None

-- the page of a paper that holds these texts, as a caller with this standing is told it
abbrev pub page_of : Standing → Bool → ℕ → PaperTexts → Page
page_of by accepted paper texts = record {
  paper = paper;
  abstract_ = where_told (gets_abstract by accepted) texts.abstract_;
  authors = where_told (shows_author by accepted) (Some texts.authors);
  bid = where_told (gets_bid by) (Some (unwrap_or texts.bid no_bid));
  bids = where_told (gets_bids by) (Some texts.bids);
  conflict = where_told (gets_conflict by) (Some by.conflicted);
  conflicts = where_told (gets_conflicts by) (Some texts.conflicts);
  decision = where_told (gets_decision by accepted) (Some texts.decision);
  declared = where_told (gets_declared by) (Some texts.declared);
  label = where_told (gets_label by) texts.label;
  reviewers = where_told (gets_reviewers by) (Some texts.reviewers);
  tags = where_told (gets_tags by) (Some texts.tags);
  title = where_told (gets_title by accepted) texts.title;
  versions = where_told (gets_versions by accepted) (Some texts.versions);
  withdrawn = where_told (gets_withdrawn by) (Some texts.withdrawn);
}
