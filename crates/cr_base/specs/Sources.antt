-- SPDX-License-Identifier: Apache-2.0 OR MIT
-- What rules and answers read: a record of facts (Facts) and one of what is given of each paper (Shown). With those of
-- a view they make `judge` and `answer` of cr_policy, with those of the tables `judge_by_role` and `answer_by_role`.
use Rattle.std.specs.Prelude.{ℕ, Bool, not, ◌||◌, ◌&&◌, ◌==◌, List, Option, Some, None, is_some, find, map}
use Rattle.std.specs.Prelude.{[], if◌then◌else◌, unwrap_or}
use Rattle.std.specs.Option.{option_map, option_and_then}
use Rattle.std.specs.List.{flat_map, list_any}
use Rattle.std.specs.Str.{bytes_eq}
use Rattle.cr_base.specs.declared.entry.Entry.{Entry}
use Rattle.cr_base.specs.declared.entry.Entry.TheVariants.{Named, Dismissed}
use Rattle.cr_base.specs.declared.reply.AccountLine.{AccountLine}
use Rattle.cr_base.specs.declared.standing.Standing.{Standing}
use Rattle.cr_base.specs.declared.target.Target.{Target}
use Rattle.cr_base.specs.declared.words.Decision.{Decision}
use Rattle.cr_base.specs.declared.words.Decision.TheVariants.{Accept}
use Rattle.cr_base.specs.declared.words.Phase.{Phase}
use Rattle.cr_base.specs.declared.words.Role.{Role}
use Rattle.cr_base.specs.Accounts.{lines_of, role_in}
use Rattle.cr_base.specs.Calls.{maker_of}
use Rattle.cr_base.specs.Checks.{NamedPaper}
use Rattle.cr_base.specs.Deadlines.{deadline_in, is_past}
use Rattle.cr_base.specs.Decisions.{decision_in, is_accepted_when}
use Rattle.cr_base.specs.Invites.{is_invited_in}
use Rattle.cr_base.specs.Lists.{listed, is_number, at_some}
use Rattle.cr_base.specs.Pairs.{users_tied_to}
use Rattle.cr_base.specs.History.{Upload, BidTold, SeatTold, FormTold, CommentTold}
use Rattle.cr_base.specs.HistoryFacts.{assigned_under}
use Rattle.cr_base.specs.Papers.{paper_numbers, title_at, abstract_at}
use Rattle.cr_base.specs.Papers.{is_withdrawn_at, uploads_at, own_count, own_bytes}
use Rattle.cr_base.specs.Tables.{Tables}
use Rattle.cr_base.specs.Reviews.{last_form_in, early_form_in, forms_in, forms_discussed_in}
use Rattle.cr_base.specs.Reviews.{is_written_in, written_told}
use Rattle.cr_base.specs.Seats.{labels_in, reviewers_in, ordinal_in, seats_in}
use Rattle.cr_base.specs.Tags.{tags_in}
use Rattle.cr_base.specs.Talk.{comments_in, comment_as_told, own_comments_in, response_in}
use Rattle.cr_base.specs.Words.{is_member}
use Rattle.cr_base.specs.Ties.{authors_in, is_author_in, is_conflicted_in, bid_in, bids_in}

-- what rules and drawn numbers read: the caller's standing, at a paper if one is named; the accounts; the papers; how
-- many of them the caller submitted, and how many bytes they have uploaded; their last bid on each, the ordinal under
-- which they review it, and the forms that they have written of it, in order; how many comments they have written;
-- which papers are accepted; the deadline of the current phase; and whether the response was opened
pub record Facts : Type 0 where
  pub standing : Option ℕ → Standing
  pub accounts : List AccountLine
  pub papers : List ℕ
  pub own_papers : ℕ
  pub own_bytes : ℕ
  pub own_bid : ℕ → Option ℕ
  pub own_ordinal : ℕ → Option ℕ
  pub own_forms : ℕ → List FormTold
  pub own_comments : ℕ
  pub accepted : ℕ → Bool
  pub deadline : Phase → Option ℕ
  pub had_response : Bool

-- what pages, contents and some rules read of a paper besides the standing: its texts, its authors, who is declared in
-- conflict with it, and whom its authors declared, both by number; what was uploaded to it, in order; whether it is
-- withdrawn; the last bids on it, by number; its reviewers, by label, under which ordinal a user reviews it, how many
-- labels were given, and to whom each; whether a user is invited to it; of each label the last form, the last before
-- the response, the forms that the committee discusses, and whether there is one; the comments on it, by number; what
-- its authors responded; the tags that are on and are for a user, who may be a chair, by their bytes; and the last
-- decision on it
pub record Shown : Type 0 where
  pub title : ℕ → Option (List ℕ)
  pub abstract_ : ℕ → Option (List ℕ)
  pub authors : ℕ → List ℕ
  pub conflicts : ℕ → List ℕ
  pub declared : ℕ → List ℕ
  pub uploads : ℕ → List Upload
  pub withdrawn : ℕ → Bool
  pub bids : ℕ → List BidTold
  pub reviewers : ℕ → List SeatTold
  pub ordinal : Option ℕ → ℕ → Option ℕ
  pub labels : ℕ → ℕ
  pub assigned : ℕ → ℕ → Option ℕ
  pub invited : Option ℕ → ℕ → Bool
  pub last_form : ℕ → ℕ → Option FormTold
  pub early_form : ℕ → ℕ → Option FormTold
  pub forms_discussed : ℕ → ℕ → List FormTold
  pub written : ℕ → ℕ → Bool
  pub comments : ℕ → List CommentTold
  pub response : ℕ → Option (List ℕ)
  pub tags : Option ℕ → Bool → ℕ → List (List ℕ)
  pub decision : ℕ → Option Decision

-- the user is no member of the committee, and invited to the paper, by the tables
abbrev pub is_external_in : Tables → Option ℕ → ℕ → Bool
is_external_in t u p = not (is_member (role_in t.accounts u)) && is_invited_in t.invites u p

-- a user's standing, by the tables
abbrev pub standing_at : Tables → Option ℕ → Option ℕ → Standing
standing_at t u paper = record {
  phase = t.stage.phase;
  mode = t.stage.mode;
  role = role_in t.accounts u;
  author = at_some (is_author_in t.ties u) paper;
  conflicted = at_some (is_conflicted_in t.ties u) paper;
  reviewer = at_some (λ p. is_some (ordinal_in t.seats u p)) paper;
  external = at_some (is_external_in t u) paper;
}

-- the forms that the user has written of the paper: those under the user's label
abbrev pub own_forms_in : Tables → Option ℕ → ℕ → List FormTold
own_forms_in t u p = flat_map (λ (o : ℕ). map written_told (forms_in t.reviews p o)) (listed (ordinal_in t.seats u p))

-- the paper is accepted, by the tables
abbrev pub is_accepted_in : Tables → ℕ → Bool
is_accepted_in t p = is_accepted_when t.stage.phase (is_withdrawn_at t.papers p) (decision_in t.decisions p)

-- the facts of the tables
abbrev pub facts_of_tables : Tables → Option ℕ → Facts
facts_of_tables t u = record {
  standing = standing_at t u;
  accounts = lines_of t.accounts;
  papers = paper_numbers t.papers;
  own_papers = own_count t.papers u;
  own_bytes = own_bytes t.papers u;
  own_bid = bid_in t.ties u;
  own_ordinal = ordinal_in t.seats u;
  own_forms = λ p. own_forms_in t u p;
  own_comments = own_comments_in t.talk u;
  accepted = is_accepted_in t;
  deadline = deadline_in t.stage.deadlines;
  had_response = t.stage.had_response;
}

-- what pages, contents and some rules read of a paper, by the tables
abbrev pub shown_in_tables : Tables → Shown
shown_in_tables t = record {
  title = title_at t.papers;
  abstract_ = abstract_at t.papers;
  authors = authors_in t.ties;
  conflicts = λ p. users_tied_to p t.ties.conflicts;
  declared = λ p. users_tied_to p t.ties.declared;
  uploads = uploads_at t.papers;
  withdrawn = is_withdrawn_at t.papers;
  bids = bids_in t.ties;
  reviewers = reviewers_in t.seats;
  ordinal = ordinal_in t.seats;
  labels = labels_in t.seats;
  assigned = λ p o. assigned_under o (seats_in t.seats p);
  invited = is_invited_in t.invites;
  last_form = λ p o. option_map written_told (last_form_in t.reviews p o);
  early_form = early_form_in t.stage.had_response t.reviews;
  forms_discussed = forms_discussed_in t.reviews;
  written = is_written_in t.reviews;
  comments = λ p. map comment_as_told (comments_in t.talk p);
  response = response_in t.talk;
  tags = tags_in t.tags;
  decision = decision_in t.decisions;
}

-- the user of this name; `None` if no account has it
abbrev pub number_in : List AccountLine → List ℕ → Option ℕ
number_in accounts name = option_map (λ a. a.user) (find (λ a. bytes_eq a.name name) accounts)

-- the name of a user; `None` if there is no such account
abbrev pub name_in : List AccountLine → ℕ → Option (List ℕ)
name_in accounts user = option_map (λ a. a.name) (find (λ a. a.user == user) accounts)

-- the name that the receipt of an entry tells: of the user who is given a role, or loses it
abbrev pub name_told_by : List AccountLine → Entry → List ℕ
name_told_by accounts (Named user role) = unwrap_or (name_in accounts user) []
name_told_by accounts (Dismissed user) = unwrap_or (name_in accounts user) []
name_told_by accounts _ = []

-- the user with this name; `None` if there is none
abbrev pub user_among : List AccountLine → Option (List ℕ) → Option ℕ
user_among accounts name = option_and_then (number_in accounts) name

-- the users of these names
abbrev pub users_among : List AccountLine → List (Option (List ℕ)) → List (Option ℕ)
users_among accounts names = map (user_among accounts) names

-- the role of a user; `None` if there is none
abbrev pub role_among : List AccountLine → Option ℕ → Option Role
role_among accounts user = option_and_then (λ v. option_map (λ a. a.role) (find (λ a. a.user == v) accounts)) user

-- the user has registered
abbrev pub is_there : List AccountLine → ℕ → Bool
is_there accounts user = is_some (role_among accounts (Some user))

-- the names of these users
abbrev pub names_in : List AccountLine → List ℕ → List (List ℕ)
names_in accounts users = flat_map (λ user. listed (name_in accounts user)) users

-- there is such a paper
abbrev pub has_paper : Facts → Option ℕ → Bool
has_paper facts paper = at_some (λ p. list_any (λ q. q == p) facts.papers) paper

-- the paper named, as the rules ask of it
abbrev pub paper_named : Facts → Shown → Option ℕ → NamedPaper
paper_named facts shown paper = record { there = has_paper facts paper; withdrawn = at_some shown.withdrawn paper }

-- the user named, as the rules ask of them; `None` if there is no such user
abbrev pub target_named : Facts → Shown → Option ℕ → Option ℕ → Option ℕ → Option Target
target_named facts shown caller paper user =
    let wrote = at_some (λ p. list_any (is_number user) (shown.authors p)) paper in
    let declared = at_some (λ p. list_any (is_number user) (shown.conflicts p)) paper in
    let reviews = at_some (λ p. is_some (shown.ordinal user p)) paper in
    let invited = at_some (shown.invited user) paper in
    option_map
    (λ (role : Role). record {
      role = role;
      herself = is_number user (maker_of caller);
      author = wrote;
      conflicted = wrote || declared;
      reviewer = reviews;
      external = not (is_member role) && invited;
    })
    (role_among facts.accounts user)

-- the decision on a paper: to accept it, if it is accepted, as everyone is told; else the last one that is given
abbrev pub decision_by : Facts → Shown → ℕ → Option Decision
decision_by facts shown p = if facts.accepted p then Some Accept else shown.decision p

-- at this timestamp it is too late for what the phase opens: it has a deadline, and the timestamp is past it
abbrev pub is_late : Facts → ℕ → Bool
is_late facts at = is_past (facts.deadline (facts.standing None).phase) at
