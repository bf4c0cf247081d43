-- SPDX-License-Identifier: Apache-2.0 OR MIT
-- The laws of views: what can be read off one, that it suffices to judge and to answer, and what every legal
-- history keeps.
use Rattle.std.specs.Prelude.{ℕ, true, false, ◌≡◌, List, [], ◌∷◌, ◌++◌, Option, Some, None, is_some, IsTrue}
use Rattle.std.specs.List.{AllByRecursion}
use Rattle.cr_base.specs.declared.bulk.Broken.TheVariants as broken
use Rattle.cr_base.specs.declared.command.Call.{Call}
use Rattle.cr_base.specs.declared.command.Query.{Query}
use Rattle.cr_base.specs.declared.entry.Entry.{Entry}
use Rattle.cr_base.specs.declared.entry.Stamped.{Stamped}
use Rattle.cr_base.specs.declared.reply.Rule.TheVariants as rules
use Rattle.cr_base.specs.declared.words.Phase.{Phase}
use Rattle.cr_base.specs.History.{History}
use Rattle.cr_base.specs.HistoryFacts.{standing_of, deadline_of, had_response_of, is_author, declared_by_authors}
use Rattle.cr_base.specs.HistoryFacts.{accounts_of}
use Rattle.cr_base.specs.HistoryFacts.{papers_of, own_papers_of, own_bytes_of, number_of}
use Rattle.cr_base.specs.HistoryFacts.{own_comments_of, is_accepted}
use Rattle.cr_base.specs.Tables.{tables_of}
use Rattle.cr_base.specs.Answering.{answer_by_role}
use Rattle.cr_base.specs.Bulk.{bulk_by_role}
use Rattle.cr_base.specs.Calls.{BulkCall}
use Rattle.cr_base.specs.Drawn.{grouped}
use Rattle.cr_base.specs.Judging.{judge_by_role}
use Rattle.cr_base.specs.Keys.{kept_under}
use Rattle.cr_base.specs.Logins.{command_wants_login}
use Rattle.cr_base.specs.Retries.{kept_of, settled}
use Rattle.cr_history.specs.Groups.{IsBoundedStamp}
use Rattle.cr_history.specs.Invariants.{IsRegistered, Invariants, IsWhole}
use Rattle.cr_policy.specs.Sighting.{Sighting}
use Rattle.cr_policy.specs.View.{view}
use Rattle.cr_policy.specs.ViewFacts.{is_user, standing_in_view, deadline_in_view, accounts_in_view, papers_in_view}
use Rattle.cr_policy.specs.ViewFacts.{own_papers_in_view, own_bytes_in_view, own_comments_in_view}
use Rattle.cr_policy.specs.ViewFacts.{number_in_view, is_accepted_in_view, declared_in_view, had_response_in_view}
use Rattle.cr_policy.specs.ViewRetries.{kept_in_view}
use Rattle.cr_policy.specs.Judge.{judge, decide, judge_bulk, decide_bulk, answer, needs_login}
use Rattle.cr_policy.specs.Legal.{Legal, MayAsk}

-- StandingFromView: a user's standing, at any paper too, can be read off the user's view, whatever the history
abbrev pub StandingFromView : Type 0
StandingFromView = (u paper : Option ℕ) (H : History) → standing_in_view u paper (view u H) ≡ standing_of u paper H

-- these facts can be read off every view, whatever the history: the deadlines, whether the response was opened, the
-- accounts with their roles and names, the papers, and which of them are accepted; besides, how many of the papers the
-- reader submitted, how many bytes the reader has uploaded, and how many comments the reader has written
pub record PublicFactsFromView (u : Option ℕ) (H : History) : Type 0 where
  pub deadlines : (phase : Phase) → deadline_in_view phase (view u H) ≡ deadline_of phase H
  pub had_response : had_response_in_view (view u H) ≡ had_response_of H
  pub accounts : accounts_in_view (view u H) ≡ accounts_of H
  pub papers : papers_in_view (view u H) ≡ papers_of H
  pub accepted : (p : ℕ) → is_accepted_in_view p (view u H) ≡ is_accepted p H
  pub own_papers : own_papers_in_view (view u H) ≡ own_papers_of u H
  pub own_bytes : own_bytes_in_view (view u H) ≡ own_bytes_of u H
  pub own_comments : own_comments_in_view (view u H) ≡ own_comments_of u H
  pub number : (name : List ℕ) → number_in_view name (view u H) ≡ number_of name H

-- ViewSuffices: on a legal history the checks on the tables give of a command, a bulk or a query what the caller's view
-- alone gives. With a number too, what becomes of a command or a bulk is the same by what the history keeps of the
-- number as by the view.
pub record ViewSuffices : Type 0 where
  pub commands : (H : History) (call : Call) → Legal H → MayAsk H (command_wants_login call.command) call.caller
      → judge (view call.caller H) call ≡ judge_by_role (tables_of H) call
  pub bulks : (H : History) (bulk : BulkCall) → Legal H → IsRegistered H bulk.stamp.maker → IsBoundedStamp bulk.stamp
      → judge_bulk (view (Some bulk.stamp.maker) H) bulk ≡ bulk_by_role (tables_of H) bulk
  pub outcomes : (H : History) (call : Call) → Legal H → MayAsk H (command_wants_login call.command) call.caller
      → decide (view call.caller H) call
      ≡ settled rules.NumberUsed false call.key (kept_of call.caller H) (judge_by_role (tables_of H) call)
  pub bulk_outcomes : (H : History) (bulk : BulkCall) → Legal H → IsRegistered H bulk.stamp.maker
      → IsBoundedStamp bulk.stamp
      → decide_bulk (view (Some bulk.stamp.maker) H) bulk
      ≡ settled (broken.Rule rules.NumberUsed) true bulk.stamp.key (kept_of (Some bulk.stamp.maker) H)
      (bulk_by_role (tables_of H) bulk)
  pub queries : (u : Option ℕ) (H : History) (query : Query) → Legal H
      → MayAsk H (needs_login (view None H) query) u → answer u (view u H) query ≡ answer_by_role (tables_of H) u query

-- KeptFromView: what was accepted under a number of a user's can be read off the user's view, whatever the history
abbrev pub KeptFromView : Type 0
KeptFromView = (u : Option ℕ) (H : History) (number : ℕ) → kept_in_view (view u H) number ≡ kept_of u H number

-- these entries, if any, are one command's in the history, next to each other
abbrev pub IsOneGroup : History → List Stamped → Type 0
IsOneGroup H [] = Unit {0}
IsOneGroup H (e ∷ es) =
    (before : History) × (entries : List Entry) × (after : History)
    × (e ∷ es ≡ grouped e.stamp entries) × (H ≡ before ++ (e ∷ es) ++ after)

-- NumbersOnce: on a legal history all entries that a user made by commands of one number are one command's. So of
-- accepted commands each number of a user's was given once.
abbrev pub NumbersOnce : Type 0
NumbersOnce = (H : History) (user number : ℕ) → Legal H → IsOneGroup H (kept_under user number H)

-- DeclaredFromView: on a legal history, the users whom a paper's authors declared in conflict with it can be read off
-- every author's view
abbrev pub DeclaredFromView : Type 0
DeclaredFromView =
    (u : Option ℕ) (p : ℕ) (H : History) → Legal H → IsTrue (is_author u p H)
    → declared_in_view u p (view u H) ≡ declared_by_authors p H

-- the history keeps the invariants, and no command's entries are cut off in it
pub record IsKept (H : History) : Type 0 where
  pub invariants : Invariants H
  pub whole : IsWhole H

-- LegalKeeps: every legal history keeps the invariants, and no command's entries are cut off in it
abbrev pub LegalKeeps : Type 0
LegalKeeps = (H : History) → Legal H → IsKept H

-- a sighting that shows a digest of a secret is of the reader's own registration; an unauthenticated caller is shown
-- none
abbrev pub IsOwnDigest : Option ℕ → Sighting → Type 0
IsOwnDigest u s = IsTrue (is_some s.digest) → IsTrue (is_user u s.user)

-- DigestsAreOwn: of the digests in a legal history a user is shown only their own, and an unauthenticated caller none
abbrev pub DigestsAreOwn : Type 0
DigestsAreOwn = (u : Option ℕ) (H : History) → Legal H → AllByRecursion (IsOwnDigest u) (view u H)
