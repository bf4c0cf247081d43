-- SPDX-License-Identifier: Apache-2.0 OR MIT
-- The laws of histories: what the tables tell of them, and what is kept as they grow.
use Rattle.std.specs.Prelude.{ℕ, ◌≡◌, ◌==◌, List, [], ◌++◌, length, map, Option}
use Rattle.std.specs.List.{list_any}
use Rattle.cr_base.specs.Accounts.{lines_of, number_at, caller_at}
use Rattle.cr_base.specs.declared.words.Phase.{Phase}
use Rattle.cr_base.specs.HistoryFacts.{standing_of, deadline_of, accounts_of, number_of, caller_of}
use Rattle.cr_base.specs.HistoryFacts.{papers_of, own_papers_of, own_bytes_of}
use Rattle.cr_base.specs.HistoryFacts.{bid_of, ordinal_of, seats_of, reviewers_of, forms_of}
use Rattle.cr_base.specs.HistoryFacts.{forms_discussed_of, early_form_of, own_forms_of, comments_of, own_comments_of}
use Rattle.cr_base.specs.HistoryFacts.{tags_of, response_of, had_response_of}
use Rattle.cr_base.specs.HistoryFacts.{title_of, abstract_of, uploads_of, is_withdrawn, decision_of}
use Rattle.cr_base.specs.HistoryFacts.{is_accepted, authors_of, is_conflict_on, is_invited, declared_by_authors}
use Rattle.cr_base.specs.declared.entry.Stamped.{Stamped}
use Rattle.cr_base.specs.History.{History}
use Rattle.cr_base.specs.Deadlines.{deadline_in}
use Rattle.cr_base.specs.Decisions.{decision_in}
use Rattle.cr_base.specs.Filed.{filed_of}
use Rattle.cr_base.specs.Reviews.{forms_in, forms_discussed_in, early_form_in, written_told}
use Rattle.cr_base.specs.Sources.{standing_at, own_forms_in, is_accepted_in}
use Rattle.cr_base.specs.Invites.{is_invited_in}
use Rattle.cr_base.specs.Pairs.{has_pair}
use Rattle.cr_base.specs.Papers.{paper_numbers, own_count, own_bytes, title_at}
use Rattle.cr_base.specs.Papers.{abstract_at, uploads_at, is_withdrawn_at}
use Rattle.cr_base.specs.Tables.{no_tables, tables_of, FitInTurn}
use Rattle.cr_base.specs.Seats.{labels_in, reviewers_in, ordinal_in, seats_in}
use Rattle.cr_base.specs.Talk.{comments_in, comment_as_told, own_comments_in, response_in}
use Rattle.cr_base.specs.Ties.{pair_of, authors_in, is_conflict_on_in, bid_in}
use Rattle.cr_history.specs.Groups.{Adds, Grows}
use Rattle.cr_history.specs.Invariants.{Invariants, InTurn, ComesFirst, IsWhole}

-- what a history tells is what its tables have
pub record AreTold (H : History) : Type 0 where
  pub standing : (u paper : Option ℕ) → standing_of u paper H ≡ standing_at (tables_of H) u paper
  pub deadline : (phase : Phase) → deadline_of phase H ≡ deadline_in (tables_of H).stage.deadlines phase
  pub had_response : had_response_of H ≡ (tables_of H).stage.had_response
  pub accounts : accounts_of H ≡ lines_of (tables_of H).accounts
  pub number : (name : List ℕ) → number_of name H ≡ number_at (tables_of H).accounts name
  pub caller : (name digest : List ℕ) → caller_of name digest H ≡ caller_at (tables_of H).accounts name digest
  pub papers : papers_of H ≡ paper_numbers (tables_of H).papers
  pub own_papers : (u : Option ℕ) → own_papers_of u H ≡ own_count (tables_of H).papers u
  pub own_bytes : (u : Option ℕ) → own_bytes_of u H ≡ own_bytes (tables_of H).papers u
  pub title : (p : ℕ) → title_of p H ≡ title_at (tables_of H).papers p
  pub abstract_ : (p : ℕ) → abstract_of p H ≡ abstract_at (tables_of H).papers p
  pub uploads : (p : ℕ) → uploads_of p H ≡ uploads_at (tables_of H).papers p
  pub withdrawn : (p : ℕ) → is_withdrawn p H ≡ is_withdrawn_at (tables_of H).papers p
  pub authors : (p : ℕ) → authors_of p H ≡ authors_in (tables_of H).ties p
  pub conflict : (u : Option ℕ) (p : ℕ) → is_conflict_on u p H ≡ is_conflict_on_in (tables_of H).ties u p
  pub declared : (p v : ℕ)
      → list_any (λ w. w == v) (declared_by_authors p H) ≡ has_pair (pair_of p v) (tables_of H).ties.declared
  pub bid : (u : Option ℕ) (p : ℕ) → bid_of u p H ≡ bid_in (tables_of H).ties u p
  pub ordinal : (u : Option ℕ) (p : ℕ) → ordinal_of u p H ≡ ordinal_in (tables_of H).seats u p
  pub labels : (p : ℕ) → length (seats_of p H) ≡ labels_in (tables_of H).seats p
  pub seats : (p : ℕ) → seats_of p H ≡ seats_in (tables_of H).seats p
  pub reviewers : (p : ℕ) → reviewers_of p H ≡ reviewers_in (tables_of H).seats p
  pub invited : (u : Option ℕ) (p : ℕ) → is_invited u p H ≡ is_invited_in (tables_of H).invites u p
  pub forms : (p o : ℕ) → forms_of p o H ≡ map written_told (forms_in (tables_of H).reviews p o)
  pub comments : (p : ℕ) → comments_of p H ≡ map comment_as_told (comments_in (tables_of H).talk p)
  pub response : (p : ℕ) → response_of p H ≡ response_in (tables_of H).talk p
  pub own_comments : (u : Option ℕ) → own_comments_of u H ≡ own_comments_in (tables_of H).talk u
  pub tags : (p : ℕ) → tags_of p H ≡ filed_of p (tables_of H).tags
  pub decision : (p : ℕ) → decision_of p H ≡ decision_in (tables_of H).decisions p
  pub accepted : (p : ℕ) → is_accepted p H ≡ is_accepted_in (tables_of H) p

-- TablesTell: it is so where each entry fits in its turn, and a paper's co-authors are
-- told before any conflict with it
abbrev pub TablesTell : Type 0
TablesTell =
    (H : History) → FitInTurn no_tables H
    → InTurn (λ (before : History) (e : Stamped). ComesFirst before e.entry) [] H → AreTold H

-- the forms that the committee discusses, those to which authors respond, and a user's own are what the tables have, if
-- phases only move forward and a user who has written a form stays a reviewer
pub record AreFormsTold (H : History) : Type 0 where
  pub discussed : (p o : ℕ) → forms_discussed_of p o H ≡ forms_discussed_in (tables_of H).reviews p o
  pub early : (p o : ℕ)
      → early_form_of p o H ≡ early_form_in (tables_of H).stage.had_response (tables_of H).reviews p o
  pub own : (u : Option ℕ) (p : ℕ) → own_forms_of u p H ≡ own_forms_in (tables_of H) u p

-- FormsTell: so it is of what keeps the invariants
abbrev pub FormsTell : Type 0
FormsTell = (H : History) → Invariants H → AreFormsTold H

-- GrowthKeeps: histories that grow by what the rules let commands and the rows of bulks add, and the tables take, keep
-- the invariants; and where a command adds it, nothing is cut off that wasn't
pub record GrowthKeeps : Type 0 where
  pub first : Invariants []
  pub more : (H g : History) → Invariants H → Grows H g → FitInTurn (tables_of H) g → Invariants (H ++ g)
  pub whole : (H g : History) → IsWhole H → Adds H g → IsWhole (H ++ g)
