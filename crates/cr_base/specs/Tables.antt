-- SPDX-License-Identifier: Apache-2.0 OR MIT
-- The current tables that a history comes to.
use Rattle.std.specs.Prelude.{List, [], ◌∷◌, fold}
use Rattle.cr_base.specs.declared.entry.Account.{Account}
use Rattle.cr_base.specs.declared.entry.Stamped.{Stamped}
use Rattle.cr_base.specs.History.{History}
use Rattle.cr_base.specs.Accounts.{accounts_after, AccountsFit}
use Rattle.cr_base.specs.Stage.{StageState, first_stage, stage_after}
use Rattle.cr_base.specs.Decisions.{DecisionsState, no_decisions, decisions_after}
use Rattle.cr_base.specs.Invites.{InvitesState, no_invites, invites_after}
use Rattle.cr_base.specs.Papers.{PapersState, no_papers, papers_after, PapersFit}
use Rattle.cr_base.specs.Reviews.{ReviewsState, no_reviews, reviews_after, ReviewsFit}
use Rattle.cr_base.specs.Seats.{SeatsState, no_seats, seats_after, SeatsFit}
use Rattle.cr_base.specs.Tags.{TagsState, no_tags, tags_after}
use Rattle.cr_base.specs.Talk.{TalkState, no_talk, talk_after, TalkFit}
use Rattle.cr_base.specs.Ties.{TiesState, no_ties, ties_after, TiesFit}

-- the tables: the stage, the accounts by user number, the papers, who is tied to them, who reviews them, who is
-- invited to review them, what was written in reviews, in comments and in responses, the tags that are on, and the
-- decisions
pub record Tables : Type 0 where
  pub stage : StageState
  pub accounts : List Account
  pub papers : PapersState
  pub ties : TiesState
  pub seats : SeatsState
  pub invites : InvitesState
  pub reviews : ReviewsState
  pub talk : TalkState
  pub tags : TagsState
  pub decisions : DecisionsState

-- the tables of no entries
abbrev pub no_tables : Tables
no_tables = record {
  stage = first_stage;
  accounts = [];
  papers = no_papers;
  ties = no_ties;
  seats = no_seats;
  invites = no_invites;
  reviews = no_reviews;
  talk = no_talk;
  tags = no_tags;
  decisions = no_decisions;
}

-- the tables after one more entry
abbrev pub tables_after : Tables → Stamped → Tables
tables_after t s = record {
  stage = stage_after t.stage s.entry;
  accounts = accounts_after t.accounts s.entry;
  papers = papers_after t.papers s.stamp.maker s.entry;
  ties = ties_after t.ties s.stamp.maker s.entry;
  seats = seats_after t.seats s.entry;
  invites = invites_after t.invites s.entry;
  reviews = reviews_after t.reviews s.entry;
  talk = talk_after t.talk s.stamp.maker s.entry;
  tags = tags_after t.tags s.stamp.maker s.entry;
  decisions = decisions_after t.decisions s.entry;
}

-- the tables after these entries
abbrev pub tables_from : Tables → History → Tables
tables_from t group = fold tables_after t group

-- the tables of a history
abbrev pub tables_of : History → Tables
tables_of H = tables_from no_tables H

-- an entry may come next
pub record Fits (t : Tables) (s : Stamped) : Type 0 where
  pub accounts : AccountsFit t.accounts s.entry
  pub papers : PapersFit t.papers s.stamp.maker s.entry
  pub ties : TiesFit t.ties s.entry
  pub seats : SeatsFit t.seats s.entry
  pub reviews : ReviewsFit t.reviews s.entry
  pub talk : TalkFit t.talk s.stamp.maker s.entry

-- each of these entries may come next in its turn
abbrev pub FitInTurn : Tables → History → Type 0
FitInTurn t [] = Unit {0}
FitInTurn t (s ∷ group) = Fits t s × FitInTurn (tables_after t s) group
