-- SPDX-License-Identifier: Apache-2.0 OR MIT
-- Decisions: when a paper is accepted, and the table of decisions (the HotCRP manual's decisions; CoCon's
-- phases say when they are told).
use Rattle.std.specs.Prelude.{ℕ, Bool, not, ◌&&◌, List, [], Option}
use Rattle.cr_base.specs.declared.entry.Entry.{Entry}
use Rattle.cr_base.specs.declared.entry.Entry.TheVariants.{Decided}
use Rattle.cr_base.specs.declared.filed.Filed.{Filed}
use Rattle.cr_base.specs.declared.words.Decision.{Decision}
use Rattle.cr_base.specs.declared.words.Phase.{Phase}
use Rattle.cr_base.specs.Filed.{filed, with_filed, filed_of}
use Rattle.cr_base.specs.Lists.{last}
use Rattle.cr_base.specs.Phases.{papers_may_be_accepted, papers_are_published}
use Rattle.cr_base.specs.Words.{is_accept}

-- ---- accepted papers

-- a paper is accepted: the last decision on it is to accept it, it isn't withdrawn, and decisions count by now
abbrev pub is_accepted_when : Phase → Bool → Option Decision → Bool
is_accepted_when now withdrawn decision = is_accept decision && not withdrawn && papers_may_be_accepted now

-- it is published: it is accepted, and the conference is closed
abbrev pub is_published : Phase → Bool → Bool
is_published now accepted = accepted && papers_are_published now

-- ---- the state

-- the decisions: paper by paper, and those of a paper in the order in which they were made
abbrev pub DecisionsState : Type 0
DecisionsState = List (Filed Decision)

-- no decisions
abbrev pub no_decisions : DecisionsState
no_decisions = []

-- the decisions after one more entry
abbrev pub decisions_after : DecisionsState → Entry → DecisionsState
decisions_after decisions (Decided paper decision) = with_filed (filed paper decision) decisions
decisions_after decisions _ = decisions

-- ---- what is read

-- the last decision on the paper
abbrev pub decision_in : DecisionsState → ℕ → Option Decision
decision_in decisions p = last (filed_of p decisions)
