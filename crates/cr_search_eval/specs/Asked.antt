-- SPDX-License-Identifier: Apache-2.0 OR MIT
-- What a user who asks of a paper is told of it, by the tables.
use Rattle.std.specs.Prelude.{ℕ, ◌≡◌, List, Option, Some}
use Rattle.cr_base.specs.declared.words.Decision.{Decision}
use Rattle.cr_base.specs.Page.{gets_abstract, gets_decision, gets_title, where_told}
use Rattle.cr_base.specs.Searching.{PaperTold}
use Rattle.cr_base.specs.Tables.{Tables}
use Rattle.cr_search_eval.specs.declared.asked.Asked.{Asked}
use Rattle.cr_view.specs.Fields.{comments_told, response_told, reviews_told}
use Rattle.cr_view.specs.PaperSeen.{PaperSeen, paper_seen_at, page_seen}
use Rattle.cr_view.specs.PaperSeen.{abstract_seen, accepted_seen, decision_seen, title_seen}

-- the paper, as the user asks of it
abbrev pub asked_of : Tables → ℕ → ℕ → Asked
asked_of t user paper = record { user = user; facts = paper_seen_at t (Some user) paper }

-- it is asked of these tables
abbrev pub IsAsked : Tables → Asked → Type 0
IsAsked t asked = asked.facts ≡ paper_seen_at t (Some asked.user) asked.facts.paper

-- what she is told of it
abbrev pub told_at : Tables → Asked → PaperTold
told_at t asked = record {
  page = page_seen t (Some asked.user) asked.facts;
  accepted = accepted_seen asked.facts;
  conflicted = asked.facts.by.conflicted;
  reviews = reviews_told t (Some asked.user) asked.facts.by asked.facts.paper;
  comments = comments_told t asked.facts.by asked.facts.paper;
  responded = response_told t asked.facts.by asked.facts.paper;
}

-- the keys of its page that its facts tell
abbrev pub title_told : PaperSeen → Option (List ℕ)
title_told s = where_told (gets_title s.by (accepted_seen s)) (title_seen s)

abbrev pub abstract_told : PaperSeen → Option (List ℕ)
abstract_told s = where_told (gets_abstract s.by (accepted_seen s)) (abstract_seen s)

abbrev pub decision_told : PaperSeen → Option (Option Decision)
decision_told s = where_told (gets_decision s.by (accepted_seen s)) (Some (decision_seen s))
