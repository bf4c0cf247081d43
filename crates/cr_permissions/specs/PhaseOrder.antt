-- SPDX-License-Identifier: Apache-2.0 OR MIT
-- The order of phases, pair by pair: which phases are one phase or later, and which may follow it. The numbers by which
-- rows tell them are others: the response has a place in the middle, and the last number.
use Rattle.std.specs.Prelude.{◌≡◌, List, [], ◌∷◌, map, filter, IsTrue}
use Rattle.std.specs.List.{list_any}
use Rattle.cr_base.specs.declared.words.Phase.{Phase}
use Rattle.cr_base.specs.declared.words.Phase.TheVariants.{Setup, Submission, Bidding, Reviewing}
use Rattle.cr_base.specs.declared.words.Phase.TheVariants.{Response, Discussion, Notification, Closed}
use Rattle.cr_base.specs.Phases.{is_from, is_phase, is_next}
use Rattle.cr_base.specs.Words.{phase_number}

-- from the response on, from the reviewing on, and all of them
abbrev pub from_response : List Phase
from_response = Response ∷ Discussion ∷ Notification ∷ Closed ∷ []

-- the phases from the reviewing on, in order
abbrev pub from_reviewing : List Phase
from_reviewing = Reviewing ∷ from_response

-- all phases, in order
abbrev pub in_order : List Phase
in_order = Setup ∷ Submission ∷ Bidding ∷ from_reviewing

-- the phases that are this one or a later one, as the rules say
abbrev pub those_from : Phase → List Phase
those_from phase = filter (is_from phase) in_order

-- the phases that may follow this one, as the rules say
abbrev pub those_next : Phase → List Phase
those_next phase = filter (is_next phase) in_order

-- PhasesInOrder: each phase is among them; these are from each on; these may follow each; and these are their numbers
pub record PhasesInOrder : Type 0 where
  pub every : (phase : Phase) → IsTrue (list_any (is_phase phase) in_order)
  pub from_setup : those_from Setup ≡ in_order
  pub from_submission : those_from Submission ≡ Submission ∷ Bidding ∷ from_reviewing
  pub from_bidding : those_from Bidding ≡ Bidding ∷ from_reviewing
  pub from_reviewing : those_from Reviewing ≡ from_reviewing
  pub from_response : those_from Response ≡ from_response
  pub from_discussion : those_from Discussion ≡ Discussion ∷ Notification ∷ Closed ∷ []
  pub from_notification : those_from Notification ≡ Notification ∷ Closed ∷ []
  pub from_closed : those_from Closed ≡ Closed ∷ []
  pub behind_setup : those_next Setup ≡ Submission ∷ []
  pub behind_submission : those_next Submission ≡ Bidding ∷ []
  pub behind_bidding : those_next Bidding ≡ Reviewing ∷ []
  pub behind_reviewing : those_next Reviewing ≡ Response ∷ Discussion ∷ []
  pub behind_response : those_next Response ≡ Discussion ∷ []
  pub behind_discussion : those_next Discussion ≡ Notification ∷ []
  pub behind_notification : those_next Notification ≡ Closed ∷ []
  pub behind_closed : those_next Closed ≡ []
  pub numbers : map phase_number in_order ≡ 0 ∷ 1 ∷ 2 ∷ 3 ∷ 7 ∷ 4 ∷ 5 ∷ 6 ∷ []
