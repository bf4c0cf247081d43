-- SPDX-License-Identifier: Apache-2.0 OR MIT
-- The order of phases is computed, pair by pair.
use Rattle.std.proofs.Common.{refl, true}
use Rattle.std.specs.Prelude.{◌≡◌}
use Rattle.std.specs.List.{list_any}
use Rattle.cr_base.specs.declared.words.Phase.{Phase}
use Rattle.cr_base.specs.declared.words.Phase.TheVariants.{Setup, Submission, Bidding, Reviewing, Response}
use Rattle.cr_base.specs.declared.words.Phase.TheVariants.{Discussion}
use Rattle.cr_base.specs.declared.words.Phase.TheVariants.{Notification, Closed}
use Rattle.cr_base.specs.Phases.{is_phase}
use Rattle.cr_permissions.specs.PhaseOrder.{PhasesInOrder, in_order}

among : (phase : Phase) → list_any (is_phase phase) in_order ≡ true
among Setup = refl
among Submission = refl
among Bidding = refl
among Reviewing = refl
among Response = refl
among Discussion = refl
among Notification = refl
among Closed = refl

pub phases_in_order : PhasesInOrder
phases_in_order = record {
  every = among;
  from_setup = refl;
  from_submission = refl;
  from_bidding = refl;
  from_reviewing = refl;
  from_response = refl;
  from_discussion = refl;
  from_notification = refl;
  from_closed = refl;
  behind_setup = refl;
  behind_submission = refl;
  behind_bidding = refl;
  behind_reviewing = refl;
  behind_response = refl;
  behind_discussion = refl;
  behind_notification = refl;
  behind_closed = refl;
  numbers = refl;
}
