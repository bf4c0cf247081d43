-- SPDX-License-Identifier: Apache-2.0 OR MIT
-- What is shown of an assignment, or of its end.
use Rattle.std.specs.Prelude.{◌≡◌, ℕ, List, [], ◌∷◌, ◌++◌}
use Rattle.cr_policy.specs.Part as part
use Rattle.cr_policy.specs.Part.{own_parts}
use Rattle.cr_policy.specs.Triggers.{Reader, TriggerRow, seat_rows, shows, user_named, ◌see◌}
use Rattle.cr_sights.specs.declared.seats.SeatParts.{SeatParts}

-- its rows, and that of its maker
abbrev pub rows_with : Reader → ℕ → ℕ → ℕ → List TriggerRow
rows_with r maker paper user = seat_rows r paper user ++ user_named r maker see own_parts ∷ []

-- they show these parts, and no others beside the paper
pub record AreShown (rows : List TriggerRow) (parts : SeatParts) : Type 0 where
  pub user : shows rows part.user ≡ parts.user
  pub review_kind : shows rows part.review_kind ≡ parts.kind
  pub ordinal : shows rows part.ordinal ≡ parts.ordinal
