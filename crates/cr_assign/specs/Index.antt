-- SPDX-License-Identifier: Apache-2.0 OR MIT
-- How the table of seats keeps them by paper, and by user who reviews what.
use Rattle.std.specs.Prelude.{ℕ, ◌≡◌, ◌≤◌, List, Some}
use Rattle.cr_base.specs.declared.pairs.Order.{Order}
use Rattle.cr_base.specs.declared.pairs.Order.TheVariants.{ByUser}
use Rattle.cr_base.specs.declared.pairs.Pair.{Pair}
use Rattle.cr_base.specs.declared.pairs.Tie.{Tie}
use Rattle.cr_base.specs.Pairs.{tie_value}
use Rattle.cr_base.specs.Seats.{SeatsState, SeatsInOrder, labels_in, ordinal_in}

-- seats come of entries that fit, so no paper has more than 26; by user there are the ordinals under which papers are
-- reviewed
pub record SeatsIndexed (seats : SeatsState) (users : Order) (reviewing : List (Tie ℕ)) : Type 0 where
  pub in_order : SeatsInOrder seats
  pub few : (p : ℕ) → labels_in seats p ≤ 26
  pub by_user : users ≡ ByUser
  pub same : (q : Pair) → tie_value q reviewing ≡ ordinal_in seats (Some q.user) q.paper
