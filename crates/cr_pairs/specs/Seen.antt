-- SPDX-License-Identifier: Apache-2.0 OR MIT
-- What contracts see of maps of pairs.
use Rattle.std.specs.Prelude.{ℕ, List}
use Rattle.cr_base.specs.declared.pairs.Order.{Order}
use Rattle.cr_base.specs.declared.pairs.Tie.{Tie}

-- the order, the ties in it, and for how many more there is room
pub record SeenPairs (V : Type 0) : Type 0 where
  pub order : Order
  pub ties : List (Tie V)
  pub room : ℕ

-- the order, the ties in it, and by the major number for how many more there is room
pub record SeenRows (V : Type 0) : Type 0 where
  pub order : Order
  pub ties : List (Tie V)
  pub rooms : List ℕ

-- the ties in the order of papers, and by the paper's number and by the user's for how many more there is room
pub record SeenIndexed (V : Type 0) : Type 0 where
  pub ties : List (Tie V)
  pub by_paper_rooms : List ℕ
  pub by_user_rooms : List ℕ
