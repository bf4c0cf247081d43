-- SPDX-License-Identifier: Apache-2.0 OR MIT
-- What contracts see of the table of reviews.
use Rattle.std.specs.Prelude.{ℕ, List}
use Rattle.cr_base.specs.Reviews.{ReviewsState}

-- the phase and the forms, and by the paper's number for how many more forms of it there is room
pub record SeenReviews : Type 0 where
  pub reviews : ReviewsState
  pub rooms : List ℕ
