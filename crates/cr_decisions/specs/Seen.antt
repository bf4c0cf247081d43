-- SPDX-License-Identifier: Apache-2.0 OR MIT
-- What contracts see of the table of decisions.
use Rattle.std.specs.Prelude.{ℕ, List}
use Rattle.cr_base.specs.Decisions.{DecisionsState}

-- the decisions, and by the paper's number for how many more on it there is room
pub record SeenDecisions : Type 0 where
  pub decisions : DecisionsState
  pub rooms : List ℕ
