-- SPDX-License-Identifier: Apache-2.0 OR MIT
-- Room for the entries of one command.
use Rattle.std.specs.Prelude.{◌≤◌, ◌<◌, length, IfSome}
use Rattle.cr_base.specs.History.{History}
use Rattle.cr_log.specs.Given.{number_given}
use Rattle.cr_log.specs.Seen.{SeenLog}

-- there is room for them, and where they have a number for that
pub record HasRoom (log : SeenLog) (group : History) : Type 0 where
  pub entries : length group ≤ log.room
  pub number : IfSome (number_given group) (λ n. 0 < log.numbers)
