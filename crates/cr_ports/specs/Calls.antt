-- SPDX-License-Identifier: Apache-2.0 OR MIT
-- Which calls of something in memory fail.
use Rattle.std.specs.Prelude.{◌≡◌, ℕ, List, Bool, ◌==◌}
use Rattle.std.specs.List.{list_any}
use Rattle.cr_ports.specs.Count.{counted}

-- the numbers of the calls that fail, and how many were made
pub record Listed : Type 0 where
  pub failing : List ℕ
  pub made : ℕ

-- the next call is listed as one that fails
abbrev pub fails : Listed → Bool
fails c = list_any (λ call. call == c.made) c.failing

-- One call was counted.
pub record Advances (old new : Listed) : Type 0 where
  pub failing : new.failing ≡ old.failing
  pub made : new.made ≡ counted old.made
