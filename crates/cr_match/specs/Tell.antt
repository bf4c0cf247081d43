-- SPDX-License-Identifier: Apache-2.0 OR MIT
-- What is told of a search.
use Rattle.std.specs.Prelude.{◌≡◌, ℕ, ℤ, ◌<◌, ◌-ℤ◌, pos, true, List, map, ◌↔◌}
use Rattle.cr_match.specs.Plan.{DistinctBelow, among}
use Rattle.cr_match.specs.Rows.{Has}

-- the places below n that the set has, none twice
pub record AreThose (set : List ℕ) (n : ℕ) (places : List ℕ) : Type 0 where
  pub distinct : DistinctBelow n places
  pub all : (q : ℕ) → (among places q ≡ true) ↔ ((q < n) × Has set q)

-- prices of papers, lowered to what pairs weigh
abbrev pub lowered : List ℕ → List ℤ
lowered a = map (λ x. pos x -ℤ pos 1073741824) a
