-- SPDX-License-Identifier: Apache-2.0 OR MIT
-- Room for values of papers, in a table that keeps a sum for each user beside them.
use Rattle.std.specs.Prelude.{ℕ, List, [], nat_le, if◌then◌else◌}

-- room by the paper's number, where there is room for the sums of all users, so many fitting; else none
abbrev pub rooms_beside : ℕ → List ℕ → List ℕ
rooms_beside sums rooms = if nat_le 10000 sums then rooms else []
