-- SPDX-License-Identifier: Apache-2.0 OR MIT
-- The labels by which a paper's reviewers are known, and what is told of each.
use Rattle.std.specs.Prelude.{ℕ, zero, suc, List, [], ◌++◌}

-- the most labels that a paper's reviewers are given
unfoldable pub most_labels : ℕ
most_labels = 26

-- what is told of each of the first labels, in their order
abbrev pub by_labels : {A : Type 0} → (ℕ → List A) → ℕ → List A
by_labels told zero = []
by_labels told (suc n) = by_labels told n ++ told (suc n)
