-- SPDX-License-Identifier: Apache-2.0 OR MIT
-- Values that carry the number of their paper, each filed under it.
use Rattle.std.specs.Prelude.{ℕ, ◌==◌, List, map, IsTrue}
use Rattle.std.specs.List.{list_all}
use Rattle.cr_base.specs.declared.filed.Filed.{Filed}

-- the values alone, paper by paper
abbrev pub values_in : {V : Type 0} → List (Filed V) → List V
values_in {V} xs = map (λ (x : Filed V). x.value) xs

-- each is filed under the paper that it carries
abbrev pub AreOwn : {V : Type 0} → (V → ℕ) → List (Filed V) → Type 0
AreOwn {V} paper_of xs = IsTrue (list_all (λ (x : Filed V). x.paper == paper_of x.value) xs)
