-- SPDX-License-Identifier: Apache-2.0 OR MIT
-- The versions of papers' contents.
use Rattle.std.specs.Prelude.{ℕ, ◌≡◌, List, map}
use Rattle.cr_base.specs.declared.filed.Filed.{Filed}
use Rattle.cr_base.specs.Filed.{filed_of}
use Rattle.cr_base.specs.History.{Upload}
use Rattle.cr_base.specs.Lists.{numbers_from}

-- each paper's versions are 1, 2 and so on
abbrev pub AreNumbered : List (Filed Upload) → Type 0
AreNumbered uploads =
    (p : ℕ) → map (λ (u : Upload). u.version) (filed_of p uploads) ≡ numbers_from 1 (filed_of p uploads)
