-- SPDX-License-Identifier: Apache-2.0 OR MIT
-- The co-authors that a submission names.
use Rattle.std.specs.Prelude.{ℕ, List, [], ◌∷◌, Option, Some, None, if◌then◌else◌}
use Rattle.std.specs.List.{list_all}
use Rattle.cr_base.specs.Accounts.{lines_of}
use Rattle.cr_base.specs.Drawn.{besides}
use Rattle.cr_base.specs.Sources.{is_there}
use Rattle.cr_base.specs.Tables.{Tables}

-- those of these users who are co-authors besides the maker, each once; `None` if one of them isn't there
abbrev pub coauthors_of : Tables → ℕ → List ℕ → Option (List ℕ)
coauthors_of t maker users =
    if list_all (is_there (lines_of t.accounts)) users then Some (besides (maker ∷ []) users) else None
