-- SPDX-License-Identifier: Apache-2.0 OR MIT
-- The index of names that the table of accounts keeps.
use Rattle.std.specs.Prelude.{ℕ, List, ◌≡◌, ◌≤◌, length}
use Rattle.std.specs.Str.{bytes_eq}
use Rattle.std.specs.declared.hash.FoldHasher.{FoldHasher}
use Rattle.std.specs.declared.hash.BuildHasherDefault.{BuildHasherDefault}
use Rattle.indexmap.specs.IndexMap.{IndexMap, get}
use Rattle.cr_base.specs.declared.entry.Account.{Account}
use Rattle.cr_base.specs.Accounts.{number_at}

-- the map has the number of each user at her name, and of nobody else; there are at most 9,999
pub record IsNameIndex (accounts : List Account)
    (by_name : IndexMap (List ℕ) ℕ (BuildHasherDefault FoldHasher)) : Type 0 where
  pub few : length accounts ≤ 9999
  pub numbers : (name : List ℕ) → get bytes_eq by_name name ≡ number_at accounts name
