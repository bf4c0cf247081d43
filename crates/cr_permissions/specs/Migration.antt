-- SPDX-License-Identifier: Apache-2.0 OR MIT
-- Migration: what a store of an older version is read as: one that kept no moments of requests, or no numbers of
-- commands.
use Rattle.std.specs.Prelude.{ℕ, ◌≡◌, ◌≤◌, map, None}
use Rattle.std.specs.List.{AllByRecursion}
use Rattle.cr_base.specs.declared.entry.Stamp.{Stamp}
use Rattle.cr_base.specs.declared.entry.Stamped.{Stamped}
use Rattle.cr_base.specs.declared.row.OldVersion.{OldVersion}
use Rattle.cr_base.specs.declared.row.OldVersion.TheVariants.{First, Second}
use Rattle.cr_base.specs.Calls.{stamp_by}
use Rattle.cr_base.specs.Drawn.{stamped}
use Rattle.cr_base.specs.History.{History}
use Rattle.cr_base.specs.Rows.{kind_number, kind_of, rows_of, migrated}
use Rattle.cr_policy.specs.Legal.{unnumbered, Legal}

-- what such a store keeps of a stamp: no number, and in the first version the first moment of all
abbrev pub stamp_kept : OldVersion → Stamp → Stamp
stamp_kept First stamp = stamp_by stamp.maker 0 None
stamp_kept Second stamp = unnumbered stamp

-- the entry as a store of the older version keeps it
abbrev pub kept_as : OldVersion → Stamped → Stamped
kept_as version e = stamped (stamp_kept version e.stamp) e.more e.entry

-- the history as a store of the older version keeps it
abbrev pub all_kept_as : OldVersion → History → History
all_kept_as version H = map (kept_as version) H

-- the greatest number of a kind of entry that it may have
abbrev pub last_kind_of : OldVersion → ℕ
last_kind_of First = 17
last_kind_of Second = 18

-- the history has only kinds of entries that the older version has
abbrev pub HasKindsOf : OldVersion → History → Type 0
HasKindsOf version H = AllByRecursion (λ (e : Stamped). kind_number (kind_of e.entry) ≤ last_kind_of version) H

-- Migrates: of a legal history of the version's kinds, whenever its requests came and by whatever numbers, what such a
-- store keeps is legal; and its rows are those of the history, each migrated
pub record Migrates : Type 0 where
  pub legal : (version : OldVersion) (H : History) → HasKindsOf version H → Legal H → Legal (all_kept_as version H)
  pub rows :
      (version : OldVersion) (H : History)
      → rows_of (all_kept_as version H) ≡ map (migrated version) (rows_of H)
