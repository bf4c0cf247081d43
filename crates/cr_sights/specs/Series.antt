-- SPDX-License-Identifier: Apache-2.0 OR MIT
-- Series: what several entries may give a paper, one after another. They are numbered, 29 for each paper: its texts are
-- at index 0, the forms under a label at its ordinal, the contents at 27, and the decisions on it at 28.
use Rattle.std.specs.Prelude.{◌≡◌, ℕ, ◌+◌, ◌/◌, ◌%◌, ◌==◌, ◌&&◌, nat_le, Bool, true, false, not}
use Rattle.std.specs.Prelude.{List, [], ◌∷◌, Option, Some, None, if◌then◌else◌, slice_index}
use Rattle.std.specs.List.{list_any}
use Rattle.cr_base.specs.declared.entry.Entry.{Entry}
use Rattle.cr_base.specs.declared.entry.Entry.TheVariants.{Submitted, Revised, Uploaded, Reviewed, Decided}
use Rattle.cr_base.specs.declared.entry.Stamped.{Stamped}
use Rattle.cr_base.specs.History.{History}

-- the series of this number is the paper's at this index
abbrev pub is_series : ℕ → ℕ → ℕ → Bool
is_series paper index k = (index == k % 29) && (paper == k / 29)

-- the ordinal is a label's
abbrev pub is_label : ℕ → Bool
is_label ordinal = nat_le 1 ordinal && nat_le ordinal 26

-- the entry is of the series of this number
abbrev pub is_of : ℕ → Entry → Bool
is_of k (Submitted paper title abstract) = is_series paper 0 k
is_of k (Revised paper title abstract) = is_series paper 0 k
is_of k (Uploaded paper version content) = is_series paper 27 k
is_of k (Reviewed paper ordinal version form) = is_label ordinal && is_series paper ordinal k
is_of k (Decided paper decision) = is_series paper 28 k
is_of k _ = false

-- some of the entries are of it
abbrev pub some_of : ℕ → History → Bool
some_of k H = list_any (λ (e : Stamped). is_of k e.entry) H

-- none of them is of the series of an entry, where it is of one
abbrev pub none_of : Option ℕ → History → Bool
none_of None H = true
none_of (Some k) H = not (some_of k H)

-- ---- places, counted from 1

-- the place of the last of these entries that are of the series, if the first of them is at place n; else d
abbrev pub last_place : ℕ → ℕ → ℕ → History → ℕ
last_place k d n [] = d
last_place k d n (e ∷ rest) = last_place k (if is_of k e.entry then n else d) (n + 1) rest

-- these are the places of the last entries of each series, by its number; 0 where no entry is of it, as past the end
abbrev pub AreLast : List ℕ → History → Type 0
AreLast places H = (k : ℕ) → slice_index places k ≡ last_place k 0 1 H

-- the last entry of a series is at this place; true if there is no series
abbrev pub is_last_at : List ℕ → Option ℕ → ℕ → Bool
is_last_at places None place = true
is_last_at places (Some k) place = slice_index places k == place
