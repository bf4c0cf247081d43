-- SPDX-License-Identifier: Apache-2.0 OR MIT
-- How many entries of a history are of a kind.
use Rattle.std.specs.Prelude.{ℕ, Bool, ◌==◌, filter, length}
use Rattle.cr_base.specs.declared.entry.EntryKind.{EntryKind}
use Rattle.cr_base.specs.declared.entry.Stamped.{Stamped}
use Rattle.cr_base.specs.History.{History}
use Rattle.cr_base.specs.Rows.{kind_of, kind_number}

-- the entry is of the kind
abbrev pub is_of_kind : EntryKind → Stamped → Bool
is_of_kind kind e = kind_number (kind_of e.entry) == kind_number kind

-- how many entries of the history are of this kind
abbrev pub count_of_kind : EntryKind → History → ℕ
count_of_kind kind H = length (filter (is_of_kind kind) H)
