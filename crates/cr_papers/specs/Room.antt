-- SPDX-License-Identifier: Apache-2.0 OR MIT
-- Room for the papers and the uploads of a group of entries.
use Rattle.std.specs.Prelude.{ℕ, ◌≤◌, List, Option, Some, None, length, nat_le, if◌then◌else◌}
use Rattle.cr_base.specs.declared.entry.Entry.{Entry}
use Rattle.cr_base.specs.declared.entry.Entry.TheVariants.{Uploaded}
use Rattle.cr_base.specs.declared.entry.Stamped.{Stamped}
use Rattle.cr_base.specs.History.{History}
use Rattle.cr_rooms.specs.Rooms.{HasRoomFor}
use Rattle.cr_kept.specs.Beside.{rooms_beside}
use Rattle.cr_papers.specs.Seen.{PapersRooms}

-- room for so many papers and uploads, where so many sums fit of either; else none
abbrev pub rooms_of : ℕ → ℕ → ℕ → List ℕ → PapersRooms
rooms_of submitted papers uploaded uploads = record {
  papers = if nat_le 10000 submitted then papers else 0;
  uploads = rooms_beside uploaded uploads;
}

-- the paper to which an entry uploads, if it does
abbrev pub uploads_for : Entry → Option ℕ
uploads_for (Uploaded paper version content) = Some paper
uploads_for _ = None

abbrev pub paper_uploaded : Stamped → Option ℕ
paper_uploaded stamped = uploads_for stamped.entry

-- there is room for as many papers as the group has entries, and for all its uploads
pub record PapersHaveRoom (group : History) (rooms : PapersRooms) : Type 0 where
  pub papers : length group ≤ rooms.papers
  pub uploads : HasRoomFor paper_uploaded group rooms.uploads
