-- SPDX-License-Identifier: Apache-2.0 OR MIT
-- Room for the tags that a group of entries turns on.
use Rattle.std.specs.Prelude.{ℕ, List, Option, Some, None, if◌then◌else◌}
use Rattle.cr_base.specs.declared.entry.Entry.{Entry}
use Rattle.cr_base.specs.declared.entry.Entry.TheVariants.{Tagged}
use Rattle.cr_base.specs.declared.entry.Stamped.{Stamped}
use Rattle.cr_base.specs.History.{History}
use Rattle.cr_rooms.specs.Rooms.{HasRoomFor}

-- the paper at which an entry turns a tag on, if it does
abbrev pub tags_at : Entry → Option ℕ
tags_at (Tagged paper tag on) = if on then Some paper else None
tags_at _ = None

abbrev pub paper_tagged : Stamped → Option ℕ
paper_tagged stamped = tags_at stamped.entry

-- there is room for all tags that the group turns on
abbrev pub TagsHaveRoom : History → List ℕ → Type 0
TagsHaveRoom group rooms = HasRoomFor paper_tagged group rooms
