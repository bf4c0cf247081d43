-- SPDX-License-Identifier: Apache-2.0 OR MIT
-- Room for what a group of entries decides.
use Rattle.std.specs.Prelude.{ℕ, List, Option, Some, None}
use Rattle.cr_base.specs.declared.entry.Entry.{Entry}
use Rattle.cr_base.specs.declared.entry.Entry.TheVariants.{Decided}
use Rattle.cr_base.specs.declared.entry.Stamped.{Stamped}
use Rattle.cr_base.specs.History.{History}
use Rattle.cr_rooms.specs.Rooms.{HasRoomFor}

-- the paper on which an entry decides, if it does
abbrev pub decides_on : Entry → Option ℕ
decides_on (Decided paper decision) = Some paper
decides_on _ = None

abbrev pub paper_decided : Stamped → Option ℕ
paper_decided stamped = decides_on stamped.entry

-- there is room for all decisions of the group
abbrev pub DecisionsHaveRoom : History → List ℕ → Type 0
DecisionsHaveRoom group rooms = HasRoomFor paper_decided group rooms
