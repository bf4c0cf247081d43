-- SPDX-License-Identifier: Apache-2.0 OR MIT
-- Room for the reviews of a group of entries.
use Rattle.std.specs.Prelude.{ℕ, List, Option, Some, None}
use Rattle.cr_base.specs.declared.entry.Entry.{Entry}
use Rattle.cr_base.specs.declared.entry.Entry.TheVariants.{Reviewed}
use Rattle.cr_base.specs.declared.entry.Stamped.{Stamped}
use Rattle.cr_base.specs.History.{History}
use Rattle.cr_rooms.specs.Rooms.{HasRoomFor}

-- the paper of which an entry is a review, if it is one
abbrev pub reviews_of : Entry → Option ℕ
reviews_of (Reviewed paper ordinal version form) = Some paper
reviews_of _ = None

abbrev pub paper_reviewed : Stamped → Option ℕ
paper_reviewed stamped = reviews_of stamped.entry

-- there is room for all reviews of the group
abbrev pub ReviewsHaveRoom : History → List ℕ → Type 0
ReviewsHaveRoom group rooms = HasRoomFor paper_reviewed group rooms
