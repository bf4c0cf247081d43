-- SPDX-License-Identifier: Apache-2.0 OR MIT
-- Sight and View: what an entry shows a user, and what the user sees of a history, by the trigger table (Triggers).
use Rattle.std.specs.Prelude.{Bool, ℕ, List, [], ◌∷◌, ◌++◌, Option}
use Rattle.cr_base.specs.declared.entry.Stamped.{Stamped}
use Rattle.cr_base.specs.Lists.{given}
use Rattle.cr_base.specs.History.{History}
use Rattle.cr_policy.specs.Part.{own_parts}
use Rattle.cr_policy.specs.Sighting.{Sighting, sighting}
use Rattle.cr_policy.specs.Triggers.{Reader, reader, Around, position_of, TriggerRow}
use Rattle.cr_policy.specs.Triggers.{rows, user_named, ◌see◌, applies_any, shows}

-- the rows of the table that are for the entry between these histories; and last one for the user who made it, who is
-- shown the whole of it, its timestamp and its command's number
abbrev pub rows_at : Reader → Around → Stamped → List TriggerRow
rows_at r at e = rows r (position_of at e.entry) e.stamp.maker e.entry ++ user_named r e.stamp.maker see own_parts ∷ []

-- one of the entry's rows applies to the reader
abbrev pub is_seen : Reader → Around → Stamped → Bool
is_seen r at e = applies_any (rows_at r at e)

-- the parts of the entry that a row shows the reader, with the mark `mine` if the reader made it
abbrev pub joined : Reader → Around → Stamped → Sighting
joined r at e = sighting (shows (rows_at r at e)) (user_named r e.stamp.maker) e

-- Sight: what the entry shows the reader; nothing if no row applies
abbrev pub sight : Reader → Around → Stamped → List Sighting
sight r at e = given (is_seen r at e) (joined r at e)

-- what each entry of the second history shows the reader, in order; the first history is before it
abbrev pub sights : Reader → History → History → List Sighting
sights r before [] = []
sights r before (e ∷ after) =
    sight r (record { before = before; after = after }) e ++ sights r (before ++ e ∷ []) after

-- what a user may see of a history: sightings, in order
abbrev pub View : Type 0
View = List Sighting

-- View: what the entries show the user, in order, judged at the end of the history
abbrev pub view : Option ℕ → History → View
view u H = sights (reader u H) [] H
