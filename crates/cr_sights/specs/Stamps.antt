-- SPDX-License-Identifier: Apache-2.0 OR MIT
-- What the stamp of an entry shows its maker, and no other reader.
use Rattle.std.specs.Prelude.{ℕ, ◌==◌, [], ◌∷◌}
use Rattle.cr_base.specs.declared.entry.EntryKind.{EntryKind}
use Rattle.cr_base.specs.declared.entry.Stamp.{Stamp}
use Rattle.cr_policy.specs.Part.{own_parts}
use Rattle.cr_policy.specs.Sighting.{Sighting, masked, under}
use Rattle.cr_policy.specs.Triggers.{◌see◌, shows}

-- what an entry of this kind shows its maker: the mark `mine`, its timestamp, and its command's number
abbrev pub stamp_shown : ℕ → Stamp → EntryKind → Sighting
stamp_shown reader stamp kind =
    let mine = reader == stamp.maker in
    masked (shows (mine see own_parts ∷ [])) mine (under stamp kind)
