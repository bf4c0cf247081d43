-- SPDX-License-Identifier: Apache-2.0 OR MIT
-- The index of numbers that the log keeps.
use Rattle.std.specs.Prelude.{Bool, ◌≡◌, ◌==◌, ◌&&◌, length, Option}
use Rattle.std.specs.List.{position_from}
use Rattle.std.specs.Option.{option_map}
use Rattle.std.specs.declared.hash.FoldHasher.{FoldHasher}
use Rattle.std.specs.declared.hash.BuildHasherDefault.{BuildHasherDefault}
use Rattle.indexmap.specs.IndexMap.{IndexMap, get}
use Rattle.cr_base.specs.declared.entry.Stamped.{Stamped}
use Rattle.cr_base.specs.History.{History}
use Rattle.cr_base.specs.Keys.{has_number, kept_under}
use Rattle.cr_log.specs.declared.given.GivenNumber.{GivenNumber}
use Rattle.cr_log.specs.declared.log.Place.{Place}
use Rattle.cr_log.specs.Given.{is_same}

-- the entry was made under this number of its maker's
abbrev pub is_under : GivenNumber → Stamped → Bool
is_under n e = e.stamp.maker == n.user && has_number n.number e.stamp.key

-- where the first entry under the number stands, from 0, and how many there are
abbrev pub place_of : History → GivenNumber → Option Place
place_of H n =
    let count = length (kept_under n.user n.number H) in
    option_map (λ first. record { first = first; count = count }) (position_from (is_under n) 0 H)

-- the map has the place of each number under which there are entries, and of no other
abbrev pub IsNumberIndex : History → IndexMap GivenNumber Place (BuildHasherDefault FoldHasher) → Type 0
IsNumberIndex H index = (n : GivenNumber) → get is_same index n ≡ place_of H n
