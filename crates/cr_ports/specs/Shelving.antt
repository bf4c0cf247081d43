-- SPDX-License-Identifier: Apache-2.0 OR MIT
-- What stands at each path of a shelf, and what a shut does to it.
use Rattle.std.specs.Prelude.{◌≡◌, ◌≢◌, ◌⊎◌, ℕ, List, [], ◌++◌, Bool, IsTrue, is_some, Option, Some, None, cond}
use Rattle.std.specs.Prelude.{Result, Err, String, string_bytes, Vec, ⊤}
use Rattle.std.specs.Str.{bytes_eq}
use Rattle.std.specs.Option.{option_map_or}
use Rattle.std.specs.declared.alloc.Global.{Global}
use Rattle.std.specs.Map.{lookup}
use Rattle.std.specs.Ordering.{is_eq, nat_cmp}
use Rattle.std.specs.Cmp.Lexicographic.{slice_cmp}
use Rattle.cr_base.specs.declared.row.Row.{Row}
use Rattle.cr_ports.specs.Calls.{Listed}
use Rattle.cr_ports.specs.Stopping.{IsAmong}
use Rattle.cr_ports.specs.declared.keeper.KeeperError.{KeeperError}
use Rattle.cr_ports.specs.declared.keeper.KeeperError.TheVariants.{Failed}

-- the rows at each path, once these stand at one of them
abbrev pub with_rows : (List ℕ → List Row) → List ℕ → List Row → List ℕ → List Row
with_rows files path rows other = cond (bytes_eq path other) rows (files other)

-- The rows at a path once a keeper of these rows was shut there, if they were told before: its rows; or, of a keeper
-- that tells what a stop leaves, its rows and one whole group that was tried.
abbrev pub StandsAfter : Bool → List Row → List (List Row) → Option (List Row) → Option (List Row) → Type 0
StandsAfter tells_stops kept tried None there = ⊤
StandsAfter tells_stops kept tried (Some before) there =
    (there ≡ Some kept)
    ⊎ (IsTrue tells_stops × ((group : List Row) × IsAmong tried group × (there ≡ Some (kept ++ group))))

-- Each path keeps its rows when a keeper is opened at one of them. If that failed, of keepers that tell what a stop
-- leaves, a file may be left half made there, if there were no rows.
abbrev pub StaysOpened : {K : Type 0} → Bool → List ℕ → Result K KeeperError → (List ℕ → Option (List Row))
    → (List ℕ → Option (List Row)) → Type 0
StaysOpened tells_stops path result old new =
    ((other : List ℕ) → new other ≡ old other)
    ⊎ (IsTrue tells_stops × (result ≡ Err Failed) × (old path ≡ Some [])
    × ((other : List ℕ) → other ≢ path → new other ≡ old other))

-- what a map by path has, as it keeps it
abbrev pub StoresByPath : Type 0
StoresByPath = List (String Global × Vec Row Global)

abbrev pub is_path : List ℕ → String Global → Bool
is_path path name = is_eq (slice_cmp nat_cmp path (string_bytes name))

-- the rows at a path
abbrev pub files : StoresByPath → List ℕ → List Row
files stores path = option_map_or (λ rows. rows.items) (lookup (is_path path) stores) []

abbrev pub has_store : StoresByPath → List ℕ → Bool
has_store stores path = is_some (lookup (is_path path) stores)

-- a shelf in memory: the rows at each path, its opens, which calls of its keepers fail, and its faults
pub record Shelved : Type 0 where
  pub stores : StoresByPath
  pub opens : Listed
  pub failing_appends : List ℕ
  pub failing_reads : List ℕ
  pub faults : ℕ
