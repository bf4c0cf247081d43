-- SPDX-License-Identifier: Apache-2.0 OR MIT
-- What is at each path of disks in memory.
use Rattle.std.specs.Prelude.{ℕ, List, [], Bool, cond, is_some, Option, None, Some, String}
use Rattle.std.specs.Option.{option_map_or}
use Rattle.std.specs.declared.alloc.Global.{Global}
use Rattle.std.specs.Map.{lookup}
use Rattle.std.specs.Str.{bytes_eq}
use Rattle.cr_ports.specs.Shelving.{is_path}
use Rattle.cr_disks.specs.Held.{DiskState, Held, left_since_of, settled, state_of}

-- what a map by path has, as it keeps it: the disk that was shut last at each
abbrev pub FilesByPath : Type 0
FilesByPath = List (String Global × Held)

-- the bytes at a path, none if nothing is there
abbrev pub bytes_at : FilesByPath → List ℕ → List ℕ
bytes_at files path = option_map_or (λ disk. disk.bytes) (lookup (is_path path) files) []

-- the state of the disk at a path, with no bytes if nothing is there
abbrev pub state_at : FilesByPath → List ℕ → DiskState
state_at files path = option_map_or state_of (lookup (is_path path) files) (settled [])

-- the states at each path, once this is that of one of them
abbrev pub with_state : (List ℕ → DiskState) → List ℕ → DiskState → List ℕ → DiskState
with_state states path state other = cond (bytes_eq path other) state (states other)

abbrev pub has_file : FilesByPath → List ℕ → Bool
has_file files path = is_some (lookup (is_path path) files)

-- disks in memory: the bytes at each path, which calls of each disk fail, for how many more bytes and calls each has
-- room, the faults, and the disk that was shut last
pub record Filed : Type 0 where
  pub files : FilesByPath
  pub failing : List ℕ
  pub room : ℕ
  pub calls : ℕ
  pub faults : ℕ
  pub last : Option Held

-- what a stop at some moment of that disk, from this one on, might have left of it
abbrev pub left_of_last : Option Held → ℕ → List ℕ → Type 0
left_of_last None t image = ⊥
left_of_last (Some disk) t image = left_since_of disk t image
