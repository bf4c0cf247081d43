-- SPDX-License-Identifier: Apache-2.0 OR MIT
-- What opening gates answers.
use Rattle.std.specs.Prelude.{◌≡◌, ℕ, ◌≤◌, ◌⊎◌, List, [], ◌∷◌, ◌++◌, Bool, true, false, Option, Some, None, ⊤}
use Rattle.cr_ports.specs.Count.{Rises}
use Rattle.cr_ports.specs.declared.gates.Opened.{Opened}
use Rattle.cr_ports.specs.declared.gates.Opened.TheVariants.{Doors, Failed, OutOfMemory}

-- This is true of the doors, if they were opened.
abbrev pub OnDoors : {D : Type 0} → Opened D → (List D → Type 0) → Type 0
OnDoors (Doors doors) P = P doors.items
OnDoors Failed P = ⊤
OnDoors OutOfMemory P = ⊤

-- The fault counter before and after an opening: it rose if that failed, and only then.
abbrev pub FaultsAfterOpen : {D : Type 0} → Opened D → ℕ → ℕ → Type 0
FaultsAfterOpen (Doors doors) before now = now ≡ before
FaultsAfterOpen Failed before now = (before ≤ now) × Rises before now
FaultsAfterOpen OutOfMemory before now = now ≡ before

-- the addresses that were asked for, where they are told, and then this one
abbrev pub and_asked : Option (List (List ℕ)) → List ℕ → Option (List (List ℕ))
and_asked None addr = None
and_asked (Some asked) addr = Some (asked ++ addr ∷ [])

-- No further address than this one was asked for, and it at most once.
abbrev pub AsksAtMost : List ℕ → Option (List (List ℕ)) → Option (List (List ℕ)) → Type 0
AsksAtMost addr before now = (now ≡ and_asked before addr) ⊎ (now ≡ before)

-- The addresses asked for before and after an opening at this one: if doors were opened, it follows the others; if
-- none were, no other does.
abbrev pub AskedAfterOpen : {D : Type 0} → Opened D → List ℕ → Option (List (List ℕ)) → Option (List (List ℕ)) → Type 0
AskedAfterOpen (Doors doors) addr before now = now ≡ and_asked before addr
AskedAfterOpen Failed addr before now = AsksAtMost addr before now
AskedAfterOpen OutOfMemory addr before now = AsksAtMost addr before now

-- the opening failed
abbrev pub has_failed : {D : Type 0} → Opened D → Bool
has_failed (Doors doors) = false
has_failed Failed = true
has_failed OutOfMemory = false
