-- SPDX-License-Identifier: Apache-2.0 OR MIT
-- What the value is when the lock is closed.
use Rattle.std.specs.Prelude.{◌≡◌, ℕ, ◌+◌, ◌≤◌, ◌⊎◌, List, ◌++◌, length, IfSome}
use mathlib.Core.List.{IsPrefix}
use Rattle.cr_lock.specs.Counts.{last_count, within, Among}
use Rattle.cr_lock.specs.Turns.{groups_with, marks, rises, groups_of, Reached}
use Rattle.cr_lock.specs.Passes.{Known, Stand}

-- x is the value of a lock that was made with `first`, and p the one pass that is left
module _ {T E Root : Type 0} (list : T → List E) (faults : T → ℕ) (root_of : T → Root) (first : T) (p : Known T E) where
  pub record Closes (x : T) : Type 0 where
    -- the value's history is what the pass has seen
    pub stands : list x ≡ p.seen
    -- what the pass has seen begins with the first history
    pub begins : IsPrefix (list first) p.seen
    -- each entry after the first history is in exactly one group, and no other number is in any
    pub groups : (k : ℕ) → groups_with k p.mine ≡ within (length (list first)) (length p.seen) k
    -- each group is at its place
    pub places : Stand p
    -- the groups in order are what came after the first history
    pub whole : list x ≡ list first ++ groups_of p.mine
    -- the count of faults rose by what it rose in the turns
    pub count : faults x ≡ faults first + rises p.mine
    -- the counter rose by no less than there are marks, unless it ends at its maximum
    pub marks : (faults first + marks p.mine ≤ faults x) ⊎ (last_count ≤ faults x)
    -- the root of the value is that of the first one
    pub root : root_of x ≡ root_of first
    -- the turns lead from the first value to this one, each from what another left
    pub reached : Reached (Among p.mine) first x
    -- the value is as the pass left it, unless that was split or joined since
    pub left : IfSome p.left (λ value. x ≡ value)
