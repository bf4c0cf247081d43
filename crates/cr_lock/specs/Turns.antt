-- SPDX-License-Identifier: Apache-2.0 OR MIT
-- The turns of a pass, and how those of two passes are merged.
use Rattle.std.specs.Prelude.{◌≡◌, ℕ, ◌+◌, ◌-◌, ◌≤◌, ◌⊎◌, Bool, ◌&&◌, ◌||◌, nat_lt}
use Rattle.std.specs.Prelude.{◌==◌, if◌then◌else◌, List, [], ◌∷◌, ◌++◌, length}
use mathlib.Core.List.{IsPrefix}
use Rattle.cr_lock.specs.declared.pass_state.Turn.{Turn}
use Rattle.cr_lock.specs.Counts.{has_risen, within, total, Every}

-- the longer of two lists, the first where they are as long
abbrev pub longer : {E : Type 0} → List E → List E → List E
longer xs ys = if nat_lt (length xs) (length ys) then ys else xs

module _ {T E : Type 0} where
  -- the turn at this place of the history, which added this group, and found and left the value and its count of faults
  -- so
  abbrev pub turn_at : ℕ → List E → ℕ → ℕ → T → T → Turn T E
  turn_at place group before after found left = record {
    place = place;
    group = group;
    rise = after - before;
    marked = has_risen before after;
    found = found;
    left = left;
  }

  -- the place after the group
  abbrev pub end_of : Turn T E → ℕ
  end_of t = t.place + length t.group

  -- in how many of the groups the entry with the number k is
  abbrev pub groups_with : ℕ → List (Turn T E) → ℕ
  groups_with k ts = total (λ t. within t.place (end_of t) k) ts

  -- by how much the count of faults rose in the turns together
  abbrev pub rises : List (Turn T E) → ℕ
  rises ts = total (λ t. t.rise) ts

  -- how many of the turns are marked
  abbrev pub marks : List (Turn T E) → ℕ
  marks ts = total (λ t. if t.marked then 1 else 0) ts

  -- the group is in the list at its place
  abbrev pub StandsIn : List E → Turn T E → Type 0
  StandsIn log t = (before : List E) × (length before ≡ t.place) × IsPrefix (before ++ t.group) log

  -- the groups, one after the other
  abbrev pub groups_of : List (Turn T E) → List E
  groups_of [] = []
  groups_of (t ∷ ts) = t.group ++ groups_of ts

  -- t comes after u: by the place, and at one place by the group's end
  abbrev pub comes_after : Turn T E → Turn T E → Bool
  comes_after t u = nat_lt u.place t.place || (t.place == u.place && nat_lt (end_of u) (end_of t))

  -- with t, before the first turn that it does not come after
  abbrev pub insert_turn : Turn T E → List (Turn T E) → List (Turn T E)
  insert_turn t [] = t ∷ []
  insert_turn t (u ∷ us) = if comes_after t u then u ∷ insert_turn t us else t ∷ u ∷ us

  -- both lists in order; where two turns tie, the first list's comes first
  abbrev pub merged : List (Turn T E) → List (Turn T E) → List (Turn T E)
  merged [] us = us
  merged (t ∷ ts) us = insert_turn t (merged ts us)

  -- no turn is at a place before p
  abbrev pub From : ℕ → List (Turn T E) → Type 0
  From p ts = Every (λ u. p ≤ u.place) ts

  -- no turn's place is before an earlier one's
  abbrev pub InOrder : List (Turn T E) → Type 0
  InOrder [] = Unit {0}
  InOrder (t ∷ ts) = From t.place ts × InOrder ts

  -- these turns, the last of them first, lead from the value x to y: each found what the one before it left
  abbrev pub Leads : List (Turn T E) → T → T → Type 0
  Leads [] x y = y ≡ x
  Leads (t ∷ ts) x y = (y ≡ t.left) × Leads ts x t.found

  -- the value y was reached from x by turns of which Made holds, each of which found what the one before it left
  pub record Reached (Made : Turn T E → Type 0) (x y : T) : Type 0 where
    pub turns : List (Turn T E)
    pub made : Every Made turns
    pub leads : Leads turns x y

  -- of two lists one begins the other, and no entry is in a group of both lists of turns
  abbrev pub InCommon : List E → List E → List (Turn T E) → List (Turn T E) → Type 0
  InCommon xs ys ts us = (IsPrefix xs ys ⊎ IsPrefix ys xs) × ((k : ℕ) → groups_with k ts + groups_with k us ≤ 1)
