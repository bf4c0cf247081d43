-- SPDX-License-Identifier: Apache-2.0 OR MIT
-- AnotherRun: another run, in which a group of users ask and are answered the same.
use Rattle.std.specs.Prelude.{ℕ, Bool, ◌≡◌, List, [], ◌∷◌, ◌++◌, length, take, Option}
use Rattle.std.specs.List.{list_any}
use Rattle.cr_base.specs.declared.entry.Stamped.{Stamped}
use Rattle.cr_base.specs.History.{History}
use Rattle.cr_base.specs.Lists.{given, is_number}
use Rattle.cr_policy.specs.Legal.{Legal}
use Rattle.cr_undeduced.specs.Undeducible.{Look}
use Rattle.cr_wire.specs.Caller.{caller}
use Rattle.cr_session.specs.Told.{after_wish}
use Rattle.cr_session.specs.TwoRuns.{WishInTurn, Run}
use Rattle.cr_session.specs.Retries.{ends_in, AreBounded}
use Rattle.cr_laws.specs.GroupRuns.{is_theirs, GroupHearsAlike}

-- ---- another run

-- the history in which a run ends
abbrev pub end_of : Run → History
end_of one = ends_in one.opening one.wishes

-- There is another run, which a legal history opens, in which the group ask the same, at the same timestamps and in the
-- same order, and are answered the same bytes. It ends in this history, and opens with as many of its entries as the
-- first run opens with.
pub record AnotherRun (group : List (Option ℕ)) (one : Run) (end : History) : Type 0 where
  pub other : Run
  pub legal : Legal other.opening
  pub bounded : AreBounded other.wishes
  pub as_long : length other.opening ≡ length one.opening
  pub opening : other.opening ≡ take (length one.opening) end
  pub ends : end_of other ≡ end
  pub hears : GroupHearsAlike group one other

-- ---- where the group look

-- one of the group looks whenever they ask, at the history before the request: their looks from this history on
abbrev pub looks_of : List (Option ℕ) → History → List WishInTurn → List Look
looks_of group H [] = []
looks_of group H (w ∷ ws) =
    given (is_theirs group H w.wish) (record { who = caller H w.wish; upto = length H })
    ++ looks_of group (after_wish H w.wish) ws

-- ---- what they did

-- one of the group made the entry
abbrev pub is_made_by : List (Option ℕ) → Stamped → Bool
is_made_by group e = list_any (λ u. is_number u e.stamp.maker) group
