-- SPDX-License-Identifier: Apache-2.0 OR MIT
-- The position of each entry of a history among those of its series.
use Rattle.std.specs.Prelude.{◌≡◌, ℕ, ◌+◌, length, take, drop, IfSome}
use Rattle.std.specs.List.{slice_get}
use Rattle.cr_base.specs.declared.entry.Stamped.{Stamped}
use Rattle.cr_base.specs.History.{History, opens_discussion, opens_response}
use Rattle.cr_base.specs.Lists.{until}
use Rattle.cr_policy.specs.Triggers.{Position, position_of}
use Rattle.cr_sights.specs.declared.positions.Positions.{Positions}
use Rattle.cr_sights.specs.Series.{AreLast}

-- the entry at this place of the history has this position
abbrev pub IsPositionIn : History → ℕ → Position → Type 0
IsPositionIn H at position =
    IfSome (slice_get H at)
    (λ (e : Stamped). position_of (record { before = take at H; after = drop (at + 1) H }) e.entry ≡ position)

-- What is noted when the entries up to a place were passed: the last places of each series among these, in the whole
-- history, and among the entries before the response was opened, and before the discussion was, and how many these are.
pub record AreNoted (positions : Positions) (H : History) (at : ℕ) : Type 0 where
  pub passed : AreLast positions.passed.places.items (take at H)
  pub all : AreLast positions.all.places.items H
  pub before_response : AreLast positions.before_response.places.items (until opens_response H)
  pub before_discussion : AreLast positions.before_discussion.places.items (until opens_discussion H)
  pub response_at : positions.response_at ≡ length (until opens_response H)
  pub discussion_at : positions.discussion_at ≡ length (until opens_discussion H)
