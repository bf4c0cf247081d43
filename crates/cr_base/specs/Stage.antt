-- SPDX-License-Identifier: Apache-2.0 OR MIT
-- The stage of the conference: what an entry makes of its phase (CoCon's phases), of whether the response was opened,
-- of its mode (the HotCRP manual's anonymity) and of its deadlines.
use Rattle.std.specs.Prelude.{ℕ, Bool, false, ◌||◌}
use Rattle.cr_base.specs.declared.deadline.Deadlines.{Deadlines}
use Rattle.cr_base.specs.declared.words.Phase.{Phase}
use Rattle.cr_base.specs.declared.words.Phase.TheVariants.{Setup, Response}
use Rattle.cr_base.specs.declared.words.Mode.{Mode}
use Rattle.cr_base.specs.declared.words.Mode.TheVariants.{Blind}
use Rattle.cr_base.specs.declared.entry.Entry.{Entry}
use Rattle.cr_base.specs.declared.entry.Entry.TheVariants.{PhaseSet, ModeSet, DeadlineSet}
use Rattle.cr_base.specs.Deadlines.{no_deadlines, deadline_in, with_deadline, is_past}
use Rattle.cr_base.specs.Phases.{is_phase}

-- the phase, the mode and the deadlines, and whether the response was opened
pub record StageState : Type 0 where
  pub phase : Phase
  pub mode : Mode
  pub deadlines : Deadlines
  pub had_response : Bool

-- the stage at which a conference begins
abbrev pub first_stage : StageState
first_stage = record { phase = Setup; mode = Blind; deadlines = no_deadlines; had_response = false }

-- the stage after one more entry
abbrev pub stage_after : StageState → Entry → StageState
stage_after stage (PhaseSet phase) =
    record stage { phase = phase; had_response = is_phase phase Response || stage.had_response }
stage_after stage (ModeSet mode) = record stage { mode = mode }
stage_after stage (DeadlineSet phase until) =
    record stage { deadlines = with_deadline phase until stage.deadlines }
stage_after stage _ = stage

-- the current phase has a deadline, and the timestamp is past it
abbrev pub is_late_in : StageState → ℕ → Bool
is_late_in stage at = is_past (deadline_in stage.deadlines stage.phase) at
