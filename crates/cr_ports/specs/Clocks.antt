-- SPDX-License-Identifier: Apache-2.0 OR MIT
-- Clocks: what they give, and those in memory as contracts see them.
use Rattle.std.specs.Prelude.{ℕ, ◌/◌, List, [], ◌∷◌, Option, Some, None, Result, Ok, Err, ⊤, if◌then◌else◌}
use Rattle.std.specs.Time.{system_time_nanos}
use Rattle.std.specs.declared.time.SystemTime.{SystemTime}
use Rattle.cr_base.specs.Moments.{IsMoment, moment_of}
use Rattle.cr_ports.specs.Calls.{Listed, fails}
use Rattle.cr_ports.specs.Count.{counted}
use Rattle.cr_ports.specs.declared.clock.ClockStep.{ClockStep}
use Rattle.cr_ports.specs.declared.clock.ClockStep.TheVariants.{Now, Failed}

-- the moment that a clock gave, none where it failed
abbrev pub moment_given : ClockStep → List ℕ
moment_given (Now at) = at ∷ []
moment_given Failed = []

-- what it gave is within a moment's range
abbrev pub IsGiven : ClockStep → Type 0
IsGiven (Now at) = IsMoment at
IsGiven Failed = ⊤

-- a moment, or a fault where there is none
abbrev pub step_of : Option ℕ → ClockStep
step_of (Some at) = Now at
step_of None = Failed

-- A clock's answer from the system's time: its whole seconds since 1970, if a Moment can hold them. Any error is a
-- fault.
abbrev pub system_step : {E : Type 0} → Result SystemTime E → ClockStep
system_step (Ok time) = step_of (moment_of (system_time_nanos time / 1000000000))
system_step (Err error) = Failed

-- ---- in memory

-- a clock: the moments that it has still to give, its calls, and its faults
pub record Timed : Type 0 where
  pub coming : List ℕ
  pub calls : Listed
  pub faults : ℕ

-- the first of the moments that are to come; past the last of them there is none to give
abbrev pub first_moment : List ℕ → ClockStep
first_moment [] = Failed
first_moment (at ∷ coming) = Now at

-- what a clock gives
abbrev pub clock_step : Timed → ClockStep
clock_step clock = if fails clock.calls then Failed else first_moment clock.coming

-- how many faults are counted after this answer
abbrev pub clock_faults : ClockStep → ℕ → ℕ
clock_faults (Now at) faults = faults
clock_faults Failed faults = counted faults
