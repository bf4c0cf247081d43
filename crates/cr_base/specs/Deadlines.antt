-- SPDX-License-Identifier: Apache-2.0 OR MIT
-- Deadlines: until when what a phase opens may be done. A deadline is whole seconds, as those of moments (Moments),
-- from 1 to the last second that `jiff` has in every time zone: 9999-12-30T22:00:00Z.
use Rattle.std.specs.Prelude.{ℕ, Bool, false, ◌&&◌, ◌≤◌, nat_le, nat_lt, List, [], ◌∷◌, Option, Some, None}
use Rattle.std.specs.Prelude.{if◌then◌else◌}
use Rattle.std.specs.List.{flat_map}
use Rattle.std.specs.Option.{option_map}
use Rattle.cr_base.specs.declared.deadline.Deadlines.{Deadlines}
use Rattle.cr_base.specs.declared.deadline.PhaseDeadline.{PhaseDeadline}
use Rattle.cr_base.specs.declared.words.Phase.{Phase}
use Rattle.cr_base.specs.declared.words.Phase.TheVariants.{Setup, Submission, Bidding, Reviewing}
use Rattle.cr_base.specs.declared.words.Phase.TheVariants.{Response, Discussion, Notification, Closed}
use Rattle.cr_base.specs.Lists.{listed}

-- ---- what a deadline is

-- the last one
abbrev pub last_deadline : ℕ
last_deadline = 253402207200

-- these are a deadline's seconds
abbrev pub IsDeadline : ℕ → Type 0
IsDeadline seconds = (1 ≤ seconds) × (seconds ≤ last_deadline)

-- the deadline, if there is one, is within its bounds
abbrev pub IsDeadlineOrNone : Option ℕ → Type 0
IsDeadlineOrNone None = Unit {0}
IsDeadlineOrNone (Some seconds) = IsDeadline seconds

-- the deadline of this many seconds; `None` if there is no such deadline
abbrev pub deadline_of_seconds : ℕ → Option ℕ
deadline_of_seconds seconds = if nat_le 1 seconds && nat_le seconds last_deadline then Some seconds else None

-- the timestamp is past the deadline, if there is one: it is later than that second
abbrev pub is_past : Option ℕ → ℕ → Bool
is_past None at = false
is_past (Some until) at = nat_lt until at

-- ---- the deadlines of a conference

-- no phase has one
abbrev pub no_deadlines : Deadlines
no_deadlines =
    record { submission = None; bidding = None; reviewing = None; response = None; discussion = None }

-- the deadline of a phase; `None` if it has none
abbrev pub deadline_in : Deadlines → Phase → Option ℕ
deadline_in deadlines Setup = None
deadline_in deadlines Submission = deadlines.submission
deadline_in deadlines Bidding = deadlines.bidding
deadline_in deadlines Reviewing = deadlines.reviewing
deadline_in deadlines Response = deadlines.response
deadline_in deadlines Discussion = deadlines.discussion
deadline_in deadlines Notification = None
deadline_in deadlines Closed = None

-- with this deadline of a phase, or none: from submission to the discussion each has a place
abbrev pub with_deadline : Phase → Option ℕ → Deadlines → Deadlines
with_deadline Setup until deadlines = deadlines
with_deadline Submission until deadlines = record deadlines { submission = until }
with_deadline Bidding until deadlines = record deadlines { bidding = until }
with_deadline Reviewing until deadlines = record deadlines { reviewing = until }
with_deadline Response until deadlines = record deadlines { response = until }
with_deadline Discussion until deadlines = record deadlines { discussion = until }
with_deadline Notification until deadlines = deadlines
with_deadline Closed until deadlines = deadlines

-- ---- what is told of them

-- the phases that may have one, in the order of phases
abbrev pub deadline_phases : List Phase
deadline_phases = Submission ∷ Bidding ∷ Reviewing ∷ Response ∷ Discussion ∷ []

-- a phase with its deadline
abbrev pub phase_deadline : Phase → ℕ → PhaseDeadline
phase_deadline phase until = record { phase = phase; until = until }

-- the phases that have one, each with it
abbrev pub deadlines_told : (Phase → Option ℕ) → List PhaseDeadline
deadlines_told deadline =
    flat_map (λ (phase : Phase). listed (option_map (phase_deadline phase) (deadline phase))) deadline_phases
