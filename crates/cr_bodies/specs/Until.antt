-- SPDX-License-Identifier: Apache-2.0 OR MIT
-- The phase of a deadline, and until when something may be done in it, as the members of a JSON object tell them.
-- Which texts are times, and of which instant, `jiff` says: those of RFC 3339, and what RFC 9557 adds to them.
use Rattle.std.specs.Prelude.{ℕ, ◌/◌, ◌%◌, ◌==◌, ℤ, pos, negsuc, List, is_some, if◌then◌else◌}
use Rattle.std.specs.Prelude.{Option, Some, None, option_map, option_and_then}
use Rattle.std.specs.Result.{result_ok}
use Rattle.jiff.specs.Words.{parse_timestamp}
use Rattle.serde_json.specs.Data.{Data}
use Rattle.serde_json.specs.Find.{get, as_null, as_str}
use Rattle.cr_base.specs.declared.words.Phase.{Phase}
use Rattle.cr_base.specs.Deadlines.{deadline_of_seconds}
use Rattle.cr_base.specs.Phases.{may_have_deadline}
use Rattle.cr_bodies.specs.Field.{◌>>=◌, phase_under}

-- the phase, where it may have a deadline
abbrev pub if_may_have : Phase → Option Phase
if_may_have phase = if may_have_deadline phase then Some phase else None

-- the phase whose word is under a key, if it may have a deadline
abbrev pub deadline_phase_under : List ℕ → Data → Option Phase
deadline_phase_under key d = phase_under key d >>= if_may_have

-- the deadline of an instant, which is told in nanoseconds since 1970-01-01T00:00:00Z: of whole seconds only
unfoldable pub deadline_at : ℤ → Option ℕ
deadline_at (pos nanos) =
    if nanos % 1000000000 == 0 then deadline_of_seconds (nanos / 1000000000) else None
deadline_at (negsuc nanos) = None

-- the deadline that a text tells
abbrev pub deadline_in_text : List ℕ → Option ℕ
deadline_in_text text = option_and_then deadline_at (result_ok (parse_timestamp text))

-- until when, where a value tells it: null says that there is no deadline any more
abbrev pub until_told : Data → Option (Option ℕ)
until_told d =
    if is_some (as_null d) then Some None else option_map (λ until. Some until) (as_str d >>= deadline_in_text)

-- until when, under a key that must be there
abbrev pub until_under : List ℕ → Data → Option (Option ℕ)
until_under key d = get key d >>= until_told
