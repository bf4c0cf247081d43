-- SPDX-License-Identifier: Apache-2.0 OR MIT
-- The deadline of a phase, as a receipt and the list of them tell it.
use Rattle.std.specs.Prelude.{ℕ, List, ◌++◌, Option, Some, codes}
use Rattle.json.specs.Print.{quoted}
use Rattle.cr_base.specs.Words.{phase_name}
use Rattle.cr_base.specs.declared.deadline.PhaseDeadline.{PhaseDeadline}
use Rattle.cr_base.specs.declared.words.Phase.{Phase}
use Rattle.cr_json.specs.Json.{Member, member_of, object_text}
use Rattle.cr_json.specs.Times.{until_text}

-- the members of a deadline, in the order of their keys' bytes
unfoldable pub deadline_members : Phase → Option ℕ → List Member
deadline_members phase until =
    member_of (codes "phase") (Some (quoted (phase_name phase)))
    ++ member_of (codes "until") (Some (until_text until))

-- the JSON object of a phase's deadline
abbrev pub phase_deadline_text : PhaseDeadline → List ℕ
phase_deadline_text deadline = object_text (deadline_members deadline.phase (Some deadline.until))
