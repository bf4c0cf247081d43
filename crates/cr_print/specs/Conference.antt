-- SPDX-License-Identifier: Apache-2.0 OR MIT
-- The content that tells of the conference.
use Rattle.std.specs.Prelude.{ℕ, List, ◌++◌, Some, codes, decimal}
use Rattle.json.specs.Print.{quoted}
use Rattle.cr_base.specs.Words.{mode_name, phase_name}
use Rattle.cr_base.specs.declared.reply.Conference.{Conference}
use Rattle.cr_json.specs.Json.{Member, member_of, object_text}

-- the members of what is told of the conference, in the order of their keys' bytes
unfoldable pub conference_members : Conference → List Member
conference_members conference =
    member_of (codes "mode") (Some (quoted (mode_name conference.mode)))
    ++ member_of (codes "papers") (Some (decimal conference.papers))
    ++ member_of (codes "phase") (Some (quoted (phase_name conference.phase)))

-- the JSON object of what is told of the conference
unfoldable pub conference_content : Conference → List ℕ
conference_content conference = object_text (conference_members conference)
