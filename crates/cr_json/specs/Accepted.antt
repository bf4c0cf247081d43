-- SPDX-License-Identifier: Apache-2.0 OR MIT
-- An accepted paper, as the list of them tells it.
use Rattle.std.specs.Prelude.{ℕ, List, ◌++◌, Some, codes, decimal}
use Rattle.json.specs.Print.{quoted}
use Rattle.cr_base.specs.declared.accepted.AcceptedPaper.{AcceptedPaper}
use Rattle.cr_json.specs.Json.{Member, member_of, names_text, object_text}

-- the keys of an accepted paper in the order of their bytes
unfoldable pub accepted_members : AcceptedPaper → List Member
accepted_members paper =
    member_of (codes "authors") (Some (names_text paper.authors))
    ++ member_of (codes "paper") (Some (decimal paper.paper))
    ++ member_of (codes "title") (Some (quoted paper.title))

-- the JSON object of an accepted paper
abbrev pub accepted_text : AcceptedPaper → List ℕ
accepted_text paper = object_text (accepted_members paper)
