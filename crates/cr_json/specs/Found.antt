-- SPDX-License-Identifier: Apache-2.0 OR MIT
-- A paper that a search finds.
use Rattle.std.specs.Prelude.{ℕ, List, ◌++◌, Some, codes, decimal}
use Rattle.json.specs.Print.{quoted}
use Rattle.cr_base.specs.declared.found.FoundPaper.{FoundPaper}
use Rattle.cr_json.specs.Json.{Member, member_of, object_text}

-- the keys of a paper that was found in the order of their bytes
unfoldable pub found_paper_members : FoundPaper → List Member
found_paper_members paper =
    member_of (codes "paper") (Some (decimal paper.paper))
    ++ member_of (codes "title") (Some (quoted paper.title))

-- the JSON object of a paper that a search finds
abbrev pub found_paper_text : FoundPaper → List ℕ
found_paper_text paper = object_text (found_paper_members paper)
