-- SPDX-License-Identifier: Apache-2.0 OR MIT
-- The papers that a search finds, and how many they are.
use Rattle.std.specs.Prelude.{ℕ, List, ◌++◌, Some, codes, decimal, length, map}
use Rattle.cr_base.specs.declared.found.FoundPaper.{FoundPaper}
use Rattle.cr_json.specs.Found.{found_paper_text}
use Rattle.cr_json.specs.Json.{Member, array_text, member_of, object_text}

-- the members of an answer with papers that were found, in the order of their keys' bytes
unfoldable pub found_members : List FoundPaper → List Member
found_members papers =
    member_of (codes "count") (Some (decimal (length papers)))
    ++ member_of (codes "papers") (Some (array_text (map found_paper_text papers)))

-- the JSON object of an answer with the papers that a search finds
unfoldable pub found_content : List FoundPaper → List ℕ
found_content papers = object_text (found_members papers)

-- the one member of an answer with only the count
unfoldable pub count_members : ℕ → List Member
count_members n = member_of (codes "count") (Some (decimal n))

-- the JSON object of an answer with how many papers a search finds
unfoldable pub count_content : ℕ → List ℕ
count_content n = object_text (count_members n)
