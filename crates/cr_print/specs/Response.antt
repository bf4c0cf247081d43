-- SPDX-License-Identifier: Apache-2.0 OR MIT
-- The content that tells what a paper's authors responded.
use Rattle.std.specs.Prelude.{ℕ, List, Some, codes}
use Rattle.json.specs.Print.{quoted}
use Rattle.cr_json.specs.Json.{Member, member_of, object_text}

-- the members of a response: its text only
unfoldable pub response_members : List ℕ → List Member
response_members text = member_of (codes "text") (Some (quoted text))

-- the JSON object of a response
unfoldable pub response_content : List ℕ → List ℕ
response_content text = object_text (response_members text)
