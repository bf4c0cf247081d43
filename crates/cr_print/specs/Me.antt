-- SPDX-License-Identifier: Apache-2.0 OR MIT
-- The content that tells users of themselves.
use Rattle.std.specs.Prelude.{ℕ, List, ◌++◌, Some, codes, decimal}
use Rattle.json.specs.Print.{quoted}
use Rattle.cr_base.specs.Words.{role_name}
use Rattle.cr_base.specs.declared.me.Me.{Me}
use Rattle.cr_json.specs.Json.{Member, member_of, numbers_text, object_text}

-- the members of what a user is told of themselves, in the order of their keys' bytes
unfoldable pub me_members : Me → List Member
me_members me =
    member_of (codes "assigned") (Some (numbers_text me.assigned))
    ++ member_of (codes "bytes") (Some (decimal me.bytes))
    ++ member_of (codes "comments") (Some (decimal me.comments))
    ++ member_of (codes "conflicts") (Some (numbers_text me.conflicts))
    ++ member_of (codes "invited") (Some (numbers_text me.invited))
    ++ member_of (codes "name") (Some (quoted me.name))
    ++ member_of (codes "papers") (Some (numbers_text me.papers))
    ++ member_of (codes "role") (Some (quoted (role_name me.role)))
    ++ member_of (codes "user") (Some (decimal me.user))

-- the JSON object of what a user is told of themselves
unfoldable pub me_content : Me → List ℕ
me_content me = object_text (me_members me)
