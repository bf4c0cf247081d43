-- SPDX-License-Identifier: Apache-2.0 OR MIT
-- An account, as the list of accounts tells it.
use Rattle.std.specs.Prelude.{ℕ, List, ◌++◌, Some, codes, decimal}
use Rattle.json.specs.Print.{quoted}
use Rattle.cr_base.specs.Words.{role_name}
use Rattle.cr_base.specs.declared.reply.AccountLine.{AccountLine}
use Rattle.cr_json.specs.Json.{Member, member_of, object_text}

-- the keys of an account in the order of their bytes
unfoldable pub account_members : AccountLine → List Member
account_members account =
    member_of (codes "name") (Some (quoted account.name))
    ++ member_of (codes "role") (Some (quoted (role_name account.role)))
    ++ member_of (codes "user") (Some (decimal account.user))

-- the JSON object of an account
abbrev pub account_text : AccountLine → List ℕ
account_text account = object_text (account_members account)
