-- SPDX-License-Identifier: Apache-2.0 OR MIT
-- Caller: which user gives a wish, by a history: the one with the name and the secret that the field Authorization
-- tells, if it is read.
use Rattle.std.specs.Prelude.{ℕ, Bool, false, Option, Some, None, if◌then◌else◌}
use Rattle.std.specs.Option.{option_map_or}
use Rattle.cr_base.specs.declared.ask.Ask.{Ask}
use Rattle.cr_base.specs.declared.ask.Ask.TheVariants as asks
use Rattle.cr_base.specs.History.{History}
use Rattle.cr_base.specs.HistoryFacts.{caller_of}
use Rattle.cr_base.specs.Logins.{command_ask, query_ask}
use Rattle.cr_base.specs.Traits.{ask_wants_login}
use Rattle.cr_bodies.specs.declared.credentials.Credentials.{Credentials}
use Rattle.cr_wire.specs.declared.what.What.{What}
use Rattle.cr_wire.specs.declared.what.What.TheVariants.{NoRoute, WrongMethod, BadNumber, BadBody, BadQuery}
use Rattle.cr_wire.specs.declared.what.What.TheVariants.{Command as Commands, Query as Queries, Bulk}
use Rattle.cr_wire.specs.declared.what.Wish.{Wish}

-- what a wish's request asks for; `None` if it is no request of the server's
abbrev pub ask_of : What → Option Ask
ask_of NoRoute = None
ask_of (WrongMethod resource) = None
ask_of (BadNumber ask) = Some ask
ask_of (BadBody ask) = Some ask
ask_of (BadQuery ask offset) = Some ask
ask_of (Commands key command) = Some (command_ask command)
ask_of (Queries query) = Some (query_ask query)
ask_of (Bulk key rows) = Some asks.Bulk

-- the field Authorization is read: what is asked for requires authentication, also if the number, the body or the query
-- string is bad. What is no request of the server's requires none, and every caller gets one refusal.
abbrev pub wants_login : What → Bool
wants_login what = option_map_or ask_wants_login (ask_of what) false

-- the user who registered with the name that is told and the digest of the secret that is told; `None` if there is none
abbrev pub user_told : Option Credentials → History → Option ℕ
user_told None H = None
user_told (Some c) H = caller_of c.name c.digest H

-- the caller of a wish; unauthenticated if the field isn't read
abbrev pub caller : History → Wish → Option ℕ
caller H w = if wants_login w.what then user_told w.credentials H else None
