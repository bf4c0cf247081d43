-- SPDX-License-Identifier: Apache-2.0 OR MIT
-- The wish of a request: what is asked for, the credentials (RFC 9110, section 11.6.2), in which form the answer is
-- sent, the timestamp, and whether the connection closes after the answer (RFC 9112, section 9.3).
use Rattle.std.specs.Prelude.{ℕ, List, [], ◌∷◌, Bool, true, false, ◌||◌, Option}
use Rattle.std.specs.Prelude.{Some, None, option_and_then, codes, if◌then◌else◌}
use Rattle.std.specs.List.{list_any}
use Rattle.cr_http.specs.Head.{HeadText, values_of, is_head_method}
use Rattle.cr_http.specs.Requests.{RequestText}
use Rattle.cr_http.specs.declared.head.Version.{Version}
use Rattle.cr_http.specs.declared.head.Version.TheVariants as versions
use Rattle.cr_bodies.specs.Credentials.{credentials_of}
use Rattle.cr_bodies.specs.declared.credentials.Credentials.{Credentials}
use Rattle.cr_wire.specs.Asked.{what_of}
use Rattle.cr_wire.specs.Caller.{wants_login}
use Rattle.cr_wire.specs.Connection.{has_close}
use Rattle.cr_wire.specs.declared.what.What.{What}
use Rattle.cr_wire.specs.declared.what.Wish.{Wish}

-- the only value of the list; `None` if there is none, or more than one
abbrev pub the_only : {A : Type 0} → List A → Option A
the_only [] = None
the_only (x ∷ []) = Some x
the_only (x ∷ y ∷ ys) = None

-- the credentials that the only field Authorization tells
abbrev pub credentials_in : List (List ℕ × List ℕ) → Option Credentials
credentials_in fields = option_and_then credentials_of (the_only (values_of (codes "authorization") fields))

-- the credentials that the field tells a request that reads it; none of a request that doesn't
abbrev pub credentials_for : What → List (List ℕ × List ℕ) → Option Credentials
credentials_for what fields = if wants_login what then credentials_in fields else None

-- no further request follows on the connection, by the version: HTTP/1.0
abbrev pub is_single : Version → Bool
is_single versions.Http10 = true
is_single versions.Http11 = false

-- the request asks that the connection closes after its answer: by its version, or by a field Connection
abbrev pub asks_close : HeadText → Bool
asks_close h = is_single h.version || list_any has_close (values_of (codes "connection") h.fields)

-- the wish of a request with this head that asks for this, at this timestamp
abbrev pub wish_with : HeadText → What → ℕ → Wish
wish_with h what at = record {
  credentials = credentials_for what h.fields;
  is_head = is_head_method h;
  asks_close = asks_close h;
  at = at;
  what = what;
}

-- the wish of a request at this timestamp
abbrev pub wish_text : RequestText → ℕ → Wish
wish_text r at = wish_with r.head (what_of r) at
