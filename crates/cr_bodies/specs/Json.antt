-- SPDX-License-Identifier: Apache-2.0 OR MIT
-- The JSON value of a body (RFC 8259), as serde_json reads it.
use Rattle.std.specs.Prelude.{ℕ, List, Option, None, if◌then◌else◌}
use Rattle.std.specs.Str.{is_utf8}
use Rattle.serde_json.specs.Data.{Data}
use Rattle.serde_json.specs.Read.{read}

-- a body that isn't UTF-8 has none
abbrev pub json_of : List ℕ → Option Data
json_of body = if is_utf8 body then read body else None
