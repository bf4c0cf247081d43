-- SPDX-License-Identifier: Apache-2.0 OR MIT
-- The grammar of secrets: the server's own, of bytes that a bearer token may have (RFC 6750, section 2.1).
use Rattle.std.specs.Prelude.{ℕ, Bool, ◌==◌, ◌||◌, ◌&&◌, nat_le, List, length}
use Rattle.std.specs.List.{list_all}
use Rattle.std.specs.Char.{is_ascii_alphanumeric}

-- a letter, a digit or one of `_~+-`
abbrev pub is_secret_byte : ℕ → Bool
is_secret_byte b = is_ascii_alphanumeric b || b == 95 || b == 126 || b == 43 || b == 45

-- from 16 to 64 bytes
abbrev pub is_sized : List ℕ → Bool
is_sized text = nat_le 16 (length text) && nat_le (length text) 64

-- a secret: so many such bytes
abbrev pub is_secret : List ℕ → Bool
is_secret text = is_sized text && list_all is_secret_byte text
