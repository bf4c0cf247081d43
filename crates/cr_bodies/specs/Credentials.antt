-- SPDX-License-Identifier: Apache-2.0 OR MIT
-- The credentials that the value of an Authorization field tells (RFC 6750, section 2.1).
use Rattle.std.specs.Prelude.{ℕ, List, [], ◌∷◌, ◌&&◌, ◌==◌, Option, Some, None, if◌then◌else◌, codes}
use Rattle.std.specs.List.{before_first, after_first}
use Rattle.std.specs.Str.{str_eq_ignore_ascii_case}
use Rattle.sha2.specs.Sha256.{sha256}
use Rattle.cr_base.specs.Texts.{is_name}
use Rattle.cr_bodies.specs.Secret.{is_secret}
use Rattle.cr_bodies.specs.declared.credentials.Credentials.{Credentials}

-- of a name and a secret, where they are of their grammars
unfoldable pub credentials : List ℕ → List ℕ → Option Credentials
credentials name secret =
    if is_name name && is_secret secret then Some (record { name = name; digest = sha256 secret }) else None

-- a token is a name, a full stop and a secret
unfoldable pub token_of : List ℕ → Option Credentials
token_of token = credentials (before_first (λ b. b == 46) token) (after_first (λ b. b == 46) token)

-- the bytes after the spaces at the front
abbrev pub after_spaces : List ℕ → List ℕ
after_spaces [] = []
after_spaces (b ∷ rest) = if b == 32 then after_spaces rest else b ∷ rest

-- the credentials that the field's value tells: the scheme, in any case, is what comes before the first space
abbrev pub credentials_of : List ℕ → Option Credentials
credentials_of value =
    if str_eq_ignore_ascii_case (before_first (λ b. b == 32) value) (codes "Bearer")
    then token_of (after_spaces (after_first (λ b. b == 32) value)) else None
