-- SPDX-License-Identifier: Apache-2.0 OR MIT
-- UTF-8 as a fact and as a test.
use Rattle.std.proofs.Common.{ℕ, Bool, true, false, ◌≡◌, List, refl}
use Rattle.std.specs.Str.{IsUtf8, is_utf8}
use Rattle.std.proofs.lemmas.Str.{IsUtf8-from_is_utf8}

pub is_utf8-not : (bytes : List ℕ) → ¬ (IsUtf8 bytes) → false ≡ is_utf8 bytes
is_utf8-not bytes h = by (is_utf8 bytes) refl
  where
    by : (b : Bool) → is_utf8 bytes ≡ b → false ≡ b
    by true e = absurd (h (IsUtf8-from_is_utf8 bytes e))
    by false e = refl
