-- SPDX-License-Identifier: Apache-2.0 OR MIT
-- Bytes that are no text.
use Rattle.std.proofs.Common.{◌≡◌, ℕ, List, Bool, true, false, refl, IsUtf8}
use Rattle.std.specs.Str.{is_utf8}
use Rattle.std.proofs.lemmas.Str.{IsUtf8-from_is_utf8}

pub not_utf8 : (s : List ℕ) → ¬ IsUtf8 s → is_utf8 s ≡ false
not_utf8 s h =
    let P = λ (b : Bool). is_utf8 s ≡ b → b ≡ false in
    elim (is_utf8 s) as P [ true ↦ λ e. absurd (h (IsUtf8-from_is_utf8 s e)) | false ↦ λ e. refl ] refl
