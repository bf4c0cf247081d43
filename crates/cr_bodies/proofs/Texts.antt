-- SPDX-License-Identifier: Apache-2.0 OR MIT
-- Bodies that are no JSON, and bytes that aren't there.
use Rattle.std.proofs.Common.{◌≡◌, ℕ, List, length, Some, None, refl, Bool, true, false, cond, if◌then◌else◌, IsUtf8}
use Rattle.std.proofs.Common.{nat_lt, arith, not}
use Rattle.std.specs.List.{position, position_or_len}
use Rattle.std.specs.Str.{is_utf8}
use Rattle.std.proofs.lemmas.Str.{IsUtf8-from_is_utf8}
use Rattle.std.proofs.lemmas.Bool.{ltb-false}
use Rattle.std.proofs.lemmas.List.Sums.{prefix_len-le-length}
use Rattle.serde_json.specs.Read.{read}
use Rattle.cr_bodies.specs.Json.{json_of}

pub bad_json : (body : List ℕ) → (IsUtf8 body → read body ≡ None) → json_of body ≡ None
bad_json body h =
    let P = λ (b : Bool). is_utf8 body ≡ b → (if b then read body else None) ≡ None in
    elim (is_utf8 body) as P [ true ↦ λ e. h (IsUtf8-from_is_utf8 body e) | false ↦ λ e. refl ] refl

pub none_at : (p : ℕ → Bool) (xs : List ℕ) → position p xs ≡ None → length xs ≡ position_or_len p xs
none_at p xs e =
    let P = λ (b : Bool). nat_lt (position_or_len p xs) (length xs) ≡ b
    → cond b (Some (position_or_len p xs)) None ≡ None → length xs ≡ position_or_len p xs in
    elim (nat_lt (position_or_len p xs) (length xs)) as P
    [ true ↦ λ a h. cc | false ↦ λ a h. omega (arith, prefix_len-le-length (λ x. not (p x)) xs, ltb-false _ _ a) ]
    refl e
