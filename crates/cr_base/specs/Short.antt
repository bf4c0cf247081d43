-- SPDX-License-Identifier: Apache-2.0 OR MIT
-- How a short text is kept in an array of 34 bytes.
use Rattle.std.specs.Prelude.{ℕ, List, ◌≡◌, ◌≤◌, ◌-◌, ◌++◌, length, take, drop, replicate, refl}
use Rattle.std.proofs.Common.{sym, ap, ◌∙◌, arith}
use Rattle.std.proofs.lemmas.List.{length-take-le, take-append-drop}
use Rattle.cr_base.specs.declared.texts.Short.TheInside.{Inside}

-- a text as it is kept: with zeros after it
abbrev pub kept_back : List ℕ → Inside
kept_back v = record { bytes = v ++ replicate (34 - length v) 0; len = length v }

-- what is kept is given back by the text
pub kept_back-view : (a : Inside) → (a.len ≤ 34) × (length a.bytes ≡ 34)
    × (drop a.len a.bytes ≡ replicate (34 - a.len) 0) → kept_back (take a.len a.bytes) ≡ a
kept_back-view a h =
    let n : length (take a.len a.bytes) ≡ a.len = length-take-le a.len a.bytes (omega arith) in
    let e : take a.len a.bytes ++ replicate (34 - a.len) 0
    ≡ a.bytes = ap (λ z. take a.len a.bytes ++ z) (sym h.2) ∙ take-append-drop a.len a.bytes in
    rw n (rw e refl)
