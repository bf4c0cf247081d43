-- SPDX-License-Identifier: Apache-2.0 OR MIT
-- What needs no escape stands in a string as it is.
use Rattle.std.proofs.Common.{◌≡◌, ℕ, ◌+◌, ◌-◌, ◌<◌, ◌≤◌, true, List, [], ◌∷◌, ◌++◌, length, get_or, drop, ap, ◌∙◌}
use Rattle.std.proofs.Common.{append-nil, arith, length-drop, get_or-take, get_or-drop}
use Rattle.std.specs.Prelude.{take}
use Rattle.std.specs.List.{slice_range}
use Rattle.std.proofs.lemmas.List.{length-take-le, take_more}
use Rattle.std.proofs.lemmas.Grind.{flat_map-append}
use Rattle.json.specs.Print.{escape, escape_byte}
use Rattle.json.specs.Run.{is_plain}
use Rattle.json.specs.Written.{PlainBetween}
use Rattle.json.proofs.Printed.Plain.{escape_on_plain}

pub length-range : (d : List ℕ) (i j : ℕ) → i ≤ j → j ≤ length d → length (slice_range d i j) ≡ j - i
length-range d i j h k = length-take-le (j - i) (drop i d) (omega (arith, length-drop i d))

-- a run of such bytes
pub escape_range : (d : List ℕ) (i j : ℕ) → i ≤ j → j ≤ length d → PlainBetween d i j
    → escape (slice_range d i j) ≡ slice_range d i j
escape_range d i j h k p =
    let long = length-range d i j h k in
    escape_on_plain true (slice_range d i j) (λ m low high.
    ap is_plain (get_or-take (j - i) (drop i d) m 0 (omega arith) ∙ get_or-drop i d m 0)
    ∙ p (i + m) (omega arith) (omega arith))

-- and the byte behind it
pub escape_and : (d : List ℕ) (i j : ℕ) → i ≤ j → j < length d → escape (slice_range d i j) ≡ slice_range d i j
    → escape (slice_range d i (j + 1)) ≡ slice_range d i j ++ escape_byte (get_or d j 0)
escape_and d i j h k plain =
    let run = slice_range d i j in
    let b = get_or d j 0 in
    let count : j + 1 - i ≡ j - i + 1 = omega arith in
    let place : i + (j - i) ≡ j = omega arith in
    let byte : get_or (drop i d) (j - i) 0 ≡ b = get_or-drop i d (j - i) 0 ∙ ap (λ n. get_or d n 0) place in
    let grown : slice_range d i (j + 1) ≡ run ++ b ∷ [] =
    ap (λ n. take n (drop i d)) count ∙ take_more (drop i d) (j - i) 0 (omega (arith, length-drop i d))
    ∙ ap (λ x. run ++ x ∷ []) byte in
    ap escape grown ∙ flat_map-append escape_byte run (b ∷ []) ∙ ap (λ s. s ++ (escape_byte b ++ [])) plain
    ∙ ap (λ s. run ++ s) (append-nil (escape_byte b))
