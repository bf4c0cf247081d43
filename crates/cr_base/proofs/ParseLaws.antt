-- SPDX-License-Identifier: Apache-2.0 OR MIT
-- The numbers that texts spell.
use Rattle.std.proofs.Common.{◌≡◌, ◌≢◌, ℕ, ◌≤◌, List, [], ◌∷◌, length, true, false, ◌&&◌, ◌==◌, not, IsTrue, arith}
use Rattle.std.proofs.Common.{nat_le}
use Rattle.std.specs.Prelude.{slice_index}
use Rattle.std.specs.Char.{is_ascii_digit}
use Rattle.std.specs.List.{list_all}
use Rattle.std.specs.Str.Parse.{AllDigits, digits_value}
use Rattle.std.proofs.lemmas.Bool.{and_parts, leb-true}
use Rattle.std.proofs.lemmas.Bool.Decides.{nat_tests}
use Rattle.std.proofs.lemmas.Str.{digit_value_digit}
use Rattle.std.proofs.lemmas.Str.Parse.{digits_value-take-le, digits_value_short, numerals_by_value, tells_digits}
use Rattle.cr_base.specs.Parse.{is_short, is_paper_number}

digit : (b : ℕ) → IsTrue (is_ascii_digit b) → (48 ≤ b) × (b ≤ 57)
digit b h =
    let both = and_parts (nat_le 48 b) (nat_le b 57) h in
    (grind (arith, nat_tests, both.0), grind (arith, nat_tests, both.1))

pub digits : (text : List ℕ) → IsTrue (list_all is_ascii_digit text) → AllDigits 10 text
digits [] h = tt
digits (b ∷ rest) h =
    let both = and_parts (is_ascii_digit b) (list_all is_ascii_digit rest) h in
    let here = digit b both.0 in
    (omega (arith, here, digit_value_digit b here), digits rest both.1)

not_zero : (b : ℕ) → IsTrue (not (b == 48)) → b ≢ 48
not_zero b h e = let bad : false ≡ true = rw e at h in cc

-- a number's bytes are at most four, the first isn't 0, and all are digits
pub parts : (text : List ℕ) → IsTrue (is_paper_number text)
    → (length text ≤ 4) × IsTrue (not (slice_index text 0 == 48)) × IsTrue (list_all is_ascii_digit text)
parts text h =
    let front = and_parts (is_short text && not (slice_index text 0 == 48)) (list_all is_ascii_digit text) h in
    let short = and_parts (is_short text) (not (slice_index text 0 == 48)) front.0 in
    let few = leb-true (length text) 4 (and_parts (nat_le 1 (length text)) (nat_le (length text) 4) short.0).1 in
    (few, short.1, front.1)

-- digits of which the first isn't 0 write at least 1
pub low_digits : (b : ℕ) (rest : List ℕ) → IsTrue (not (b == 48)) → IsTrue (list_all is_ascii_digit (b ∷ rest))
    → 1 ≤ digits_value 10 (b ∷ rest)
low_digits b rest first all =
    let here = digit b (and_parts (is_ascii_digit b) (list_all is_ascii_digit rest) all).0 in
    let nonzero = not_zero b first in
    let front = digits_value-take-le 10 (b ∷ rest) 1 (omega arith) in
    omega (arith, here, digit_value_digit b here, front)

-- each is at least 1
pub low : (text : List ℕ) → IsTrue (is_paper_number text) → 1 ≤ digits_value 10 text
low [] h = cc
low (b ∷ rest) h = let all = parts (b ∷ rest) h in low_digits b rest all.1 all.2

-- each is at most 9,999
pub high : (text : List ℕ) → IsTrue (is_paper_number text) → digits_value 10 text ≤ 9999
high text h =
    let all = parts text h in
    let lt = digits_value_short (numerals_by_value (AllDigits 10) tells_digits) text 4 (digits text all.2) all.0 in
    omega (arith, lt)
