-- SPDX-License-Identifier: Apache-2.0 OR MIT
-- A paper's number is the one that its digits spell.
use Rattle.std.proofs.Common.{ℕ, Bool, true, ◌≡◌, ◌≤◌, ◌<◌, ◌^◌, List, [], ◌∷◌, length, ap, ◌∙◌, refl, arith, Some}
use Rattle.std.proofs.Common.{None, cond, get_or}
use Rattle.std.specs.Prelude.{◌&&◌, ◌==◌, not, nat_le}
use Rattle.std.specs.Char.{is_ascii_digit}
use Rattle.std.specs.Fmt.{decimal}
use Rattle.std.specs.List.{list_all}
use Rattle.std.specs.Str.Parse.{AllDigits, digits_value}
use Rattle.std.proofs.lemmas.Bool.Decides.{nat_tests}
use Rattle.std.proofs.lemmas.Fmt.{decimal_is_IsNumeral, length-decimal-le, first_decimal}
use Rattle.std.proofs.lemmas.Str.Parse.{digit_from_value}
use Rattle.cr_base.specs.Parse.{is_paper_number, parse_paper}

between : (low high n : ℕ) → low ≤ n → n ≤ high → (nat_le low n && nat_le n high) ≡ true
between low high n least most = grind (arith, nat_tests)

nonzero : (b : ℕ) → 48 < b → not (b == 48) ≡ true
nonzero b h = grind (arith, nat_tests)

all-digits : (text : List ℕ) → AllDigits 10 text → list_all is_ascii_digit text ≡ true
all-digits [] h = refl
all-digits (b ∷ rest) h =
    let here = digit_from_value b h.0 in
    ap (λ (d : Bool). d && list_all is_ascii_digit rest) (between 48 57 b here.0 here.1) ∙ all-digits rest h.1

number-spelt : (text : List ℕ) → 0 < length text → length text ≤ 4 → 48 < get_or text 0 0 → AllDigits 10 text
    → is_paper_number text ≡ true
number-spelt [] some few first digits = absurd (omega (arith, some))
number-spelt (b ∷ rest) some few first digits =
    ap (λ (c : Bool). c && not (b == 48) && list_all is_ascii_digit (b ∷ rest))
    (between 1 4 (length (b ∷ rest)) (omega (arith, some)) few)
    ∙ ap (λ (c : Bool). c && list_all is_ascii_digit (b ∷ rest)) (nonzero b first)
    ∙ all-digits (b ∷ rest) digits

pub paper-spelt : (p : ℕ) → 1 ≤ p → p ≤ 9999 → parse_paper (decimal p) ≡ Some p
paper-spelt p low high =
    let fits : p < 2 ^ 64 = omega (arith, high) in
    let numeral = decimal_is_IsNumeral p fits in
    let few = length-decimal-le 4 p (omega arith) (omega (arith, high)) fits in
    ap (λ (b : Bool). cond b (Some (digits_value 10 (decimal p))) None)
    (number-spelt (decimal p) numeral.0.0 few (first_decimal p (omega (arith, low)) fits) numeral.0.1)
    ∙ ap Some numeral.1
