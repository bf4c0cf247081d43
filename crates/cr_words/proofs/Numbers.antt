-- SPDX-License-Identifier: Apache-2.0 OR MIT
-- A number among the words is the one that std reads, and what clap takes lies within its range.
use Rattle.std.proofs.Common.{◌≡◌, ◌∙◌, ℕ, ◌≤◌, Bool, true, false, cond, Some, None, Result, Ok, Err, refl, ap, sym}
use Rattle.std.proofs.Common.{arith}
use Rattle.std.specs.Result.{result_ok}
use Rattle.std.specs.Str.Parse.{IsNumeral, ParsesUnsigned, without_leading_plus}
use Rattle.std.specs.declared.num.ParseIntError.{ParseIntError}
use Rattle.clap.specs.Words.{Text}
use Rattle.clap.specs.ValueTests.{is_unsigned_in}
use Rattle.clap.specs.declared.builder.value_parser.ValueParser.TheVariants.{Unsigned}
use Rattle.clap.proofs.ValueTestLemmas.{accepts-Accepts, Accepts-accepts}
use Rattle.cr_words.specs.Numbers.{parse_number, number_of}

fits : (text : Text) → IsNumeral 10 (without_leading_plus text) → parse_number text ≤ 4294967295
    → is_unsigned_in 0 4294967295 text ≡ true
fits text digits small = Accepts-accepts false (Unsigned 0 4294967295) text (digits, omega arith, omega arith, small)

pub reads : (text : Text) (r : Result ℕ ParseIntError) → ParsesUnsigned 32 10 text r → result_ok r ≡ number_of text
reads text (Ok n) h =
    ap Some h.1
    ∙ sym (ap (λ b. cond b (Some (parse_number text)) None) (fits text h.0.0 (let small = h.0.1 in omega arith)))
reads text (Err e) h = by_test (is_unsigned_in 0 4294967295 text)
    (λ taken. let a =
    accepts-Accepts false (Unsigned 0 4294967295) text taken in h (a.0, (let small = a.3 in omega arith)))
  where
    by_test : (b : Bool) → (b ≡ true → ⊥) → None ≡ cond b (Some (parse_number text)) None
    by_test true never = absurd (never refl)
    by_test false never = refl

-- what is known of a text that clap takes as a number from low to high
pub record IsNumber (low high : ℕ) (text : Text) : Type 0 where
  pub read : number_of text ≡ Some (parse_number text)
  pub low_enough : low ≤ parse_number text
  pub high_enough : parse_number text ≤ high

pub is_number : (low high : ℕ) (text : Text) → high ≤ 4294967295 → is_unsigned_in low high text ≡ true
    → IsNumber low high text
is_number low high text small taken =
    let a = accepts-Accepts false (Unsigned low high) text taken in
    record {
      read = ap (λ b. cond b (Some (parse_number text)) None) (fits text a.0 (let below = a.3 in omega arith));
      low_enough = a.2;
      high_enough = a.3;
    }
