-- SPDX-License-Identifier: Apache-2.0 OR MIT
-- The commands of a drill are within the bounds.
use Rattle.std.proofs.Common.{◌≡◌, ℕ, zero, suc, ◌+◌, ◌<◌, ◌≤◌, ◌^◌, ◌%◌, ◌&&◌, List, [], ◌∷◌, ◌++◌, Bool, true, false}
use Rattle.std.proofs.Common.{refl, arith, length, decimal, codes}
use Rattle.std.specs.List.{list_all}
use Rattle.std.specs.Str.{is_utf8}
use Rattle.std.proofs.lemmas.Fmt.{decimal_by_steps, length-decimal-le, IsAscii-decimal}
use Rattle.std.proofs.lemmas.Str.{is_utf8-from_IsUtf8, IsUtf8-from_ascii}
use Rattle.std.proofs.lemmas.Str.Ascii.{IsAscii-cons}
use Rattle.cr_base.specs.Bounds.{IsBoundedCommand}
use Rattle.cr_base.specs.Texts.{IsTitle, is_title_byte}
use Rattle.cr_policy.proofs.WitnessLaws.{ascii-utf8}
use Rattle.cr_drill.specs.declared.dice.Roll.{Roll}
use Rattle.cr_drill.specs.declared.drill_commands.Operation.{Operation}
use Rattle.cr_drill.specs.declared.drill_commands.Operation.TheVariants as operations
use Rattle.cr_drill.specs.Cast.{command_of, step_title}

-- ---- titles

digit : (n : ℕ) → n < 10 → is_title_byte (48 + n) ≡ true
digit zero few = refl
digit (suc zero) few = refl
digit (suc (suc zero)) few = refl
digit (suc (suc (suc zero))) few = refl
digit (suc (suc (suc (suc zero)))) few = refl
digit (suc (suc (suc (suc (suc zero))))) few = refl
digit (suc (suc (suc (suc (suc (suc zero)))))) few = refl
digit (suc (suc (suc (suc (suc (suc (suc zero))))))) few = refl
digit (suc (suc (suc (suc (suc (suc (suc (suc zero)))))))) few = refl
digit (suc (suc (suc (suc (suc (suc (suc (suc (suc zero))))))))) few = refl
digit (suc (suc (suc (suc (suc (suc (suc (suc (suc (suc n)))))))))) few = absurd (omega (arith, few))

all-more : (test : ℕ → Bool) (xs : List ℕ) (x : ℕ) → list_all test xs ≡ true → test x ≡ true
    → list_all test (xs ++ x ∷ []) ≡ true
all-more test [] x h e = rw e refl
all-more test (y ∷ ys) x h e = by_test (test y) h (λ (rest : list_all test ys ≡ true). all-more test ys x rest e)
  where
    by_test : (b : Bool) → (b && list_all test ys) ≡ true
        → (list_all test ys ≡ true → list_all test (ys ++ x ∷ []) ≡ true)
        → (b && list_all test (ys ++ x ∷ [])) ≡ true
    by_test true h next = next h
    by_test false h next = absurd (cc)

digits : (s : ℕ) → s < 2 ^ 64 → list_all is_title_byte (decimal s) ≡ true
digits = decimal_by_steps (λ (n : ℕ) (ds : List ℕ). list_all is_title_byte ds ≡ true)
    (λ n few. all-more is_title_byte [] (48 + n) refl (digit n few))
    (λ n ds many before. all-more is_title_byte ds (48 + n % 10) before (digit (n % 10) (omega arith)))

utf8-title : (s : ℕ) → s < 2 ^ 64 → is_utf8 (step_title s) ≡ true
utf8-title s small =
    is_utf8-from_IsUtf8 (step_title s) (IsUtf8-from_ascii (step_title s)
    (IsAscii-cons 84 (decimal s) (omega arith) (IsAscii-decimal s small)))

title : (s : ℕ) → s < 100000 → IsTitle (step_title s)
title s few =
    let small : s < 2 ^ 64 = omega (arith, few) in
    let short : length (decimal s) ≤ 5 = length-decimal-le 5 s (omega arith) few small in
    record {
      some = omega arith;
      few = omega (arith, short);
      bytes = digits s small;
      utf8 = utf8-title s small;
    }

-- ---- commands

pub bounded : (operation : Operation) (s : ℕ) (roll : Roll) → s < 100000 → roll.other ≤ 8
    → IsBoundedCommand (command_of operation s roll)
bounded operations.Declare s roll few other = tt
bounded operations.Clear s roll few other = tt
bounded operations.Upload s roll few other = omega arith
bounded operations.Submit s roll few other =
    (title s few, record { few = omega arith; utf8 = ascii-utf8 [] refl }, omega arith)
bounded operations.Bid s roll few other = omega (arith, other)
bounded operations.Tag s roll few other = refl
bounded operations.Assign s roll few other = tt
bounded operations.Unassign s roll few other = tt
bounded operations.Review s roll few other = record {
  score = (omega arith, omega arith);
  confidence = (omega arith, omega arith);
  to_authors = record { few = omega arith; utf8 = ascii-utf8 (codes "a") refl };
  to_pc = record { few = omega arith; utf8 = ascii-utf8 (codes "b") refl };
}
bounded operations.Comment s roll few other =
    record { some = omega arith; few = omega arith; utf8 = ascii-utf8 (codes "c") refl }
bounded operations.Decide s roll few other = tt
