-- SPDX-License-Identifier: Apache-2.0 OR MIT
-- The papers that are there.
use Rattle.std.proofs.Common.{ℕ, true, ◌≡◌, ◌≤◌, ◌+◌, ◌-◌, ◌&&◌, List, length, eqb, sym, ap, ◌∙◌, arith}
use Rattle.std.specs.Prelude.{nat_le}
use Rattle.std.specs.List.{list_any}
use Rattle.std.proofs.lemmas.Bool.Decides.{nat_tests}
use Rattle.cr_base.specs.Lists.{numbers_from}
use Rattle.cr_base.proofs.ListLaws.{list_any-numbers_from}

-- a paper is there where its number is at most the count
pub has-numbered : {A : Type 0} (papers : List A) (p number count : ℕ) → 1 ≤ number → number ≡ p → count ≡ length papers
    → nat_le number count ≡ list_any (λ q. eqb q p) (numbers_from 1 papers)
has-numbered papers p number count low n c =
    ap (λ k. nat_le k count) n
    ∙ ap (nat_le p) c
    ∙ ap (λ b. b && nat_le p (length papers)) (first p (omega arith))
    ∙ ap (λ k. nat_le 1 p && nat_le p k) (last (length papers))
    ∙ sym (list_any-numbers_from 1 p papers (omega arith))
  where
    first : (p : ℕ) → 1 ≤ p → true ≡ nat_le 1 p
    first p h = grind (arith, nat_tests)

    last : (n : ℕ) → n ≡ 1 + n - 1
    last n = omega arith
