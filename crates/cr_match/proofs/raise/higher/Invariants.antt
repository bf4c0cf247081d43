-- SPDX-License-Identifier: Apache-2.0 OR MIT
use Rattle.cr_match.proofs.Common.{◌≡◌, ℕ, ◌+◌, ◌<◌, ◌≤◌, length, get_or, Has}
use Rattle.cr_match.proofs.raise.higher.Given as goal

abbrev pub invariant-loop-k : goal.invariant-loop-k
invariant-loop-k l =
    (length l.prices ≡ length l.fn.prices)
    × ((j : ℕ) → j < l.k → (Has l.reached j → get_or l.prices j 0 ≡ get_or l.fn.prices j 0 + l.step)
    × ((Has l.reached j → ⊥) → get_or l.prices j 0 ≡ get_or l.fn.prices j 0))
    × ((j : ℕ) → l.k ≤ j → get_or l.prices j 0 ≡ get_or l.fn.prices j 0)
