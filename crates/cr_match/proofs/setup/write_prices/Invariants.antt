-- SPDX-License-Identifier: Apache-2.0 OR MIT
use Rattle.cr_match.proofs.Common.{◌≡◌, ℕ, ◌+◌, ◌<◌, ◌≤◌, length, get_or, low, worth}
use Rattle.cr_match.proofs.setup.write_prices.Given as goal

abbrev pub invariant-loop-p : goal.invariant-loop-p
invariant-loop-p l =
    (length l.prices ≡ l.board.papers)
    × ((q : ℕ) → q < l.p → (low ≤ get_or l.prices q 0) × (get_or l.prices q 0 ≤ low + 40)
    × ((m : ℕ) → m < l.board.members → worth l.board q m ≤ get_or l.prices q 0))
