-- SPDX-License-Identifier: Apache-2.0 OR MIT
use Rattle.cr_match.proofs.Common.{ℕ, ◌+◌, ◌<◌, ◌≤◌, low, worth}
use Rattle.cr_match.proofs.setup.best_worth.Given as goal

abbrev pub invariant-loop-m : goal.invariant-loop-m
invariant-loop-m l = (low ≤ l.best) × (l.best ≤ low + 40) × ((x : ℕ) → x < l.m → worth l.board l.p x ≤ l.best)
