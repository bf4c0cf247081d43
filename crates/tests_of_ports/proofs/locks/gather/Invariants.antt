-- SPDX-License-Identifier: Apache-2.0 OR MIT
use Rattle.std.proofs.Common.{◌≡◌, ◌+◌, length, All}
use Rattle.tests_of_ports.proofs.locks.gather.Given as goal

abbrev pub invariant-loop-pass : goal.invariant-loop-pass
invariant-loop-pass l = (l.all.lock ≡ l.lock.lock) × (l.all.share + length l.passes.items ≡ length l.fn.passes.items)
    × All (λ p. (p.lock ≡ l.lock.lock) × (p.share ≡ 1)) l.passes.items

abbrev pub decreases-loop-pass : goal.decreases-loop-pass
decreases-loop-pass l = goal.left-loop-pass l
