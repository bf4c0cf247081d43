-- SPDX-License-Identifier: Apache-2.0 OR MIT
use Rattle.cr_match.proofs.Common.{arith}
use Rattle.cr_match.proofs.raise.lower.Goals as goal

pub overflow_sub-prices : goal.overflow_sub-prices
overflow_sub-prices c =
    omega (
      arith,
      c.loop-k.invariant.2 c.loop-k.k (omega arith),
      c.requires.room c.loop-k.k c.loop-k-test.true (c.marked.ensures.0 c.if-marked.true),
    )
