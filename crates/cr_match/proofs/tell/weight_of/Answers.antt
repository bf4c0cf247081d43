-- SPDX-License-Identifier: Apache-2.0 OR MIT
use Rattle.cr_match.proofs.Common.{arith, ap, ints, total_weight, zero_pair}
use Rattle.cr_match.proofs.Tells.{drop_at}
use Rattle.cr_match.proofs.tell.weight_of.Goals as goal

pub loop-pair-preserved : goal.loop-pair-preserved
loop-pair-preserved c = (
  omega (
    arith,
    ints,
    ap total_weight (drop_at c.args.pairs.now c.loop-pair.pair-index zero_pair c.loop-pair-test.true),
  ),
  omega (arith, ints),
  omega (arith, ints),
)
