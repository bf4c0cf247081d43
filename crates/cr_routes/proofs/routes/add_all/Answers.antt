-- SPDX-License-Identifier: Apache-2.0 OR MIT
use Rattle.cr_routes.proofs.Adding.{more_added, none_left, fits_next}
use Rattle.cr_routes.proofs.routes.add_all.Goals as goal

pub add-requires : goal.add-requires
add-requires c =
    (fits_next c.args.paths.now c.loop-path.path-index _ _ c.loop-path-test.true c.loop-path.invariant.rest_fits).0

pub loop-path-preserved : goal.loop-path-preserved
loop-path-preserved c = record {
  so_far = more_added c.args.paths.now c.loop-path.path-index _ _ _ _ c.loop-path-test.true c.in_ok-add.ensures
      c.loop-path.invariant.so_far;
  rest_fits =
      rw c.in_ok-add.ensures (fits_next c.args.paths.now c.loop-path.path-index _ _ c.loop-path-test.true
      c.loop-path.invariant.rest_fits).1;
}

pub returns : goal.returns
returns c = none_left c.args.paths.now c.loop-path.path-index _ _ c.loop-path-test.false c.loop-path.invariant.so_far
