-- SPDX-License-Identifier: Apache-2.0 OR MIT
use Rattle.std.proofs.Common.{refl}
use Rattle.matchit.proofs.OnLiterals.{matchit_on_literals}
use Rattle.cr_routes.specs.Rows.{the_rows, fits}
use Rattle.cr_routes.proofs.routes.Routes.new.Goals as goal

pub add_all-requires : goal.add_all-requires
unfolding matchit_on_literals fits
add_all-requires c = rw (c.new-router.ensures) refl

pub invariant_of-result : goal.invariant_of-result
unfolding the_rows
invariant_of-result c = record { whole = rw (c.new-router.ensures) at c.in_ok-add_all.ensures }
