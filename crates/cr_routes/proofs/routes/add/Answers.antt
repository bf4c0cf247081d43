-- SPDX-License-Identifier: Apache-2.0 OR MIT
use Rattle.cr_routes.proofs.Adding.{only_memory}
use Rattle.cr_routes.proofs.routes.add.Goals as goal

pub unreachable-requires : goal.unreachable-requires
unreachable-requires c = c.in_default-error.not-OutOfMemory
    (only_memory _ c.args.resource c.args.router.now _ c.in-Err.error c.requires c.in-Err.ensures)
