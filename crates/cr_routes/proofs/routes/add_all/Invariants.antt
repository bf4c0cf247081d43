-- SPDX-License-Identifier: Apache-2.0 OR MIT
use Rattle.std.proofs.Common.{◌≡◌, drop, map, IsTrue}
use Rattle.cr_routes.specs.Rows.{line, added, fits}
use Rattle.cr_routes.proofs.routes.add_all.Given as goal

abbrev pub invariant-loop-path : goal.invariant-loop-path
invariant-loop-path l = record {
  so_far : added (map line (drop l.path-index l.paths)) l.router ≡ added (map line l.paths) l.initial.router;
  rest_fits : IsTrue (fits (map line (drop l.path-index l.paths)) l.router);
}
