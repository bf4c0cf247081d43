-- SPDX-License-Identifier: Apache-2.0 OR MIT
use Rattle.std.proofs.Common.{length, ◌-◌}
use Rattle.cr_http.specs.Search.{FindsSame}
use Rattle.cr_http.specs.declared.head_range.Search.TheVariants as searches
use Rattle.cr_http.proofs.head_range.skip.Given as goal

abbrev pub invariant-lines : goal.invariant-lines
invariant-lines l = FindsSame l.bytes (searches.Skipping l.from) (searches.Skipping l.at)

abbrev pub decreases-lines : goal.decreases-lines
decreases-lines l = length l.bytes - l.at
