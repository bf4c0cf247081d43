-- SPDX-License-Identifier: Apache-2.0 OR MIT
use Rattle.std.proofs.Common.{length, ◌-◌}
use Rattle.cr_http.specs.Search.{FindsSame}
use Rattle.cr_http.specs.declared.head_range.Search.TheVariants as searches
use Rattle.cr_http.proofs.head_range.look_in_head.Given as goal

abbrev pub invariant-bytes : goal.invariant-bytes
invariant-bytes l = FindsSame l.bytes (searches.InHead l.start l.from) (searches.InHead l.start l.at)

abbrev pub decreases-bytes : goal.decreases-bytes
decreases-bytes l = length l.bytes - l.at
