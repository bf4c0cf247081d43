-- SPDX-License-Identifier: Apache-2.0 OR MIT
use Rattle.std.proofs.Common.{arith, Some}
use Rattle.cr_base.specs.Lists.{listed}
use Rattle.cr_sights.specs.Readers.{reader_in}
use Rattle.cr_sights.proofs.WalkLaws.{counted, listed-short, seen_here}
use Rattle.cr_sights.proofs.walk.view_len.Goals as goal

pub sightings-preserved : goal.sightings-preserved
sightings-preserved c =
    let r = reader_in c.args.live.now.tables (Some c.args.reader) in
    let log = c.args.log.now in
    let seen = listed c.sight.result in
    let is = seen_here r log c.sightings.at c.index-log-at.result c.sightings-test.true c.index-log-at.is seen
    c.in_ok-position.position c.in_ok-position.ensures.position c.sight.ensures in
    record {
      noted = c.in_ok-position.ensures.noted;
      count = counted r log c.sightings.at c.index-log-at.result c.sightings-test.true c.sightings.count
          c.number_of-count.result seen c.number_of-count.ensures is c.sightings.invariant.count;
      low = let n = c.number_of-count.ensures in let short = listed-short c.sight.result in let was =
          c.sightings.invariant.low in omega (arith, n, short, was);
    }
