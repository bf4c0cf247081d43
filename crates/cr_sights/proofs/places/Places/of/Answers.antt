-- SPDX-License-Identifier: Apache-2.0 OR MIT
use Rattle.cr_sights.proofs.PlaceLaws.{noted-here}
use Rattle.cr_sights.proofs.places.Places.of.Goals as goal

pub places-preserved : goal.places-preserved
places-preserved c =
    noted-here c.args.log.now c.places.at c.index-log-at.result c.places-test.true c.places.places.places.items
    c.note.new.self.places.items c.series.result
    c.series.ensures.same c.in_ok-note.ensures c.places.invariant
