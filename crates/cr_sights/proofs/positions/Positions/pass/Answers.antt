-- SPDX-License-Identifier: Apache-2.0 OR MIT
use Rattle.std.proofs.Common.{refl}
use Rattle.cr_sights.proofs.PlaceLaws.{noted-here}
use Rattle.cr_sights.proofs.PositionLaws.{stands_so}
use Rattle.cr_sights.proofs.positions.Positions.pass.Goals as goal

pub returns-clause-position : goal.returns-clause-position
returns-clause-position c =
    let noted = c.requires.noted in
    let positions = c.args.self.now in
    stands_so c.args.log.now c.args.at c.index-log-at.result c.requires.within c.series-series.result
    c.series-series.ensures.same c.series-series.ensures.alike
    positions.passed.places.items positions.all.places.items positions.before_response.places.items
    positions.before_discussion.places.items
    positions.response_at positions.discussion_at noted.passed noted.all noted.before_response noted.response_at
    noted.before_discussion noted.discussion_at _
    c.is_last_at.ensures c.is_last_at-2.ensures
    (rw (c.is_last_before.ensures, c.is_last_at-ends_at_response.ensures) refl)
    (rw (c.is_last_before-2.ensures, c.is_last_at-ends_at_discussion.ensures) refl) refl

pub returns-clause-noted : goal.returns-clause-noted
returns-clause-noted c =
    let noted = c.requires.noted in
    record {
      passed = noted-here c.args.log.now c.args.at c.index-log-at.result c.requires.within
          c.args.self.now.passed.places.items c.note.new.self.places.items
          c.series-series.result c.series-series.ensures.same c.in_ok-note.ensures noted.passed;
      all = noted.all;
      before_response = noted.before_response;
      before_discussion = noted.before_discussion;
      response_at = noted.response_at;
      discussion_at = noted.discussion_at;
    }
