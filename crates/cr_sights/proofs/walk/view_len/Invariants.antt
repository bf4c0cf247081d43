-- SPDX-License-Identifier: Apache-2.0 OR MIT
use Rattle.std.proofs.Common.{◌≡◌, ◌≤◌, ◌+◌, [], length, Some, ◌-◌}
use Rattle.cr_policy.specs.View.{sights}
use Rattle.cr_sights.specs.Positions.{AreNoted}
use Rattle.cr_sights.specs.Readers.{reader_in}
use Rattle.cr_sights.proofs.WalkLaws.{sights_from}
use Rattle.cr_sights.proofs.walk.view_len.Given as goal

abbrev pub invariant-sightings : goal.invariant-sightings
invariant-sightings l = record {
  noted : AreNoted l.positions l.log l.at;
  count : l.count + length (sights_from (reader_in l.live.tables (Some l.reader)) l.log l.at)
      ≡ length (sights (reader_in l.live.tables (Some l.reader)) [] l.log);
  low : l.count ≤ l.at;
}

abbrev pub decreases-sightings : goal.decreases-sightings
decreases-sightings l = length l.log - l.at
