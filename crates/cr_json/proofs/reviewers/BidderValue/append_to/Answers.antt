-- SPDX-License-Identifier: Apache-2.0 OR MIT
use Rattle.cr_json.specs.Json.{Added}
use Rattle.cr_json.specs.Reviewers.{bidder_members}
use Rattle.cr_json.proofs.Objects.{◌then◌, closed}
use Rattle.cr_json.proofs.reviewers.BidderValue.append_to.Goals as goal

pub returns : goal.returns
unfolding bidder_members
returns c =
    let all = c.in_ok-bid.ensures.adds then c.in_ok-string.ensures.adds in
    let members : Added c.open.new.into c.string.new.into c.in_ok-object.object.is_first c.string.new.self.is_first
    (bidder_members c.args.self.now) = rw c.as_slice.ensures.value at all in
    closed c.close.result c.args.into.now c.open.new.into c.string.new.into c.close.new.into _ _ _
    c.in_ok-object.ensures.text c.in_ok-object.ensures.first members c.close.ensures.text
