-- SPDX-License-Identifier: Apache-2.0 OR MIT
use Rattle.cr_json.specs.Json.{Added}
use Rattle.cr_json.specs.Reviews.{review_members}
use Rattle.cr_json.proofs.Objects.{◌then◌, closed}
use Rattle.cr_json.proofs.reviews.ReviewLineValue.append_to.Goals as goal

pub returns : goal.returns
unfolding review_members
returns c =
    let all =
    c.in_ok-number.ensures.adds
    then c.in_ok-label.ensures.adds
    then c.in_ok-number-2.ensures.adds
    then c.in_ok-string.ensures.adds
    then c.in_ok-told.ensures
    then c.in_ok-told-2.ensures
    then c.in_ok-told-3.ensures in
    let members : Added c.open.new.into c.told-3.new.into c.in_ok-object.object.is_first c.told-3.new.self.is_first
    (review_members c.args.self.now) =
    rw (c.number.ensures.value, c.number-3.ensures.value, c.as_bytes.ensures.value, c.as_str.ensures) at all in
    closed c.close.result c.args.into.now c.open.new.into c.told-3.new.into c.close.new.into
    _ _ _ c.in_ok-object.ensures.text c.in_ok-object.ensures.first members c.close.ensures.text
