-- SPDX-License-Identifier: Apache-2.0 OR MIT
use Rattle.cr_json.specs.Reviewers.{reviewer_members}
use Rattle.cr_json.proofs.Objects.{◌then◌, closed}
use Rattle.cr_json.proofs.reviewers.ReviewerValue.append_to.Goals as goal

pub returns : goal.returns
unfolding reviewer_members
returns c =
    let all =
    c.in_ok-truth.ensures then c.in_ok-told.ensures then c.in_ok-label.ensures.adds then c.in_ok-told-2.ensures in
    closed c.close.result c.args.into.now c.open.new.into c.told-2.new.into c.close.new.into _ _ _
    c.in_ok-object.ensures.text c.in_ok-object.ensures.first all c.close.ensures.text
