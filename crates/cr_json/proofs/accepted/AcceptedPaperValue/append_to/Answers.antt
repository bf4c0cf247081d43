-- SPDX-License-Identifier: Apache-2.0 OR MIT
use Rattle.cr_json.specs.Accepted.{accepted_members}
use Rattle.cr_json.specs.Json.{Added}
use Rattle.cr_json.proofs.Objects.{◌then◌, closed}
use Rattle.cr_json.proofs.accepted.AcceptedPaperValue.append_to.Goals as goal

pub returns : goal.returns
unfolding accepted_members
returns c =
    let all = c.in_ok-list.ensures then c.in_ok-number.ensures.adds then c.in_ok-string.ensures.adds in
    let members : Added c.open.new.into c.string.new.into c.in_ok-object.object.is_first c.string.new.self.is_first
    (accepted_members c.args.self.now) =
    rw (c.as_slice.ensures, c.number.ensures.value, c.as_bytes.ensures.value, c.as_str.ensures) at all in
    closed c.close.result c.args.into.now c.open.new.into c.string.new.into c.close.new.into
    _ _ _ c.in_ok-object.ensures.text c.in_ok-object.ensures.first members c.close.ensures.text
