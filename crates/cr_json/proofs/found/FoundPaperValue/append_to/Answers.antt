-- SPDX-License-Identifier: Apache-2.0 OR MIT
use Rattle.cr_json.specs.Found.{found_paper_members}
use Rattle.cr_json.specs.Json.{Added}
use Rattle.cr_json.proofs.Objects.{◌then◌, closed}
use Rattle.cr_json.proofs.found.FoundPaperValue.append_to.Goals as goal

pub returns : goal.returns
unfolding found_paper_members
returns c =
    let all = c.in_ok-number.ensures.adds then c.in_ok-string.ensures.adds in
    let members : Added c.open.new.into c.string.new.into c.in_ok-object.object.is_first c.string.new.self.is_first
    (found_paper_members c.args.self.now) =
    rw (c.number.ensures.value, c.as_bytes.ensures.value, c.as_str.ensures) at all in
    closed c.close.result c.args.into.now c.open.new.into c.string.new.into c.close.new.into
    _ _ _ c.in_ok-object.ensures.text c.in_ok-object.ensures.first members c.close.ensures.text
