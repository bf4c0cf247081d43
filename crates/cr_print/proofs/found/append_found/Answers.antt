-- SPDX-License-Identifier: Apache-2.0 OR MIT
use Rattle.cr_print.specs.Found.{found_members, found_content}
use Rattle.cr_json.specs.Json.{Added}
use Rattle.cr_json.proofs.Objects.{◌then◌, closed}
use Rattle.cr_print.proofs.found.append_found.Goals as goal

pub returns : goal.returns
unfolding found_members found_content
returns c =
    let all = c.in_ok-number.ensures.adds then c.in_ok-list.ensures in
    let members : Added c.open.new.into c.list.new.into c.in_ok-object.object.is_first c.list.new.self.is_first
    (found_members c.args.papers.now) =
    rw c.as_slice-papers.ensures at all in
    closed c.close.result c.args.into.now c.open.new.into c.list.new.into c.close.new.into
    _ _ _ c.in_ok-object.ensures.text c.in_ok-object.ensures.first members c.close.ensures.text
