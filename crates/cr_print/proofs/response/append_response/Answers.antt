-- SPDX-License-Identifier: Apache-2.0 OR MIT
use Rattle.cr_json.specs.Json.{Added}
use Rattle.cr_print.specs.Response.{response_members, response_content}
use Rattle.cr_json.proofs.Objects.{closed}
use Rattle.cr_print.proofs.response.append_response.Goals as goal

pub returns : goal.returns
unfolding response_members response_content
returns c =
    let added = c.in_ok-string.ensures.adds in
    let members : Added c.open.new.into c.string.new.into c.in_ok-object.object.is_first c.string.new.self.is_first
    (response_members c.args.text.now) =
    rw (c.as_bytes.ensures.value, c.as_str.ensures) at added in
    closed c.close.result c.args.into.now c.open.new.into c.string.new.into c.close.new.into
    _ _ _ c.in_ok-object.ensures.text c.in_ok-object.ensures.first members c.close.ensures.text
