-- SPDX-License-Identifier: Apache-2.0 OR MIT
use Rattle.cr_json.specs.Json.{Added}
use Rattle.cr_print.specs.Refused.{refusal_members, refusal_content}
use Rattle.cr_json.proofs.Objects.{◌then◌, closed}
use Rattle.cr_print.proofs.refused.append_refusal.Goals as goal

pub returns-clause-text : goal.returns-clause-text
unfolding refusal_members refusal_content
returns-clause-text c =
    let all = c.in_ok-string.ensures.adds then c.in_ok-add_further.ensures.adds in
    let members : Added c.open.new.into c.add_further.new.into c.in_ok-object.object.is_first
    c.add_further.new.object.is_first (refusal_members c.args.refused) =
    rw (c.as_bytes.ensures.value, c.name.ensures.value) at all in
    closed c.close.result c.args.into.now c.open.new.into c.add_further.new.into c.close.new.into
    _ _ _ c.in_ok-object.ensures.text c.in_ok-object.ensures.first members c.close.ensures.text
