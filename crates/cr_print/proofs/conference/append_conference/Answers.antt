-- SPDX-License-Identifier: Apache-2.0 OR MIT
use Rattle.cr_print.specs.Conference.{conference_members, conference_content}
use Rattle.cr_json.specs.Json.{Added}
use Rattle.cr_json.proofs.Objects.{◌then◌, closed}
use Rattle.cr_print.proofs.conference.append_conference.Goals as goal

pub returns-clause-text : goal.returns-clause-text
unfolding conference_members conference_content
returns-clause-text c =
    let all = c.in_ok-string.ensures.adds then c.in_ok-number.ensures.adds then c.in_ok-string-2.ensures.adds in
    let members : Added c.open.new.into c.string-2.new.into c.in_ok-object.object.is_first c.string-2.new.self.is_first
    (conference_members c.args.conference) =
    rw (c.as_bytes.ensures.value, c.name.ensures.value, c.as_bytes-2.ensures.value, c.name-2.ensures.value) at all in
    closed c.close.result c.args.into.now c.open.new.into c.string-2.new.into c.close.new.into _ _ _
    c.in_ok-object.ensures.text c.in_ok-object.ensures.first members c.close.ensures.text
