-- SPDX-License-Identifier: Apache-2.0 OR MIT
use Rattle.cr_json.specs.Json.{Added}
use Rattle.cr_print.specs.Me.{me_members, me_content}
use Rattle.cr_json.proofs.Objects.{◌then◌, closed}
use Rattle.cr_print.proofs.me.append_me.Goals as goal

pub returns : goal.returns
unfolding me_members me_content
returns c =
    let all =
    c.in_ok-list.ensures
    then c.in_ok-number.ensures.adds
    then c.in_ok-number-2.ensures.adds
    then c.in_ok-list-2.ensures
    then c.in_ok-list-3.ensures
    then c.in_ok-string.ensures.adds
    then c.in_ok-list-4.ensures
    then c.in_ok-string-2.ensures.adds
    then c.in_ok-number-3.ensures.adds in
    let members : Added c.open.new.into c.number-4.new.into c.in_ok-object.object.is_first c.number-4.new.self.is_first
    (me_members c.args.me.now) =
    rw (
      c.as_slice.ensures,
      c.as_slice-2.ensures,
      c.as_slice-3.ensures,
      c.as_slice-4.ensures.value,
      c.as_slice-5.ensures,
      c.as_bytes.ensures.value,
      c.name.ensures.value,
      c.number-3.ensures.value,
    ) at all in
    closed c.close.result c.args.into.now c.open.new.into c.number-4.new.into c.close.new.into _ _ _
    c.in_ok-object.ensures.text c.in_ok-object.ensures.first members c.close.ensures.text
