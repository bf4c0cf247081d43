-- SPDX-License-Identifier: Apache-2.0 OR MIT
use Rattle.cr_json.specs.Json.{Added}
use Rattle.cr_print.specs.Page.{page_members, page_content}
use Rattle.cr_json.proofs.Objects.{◌then◌, closed}
use Rattle.cr_print.proofs.page.append_page.Goals as goal

pub returns : goal.returns
unfolding page_members page_content
returns c =
    let all =
    c.in_ok-told.ensures
    then c.in_ok-told-2.ensures
    then c.in_ok-told-3.ensures
    then c.in_ok-told-4.ensures
    then c.in_ok-truth.ensures
    then c.in_ok-told-5.ensures
    then c.in_ok-told-6.ensures
    then c.in_ok-told-7.ensures
    then c.in_ok-told-8.ensures
    then c.in_ok-number.ensures.adds
    then c.in_ok-told-9.ensures
    then c.in_ok-told-10.ensures
    then c.in_ok-told-11.ensures
    then c.in_ok-told-12.ensures
    then c.in_ok-truth-2.ensures in
    let members : Added c.open.new.into c.truth-2.new.into c.in_ok-object.object.is_first c.truth-2.new.self.is_first
    (page_members c.args.page.now) = rw c.number.ensures.value at all in
    closed c.close.result c.args.into.now c.open.new.into c.truth-2.new.into c.close.new.into _ _ _
    c.in_ok-object.ensures.text c.in_ok-object.ensures.first members c.close.ensures.text
