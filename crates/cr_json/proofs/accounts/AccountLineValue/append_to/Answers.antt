-- SPDX-License-Identifier: Apache-2.0 OR MIT
use Rattle.cr_json.specs.Accounts.{account_members}
use Rattle.cr_json.specs.Json.{Added}
use Rattle.cr_json.proofs.Objects.{◌then◌, closed}
use Rattle.cr_json.proofs.accounts.AccountLineValue.append_to.Goals as goal

pub returns : goal.returns
unfolding account_members
returns c =
    let all = c.in_ok-string.ensures.adds then c.in_ok-string-2.ensures.adds then c.in_ok-number.ensures.adds in
    let members : Added c.open.new.into c.number-2.new.into c.in_ok-object.object.is_first c.number-2.new.self.is_first
    (account_members c.args.self.now) =
    rw (c.as_slice.ensures.value, c.as_bytes.ensures.value, c.name.ensures.value, c.number.ensures.value) at all in
    closed c.close.result c.args.into.now c.open.new.into c.number-2.new.into c.close.new.into _ _ _
    c.in_ok-object.ensures.text c.in_ok-object.ensures.first members c.close.ensures.text
