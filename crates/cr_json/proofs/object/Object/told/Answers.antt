-- SPDX-License-Identifier: Apache-2.0 OR MIT
use Rattle.cr_json.proofs.Objects.{added_one}
use Rattle.cr_json.proofs.object.Object.told.Goals as goal

pub returns-in_ok-key-in-Some : goal.returns-in_ok-key-in-Some
returns-in_ok-key-in-Some g c =
    let whole = added_one c.append_to.result c.args.into.now c.key.new.into c.append_to.new.into
    c.args.self.now.is_first c.key.new.self.is_first _ _ c.in_ok-key-in-Some.ensures.text
    c.in_ok-key-in-Some.ensures.first c.append_to.ensures in
    rw c.in-Some.is whole
