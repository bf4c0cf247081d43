-- SPDX-License-Identifier: Apache-2.0 OR MIT
use Rattle.cr_json.proofs.Objects.{added_one}
use Rattle.cr_json.proofs.object.Object.fixed.Goals as goal

pub returns : goal.returns
returns c =
    let whole = added_one c.append.result c.args.into.now c.key.new.into c.append.new.into c.args.self.now.is_first
    c.key.new.self.is_first _ _ c.in_ok-key.ensures.text c.in_ok-key.ensures.first c.append.ensures.text in
    rw (c.if-not-is_told.false, ← c.as_bytes.ensures.value) whole
