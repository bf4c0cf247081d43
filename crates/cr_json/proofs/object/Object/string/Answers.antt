-- SPDX-License-Identifier: Apache-2.0 OR MIT
use Rattle.cr_json.proofs.Objects.{added_one}
use Rattle.cr_json.proofs.object.Object.string.Goals as goal

pub returns-clause-adds : goal.returns-clause-adds
returns-clause-adds c =
    added_one c.append_quoted.result c.args.into.now c.key.new.into c.append_quoted.new.into c.args.self.now.is_first
    c.key.new.self.is_first _ _ c.in_ok-key.ensures.text c.in_ok-key.ensures.first c.append_quoted.ensures.text
