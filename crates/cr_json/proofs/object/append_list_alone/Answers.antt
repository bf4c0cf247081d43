-- SPDX-License-Identifier: Apache-2.0 OR MIT
use Rattle.cr_json.specs.Json.{list_alone}
use Rattle.cr_json.proofs.Objects.{closed}
use Rattle.cr_json.proofs.object.append_list_alone.Goals as goal

pub returns : goal.returns
unfolding list_alone
returns g c =
    closed c.close.result c.args.into.now c.open.new.into c.list.new.into c.close.new.into
    _ _ _ c.in_ok-object.ensures.text c.in_ok-object.ensures.first c.in_ok-list.ensures c.close.ensures.text
