-- SPDX-License-Identifier: Apache-2.0 OR MIT
use Rattle.cr_print.specs.Found.{count_members, count_content}
use Rattle.cr_json.proofs.Objects.{closed}
use Rattle.cr_print.proofs.found.append_count.Goals as goal

pub returns-clause-text : goal.returns-clause-text
unfolding count_members count_content
returns-clause-text c =
    closed c.close.result c.args.into.now c.open.new.into c.number.new.into c.close.new.into
    _ _ _ c.in_ok-object.ensures.text c.in_ok-object.ensures.first c.in_ok-number.ensures.adds c.close.ensures.text
