-- SPDX-License-Identifier: Apache-2.0 OR MIT
use Rattle.cr_json.proofs.Objects.{closed}
use Rattle.cr_json.proofs.deadlines.PhaseDeadlineValue.append_to.Goals as goal

pub returns : goal.returns
returns c =
    closed c.close.result c.args.into.now c.open.new.into c.add_deadline.new.into c.close.new.into
    _ _ _ c.in_ok-object.ensures.text c.in_ok-object.ensures.first c.in_ok-add_deadline.ensures.adds
    c.close.ensures.text
