-- SPDX-License-Identifier: Apache-2.0 OR MIT
use Rattle.cr_json.proofs.Objects.{closed}
use Rattle.cr_print.proofs.receipt.append_receipt.Goals as goal

pub returns-clause-text : goal.returns-clause-text
returns-clause-text c =
    closed c.close.result c.args.into.now c.open.new.into c.add_receipt.new.into c.close.new.into _ _ _
    c.in_ok-object.ensures.text c.in_ok-object.ensures.first c.in_ok-add_receipt.ensures.adds c.close.ensures.text
