-- SPDX-License-Identifier: Apache-2.0 OR MIT
use Rattle.cr_bulk.specs.Rows.{parse_rows}
use Rattle.cr_wire.proofs.AskLaws.{looked_rows}
use Rattle.cr_wire.specs.Number.{own_key}
use Rattle.cr_wire.proofs.asked.bulk.Goals as goal

pub returns-in-Err-OutOfMemory-clause-sure : goal.returns-in-Err-OutOfMemory-clause-sure
returns-in-Err-OutOfMemory-clause-sure c =
    looked_rows (own_key c.args.request.now) (parse_rows c.args.request.now.body.now)
