-- SPDX-License-Identifier: Apache-2.0 OR MIT
use Rattle.cr_routes.specs.Parts.{seen}
use Rattle.cr_wire.proofs.AskLaws.{key-given, looked}
use Rattle.cr_wire.specs.Number.{own_key}
use Rattle.cr_wire.proofs.asked.commanded.Goals as goal

pub giving-requires-clause-key : goal.giving-requires-clause-key
giving-requires-clause-key c =
    key-given c.args.task (seen c.args.found) _ c.in-Ok.command (own_key c.args.request.now) c.in-Ok.ensures.told
    c.requires.key

pub returns-in-Err-OutOfMemory-clause-sure : goal.returns-in-Err-OutOfMemory-clause-sure
returns-in-Err-OutOfMemory-clause-sure c =
    looked c.args.task (seen c.args.found) (own_key c.args.request.now) c.args.request.now.body.now
    (rw c.in-Err-OutOfMemory.field-0-is at c.in-Err-OutOfMemory.ensures.sure)
