-- SPDX-License-Identifier: Apache-2.0 OR MIT
use Rattle.cr_ports.proofs.WritingLaws.{answer_breaks_sooner}
use Rattle.cr_session.proofs.serve.send.Goals as goal

pub returns-in-Err : goal.returns-in-Err
returns-in-Err g c = answer_breaks_sooner c.args.front.now c.args.block.now _ _ c.in-Err.ensures.failed
