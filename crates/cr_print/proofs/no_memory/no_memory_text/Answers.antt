-- SPDX-License-Identifier: Apache-2.0 OR MIT
use Rattle.std.proofs.Common.{◌∙◌}
use Rattle.cr_print.proofs.Ready.{ready_head, ready_whole}
use Rattle.cr_print.proofs.no_memory.no_memory_text.Goals as goal

pub returns-then-is_head : goal.returns-then-is_head
returns-then-is_head c = rw c.if-is_head.true (c.dated.ensures ∙ ready_head c.args.date)

pub returns-else-is_head : goal.returns-else-is_head
returns-else-is_head c = rw c.if-is_head.false (c.dated-else-is_head.ensures ∙ ready_whole c.args.date)
