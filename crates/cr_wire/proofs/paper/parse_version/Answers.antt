-- SPDX-License-Identifier: Apache-2.0 OR MIT
use Rattle.std.proofs.Common.{sym, ◌∙◌}
use Rattle.cr_wire.proofs.Numbers.{unread}
use Rattle.cr_wire.proofs.paper.parse_version.Goals as goal

pub returns-in-Err : goal.returns-in-Err
returns-in-Err c = unread 64 c.args.text.now
    (rw c.as_bytes.ensures.value at (sym c.is_number.ensures ∙ c.if-not-is_number.false)) c.in-Err.ensures.value.0
