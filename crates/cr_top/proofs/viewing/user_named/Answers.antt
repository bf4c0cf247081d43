-- SPDX-License-Identifier: Apache-2.0 OR MIT
use Rattle.std.proofs.Common.{sym, arith}
use Rattle.cr_top.proofs.Stored.{nobody-has}
use Rattle.cr_top.proofs.viewing.user_named.Goals as goal

pub returns-then-name-gt-MOST_BYTES : goal.returns-then-name-gt-MOST_BYTES
returns-then-name-gt-MOST_BYTES g c =
    sym (nobody-has c.args.name.now c.args.book.now.log c.requires (omega (arith, c.if-name-gt-MOST_BYTES.true)))
