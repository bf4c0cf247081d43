-- SPDX-License-Identifier: Apache-2.0 OR MIT
use Rattle.cr_book.proofs.DueLaws.{coauthor-none}
use Rattle.cr_book.proofs.beginnings.is_coauthor.Goals as goal

pub returns-in_default : goal.returns-in_default
returns-in_default c =
    coauthor-none c.args.live.now.tables c.args.maker c.args.paper c.args.behind.now c.args.entry.now
    c.in_default.not-Coauthor
