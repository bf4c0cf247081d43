-- SPDX-License-Identifier: Apache-2.0 OR MIT
use Rattle.cr_book.proofs.DueLaws.{taken-when}
use Rattle.cr_book.proofs.beginnings.coauthor_behind.Goals as goal

pub returns : goal.returns
returns c =
    taken-when c.is_coauthor_behind-stands.result c.args.next c.when.result c.is_coauthor_behind-stands.ensures
    c.when.ensures
