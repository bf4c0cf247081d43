-- SPDX-License-Identifier: Apache-2.0 OR MIT
use Rattle.cr_book.proofs.DueLaws.{chair-none}
use Rattle.cr_book.proofs.beginnings.is_chair_of.Goals as goal

pub returns-in_default : goal.returns-in_default
returns-in_default c = chair-none c.args.entry.now c.args.user c.in_default.not-Named
