-- SPDX-License-Identifier: Apache-2.0 OR MIT
use Rattle.cr_view.proofs.NobodyLaws.{nobody-author}
use Rattle.cr_view.proofs.live.Live.is_author.Goals as goal

pub returns-in_default : goal.returns-in_default
returns-in_default c = nobody-author c.args.self.now.tables.ties c.args.user.now c.args.paper.now c.in_default.is
