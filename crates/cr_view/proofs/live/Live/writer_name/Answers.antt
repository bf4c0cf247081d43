-- SPDX-License-Identifier: Apache-2.0 OR MIT
use Rattle.std.proofs.Common.{◌∙◌, ap, sym}
use Rattle.std.specs.Option.{option_map}
use Rattle.cr_base.specs.declared.entry.Account.{Account}
use Rattle.cr_base.specs.Accounts.{account_at}
use Rattle.cr_base.specs.Page.{shows_writer}
use Rattle.cr_view.specs.Seen.{SeenTables}
use Rattle.cr_view.proofs.AnswerLaws.{name-told}
use Rattle.cr_view.proofs.live.Live.writer_name.Goals as goal

pub returns : goal.returns
returns c =
    let found = c.name_of.ensures
    ∙ ap (λ (v : SeenTables). option_map (λ (a : Account). a.name) (account_at v.tables.accounts c.args.writer))
    c.self.view_is in
    name-told c.args.self.now.tables.accounts c.args.writer (shows_writer c.args.by.now) c.name_of.result
    (sym c.if-not-shows_writer.ensures) found
