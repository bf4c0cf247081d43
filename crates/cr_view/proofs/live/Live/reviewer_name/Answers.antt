-- SPDX-License-Identifier: Apache-2.0 OR MIT
use Rattle.std.proofs.Common.{◌∙◌, ap, sym}
use Rattle.std.specs.Option.{option_map}
use Rattle.cr_base.specs.declared.entry.Account.{Account}
use Rattle.cr_base.specs.Accounts.{account_at}
use Rattle.cr_view.specs.Seen.{SeenTables}
use Rattle.cr_view.proofs.ReviewingLaws.{seat-name-is}
use Rattle.cr_view.proofs.live.Live.reviewer_name.Goals as goal

pub returns : goal.returns
returns c =
    let found = c.name_of.ensures
    ∙ ap (λ (v : SeenTables). option_map (λ (a : Account). a.name)
    (account_at v.tables.accounts c.args.seat.now.pair.user)) c.self.view_is in
    seat-name-is c.args.self.now.tables c.args.by.now c.args.seat.now c.name_of.result c.if-seat.false
    (sym c.if-not-shows_reviewer.ensures) found
