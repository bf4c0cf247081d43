-- SPDX-License-Identifier: Apache-2.0 OR MIT
use Rattle.std.proofs.Common.{Some, None, ◌∙◌, ap}
use Rattle.std.specs.Option.{option_map}
use Rattle.cr_base.specs.declared.entry.Account.{Account}
use Rattle.cr_base.specs.Accounts.{account_at}
use Rattle.cr_view.specs.Seen.{SeenTables}
use Rattle.cr_view.proofs.ReviewingLaws.{bidder-is}
use Rattle.cr_view.proofs.live.Live.bidder.Goals as goal

pub returns-in-Some : goal.returns-in-Some
returns-in-Some c =
    let found = c.in-Some.ensures
    ∙ ap (λ (v : SeenTables). option_map (λ (a : Account). a.name)
    (account_at v.tables.accounts c.args.tie.now.pair.user)) c.self.view_is in
    bidder-is c.args.self.now.tables.accounts c.args.tie.now (Some c.in-Some.user) found

pub returns-in-None : goal.returns-in-None
returns-in-None c =
    let found = c.in-None.ensures
    ∙ ap (λ (v : SeenTables). option_map (λ (a : Account). a.name)
    (account_at v.tables.accounts c.args.tie.now.pair.user)) c.self.view_is in
    bidder-is c.args.self.now.tables.accounts c.args.tie.now None found
