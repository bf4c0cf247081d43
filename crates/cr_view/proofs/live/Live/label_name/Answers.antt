-- SPDX-License-Identifier: Apache-2.0 OR MIT
use Rattle.std.proofs.Common.{◌∙◌, None, ap, sym}
use Rattle.std.specs.Option.{option_map}
use Rattle.cr_base.specs.declared.entry.Account.{Account}
use Rattle.cr_base.specs.declared.pairs.Order.TheVariants.{ByPaper}
use Rattle.cr_base.specs.Accounts.{account_at}
use Rattle.cr_base.specs.Page.{shows_reviewer}
use Rattle.cr_base.specs.Pairs.{ties_of}
use Rattle.cr_view.specs.Seen.{SeenTables}
use Rattle.cr_view.proofs.ReviewLaws.{label-name-is}
use Rattle.cr_view.proofs.live.Live.label_name.Goals as goal

pub returns : goal.returns
returns c =
    let seats =
    c.seats.ensures.ties ∙ ap (λ (v : SeenTables). ties_of ByPaper c.args.paper v.tables.seats) c.self.view_is in
    let found = c.name_of.ensures
    ∙ ap (λ (v : SeenTables). option_map (λ (a : Account). a.name) (account_at v.tables.accounts c.in_ok-user.user))
    c.self.view_is in
    label-name-is c.args.self.now.tables (shows_reviewer c.args.by.now) c.args.paper c.args.label c.seats.result.now _
    c.name_of.result
    seats (sym c.if-not-shows_reviewer.ensures) c.in_ok-user.ensures found

pub returns-in_err-user : goal.returns-in_err-user
returns-in_err-user c =
    let seats =
    c.seats.ensures.ties ∙ ap (λ (v : SeenTables). ties_of ByPaper c.args.paper v.tables.seats) c.self.view_is in
    label-name-is c.args.self.now.tables (shows_reviewer c.args.by.now) c.args.paper c.args.label c.seats.result.now
    None c.from_residual.result
    seats (sym c.if-not-shows_reviewer.ensures) c.in_err-user.ensures c.from_residual.ensures
