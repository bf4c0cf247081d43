-- SPDX-License-Identifier: Apache-2.0 OR MIT
use Rattle.std.proofs.Common.{◌∙◌, ap}
use Rattle.std.specs.Option.{option_map}
use Rattle.cr_base.specs.declared.entry.Account.{Account}
use Rattle.cr_base.specs.declared.pairs.Tie.{Tie}
use Rattle.cr_base.specs.Accounts.{account_at}
use Rattle.cr_view.specs.Seen.{SeenTables}
use Rattle.cr_view.proofs.AnswerLaws.{names-step}
use Rattle.cr_view.proofs.live.Live.names.Goals as goal

pub loop-tie-preserved : goal.loop-tie-preserved
loop-tie-preserved c =
    let accounts = c.args.self.now.tables.accounts in
    let found =
    c.name_of.ensures
    ∙ ap (λ (v : SeenTables). option_map (λ (a : Account). a.name)
    (account_at v.tables.accounts c.tie-item.result.pair.user)) c.self.view_is
    ∙ ap (λ (t : Tie (Unit {0})). option_map (λ (a : Account). a.name) (account_at accounts t.pair.user))
    c.tie-item.is in
    names-step accounts c.args.ties.now c.loop-tie.tie-index c.tie-item.result c.loop-tie.names.items _ _
    c.name_of.result c.loop-tie-test.true found c.in_ok-push_some.ensures c.loop-tie.invariant
