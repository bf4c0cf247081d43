-- SPDX-License-Identifier: Apache-2.0 OR MIT
use Rattle.std.proofs.Common.{ℕ, ◌∙◌, Some, ap, subst, sym}
use Rattle.cr_base.specs.Accounts.{role_in}
use Rattle.cr_base.specs.Lists.{IsRising}
use Rattle.cr_base.specs.Pairs.{papers_tied_to}
use Rattle.cr_base.specs.Words.{is_member}
use Rattle.cr_view.specs.Seen.{SeenTables}
use Rattle.cr_view.proofs.MeLaws.{external-none, external-some}
use Rattle.cr_view.proofs.live.Live.invited.Goals as goal

pub returns-then-is_member : goal.returns-then-is_member
returns-then-is_member c =
    let t = c.args.self.now.tables in
    let role = c.standing_for-role.ensures ∙ ap (λ (v : SeenTables). role_in v.tables.accounts (Some c.args.user))
    c.self.view_is in
    c.from_vec.ensures ∙ c.new-none.ensures.items
    ∙ external-none t c.args.user (sym (ap is_member role) ∙ sym c.is_member.ensures ∙ c.if-is_member.true)

pub returns : goal.returns
returns c =
    let t = c.args.self.now.tables in
    let user : ℕ = c.args.user in
    let role =
    c.standing_for-role.ensures ∙ ap (λ (v : SeenTables). role_in v.tables.accounts (Some user)) c.self.view_is in
    c.in_ok-papers.ensures ∙ c.inviting.ensures.papers
    ∙ ap (λ (v : SeenTables). papers_tied_to user v.tables.invites) c.self.view_is
    ∙ external-some t user (sym (ap is_member role) ∙ sym c.is_member.ensures ∙ c.if-is_member.false)
    c.law_within.ensures.invites
    (subst (λ (v : SeenTables). IsRising (papers_tied_to user v.tables.invites)) c.self.view_is
    c.inviting.ensures.rising)
