-- SPDX-License-Identifier: Apache-2.0 OR MIT
use Rattle.std.proofs.Common.{ℕ, List, Some, ◌∙◌, ap, subst}
use Rattle.std.specs.Prelude.{filter, is_some, map, not}
use Rattle.cr_base.specs.declared.pairs.Tie.{Tie}
use Rattle.cr_base.specs.Accounts.{role_in}
use Rattle.cr_base.specs.Lists.{IsRising}
use Rattle.cr_base.specs.Pairs.{papers_tied_to}
use Rattle.cr_base.specs.Papers.{own_bytes}
use Rattle.cr_base.specs.Seats.{ordinal_in}
use Rattle.cr_base.specs.Talk.{own_comments_in}
use Rattle.cr_base.specs.Ties.{is_author_in}
use Rattle.cr_view.specs.Seen.{SeenTables}
use Rattle.cr_view.proofs.MeLaws.{own-papers, own-conflicts, own-seats, me-told}
use Rattle.cr_view.proofs.live.Live.me.Goals as goal

pub returns : goal.returns
returns c =
    let t = c.args.self.now.tables in
    let user : ℕ = c.args.user in
    let within = c.law_within.ensures.ties in
    let hers = c.in_ok-papers.ensures ∙ c.authored.ensures.papers
    ∙ ap (λ (v : SeenTables). papers_tied_to user v.tables.ties.authors) c.self.view_is
    ∙ own-papers t user within (subst (λ (v : SeenTables). IsRising (papers_tied_to user v.tables.ties.authors))
    c.self.view_is c.authored.ensures.rising) in
    let declared = c.conflicting.ensures.papers
    ∙ ap (λ (v : SeenTables). papers_tied_to user v.tables.ties.conflicts) c.self.view_is in
    let others = c.in_ok-conflicts.ensures ∙ ap
    (λ (ns : List ℕ). filter (λ p. not (is_author_in t.ties (Some user) p)) ns) declared
    ∙ own-conflicts t user within (subst (λ (v : SeenTables). IsRising (papers_tied_to user v.tables.ties.conflicts))
    c.self.view_is c.conflicting.ensures.rising) in
    let reviewed = c.in_ok-assigned.ensures
    ∙ own-seats t user (map (λ (tie : Tie ℕ). tie.pair.paper) c.reviewed.result.now) c.law_within.ensures.seats
    c.reviewed.ensures.rising
    (λ p. c.reviewed.ensures.papers p ∙ ap (λ (v : SeenTables). is_some (ordinal_in v.tables.seats (Some user) p))
    c.self.view_is) in
    let asked = c.in_ok-invited.ensures in
    let role = c.standing_for.ensures ∙ ap (λ (v : SeenTables). role_in v.tables.accounts (Some user)) c.self.view_is in
    let bytes =
    c.bytes_of_user.ensures ∙ ap (λ (v : SeenTables). own_bytes v.tables.papers (Some user)) c.self.view_is in
    let wrote =
    c.count_of_user.ensures ∙ ap (λ (v : SeenTables). own_comments_in v.tables.talk (Some user)) c.self.view_is in
    me-told t user c.bytes_of_user.result c.count_of_user.result
    c.in_ok-assigned.assigned c.in_ok-papers.papers c.in_ok-conflicts.conflicts c.in_ok-invited.invited
    c.own_name.result c.standing_for.result
    reviewed bytes wrote hers others asked c.own_name.ensures role
