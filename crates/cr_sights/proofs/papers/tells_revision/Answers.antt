-- SPDX-License-Identifier: Apache-2.0 OR MIT
use Rattle.std.proofs.Common.{ℕ, Bool, true, false, ◌≡◌, ◌||◌, ◌&&◌, ◌∙◌, refl, Some, arith}
use Rattle.std.specs.Prelude.{not, ◌==◌}
use Rattle.std.proofs.lemmas.Bool.Decides.{nat_tests}
use Rattle.cr_base.specs.declared.standing.Standing.{Standing}
use Rattle.cr_base.specs.Page.{is_clear_external}
use Rattle.cr_base.specs.Phases.{members_see_papers, papers_are_published}
use Rattle.cr_base.specs.Sources.{is_accepted_in, standing_at}
use Rattle.cr_base.specs.Words.{is_member}
use Rattle.cr_sights.proofs.papers.tells_revision.Goals as goal

-- who reads a paper is a member or a clear external, and what is published is accepted
widen : (a l m c e s x p n : Bool)
    → (a || ((l && m && s) || ((l && (e && not c) && s) || ((l && x) || n))))
    ≡
    (a
    ||
    ((l && m && s) || ((l && (e && not c) && s)
    || ((l && ((m && not c) || (e && not c)) && s) || ((l && x) || ((l && (x && p)) || n))))))
widen true l m c e s x p n = refl
widen false false m c e s x p n = refl
widen false true m c e s true p n = grind arith
widen false true m c e s false p n = grind arith

turned : (n m : ℕ) → (n == m) ≡ (m == n)
turned n m = grind (arith, nat_tests)

-- what the title asks
abbrev asked : Standing → Bool → Bool → Bool → Bool
asked by last accepted mine =
    by.author || ((last && is_member by.role && members_see_papers by.phase)
    || ((last && is_clear_external by && members_see_papers by.phase) || ((last && accepted) || mine)))

pub returns : goal.returns
returns c =
    let t = c.args.live.now.tables in
    let by : Standing = standing_at t (Some c.args.reader) (Some c.args.paper) in
    let standing = c.standing-by.ensures in
    let accepted = c.is_accepted.ensures in
    let mine = c.eq.ensures ∙ turned c.args.maker c.args.reader in
    c.shows_title.ensures
    ∙ (λ i. asked (standing i) c.args.is_last (accepted i) (mine i))
    ∙ widen by.author c.args.is_last (is_member by.role) by.conflicted by.external (members_see_papers by.phase)
    (is_accepted_in t c.args.paper)
    (papers_are_published by.phase) (c.args.reader == c.args.maker)
