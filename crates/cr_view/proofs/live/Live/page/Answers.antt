-- SPDX-License-Identifier: Apache-2.0 OR MIT
use Rattle.std.proofs.Common.{◌≡◌, subst}
use Rattle.std.specs.Prelude.{IfOk}
use Rattle.cr_base.specs.declared.page.Page.{Page}
use Rattle.cr_view.proofs.PageLaws.{page-is}
use Rattle.cr_view.proofs.live.Live.page.Goals as goal

pub returns-clause-page : goal.returns-clause-page
returns-clause-page g c =
    subst (λ (told : Page). IfOk c.page_of.result (λ (page : Page). page ≡ told))
    (page-is c.args.self.now.tables c.args.user.now c.args.facts.now c.page_lists-lists.result c.in_ok-versions.versions
    c.in_ok-tags.tags
    c.page_lists-lists.ensures.lists c.page_lists-lists.ensures.reviewers c.in_ok-versions.ensures.versions
    c.in_ok-tags.ensures.tags)
    c.page_of.ensures
