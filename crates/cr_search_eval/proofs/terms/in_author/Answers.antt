-- SPDX-License-Identifier: Apache-2.0 OR MIT
use Rattle.std.proofs.Common.{ℕ, List, ◌∙◌, ap}
use Rattle.std.specs.List.{list_any}
use Rattle.cr_base.specs.Accounts.{lines_of}
use Rattle.cr_base.specs.Page.{shows_author}
use Rattle.cr_base.specs.Searching.{contains}
use Rattle.cr_base.specs.Sources.{names_in}
use Rattle.cr_base.specs.Ties.{authors_in}
use Rattle.cr_view.specs.PaperSeen.{accepted_seen}
use Rattle.cr_search_eval.proofs.TermLaws.{tied-has, told-has}
use Rattle.cr_search_eval.proofs.terms.in_author.Goals as goal

pub returns : goal.returns
returns c =
    let t = c.args.live.now.tables in
    let facts = c.args.asked.now.facts in
    let value : List ℕ = c.args.value.now in
    c.some_tied_has.ensures
    ∙ tied-has t value c.authors_told-ties.result.now
    ∙ ap (list_any (contains value)) c.authors_told-ties.ensures
    ∙ told-has value (shows_author facts.by (accepted_seen facts))
    (names_in (lines_of t.accounts) (authors_in t.ties facts.paper))
