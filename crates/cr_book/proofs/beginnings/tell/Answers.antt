-- SPDX-License-Identifier: Apache-2.0 OR MIT
use Rattle.std.proofs.Common.{◌∙◌, ◌==◌, rules, tests}
use Rattle.std.specs.List.{list_any}
use Rattle.std.proofs.lemmas.Iterator.{YieldsList-from_slice}
use Rattle.std.proofs.lemmas.Iterator.Search.{any_from_yields_List}
use Rattle.cr_base.specs.declared.entry.Stamped.{Stamped}
use Rattle.cr_beginnings.specs.Beginnings.{coauthor_told}
use Rattle.cr_book.proofs.DueLaws.{told-any}
use Rattle.cr_book.proofs.beginnings.tell.Goals as goal

pub returns : goal.returns
returns c =
    any_from_yields_List (λ (s : Stamped). list_any (λ v. v == c.args.user) (coauthor_told s.entry)) _ _ _
    c.any.ensures.ran (YieldsList-from_slice c.args.behind.now cc) (λ x b q k. search (rules, tests))
    ∙ told-any c.args.user c.args.behind.now
