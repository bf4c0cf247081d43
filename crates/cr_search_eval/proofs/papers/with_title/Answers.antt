-- SPDX-License-Identifier: Apache-2.0 OR MIT
use Rattle.std.proofs.Common.{ℕ, List, ap}
use Rattle.cr_base.specs.declared.found.FoundPaper.{FoundPaper}
use Rattle.cr_search_eval.proofs.papers.with_title.Goals as goal

pub returns : goal.returns
returns c =
    ap {B = FoundPaper} (λ (title : List ℕ). record { paper = c.args.paper; title = title }) c.in_ok-title.ensures
