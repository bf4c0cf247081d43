-- SPDX-License-Identifier: Apache-2.0 OR MIT
use Rattle.std.proofs.Common.{Bool, length, ap, sym, ◌∙◌}
use Rattle.cr_base.specs.Lists.{given}
use Rattle.cr_search_eval.proofs.papers.count_one.Goals as goal

pub returns-then-matches-clause-value : goal.returns-then-matches-clause-value
returns-then-matches-clause-value c =
    ap (λ (found : Bool). length (given found c.args.paper)) (sym c.if-matches.true ∙ c.matches.ensures)

pub returns-clause-value : goal.returns-clause-value
returns-clause-value c =
    ap (λ (found : Bool). length (given found c.args.paper)) (sym c.if-matches.false ∙ c.matches.ensures)
