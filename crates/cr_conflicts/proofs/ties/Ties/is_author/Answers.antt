-- SPDX-License-Identifier: Apache-2.0 OR MIT
use Rattle.std.proofs.Common.{ℕ, ◌∙◌, eqb, Some, ap, rules, tests}
use Rattle.std.specs.List.{list_any}
use Rattle.std.proofs.lemmas.Iterator.{YieldsList-from_slice, YieldsList-from_map}
use Rattle.std.proofs.lemmas.Iterator.Search.{any_from_yields_List}
use Rattle.cr_base.specs.declared.pairs.Tie.{Tie}
use Rattle.cr_base.specs.Lists.{is_number}
use Rattle.cr_conflicts.proofs.ties.Ties.is_author.Goals as goal

pub returns-clause-value : goal.returns-clause-value
returns-clause-value g c =
    any_from_yields_List (λ (n : ℕ). eqb c.args.user n) _ _ _ c.any.ensures.ran
    (YieldsList-from_map _ (λ (t : Tie (Unit {0})). t.pair.user) (YieldsList-from_slice c.authors.result.now cc)
    c.map.ensures.closure (λ x r q k. search (rules, tests)))
    (λ x b q k. search (rules, tests))
    ∙ ap (list_any (is_number (Some c.args.user))) c.authors.ensures.value
