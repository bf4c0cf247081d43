-- SPDX-License-Identifier: Apache-2.0 OR MIT
use Rattle.std.proofs.Common.{◌∙◌, List, length, ap, subst}
use Rattle.cr_base.specs.declared.pairs.Tie.{Tie}
use Rattle.cr_base.specs.Pairs.{major, has_pair, ties_of}
use Rattle.cr_base.specs.Steps.{Halves}
use Rattle.cr_pairs.specs.Seen.{SeenRows}
use Rattle.cr_pairs.specs.Rows.{ties_in}
use Rattle.cr_pairs.proofs.RowLaws.{seen-row, no-row, has_pair-own}
use Rattle.cr_pairs.proofs.pair_rows.PairRows.contains.Goals as goal

pub returns-in-Some-clause-value : goal.returns-in-Some-clause-value
returns-in-Some-clause-value g c =
    let V = g.row.V.Denot in
    let order = c.self.inside.order in
    let q = c.args.pair.now in
    let rows = c.self.inside.rows.items in
    let looked = c.in-Some.ensures.lookup in
    c.contains.ensures.value
    ∙ ap (λ (ts : List (Tie V)). has_pair q ts)
    (seen-row order (major order q) c.major.result rows c.deref.result.now c.in-Some.row.now c.major.ensures.value
    c.deref.ensures.value looked.3.0 looked.1 c.self.invariant)
    ∙ has_pair-own order q (ties_in rows)
    ∙ ap (λ (s : SeenRows V). has_pair q s.ties) c.self.view_is

pub returns-in-None-clause-value : goal.returns-in-None-clause-value
returns-in-None-clause-value g c =
    let V = g.row.V.Denot in
    let order = c.self.inside.order in
    let q = c.args.pair.now in
    let rows = c.self.inside.rows.items in
    ap (λ (ts : List (Tie V)). has_pair q ts)
    (no-row order (major order q) c.major.result rows c.deref.result.now c.major.ensures.value c.deref.ensures.value
    c.in-None.ensures.lookup.3 c.self.invariant)
    ∙ has_pair-own order q (ties_in rows)
    ∙ ap (λ (s : SeenRows V). has_pair q s.ties) c.self.view_is

pub returns-in-Some-clause-steps : goal.returns-in-Some-clause-steps
returns-in-Some-clause-steps g c =
    let V = g.row.V.Denot in
    let order = c.self.inside.order in
    let q = c.args.pair.now in
    let looked = c.in-Some.ensures.lookup in
    let own = seen-row order (major order q) c.major.result c.self.inside.rows.items c.deref.result.now
    c.in-Some.row.now c.major.ensures.value c.deref.ensures.value looked.3.0 looked.1 c.self.invariant
    ∙ ap (λ (s : SeenRows V). ties_of s.order (major s.order q) s.ties) c.self.view_is in
    subst (λ (ts : List (Tie V)). Halves (length ts) c.args.steps.now c.contains.new.steps) own c.contains.ensures.steps
