-- SPDX-License-Identifier: Apache-2.0 OR MIT
use Rattle.std.proofs.Common.{◌∙◌, refl, sym, arith, length, take, ◌-◌, rules}
use Rattle.cr_base.specs.declared.search.Node.TheVariants as node
use Rattle.cr_base.specs.Searching.{term_holds}
use Rattle.cr_search_eval.specs.Asked.{told_at}
use Rattle.cr_search_eval.proofs.EvaluateLaws.{and-cut, and-false, and-true, cut-last, holds-not, holds-term}
use Rattle.cr_search_eval.proofs.EvaluateLaws.{not-spelled, or-cut, or-false, or-true, some-node}
use Rattle.cr_search_eval.proofs.evaluate.+nodes_hold.Goals as goal

pub overflow_sub-nodes : goal.overflow_sub-nodes
overflow_sub-nodes t c = let some = some-node c.args.nodes.now c.requires.spelled in omega (arith, some)

pub bounds-nodes-nodes : goal.bounds-nodes-nodes
bounds-nodes-nodes t c = let some = some-node c.args.nodes.now c.requires.spelled in omega (arith, some)

pub slice_bounds-nodes_hold-count : goal.slice_bounds-nodes_hold-count
slice_bounds-nodes_hold-count t c = let some = some-node c.args.nodes.now c.requires.spelled in omega (arith, some)

pub nodes_hold-requires : goal.nodes_hold-requires
nodes_hold-requires t c =
    let nodes = c.args.nodes.now in
    let some = some-node nodes c.requires.spelled in
    let cut = cut-last nodes (take (length nodes - 1) nodes) node.Not c.index-nodes-nodes.result c.requires.spelled.0
    c.requires.spelled.1 refl (sym c.in-Not.is ∙ c.index-nodes-nodes.is) in
    (search rules, (c.requires.asked, not-spelled (take (length nodes - 1) nodes) c.requires.spelled.0 cut.0 cut.1))

pub operands-requires : goal.operands-requires
operands-requires t c =
    (and-cut c.args.nodes.now c.in-And.second c.index-nodes-nodes.result c.index-nodes-nodes.result c.requires.spelled.0
    c.requires.spelled.1 c.index-nodes-nodes.is c.in-And.is).3.within

pub nodes_hold-requires-in-And : goal.nodes_hold-requires-in-And
nodes_hold-requires-in-And t c =
    let cut = and-cut c.args.nodes.now c.in-And.second c.index-nodes-nodes.result c.index-nodes-nodes.result
    c.requires.spelled.0 c.requires.spelled.1 c.index-nodes-nodes.is c.in-And.is in
    (search rules, (c.requires.asked, (cut.0, c.operands.ensures.first ∙ cut.3.first)))

pub nodes_hold-requires-then-nodes_hold : goal.nodes_hold-requires-then-nodes_hold
nodes_hold-requires-then-nodes_hold t c =
    let cut = and-cut c.args.nodes.now c.in-And.second c.index-nodes-nodes.result c.index-nodes-nodes.result
    c.requires.spelled.0 c.requires.spelled.1 c.index-nodes-nodes.is c.in-And.is in
    (search rules, (c.requires.asked, (cut.1, c.operands.ensures.second ∙ cut.3.second)))

pub operands-requires-in-Or : goal.operands-requires-in-Or
operands-requires-in-Or t c =
    (or-cut c.args.nodes.now c.in-Or.second c.index-nodes-nodes.result c.index-nodes-nodes.result c.requires.spelled.0
    c.requires.spelled.1 c.index-nodes-nodes.is c.in-Or.is).3.within

pub nodes_hold-requires-in-Or : goal.nodes_hold-requires-in-Or
nodes_hold-requires-in-Or t c =
    let cut = or-cut c.args.nodes.now c.in-Or.second c.index-nodes-nodes.result c.index-nodes-nodes.result
    c.requires.spelled.0 c.requires.spelled.1 c.index-nodes-nodes.is c.in-Or.is in
    (search rules, (c.requires.asked, (cut.0, c.operands-in-Or.ensures.first ∙ cut.3.first)))

pub nodes_hold-requires-else-nodes_hold-2 : goal.nodes_hold-requires-else-nodes_hold-2
nodes_hold-requires-else-nodes_hold-2 t c =
    let cut = or-cut c.args.nodes.now c.in-Or.second c.index-nodes-nodes.result c.index-nodes-nodes.result
    c.requires.spelled.0 c.requires.spelled.1 c.index-nodes-nodes.is c.in-Or.is in
    (search rules, (c.requires.asked, (cut.1, c.operands-in-Or.ensures.second ∙ cut.3.second)))

pub returns-in-Term : goal.returns-in-Term
returns-in-Term t c =
    λ u is.
    let nodes = c.args.nodes.now in
    let cut = cut-last nodes (take (length nodes - 1) nodes) (node.Term c.in-Term.term) c.index-nodes-nodes.result u is
    refl (sym c.in-Term.is ∙ c.index-nodes-nodes.is) in
    c.term_holds.ensures ∙ holds-term (term_holds (told_at c.args.live.now.tables c.args.asked.now)) c.in-Term.term u
    cut.1

pub returns-in-Not : goal.returns-in-Not
returns-in-Not t c =
    λ u is.
    let nodes = c.args.nodes.now in
    let cut = cut-last nodes (take (length nodes - 1) nodes) node.Not c.index-nodes-nodes.result u is refl
    (sym c.in-Not.is ∙ c.index-nodes-nodes.is) in
    holds-not (term_holds (told_at c.args.live.now.tables c.args.asked.now)) (take (length nodes - 1) nodes)
    c.nodes_hold.result u cut.0 cut.1 c.nodes_hold.ensures

pub returns-then-nodes_hold : goal.returns-then-nodes_hold
returns-then-nodes_hold t c =
    λ u is.
    let cut = and-cut c.args.nodes.now c.in-And.second c.index-nodes-nodes.result c.index-nodes-nodes.result u is
    c.index-nodes-nodes.is c.in-And.is in
    and-true (term_holds (told_at c.args.live.now.tables c.args.asked.now)) cut.0 cut.1 u c.nodes_hold-in-And.result
    c.nodes_hold-then-nodes_hold.result
    (c.nodes_hold-in-And.ensures cut.0 (c.operands.ensures.first ∙ cut.3.first)) cut.2 c.if-nodes_hold.true
    (c.nodes_hold-then-nodes_hold.ensures cut.1 (c.operands.ensures.second ∙ cut.3.second))

pub returns-else-nodes_hold : goal.returns-else-nodes_hold
returns-else-nodes_hold t c =
    λ u is.
    let cut = and-cut c.args.nodes.now c.in-And.second c.index-nodes-nodes.result c.index-nodes-nodes.result u is
    c.index-nodes-nodes.is c.in-And.is in
    c.if-nodes_hold.false
    ∙ and-false (term_holds (told_at c.args.live.now.tables c.args.asked.now)) cut.0 cut.1 u c.nodes_hold-in-And.result
    c.nodes_hold-in-And.result
    (c.nodes_hold-in-And.ensures cut.0 (c.operands.ensures.first ∙ cut.3.first)) cut.2 c.if-nodes_hold.false

pub returns-then-nodes_hold-2 : goal.returns-then-nodes_hold-2
returns-then-nodes_hold-2 t c =
    λ u is.
    let cut = or-cut c.args.nodes.now c.in-Or.second c.index-nodes-nodes.result c.index-nodes-nodes.result u is
    c.index-nodes-nodes.is c.in-Or.is in
    c.if-nodes_hold-2.true
    ∙ or-true (term_holds (told_at c.args.live.now.tables c.args.asked.now)) cut.0 cut.1 u c.nodes_hold-in-Or.result
    c.nodes_hold-in-Or.result
    (c.nodes_hold-in-Or.ensures cut.0 (c.operands-in-Or.ensures.first ∙ cut.3.first)) cut.2 c.if-nodes_hold-2.true

pub returns-else-nodes_hold-2 : goal.returns-else-nodes_hold-2
returns-else-nodes_hold-2 t c =
    λ u is.
    let cut = or-cut c.args.nodes.now c.in-Or.second c.index-nodes-nodes.result c.index-nodes-nodes.result u is
    c.index-nodes-nodes.is c.in-Or.is in
    or-false (term_holds (told_at c.args.live.now.tables c.args.asked.now)) cut.0 cut.1 u c.nodes_hold-in-Or.result
    c.nodes_hold-else-nodes_hold-2.result
    (c.nodes_hold-in-Or.ensures cut.0 (c.operands-in-Or.ensures.first ∙ cut.3.first)) cut.2 c.if-nodes_hold-2.false
    (c.nodes_hold-else-nodes_hold-2.ensures cut.1 (c.operands-in-Or.ensures.second ∙ cut.3.second))
