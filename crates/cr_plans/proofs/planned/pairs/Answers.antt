-- SPDX-License-Identifier: Apache-2.0 OR MIT
use Rattle.std.proofs.Common.{ℕ, List, subst, sym, arith}
use Rattle.cr_match.specs.declared.problem.Pair.{Pair}
use Rattle.cr_plans.specs.Pairing.{AllWeigh, pairs_of_place}
use Rattle.cr_plans.proofs.Problems.{weigh-append}
use Rattle.cr_plans.proofs.Walks.{paper-step, paper-all}
use Rattle.cr_plans.proofs.planned.pairs.Goals as goal

pub loop-i-preserved : goal.loop-i-preserved
loop-i-preserved c =
    let t = c.args.live.now.tables in
    let i : ℕ = c.loop-i.i in
    let papers : List ℕ = c.args.papers.now in
    record {
      pairs = paper-step t papers c.args.members.now i c.index-papers-i.result c.index-papers-i.result
          c.loop-i.pairs.items _ _ c.loop-i-test.true c.index-papers-i.is c.in_ok-push_pairs.ensures.pairs
          c.loop-i.invariant.pairs;
      weights = subst (λ (ps : List Pair). AllWeigh ps) (sym c.in_ok-push_pairs.ensures.pairs)
          (weigh-append c.loop-i.pairs.items (pairs_of_place t i c.index-papers-i.result 0 c.args.members.now)
          c.loop-i.invariant.weights c.in_ok-push_pairs.ensures.weights);
    }

pub returns-clause-pairs : goal.returns-clause-pairs
returns-clause-pairs c =
    paper-all c.args.live.now.tables c.args.papers.now c.args.members.now c.loop-i.i c.loop-i.pairs.items _
    (omega (arith, c.loop-i-test.false)) c.loop-i.invariant.pairs
