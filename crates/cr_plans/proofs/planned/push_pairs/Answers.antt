-- SPDX-License-Identifier: Apache-2.0 OR MIT
use Rattle.std.proofs.Common.{ℕ, List, drop, get_or, subst, sym, ◌+◌}
use Rattle.std.proofs.lemmas.List.{drop_more}
use Rattle.cr_base.specs.declared.reply.AccountLine.{AccountLine}
use Rattle.cr_plans.specs.Pairing.{AllWeigh, pair_at, pairs_of_place}
use Rattle.cr_plans.proofs.Problems.{weigh-append}
use Rattle.cr_plans.proofs.Walks.{place-step}
use Rattle.cr_plans.proofs.planned.push_pairs.Goals as goal

pub loop-i-preserved : goal.loop-i-preserved
loop-i-preserved c =
    let t = c.args.live.now.tables in
    let i : ℕ = c.loop-i.i in
    let place : ℕ = c.args.place in
    let paper : ℕ = c.args.paper in
    let members : List AccountLine = c.args.members.now in
    let d : AccountLine = c.index-members-i.result in
    record {
      pairs = place-step t place paper members i d c.loop-i.pairs.items _ _ c.loop-i-test.true
          c.in_ok-push_pair.ensures.pairs c.loop-i.invariant.pairs;
      weights = λ h.
          c.loop-i.invariant.weights
          (subst (λ (ms : List AccountLine). AllWeigh (pairs_of_place t place paper i ms))
          (sym (drop_more members i d c.loop-i-test.true))
          (weigh-append (pair_at t place paper i (get_or members i d).user)
          (pairs_of_place t place paper (i + 1) (drop (i + 1) members))
          c.in_ok-push_pair.ensures.weights h));
    }
