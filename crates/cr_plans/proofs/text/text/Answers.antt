-- SPDX-License-Identifier: Apache-2.0 OR MIT
use Rattle.std.proofs.Common.{length, get_or, refl, ◌∙◌, arith}
use Rattle.std.specs.Prelude.{pos}
use Rattle.cr_match.specs.declared.problem.Pair.{Pair}
use Rattle.cr_plans.specs.Pairing.{row_at}
use Rattle.cr_plans.proofs.Problems.{inside-at}
use Rattle.cr_plans.proofs.Walks.{rows-step, rows-all}
use Rattle.cr_plans.proofs.text.text.Goals as goal

-- a pair that a list without it tells
abbrev no_pair : Pair
no_pair = record { paper = 0; member = 0; weight = pos 0 }

pub append_pair-requires-clause-paper : goal.append_pair-requires-clause-paper
append_pair-requires-clause-paper c =
    (inside-at (length c.args.papers.now) (length c.args.members.now) c.args.pairs.now c.loop-pair.pair-index no_pair
    c.requires c.loop-pair-test.true).0

pub append_pair-requires-clause-member : goal.append_pair-requires-clause-member
append_pair-requires-clause-member c =
    (inside-at (length c.args.papers.now) (length c.args.members.now) c.args.pairs.now c.loop-pair.pair-index no_pair
    c.requires c.loop-pair-test.true).1

pub loop-pair-preserved : goal.loop-pair-preserved
loop-pair-preserved c =
    rows-step (row_at c.args.papers.now c.args.members.now) c.args.pairs.now c.loop-pair.pair-index no_pair
    (get_or c.args.pairs.now c.loop-pair.pair-index no_pair) c.loop-pair.text.items _ _ c.loop-pair-test.true refl
    c.in_ok-append_pair.ensures c.loop-pair.invariant

pub returns : goal.returns
returns c =
    c.in_ok-from_vec.ensures.ok
    ∙ rows-all (row_at c.args.papers.now c.args.members.now) c.args.pairs.now c.loop-pair.pair-index
    c.loop-pair.text.items _
    (omega (arith, c.loop-pair-test.false)) c.loop-pair.invariant
