-- SPDX-License-Identifier: Apache-2.0 OR MIT
use Rattle.cr_match.proofs.Common.{◌≡◌, List, ℕ, Pair, length, map, ap, ◌∙◌, arith, ints, chosen, is_held, lowered}
use Rattle.cr_match.proofs.Common.{total_weight}
use Rattle.cr_match.proofs.Finished.{first, solved}
use Rattle.cr_match.proofs.Tells.{kept_length}
use Rattle.cr_match.proofs.greatest.tell_best.Goals as goal

pub weight_of-sum-requires : goal.weight_of-sum-requires
weight_of-sum-requires c = record {
  few = omega (
    arith,
    ap (λ (x : List Pair). length x) c.deref-2.ensures.value,
    ap (λ (x : List Pair). length x) c.in_ok-pairs.ensures,
    kept_length (map (is_held c.args.work.now.board c.args.work.now.draft.choice) c.deref.result.now)
        c.deref.result.now,
    ap (λ (x : List Pair). length x) c.deref.ensures.value,
    c.requires.problem.few,
  );
}

pairs_are : (c : goal.In_ok-members) → c.in_ok-pairs.pairs.items
    ≡ chosen c.args.work.now.board c.args.work.now.draft.choice c.args.problem.now.pairs.items
pairs_are c = c.in_ok-pairs.ensures
    ∙ ap (chosen c.args.work.now.board c.args.work.now.draft.choice) c.deref.ensures.value

pub returns-clause-solved : goal.returns-clause-solved
returns-clause-solved c =
    let weighs = c.weight_of-sum.ensures ∙ ap (λ (x : List Pair). total_weight x) c.deref-2.ensures.value in
    solved c.requires.best c.in_ok-pairs.pairs.items _ _ (pairs_are c) (omega (arith, ints, weighs))
    (c.in_ok-papers.ensures ∙ ap (λ (x : List ℕ). lowered x) c.deref-3.ensures.value)
    (c.in_ok-members.ensures ∙ c.deref-4.ensures.value)

pub returns-clause-first : goal.returns-clause-first
returns-clause-first c ordered ascending =
    let weighs = c.weight_of-sum.ensures ∙ ap (λ (x : List Pair). total_weight x) c.deref-2.ensures.value in (
      solved c.requires.best c.in_ok-pairs.pairs.items _ _ (pairs_are c) (omega (arith, ints, weighs))
          (c.in_ok-papers.ensures ∙ ap (λ (x : List ℕ). lowered x) c.deref-3.ensures.value)
          (c.in_ok-members.ensures ∙ c.deref-4.ensures.value),
      first c.requires.best c.in_ok-pairs.pairs.items (pairs_are c) c.requires.problem ordered ascending,
    )
