-- SPDX-License-Identifier: Apache-2.0 OR MIT
-- The pairs by user stay the same as those by paper.
use Rattle.std.proofs.Common.{◌≡◌, ◌∙◌, ◌||◌, ◌&&◌, ℕ, List, sym, ap, subst}
use Rattle.std.specs.Prelude.{not}
use Rattle.cr_base.specs.declared.pairs.Order.{Order}
use Rattle.cr_base.specs.declared.pairs.Order.TheVariants.{ByPaper, ByUser}
use Rattle.cr_base.specs.declared.pairs.Pair.{Pair}
use Rattle.cr_base.specs.declared.pairs.Tie.{Tie}
use Rattle.cr_base.specs.Lists.{IsRising}
use Rattle.cr_base.specs.Pairs.{same_pair, IsAscending, has_pair, with_tie, without_pair, papers_tied_to}
use Rattle.cr_base.proofs.PairLaws.{IsAscending-with_tie, IsAscending-without_pair, has_pair-with_tie}
use Rattle.cr_base.proofs.PairLaws.{has_pair-without_pair}
use Rattle.cr_base.proofs.RisingLists.{rising-others_of, others_of-same}
use Rattle.cr_pairs.specs.Indexed.{IsIndexed}

module _ {V : Type 0} (papers users : Order) (ts : List (Tie V)) (ps : List (Tie (Unit {0})))
    (index : IsIndexed papers ts users ps) where
  -- a user's papers are the same in both
  pub indexed-papers : (u : ℕ) → (papers_tied_to u ps ≡ papers_tied_to u ts) × IsRising (papers_tied_to u ts)
  indexed-papers u =
      let rising = rising-others_of ByPaper ByUser u ts index.ascending_ties in (
        others_of-same ByUser u ps ts (rising-others_of ByUser ByUser u ps index.ascending_pairs) rising index.same,
        rising,
      )

  -- a tie comes in
  pub indexed-with : (papers' users' : Order) (ts' : List (Tie V)) (ps' : List (Tie (Unit {0}))) (t : Tie V)
      (p : Tie (Unit {0})) → papers' ≡ papers → users' ≡ users → p.pair ≡ t.pair → ts' ≡ with_tie papers t ts
      → ps' ≡ with_tie users p ps → IsIndexed papers' ts' users' ps'
  indexed-with papers' users' ts' ps' t p same same' pair in_papers in_users =
      let by_paper : ts' ≡ with_tie ByPaper t ts = in_papers ∙ ap (λ (o : Order). with_tie o t ts) index.by_paper in
      let by_user : ps' ≡ with_tie ByUser p ps = in_users ∙ ap (λ (o : Order). with_tie o p ps) index.by_user in
      record {
        by_paper = same ∙ index.by_paper;
        by_user = same' ∙ index.by_user;
        ascending_ties = subst (λ (xs : List (Tie V)). IsAscending ByPaper xs) (sym by_paper)
            (IsAscending-with_tie ByPaper t ts index.ascending_ties);
        ascending_pairs = subst (λ (xs : List (Tie (Unit {0}))). IsAscending ByUser xs) (sym by_user)
            (IsAscending-with_tie ByUser p ps index.ascending_pairs);
        same = λ q.
            ap (has_pair q) by_user
            ∙ has_pair-with_tie ByUser q p ps
            ∙ ap (λ (r : Pair). same_pair q r || has_pair q ps) pair
            ∙ ap (λ b. same_pair q t.pair || b) (index.same q)
            ∙ sym (has_pair-with_tie ByPaper q t ts)
            ∙ sym (ap (has_pair q) by_paper);
      }

  -- a pair goes out
  pub indexed-without : (papers' users' : Order) (ts' : List (Tie V)) (ps' : List (Tie (Unit {0}))) (r : Pair)
      → papers' ≡ papers → users' ≡ users → ts' ≡ without_pair r ts → ps' ≡ without_pair r ps
      → IsIndexed papers' ts' users' ps'
  indexed-without papers' users' ts' ps' r same same' in_papers in_users =
      record {
        by_paper = same ∙ index.by_paper;
        by_user = same' ∙ index.by_user;
        ascending_ties = subst (λ (xs : List (Tie V)). IsAscending ByPaper xs) (sym in_papers)
            (IsAscending-without_pair ByPaper r ts index.ascending_ties);
        ascending_pairs = subst (λ (xs : List (Tie (Unit {0}))). IsAscending ByUser xs) (sym in_users)
            (IsAscending-without_pair ByUser r ps index.ascending_pairs);
        same = λ q.
            ap (has_pair q) in_users
            ∙ has_pair-without_pair q r ps
            ∙ ap (λ b. not (same_pair q r) && b) (index.same q)
            ∙ sym (has_pair-without_pair q r ts)
            ∙ sym (ap (has_pair q) in_papers);
      }
