-- SPDX-License-Identifier: Apache-2.0 OR MIT
-- What the authors by paper and by user are with one more, and how they are read.
use Rattle.std.proofs.Common.{ℕ, Bool, List, true, false, ◌≡◌, ◌∙◌, ◌||◌, ◌&&◌, [], ◌∷◌, ◌++◌, eqb, arith, refl, sym}
use Rattle.std.proofs.Common.{ap, subst}
use Rattle.std.specs.Prelude.{nat_le, nat_lt, not, filter}
use Rattle.std.specs.Cmp.Derive.{both_true}
use Rattle.std.specs.List.{list_all}
use Rattle.std.proofs.lemmas.Bool.{and_parts}
use Rattle.std.proofs.lemmas.Bool.Decides.{nat_tests}
use Rattle.cr_base.specs.declared.pairs.Order.{Order}
use Rattle.cr_base.specs.declared.pairs.Order.TheVariants.{ByUser}
use Rattle.cr_base.specs.declared.pairs.Pair.{Pair}
use Rattle.cr_base.specs.declared.pairs.Tie.{Tie}
use Rattle.cr_base.specs.declared.filed.Filed.{Filed}
use Rattle.cr_base.specs.Filed.{filed, with_filed}
use Rattle.cr_base.specs.Lists.{IsRising}
use Rattle.cr_base.specs.Pairs.{same_pair, is_tied, major, minor, stands, IsSortedBy, IsAscending, has_pair, with_tie}
use Rattle.cr_base.specs.Pairs.{papers_tied_to}
use Rattle.cr_base.specs.Ties.{BareTies, pair_of, bare_tie, are_before, are_up_to}
use Rattle.cr_base.proofs.PairLaws.{IsAscending-with_tie, has_pair-with_tie}
use Rattle.cr_base.proofs.RisingLists.{rising-sorted, rising-others_of, others_of-same}
use Rattle.cr_base.proofs.SortedLists.{list_all-weaker, filter-all, filter-none}
use Rattle.cr_base.proofs.TieLaws.{has_pair-push, all-push}
use Rattle.cr_kept.specs.Own.{values_in, AreOwn}
use Rattle.cr_kept.proofs.OwnLaws.{own-with}
use Rattle.cr_conflicts.specs.Index.{is_told_before, all_before, AuthorsIndexed}

-- ---- what is read

-- a user's papers are the same by paper and by user
module _ (authors : BareTies) (users : Order) (authored : BareTies) (declared bids : Order)
    (index : AuthorsIndexed authors users authored declared bids) (u : ℕ) where
  rises : (p q : Pair) → eqb u (major ByUser p) ≡ true → eqb u (major ByUser q) ≡ true → is_told_before p q ≡ true
      → nat_lt (minor ByUser p) (minor ByUser q) ≡ true
  rises p q here there before = grind (arith, nat_tests)

  pub indexed-papers : (papers_tied_to u authored ≡ papers_tied_to u authors) × IsRising (papers_tied_to u authors)
  indexed-papers =
      let rising = rising-sorted is_told_before ByUser u rises authors index.told in (
        others_of-same ByUser u authored authors (rising-others_of ByUser ByUser u authored index.ascending) rising
            index.same,
        rising,
      )

-- ---- one more author

sorted-push : (before : Pair → Pair → Bool) (ts : BareTies) (s : Tie (Unit {0})) → IsSortedBy before ts
    → list_all (λ (t : Tie (Unit {0})). before t.pair s.pair) ts ≡ true → IsSortedBy before (ts ++ s ∷ [])
sorted-push before [] s sorted all = (refl, tt)
sorted-push before (t ∷ ts) s sorted all =
    let parts = and_parts (before t.pair s.pair) (list_all (λ (t : Tie (Unit {0})). before t.pair s.pair) ts) all in
    (all-push (stands before t.pair) ts s sorted.0 parts.0, sorted-push before ts s sorted.1 parts.1)

-- what is told of earlier papers is told before
pub told-before : (paper maker : ℕ) (authors : BareTies) → are_before paper authors ≡ true
    → all_before (pair_of paper maker) authors ≡ true
told-before paper maker [] all = refl
told-before paper maker (t ∷ ts) all =
    let parts = and_parts (nat_lt t.pair.paper paper) (are_before paper ts) all in
    both_true (earlier t.pair.paper paper (eqb t.pair.user maker) parts.0) (told-before paper maker ts parts.1)
  where
    earlier : (n m : ℕ) (same : Bool) → nat_lt n m ≡ true → (nat_le n m && not (eqb n m && same)) ≡ true
    earlier n m same h = grind (arith, nat_tests)

-- and so is what is told of no later ones, where it is another pair
pub told-besides : (paper user : ℕ) (authors : BareTies) → are_up_to paper authors ≡ true
    → has_pair (pair_of paper user) authors ≡ false
    → all_before (pair_of paper user) authors ≡ true
told-besides paper user [] all none = refl
told-besides paper user (t ∷ ts) all none =
    let parts = and_parts (nat_le t.pair.paper paper) (are_up_to paper ts) all in
    by (is_tied (pair_of paper user) t) refl none parts.0 (told-besides paper user ts parts.1)
  where
    another : (p u q v : ℕ) → nat_le p q ≡ true → (eqb q p && eqb v u) ≡ false
        → (nat_le p q && not (eqb p q && eqb u v)) ≡ true
    another p u q v low differ = grind (arith, nat_tests)

    by : (b : Bool) → is_tied (pair_of paper user) t ≡ b → (b || has_pair (pair_of paper user) ts) ≡ false
        → nat_le t.pair.paper paper ≡ true
        → (has_pair (pair_of paper user) ts ≡ false → all_before (pair_of paper user) ts ≡ true)
        → all_before (pair_of paper user) (t ∷ ts) ≡ true
    by true is h low rest = absurd (cc)
    by false is h low rest = both_true (another t.pair.paper t.pair.user paper user low is) (rest h)

-- the paper of a tie
abbrev pub paper_of : Tie (Unit {0}) → ℕ
paper_of t = t.pair.paper

-- filed behind those of its paper and of papers with lower numbers, it comes behind all
pub filed-behind : (paper user : ℕ) (files : List (Filed (Tie (Unit {0})))) → AreOwn paper_of files
    → all_before (pair_of paper user) (values_in files) ≡ true
    → values_in (with_filed (filed paper (bare_tie paper user)) files) ≡ values_in files ++ bare_tie paper user ∷ []
filed-behind paper user files own before =
    let t : Tie (Unit {0}) = bare_tie paper user in
    let told : Tie (Unit {0}) → Bool = λ s. is_told_before s.pair t.pair in
    let low : Tie (Unit {0}) → Bool = λ s. nat_le s.pair.paper paper in
    let high : Tie (Unit {0}) → Bool = λ s. not (nat_le s.pair.paper paper) in
    let authors = values_in files in
    own-with paper_of t files own
    ∙ ap (λ (ts : BareTies). ts ++ t ∷ filter high authors)
    (filter-all low authors (list_all-weaker told low
    (λ s h. (and_parts (nat_le s.pair.paper paper) (not (same_pair s.pair t.pair)) h).0) authors before))
    ∙ ap (λ (ts : BareTies). authors ++ t ∷ ts)
    (filter-none high told (λ s h. ap not (and_parts (nat_le s.pair.paper paper) (not (same_pair s.pair t.pair)) h).0)
    authors before)

pub indexed-push : (authors : BareTies) (users : Order) (authored : BareTies) (declared bids : Order) (paper user : ℕ)
    (users' : Order) (authors' authored' : BareTies) → users' ≡ users → authors' ≡ authors ++ bare_tie paper user ∷ []
    → authored' ≡ with_tie users (bare_tie paper user) authored → all_before (pair_of paper user) authors ≡ true
    → AuthorsIndexed authors users authored declared bids → AuthorsIndexed authors' users' authored' declared bids
indexed-push authors users authored declared bids paper user users' authors' authored' same pushed put before index =
    let put_so : authored' ≡ with_tie ByUser (bare_tie paper user) authored = put
    ∙ ap (λ (o : Order). with_tie o (bare_tie paper user) authored) index.by_user in
    record {
      told = subst (λ (ts : BareTies). IsSortedBy is_told_before ts) (sym pushed)
          (sorted-push is_told_before authors (bare_tie paper user) index.told before);
      by_user = same ∙ index.by_user;
      ascending = subst (λ (ts : BareTies). IsAscending ByUser ts) (sym put_so)
          (IsAscending-with_tie ByUser (bare_tie paper user) authored index.ascending);
      same = λ q.
          ap (has_pair q) put_so
          ∙ has_pair-with_tie ByUser q (bare_tie paper user) authored
          ∙ ap (λ b. same_pair q (pair_of paper user) || b) (index.same q)
          ∙ sym (has_pair-push q authors (bare_tie paper user))
          ∙ sym (ap (has_pair q) pushed);
      declared_by_paper = index.declared_by_paper;
      bids_by_paper = index.bids_by_paper;
    }
