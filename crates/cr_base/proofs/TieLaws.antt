-- SPDX-License-Identifier: Apache-2.0 OR MIT
-- What is there after a pair was switched on or off, who the authors of a paper are, what one more entry tells, and
-- which papers have ties.
use Rattle.std.proofs.Common.{ℕ, Bool, true, false, cond, ◌≡◌, ◌≤◌, ◌+◌, List, [], ◌∷◌, ◌++◌, length-append, append-nil}
use Rattle.std.proofs.Common.{eqb, refl, sym, ap, subst, ◌∙◌, arith, ◌||◌, ◌&&◌, Option, Some, None}
use Rattle.std.specs.Prelude.{nat_le, nat_lt, not, map}
use Rattle.std.specs.Cmp.Derive.{both_true}
use Rattle.std.specs.List.{list_all}
use Rattle.std.proofs.lemmas.Bool.{and_parts}
use Rattle.std.proofs.lemmas.Bool.Decides.{nat_tests}
use Rattle.cr_base.specs.declared.entry.Entry.{Entry}
use Rattle.cr_base.specs.declared.entry.Entry.TheVariants.{Submitted, Coauthor, Revised, Withdrawn, Conflict}
use Rattle.cr_base.specs.declared.pairs.Order.TheVariants.{ByPaper}
use Rattle.cr_base.specs.declared.pairs.Pair.{Pair}
use Rattle.cr_base.specs.declared.pairs.Tie.{Tie}
use Rattle.cr_base.specs.History.{author_told, conflict_told}
use Rattle.cr_base.specs.Lists.{given, last_or}
use Rattle.cr_base.specs.Pairs.{same_pair, is_tied, has_pair, ties_of, users_tied_to}
use Rattle.cr_base.specs.Papers.{PapersState, new_paper, with_texts, as_withdrawn, papers_after, paper_count, PapersFit}
use Rattle.cr_base.specs.Ties.{BareTies, TiesState, pair_of, bare_tie, switched, ties_after, authors_in}
use Rattle.cr_base.specs.Ties.{is_conflict_on_in, are_before, are_within, AreWithin}
use Rattle.cr_base.proofs.PaperLaws.{length-with_paper}
use Rattle.cr_base.proofs.PairLaws.{same_pair-is, list_all-with_tie, has_pair-with_tie, has_pair-without_pair}
use Rattle.cr_base.proofs.SortedLists.{list_all-filter}
use Rattle.cr_base.proofs.Small.{or-swap, within-low, within-high, eqb-swap}

-- ---- pairs

-- the pair switched is there or not, and every other pair is as before
pub has_pair-switched : (on : Bool) (q : Pair) (paper user : ℕ) (ts : BareTies) → has_pair q (switched on paper user ts)
    ≡ cond on (same_pair q (pair_of paper user) || has_pair q ts)
    (not (same_pair q (pair_of paper user)) && has_pair q ts)
has_pair-switched true q paper user ts = has_pair-with_tie ByPaper q (bare_tie paper user) ts
has_pair-switched false q paper user ts = has_pair-without_pair q (pair_of paper user) ts

-- ---- a paper's users

-- with one tie more, its user comes last among those of its paper
pub users_tied_to-push : (p : ℕ) (ts : BareTies) (paper user : ℕ) → users_tied_to p (ts ++ bare_tie paper user ∷ [])
    ≡ users_tied_to p ts ++ given (eqb p paper) user
users_tied_to-push p [] paper user = by (eqb p paper)
  where
    by : (b : Bool) → map (λ (t : Tie (Unit {0})). t.pair.user) (cond b (bare_tie paper user ∷ []) []) ≡ given b user
    by true = refl
    by false = refl
users_tied_to-push p (t ∷ ts) paper user = by (eqb p t.pair.paper) (users_tied_to-push p ts paper user)
  where
    by : (b : Bool) → users_tied_to p (ts ++ bare_tie paper user ∷ []) ≡ users_tied_to p ts ++ given (eqb p paper) user
        → map (λ (x : Tie (Unit {0})). x.pair.user)
        (cond b (t ∷ ties_of ByPaper p (ts ++ bare_tie paper user ∷ []))
        (ties_of ByPaper p (ts ++ bare_tie paper user ∷ []))) ≡ map (λ (x : Tie (Unit {0})). x.pair.user)
        (cond b (t ∷ ties_of ByPaper p ts) (ties_of ByPaper p ts)) ++ given (eqb p paper) user
    by true rest = ap (λ us. t.pair.user ∷ us) rest
    by false rest = rest

-- and its pair is there too
pub has_pair-push : (q : Pair) (ts : BareTies) (s : Tie (Unit {0}))
    → has_pair q (ts ++ s ∷ []) ≡ (is_tied q s || has_pair q ts)
has_pair-push q [] s = refl
has_pair-push q (t ∷ ts) s =
    ap (λ b. is_tied q t || b) (has_pair-push q ts s) ∙ or-swap (is_tied q t) (is_tied q s) (has_pair q ts)

-- ---- what one more entry tells

-- a paper's authors are those that were told, and who is told by it
pub authors_in-after : (p : ℕ) (ties : TiesState) (maker : ℕ) (e : Entry)
    → authors_in (ties_after ties maker e) p ≡ authors_in ties p ++ author_told p maker e
authors_in-after p ties maker (Submitted paper title abstract) = users_tied_to-push p ties.authors paper maker
    ∙ ap (λ b. authors_in ties p ++ given b maker) (eqb-swap p paper)
authors_in-after p ties maker (Coauthor paper user) = users_tied_to-push p ties.authors paper user
    ∙ ap (λ b. authors_in ties p ++ given b user) (eqb-swap p paper)
authors_in-after p ties maker (Conflict paper user on) = sym (append-nil (authors_in ties p))
authors_in-after p ties maker e = sym (append-nil (authors_in ties p))

-- and a user is declared in conflict as it tells, or else as she was
pub is_conflict_on_in-after : (u : Option ℕ) (p : ℕ) (ties : TiesState) (maker : ℕ) (e : Entry)
    → is_conflict_on_in (ties_after ties maker e) u p
    ≡ last_or (is_conflict_on_in ties u p) (conflict_told u p e)
is_conflict_on_in-after None p ties maker (Conflict paper user on) = by (eqb paper p)
  where
    by : (b : Bool) → false ≡ last_or false (given (b && false) on)
    by true = refl
    by false = refl
is_conflict_on_in-after (Some v) p ties maker (Conflict paper user on) =
    has_pair-switched on (pair_of p v) paper user ties.conflicts
    ∙ ap (λ b. cond on ((b && eqb v user) || before) (not (b && eqb v user) && before)) (eqb-swap p paper)
    ∙ by on (eqb paper p && eqb v user) before
  where
    before : Bool
    before = has_pair (pair_of p v) ties.conflicts

    by : (on same there : Bool) → cond on (same || there) (not same && there) ≡ last_or there (given same on)
    by true true there = refl
    by true false there = refl
    by false true there = refl
    by false false there = refl
is_conflict_on_in-after None p ties maker e = refl
is_conflict_on_in-after (Some v) p ties maker e = refl

-- ---- which papers have ties

weaker : {V : Type 0} (f g : Tie V → Bool) → ((t : Tie V) → f t ≡ true → g t ≡ true) → (ts : List (Tie V))
    → list_all f ts ≡ true → list_all g ts ≡ true
weaker f g each [] all = refl
weaker f g each (t ∷ ts) all = let parts =
    and_parts (f t) (list_all f ts) all in both_true (each t parts.0) (weaker f g each ts parts.1)

pub all-push : (f : Tie (Unit {0}) → Bool) (ts : BareTies) (s : Tie (Unit {0})) → list_all f ts ≡ true → f s ≡ true
    → list_all f (ts ++ s ∷ []) ≡ true
all-push f [] s all one = both_true one refl
all-push f (t ∷ ts) s all one = let parts =
    and_parts (f t) (list_all f ts) all in both_true parts.0 (all-push f ts s parts.1 one)

-- they do among more papers
pub within-more : {V : Type 0} (n m : ℕ) → n ≤ m → (ts : List (Tie V)) → are_within n ts ≡ true → are_within m ts ≡ true
within-more n m h ts all = weaker _ _ (λ t. more n m t.pair.paper h) ts all
  where
    more : (n m p : ℕ) → n ≤ m → (nat_le 1 p && nat_le p n) ≡ true → (nat_le 1 p && nat_le p m) ≡ true
    more n m p h is = grind (arith, nat_tests)

-- the next paper comes behind them
pub within-before : (n paper : ℕ) → paper ≡ n + 1 → (ts : BareTies) → are_within n ts ≡ true
    → are_before paper ts ≡ true
within-before n paper next ts all = weaker _ _ (λ t. less n paper t.pair.paper next) ts all
  where
    less : (n paper p : ℕ) → paper ≡ n + 1 → (nat_le 1 p && nat_le p n) ≡ true → nat_lt p paper ≡ true
    less n paper p next is = grind (arith, nat_tests)

pub in_range : (n p : ℕ) → 1 ≤ p → p ≤ n → (nat_le 1 p && nat_le p n) ≡ true
in_range n p low high = grind (arith, nat_tests)

within-push : (n paper user : ℕ) (ts : BareTies) → 1 ≤ paper → paper ≤ n → are_within n ts ≡ true
    → are_within n (ts ++ bare_tie paper user ∷ []) ≡ true
within-push n paper user ts low high all = all-push _ ts (bare_tie paper user) all (in_range n paper low high)

pub within-switched : (n : ℕ) (on : Bool) (paper user : ℕ) (ts : BareTies) → 1 ≤ paper → paper ≤ n
    → are_within n ts ≡ true
    → are_within n (switched on paper user ts) ≡ true
within-switched n true paper user ts low high all =
    list_all-with_tie ByPaper _ (bare_tie paper user) ts (in_range n paper low high) all
within-switched n false paper user ts low high all =
    list_all-filter _ (λ r. not (is_tied (pair_of paper user) r)) ts all

-- a pair that is there has one of the numbers
pub within-pair : (n : ℕ) (q : Pair) (ts : BareTies) → are_within n ts ≡ true → has_pair q ts ≡ true
    → (1 ≤ q.paper) × (q.paper ≤ n)
within-pair n q [] all there = absurd (cc)
within-pair n q (t ∷ ts) all there =
    let parts = and_parts (nat_le 1 t.pair.paper && nat_le t.pair.paper n) (are_within n ts) all in
    by (is_tied q t) refl there (within-pair n q ts parts.1)
  where
    first : (nat_le 1 t.pair.paper && nat_le t.pair.paper n) ≡ true
    first = (and_parts (nat_le 1 t.pair.paper && nat_le t.pair.paper n) (are_within n ts) all).0

    by : (b : Bool) → is_tied q t ≡ b → (b || has_pair q ts) ≡ true
        → (has_pair q ts ≡ true → (1 ≤ q.paper) × (q.paper ≤ n)) → (1 ≤ q.paper) × (q.paper ≤ n)
    by true same h rest =
        let e : t.pair ≡ q = sym (same_pair-is q t.pair same) in
        subst (λ (x : Pair). (1 ≤ x.paper) × (x.paper ≤ n)) e
        (within-low t.pair.paper n first, within-high t.pair.paper n first)
    by false same h rest = rest h

-- papers only come, so they are there behind any entry
pub within-kept : {V : Type 0} (state : PapersState) (ts : List (Tie V)) (maker : ℕ) (e : Entry)
    → are_within (paper_count state) ts ≡ true
    → are_within (paper_count (papers_after state maker e)) ts ≡ true
within-kept state ts maker (Submitted paper title abstract) within =
    let n = length-append state.papers (new_paper title abstract ∷ []) in
    within-more (paper_count state) (paper_count (papers_after state maker (Submitted paper title abstract)))
    (omega (arith, n)) ts within
within-kept state ts maker (Revised paper title abstract) within =
    subst (λ (n : ℕ). are_within n ts ≡ true) (sym (length-with_paper paper (with_texts title abstract) state.papers))
    within
within-kept state ts maker (Withdrawn paper) within =
    subst (λ (n : ℕ). are_within n ts ≡ true) (sym (length-with_paper paper as_withdrawn state.papers)) within
within-kept state ts maker e within = within

-- where each entry fits, the papers that have ties are there
pub within-after : (state : PapersState) (ties : TiesState) (maker : ℕ) (e : Entry) → PapersFit state maker e
    → AreWithin (paper_count state) ties
    → AreWithin (paper_count (papers_after state maker e)) (ties_after ties maker e)
within-after state ties maker (Submitted paper title abstract) fits within =
    let n = length-append state.papers (new_paper title abstract ∷ []) in
    let next = fits.0 in
    record {
      authors =
          within-push (paper_count (papers_after state maker (Submitted paper title abstract))) paper maker ties.authors
          (omega (arith, next)) (omega (arith, n, next))
          (within-kept state ties.authors maker (Submitted paper title abstract) within.authors);
      conflicts = within-kept state ties.conflicts maker (Submitted paper title abstract) within.conflicts;
    }
within-after state ties maker (Coauthor paper user) fits within = record {
  authors = let last =
      fits.1 in within-push (paper_count state) paper user ties.authors fits.0 (omega (arith, last)) within.authors;
  conflicts = within.conflicts;
}
within-after state ties maker (Conflict paper user on) fits within = record {
  authors = within.authors;
  conflicts = within-switched (paper_count state) on paper user ties.conflicts fits.0 fits.1 within.conflicts;
}
within-after state ties maker e fits within = record {
  authors = within-kept state ties.authors maker e within.authors;
  conflicts = within-kept state ties.conflicts maker e within.conflicts;
}
