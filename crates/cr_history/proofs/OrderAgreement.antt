-- SPDX-License-Identifier: Apache-2.0 OR MIT
-- The ties in conflict are in order and name users who have accounts, so those of a paper are the users of whom
-- it is so, in the order of the accounts.
use Rattle.std.proofs.Common.{ℕ, Bool, true, false, ◌≡◌, ◌≤◌, ◌+◌, List, [], ◌∷◌, length, refl, sym, ap, ◌∙◌, arith}
use Rattle.std.proofs.Common.{◌||◌, Some}
use Rattle.std.specs.Prelude.{not, map, if◌then◌else◌}
use Rattle.std.specs.List.{filter}
use Rattle.std.proofs.lemmas.Bool.{and_parts}
use Rattle.cr_base.specs.declared.entry.Account.{Account}
use Rattle.cr_base.specs.declared.entry.Entry.{Entry}
use Rattle.cr_base.specs.declared.entry.Entry.TheVariants.{Submitted, Coauthor, Conflict, Bid}
use Rattle.cr_base.specs.declared.pairs.Order.TheVariants.{ByPaper}
use Rattle.cr_base.specs.declared.pairs.Pair.{Pair}
use Rattle.cr_base.specs.declared.reply.AccountLine.{AccountLine}
use Rattle.cr_base.specs.Accounts.{lines_from, lines_of, accounts_after, AccountsFit}
use Rattle.cr_base.specs.History.{History}
use Rattle.cr_base.specs.Lists.{numbers_from}
use Rattle.cr_base.specs.Pairs.{same_pair, IsAscending, with_tie, without_pair, has_pair, users_tied_to}
use Rattle.cr_base.specs.Ties.{BareTies, TiesState, pair_of, bare_tie, switched, ties_after, is_author_in}
use Rattle.cr_base.specs.Tables.{Tables, no_tables, tables_after, tables_from, tables_of, FitInTurn}
use Rattle.cr_base.proofs.PairLaws.{same_pair-is, IsAscending-with_tie, IsAscending-without_pair, has_pair-with_tie}
use Rattle.cr_base.proofs.PairLaws.{has_pair-without_pair}
use Rattle.cr_base.proofs.RisingLists.{rising-others_of, numbers-others_of}
use Rattle.cr_history.proofs.LineAgreement.{length-after}

-- ---- ties in order

-- the ties are in order, and each has a user with one of the first n numbers
pub record IsOrdered (n : ℕ) (ts : BareTies) : Type 0 where
  pub ascending : IsAscending ByPaper ts
  pub within : (q : Pair) → has_pair q ts ≡ true → (1 ≤ q.user) × (q.user ≤ n)

ordered-more : (n m : ℕ) (ts : BareTies) → n ≤ m → IsOrdered n ts → IsOrdered m ts
ordered-more n m ts h ordered =
    record {
      ascending = ordered.ascending;
      within = λ q there. let low = (ordered.within q there).0 in let high =
          (ordered.within q there).1 in (low, omega (arith, high, h));
    }

ordered-with_tie : (n paper user : ℕ) (ts : BareTies) → 1 ≤ user → user ≤ n → IsOrdered n ts
    → IsOrdered n (with_tie ByPaper (bare_tie paper user) ts)
ordered-with_tie n paper user ts low high ordered = record {
  ascending = IsAscending-with_tie ByPaper (bare_tie paper user) ts ordered.ascending;
  within = λ q there. by q (same_pair q (pair_of paper user)) refl
      (sym (has_pair-with_tie ByPaper q (bare_tie paper user) ts) ∙ there);
}
  where
    by : (q : Pair) (b : Bool) → same_pair q (pair_of paper user) ≡ b → (b || has_pair q ts) ≡ true
        → (1 ≤ q.user) × (q.user ≤ n)
    by q true same h = let e : q.user
        ≡ user = ap (λ (x : Pair). x.user) (same_pair-is q (pair_of paper user) same) in (
          omega (arith, e, low),
          omega (arith, e, high),
        )
    by q false same h = ordered.within q h

ordered-without_pair : (n : ℕ) (r : Pair) (ts : BareTies) → IsOrdered n ts → IsOrdered n (without_pair r ts)
ordered-without_pair n r ts ordered = record {
  ascending = IsAscending-without_pair ByPaper r ts ordered.ascending;
  within =
      λ q there. ordered.within q (and_parts (not (same_pair q r)) (has_pair q ts)
      (sym (has_pair-without_pair q r ts) ∙ there)).1;
}

ordered-switched : (n : ℕ) (on : Bool) (paper user : ℕ) (ts : BareTies) → 1 ≤ user → user ≤ n → IsOrdered n ts
    → IsOrdered n (switched on paper user ts)
ordered-switched n true paper user ts low high ordered = ordered-with_tie n paper user ts low high ordered
ordered-switched n false paper user ts low high ordered = ordered-without_pair n (pair_of paper user) ts ordered

-- ---- the ties in the table

pub record HasOrder (accounts : List Account) (ties : TiesState) : Type 0 where
  pub conflicts : IsOrdered (length accounts) ties.conflicts
  pub declared : IsOrdered (length accounts) ties.declared

-- the ties as they are, and perhaps accounts more
order-stays : (accounts : List Account) (ties : TiesState) (e : Entry) → HasOrder accounts ties
    → HasOrder (accounts_after accounts e) ties
order-stays accounts ties e order =
    let grown = length-after accounts e in
    record {
      conflicts =
          ordered-more (length accounts) (length (accounts_after accounts e)) ties.conflicts grown order.conflicts;
      declared = ordered-more (length accounts) (length (accounts_after accounts e)) ties.declared grown order.declared;
    }

order-entry : (accounts : List Account) (ties : TiesState) (maker : ℕ) (e : Entry) → AccountsFit accounts e
    → HasOrder accounts ties
    → HasOrder (accounts_after accounts e) (ties_after ties maker e)
order-entry accounts ties maker (Conflict paper user on) fits order = record {
  conflicts = ordered-switched (length accounts) on paper user ties.conflicts fits.0 fits.1 order.conflicts;
  declared = by (is_author_in ties (Some maker) paper);
}
  where
    by : (wrote : Bool) → IsOrdered (length accounts)
        (if wrote then with_tie ByPaper (bare_tie paper user) ties.declared else ties.declared)
    by true = ordered-with_tie (length accounts) paper user ties.declared fits.0 fits.1 order.declared
    by false = order.declared
order-entry accounts ties maker (Submitted paper title abstract) fits order =
    record { conflicts = order.conflicts; declared = order.declared }
order-entry accounts ties maker (Coauthor paper user) fits order =
    record { conflicts = order.conflicts; declared = order.declared }
order-entry accounts ties maker (Bid paper value) fits order =
    record { conflicts = order.conflicts; declared = order.declared }
order-entry accounts ties maker e fits order = order-stays accounts ties e order

order-from : (t : Tables) (H : History) → FitInTurn t H → HasOrder t.accounts t.ties
    → HasOrder (tables_from t H).accounts (tables_from t H).ties
order-from t [] fits order = order
order-from t (s ∷ H) fits order =
    order-from (tables_after t s) H fits.1 (order-entry t.accounts t.ties s.stamp.maker s.entry fits.0.accounts order)

pub has_order-tables : (H : History) → FitInTurn no_tables H → HasOrder (tables_of H).accounts (tables_of H).ties
has_order-tables H fits = order-from no_tables H fits (record { conflicts = none; declared = none })
  where
    none : IsOrdered 0 []
    none = record { ascending = tt; within = λ q there. cc }

-- ---- the users of a paper

-- the users of the accounts are numbered from the first
pub users-lines_from : (n : ℕ) (accounts : List Account)
    → map (λ (a : AccountLine). a.user) (lines_from n accounts) ≡ numbers_from n accounts
users-lines_from n [] = refl
users-lines_from n (a ∷ accounts) = ap (λ ns. n ∷ ns) (users-lines_from (n + 1) accounts)

-- of the users with accounts, those who are tied to the paper are its users, in the same order
pub users-tied_to : (test : ℕ → Bool) (p : ℕ) (accounts : List Account) (ts : BareTies) → IsOrdered (length accounts) ts
    → ((v : ℕ) → test v ≡ has_pair (pair_of p v) ts)
    → filter test (map (λ (a : AccountLine). a.user) (lines_of accounts)) ≡ users_tied_to p ts
users-tied_to test p accounts ts ordered same =
    ap (filter test) (users-lines_from 1 accounts)
    ∙ numbers-others_of test ByPaper p accounts ts (rising-others_of ByPaper ByPaper p ts ordered.ascending)
    (λ v there. ordered.within (pair_of p v) there) same
