-- SPDX-License-Identifier: Apache-2.0 OR MIT
-- A submission's entries fit the tables, each in its turn: the paper, and behind it those of the users who become
-- co-authors.
use Rattle.std.proofs.Common.{ℕ, Bool, true, false, cond, ◌≡◌, ◌≤◌, ◌+◌, List, [], ◌∷◌, ◌++◌, length, length-append}
use Rattle.std.proofs.Common.{eqb, refl, sym, ap, ◌∙◌, arith, suc, ◌||◌, ◌&&◌, Option, Some, None}
use Rattle.std.specs.Prelude.{map, nat_le, nat_lt}
use Rattle.std.specs.List.{flat_map, list_any, position_from, AllByRecursion}
use Rattle.std.specs.Option.{option_map}
use Rattle.std.specs.Str.{bytes_eq}
use Rattle.std.proofs.lemmas.Bool.{and_parts, and_from}
use Rattle.std.proofs.lemmas.Bool.Decides.{nat_tests}
use Rattle.std.proofs.lemmas.List.Folds.{list_any-append}
use Rattle.cr_base.specs.declared.entry.Account.{Account}
use Rattle.cr_base.specs.declared.entry.Entry.{Entry}
use Rattle.cr_base.specs.declared.entry.Entry.TheVariants.{Submitted, Coauthor}
use Rattle.cr_base.specs.declared.entry.Stamp.{Stamp}
use Rattle.cr_base.specs.declared.reply.AccountLine.{AccountLine}
use Rattle.cr_base.specs.Accounts.{number_at, lines_of}
use Rattle.cr_base.specs.Drawn.{stamped, grouped, besides, submission}
use Rattle.cr_base.specs.Lists.{listed}
use Rattle.cr_base.specs.Pairs.{has_pair}
use Rattle.cr_base.specs.Papers.{paper_count, new_paper, PapersFit}
use Rattle.cr_base.specs.Sources.{number_in, users_among}
use Rattle.cr_base.specs.Tables.{Tables, tables_after, Fits, FitInTurn}
use Rattle.cr_base.specs.Ties.{BareTies, pair_of, bare_tie, are_before, are_up_to}
use Rattle.cr_base.proofs.AccountLaws.{number_at-from, number_in-lines_of}
use Rattle.cr_base.proofs.TieLaws.{has_pair-push, all-push}
use Rattle.cr_base.proofs.Small.{eqb-self, nat_le-self, nat_lt-eqb-swap, eqb-swap}

-- ---- the users of names

-- a user has one of the accounts' numbers
abbrev pub HasAccount : List Account → ℕ → Type 0
HasAccount accounts user = (1 ≤ user) × (user ≤ length accounts)

position-within : (test : Account → Bool) (n : ℕ) (accounts : List Account) (k : ℕ)
    → position_from test n accounts ≡ Some k → k + 1 ≤ n + length accounts
position-within test n [] k found = cc
position-within test n (a ∷ accounts) k found = by (test a) found (position-within test (n + 1) accounts k)
  where
    by : (b : Bool) → cond b (Some n) (position_from test (n + 1) accounts) ≡ Some k
        → (position_from test (n + 1) accounts ≡ Some k → k + 1 ≤ (n + 1) + length accounts)
        → k + 1 ≤ n + suc (length accounts)
    by true is rest = let e : n ≡ k = cc in omega (arith, e)
    by false is rest = let low = rest is in omega (arith, low)

pub number-within : (accounts : List Account) (name : List ℕ) (user : ℕ) → number_at accounts name ≡ Some user
    → HasAccount accounts user
number-within accounts name user is = by (position_from test 0 accounts) refl (sym (number_at-from accounts name) ∙ is)
  where
    test : Account → Bool
    test a = bytes_eq a.name name

    by : (found : Option ℕ) → position_from test 0 accounts ≡ found → option_map (λ i. i + 1) found ≡ Some user
        → HasAccount accounts user
    by None at e = cc
    by (Some k) at e =
        let n : k + 1 ≡ user = cc in
        let high = position-within test 0 accounts k at in
        (omega (arith, n), omega (arith, n, high))

-- what is so of the user of each name that somebody has is so of all the users of these names
pub users-each : (P : ℕ → Type 0) (lines : List AccountLine)
    → ((name : List ℕ) (user : ℕ) → number_in lines name ≡ Some user → P user)
    → (names : List (Option (List ℕ))) → AllByRecursion P (flat_map listed (users_among lines names))
users-each P lines each [] = tt
users-each P lines each (None ∷ names) = users-each P lines each names
users-each P lines each (Some name ∷ names) = by (number_in lines name) refl (users-each P lines each names)
  where
    by : (found : Option ℕ) → number_in lines name ≡ found
        → AllByRecursion P (flat_map listed (users_among lines names))
        → AllByRecursion P (listed found ++ flat_map listed (users_among lines names))
    by None at rest = rest
    by (Some user) at rest = (each name user at, rest)

-- so they have accounts
pub users-within : (accounts : List Account) (names : List (Option (List ℕ)))
    → AllByRecursion (HasAccount accounts) (flat_map listed (users_among (lines_of accounts) names))
users-within accounts names = users-each (HasAccount accounts) (lines_of accounts)
    (λ name user at. number-within accounts name user (sym (number_in-lines_of accounts name) ∙ at)) names

-- ---- entries under one stamp, each in its turn

pub grouped-fits : (t : Tables) (stamp : Stamp) (e : Entry) (es : List Entry) → Fits t (stamped stamp false e)
    → FitInTurn (tables_after t (stamped stamp false e)) (grouped stamp es) → FitInTurn t (grouped stamp (e ∷ es))
grouped-fits t stamp e [] fit rest = (fit, tt)
grouped-fits t stamp e (next ∷ es) fit rest = (
  record {
    accounts = fit.accounts;
    papers = fit.papers;
    ties = fit.ties;
    seats = fit.seats;
    reviews = fit.reviews;
    talk = fit.talk;
  },
  rest,
)

-- these are the paper's authors
abbrev AreAuthors : BareTies → ℕ → List ℕ → Type 0
AreAuthors authors paper these = (v : ℕ) → has_pair (pair_of paper v) authors ≡ list_any (λ w. eqb w v) these

-- with one more behind them
authors-push : (authors : BareTies) (paper user : ℕ) (these : List ℕ) → AreAuthors authors paper these
    → AreAuthors (authors ++ bare_tie paper user ∷ []) paper (these ++ user ∷ [])
authors-push authors paper user these are v =
    has_pair-push (pair_of paper v) authors (bare_tie paper user)
    ∙ ap (λ b. (b && eqb v user) || has_pair (pair_of paper v) authors) (eqb-self paper)
    ∙ ap (λ b. eqb v user || b) (are v)
    ∙ ap (λ b. b || list_any (λ w. eqb w v) these) (eqb-swap v user)
    ∙ swap (eqb user v) (list_any (λ w. eqb w v) these)
    ∙ sym (list_any-append (λ w. eqb w v) these (user ∷ []))
  where
    swap : (a b : Bool) → (a || b) ≡ (b || (a || false))
    swap a b = grind arith

-- the co-authors of the last paper
coauthors-fit : (t : Tables) (stamp : Stamp) (paper : ℕ) (these users : List ℕ) → 1 ≤ paper
    → paper ≡ paper_count t.papers → are_up_to paper t.ties.authors ≡ true
    → AreAuthors t.ties.authors paper these
    → AllByRecursion (HasAccount t.accounts) users
    → FitInTurn t (grouped stamp (map (λ (user : ℕ). Coauthor paper user) (besides these users)))
coauthors-fit t stamp paper these [] low last up are within = tt
coauthors-fit t stamp paper these (user ∷ users) low last up are within =
    by (list_any (λ v. eqb v user) these) refl
    (coauthors-fit t stamp paper these users low last up are within.1)
    (coauthors-fit after stamp paper (these ++ user ∷ []) users low last
    (all-push _ t.ties.authors (bare_tie paper user) up (nat_le-self paper))
    (authors-push t.ties.authors paper user these are) within.1)
  where
    after : Tables
    after = tables_after t (stamped stamp false (Coauthor paper user))

    added : List ℕ → List Entry
    added us = map (λ (u : ℕ). Coauthor paper u) us

    by : (told : Bool) → list_any (λ v. eqb v user) these ≡ told
        → FitInTurn t (grouped stamp (added (besides these users)))
        → FitInTurn after (grouped stamp (added (besides (these ++ user ∷ []) users)))
        → FitInTurn t
        (grouped stamp (added (cond told (besides these users) (user ∷ besides (these ++ user ∷ []) users))))
    by true is same more = same
    by false is same more =
        grouped-fits t stamp (Coauthor paper user) (added (besides (these ++ user ∷ []) users))
        (record {
          accounts = within.0;
          papers = (low, last);
          ties = (up, are user ∙ is);
          seats = tt;
          reviews = tt;
          talk = tt;
        }) more

-- ---- a submission

-- a paper that comes behind all that have authors has none
none-before : (paper v : ℕ) (authors : BareTies) → are_before paper authors ≡ true
    → has_pair (pair_of paper v) authors ≡ false
none-before paper v [] before = refl
none-before paper v (t ∷ authors) before =
    let parts = and_parts (nat_lt t.pair.paper paper) (are_before paper authors) before in
    ap (λ b. (b && eqb v t.pair.user) || has_pair (pair_of paper v) authors)
    (nat_lt-eqb-swap t.pair.paper paper parts.0)
    ∙ none-before paper v authors parts.1

up-to : (paper : ℕ) (authors : BareTies) → are_before paper authors ≡ true → are_up_to paper authors ≡ true
up-to paper [] before = refl
up-to paper (t ∷ authors) before =
    let parts = and_parts (nat_lt t.pair.paper paper) (are_before paper authors) before in
    and_from (nat_le t.pair.paper paper) (are_up_to paper authors) (less t.pair.paper paper parts.0)
    (up-to paper authors parts.1)
  where
    less : (n p : ℕ) → nat_lt n p ≡ true → nat_le n p ≡ true
    less n p h = grind (arith, nat_tests, h)

pub submission-fits : (t : Tables) (stamp : Stamp) (paper : ℕ) (title abstract users : List ℕ)
    → PapersFit t.papers stamp.maker (Submitted paper title abstract)
    → are_before paper t.ties.authors ≡ true
    → AllByRecursion (HasAccount t.accounts) users
    → FitInTurn t (grouped stamp (submission stamp.maker paper title abstract users))
submission-fits t stamp paper title abstract users fits before within =
    let next = fits.0 in
    let n = length-append t.papers.papers (new_paper title abstract ∷ []) in
    grouped-fits t stamp (Submitted paper title abstract)
    (map (λ (user : ℕ). Coauthor paper user) (besides (stamp.maker ∷ []) users))
    (record { accounts = tt; papers = fits; ties = before; seats = tt; reviews = tt; talk = tt })
    (coauthors-fit (tables_after t (stamped stamp false (Submitted paper title abstract))) stamp paper
    (stamp.maker ∷ []) users (omega (arith, next)) (omega (arith, n, next))
    (all-push _ t.ties.authors (bare_tie paper stamp.maker) (up-to paper t.ties.authors before) (nat_le-self paper))
    (authors-push t.ties.authors paper stamp.maker [] (λ v. none-before paper v t.ties.authors before)) within)
