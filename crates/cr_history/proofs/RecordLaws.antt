-- SPDX-License-Identifier: Apache-2.0 OR MIT
-- Each entry adds at most one record to those that the tables keep of its paper, and none to those of another, so
-- that they are no more than the entries on it.
use Rattle.std.proofs.Common.{ℕ, suc, Bool, true, false, cond, ◌≡◌, ◌≤◌, ◌+◌, List, [], ◌∷◌, ◌++◌, length, eqb, refl}
use Rattle.std.proofs.Common.{sym, ap, ◌∙◌, subst, arith, length-append, Some}
use Rattle.std.specs.Prelude.{not, filter}
use Rattle.std.proofs.lemmas.Bool.{true≢false}
use Rattle.std.proofs.lemmas.List.{length-map}
use Rattle.cr_base.specs.declared.entry.Entry.{Entry}
use Rattle.cr_base.specs.declared.entry.Entry.TheVariants.{Submitted, Coauthor, Uploaded, Conflict, Bid, Assigned}
use Rattle.cr_base.specs.declared.entry.Entry.TheVariants.{Unassigned, Reviewed, Tagged, Invited, Uninvited}
use Rattle.cr_base.specs.declared.entry.Stamped.{Stamped}
use Rattle.cr_base.specs.declared.filed.Filed.{Filed}
use Rattle.cr_base.specs.declared.pairs.Order.TheVariants.{ByPaper}
use Rattle.cr_base.specs.declared.pairs.Pair.{Pair}
use Rattle.cr_base.specs.declared.pairs.Tie.{Tie}
use Rattle.cr_base.specs.declared.seat.Seat.{Seat}
use Rattle.cr_base.specs.declared.tag.SetTag.{SetTag}
use Rattle.cr_base.specs.Filed.{filed, with_filed, filed_of}
use Rattle.cr_base.specs.History.{History, BidTold}
use Rattle.cr_base.specs.Lists.{given}
use Rattle.cr_base.specs.Pairs.{is_tied, stands, comes_before, with_tie, without_pair, ties_of, users_tied_to}
use Rattle.cr_base.specs.Seats.{SeatsState, seat_tie, with_seat, without_seat}
use Rattle.cr_base.specs.Tables.{Tables, no_tables, tables_after, tables_from, tables_of}
use Rattle.cr_base.specs.Tags.{TagsState, tag_owner, tag_before, with_tag, tag_switched}
use Rattle.cr_base.specs.Ties.{BareTies, TiesState, pair_of, bare_tie, bid_tie, switched, is_author_in, bids_in}
use Rattle.cr_base.proofs.FiledLaws.{filed_of-with_filed, filed_of-tag_switched}
use Rattle.cr_base.proofs.SeatLaws.{left_at, ties_of-with_seat, ties_of-without_seat}
use Rattle.cr_base.proofs.SortedLists.{filter-swap}
use Rattle.cr_base.proofs.TagLaws.{tag_before-turned}
use Rattle.cr_base.proofs.TieLaws.{users_tied_to-push}
use Rattle.cr_history.specs.Records.{is_on, entries_on, records_with, records_on, records_declared}

-- ---- lists

-- one where it is so, and none where it isn't
abbrev one : Bool → ℕ
one b = cond b 1 0

length-given : {A : Type 0} (b : Bool) (x : A) → length (given b x) ≡ one b
length-given true x = refl
length-given false x = refl

length-kept : {A : Type 0} (b : Bool) (x : A) (xs : List A) → length (cond b (x ∷ xs) xs) ≡ one b + length xs
length-kept true x xs = omega arith
length-kept false x xs = omega arith

-- a list without some is no longer
shorter : {A : Type 0} (test : A → Bool) (xs : List A) → length (filter test xs) ≤ length xs
shorter test [] = omega arith
shorter test (x ∷ xs) = by (test x) _ _ _ (length-kept (test x) x (filter test xs)) (shorter test xs)
  where
    by : (b : Bool) (n m k : ℕ) → n ≡ one b + m → m ≤ k → n ≤ suc k
    by true n m k h le = omega (arith, h, le)
    by false n m k h le = omega (arith, h, le)

-- nor are two such lists together, where nothing is in both
both-shorter : {A : Type 0} (test other : A → Bool) → ((x : A) → test x ≡ true → other x ≡ false) → (xs : List A)
    → length (filter test xs) + length (filter other xs) ≤ length xs
both-shorter test other apart [] = omega arith
both-shorter test other apart (x ∷ xs) =
    by (test x) (other x) (apart x) _ _ _ _ (length xs) (length-kept (test x) x (filter test xs))
    (length-kept (other x) x (filter other xs))
    (both-shorter test other apart xs)
  where
    by : (b c : Bool) → (b ≡ true → c ≡ false) → (n m k l r : ℕ) → n ≡ one b + m → k ≡ one c + l → m + l ≤ r
        → n + k ≤ suc r
    by true true apart n m k l r h i le = absurd (true≢false (apart refl))
    by true false apart n m k l r h i le = omega (arith, h, i, le)
    by false true apart n m k l r h i le = omega (arith, h, i, le)
    by false false apart n m k l r h i le = omega (arith, h, i, le)

-- ---- ties

-- how many ties there are of the paper
abbrev tied : {V : Type 0} → ℕ → List (Tie V) → ℕ
tied p ts = length (ties_of ByPaper p ts)

module _ {V : Type 0} (p : ℕ) where
  tied-cons : (t : Tie V) (ts : List (Tie V)) → tied p (t ∷ ts) ≡ one (eqb p t.pair.paper) + tied p ts
  tied-cons t ts = length-kept (eqb p t.pair.paper) t (ties_of ByPaper p ts)

  -- one more, or another in the place of one
  tied-with : (s : Tie V) (ts : List (Tie V)) → tied p (with_tie ByPaper s ts) ≤ tied p ts + one (eqb p s.pair.paper)
  tied-with s [] = omega (arith, tied-cons s [])
  tied-with s (t ∷ ts) = by (is_tied s.pair t) (stands (comes_before ByPaper) s.pair t) (tied-with s ts)
    where
      there : tied p (t ∷ ts) ≡ one (eqb p t.pair.paper) + tied p ts
      there = tied-cons t ts

      rest : List (Tie V)
      rest = with_tie ByPaper s ts

      by : (same before : Bool) → tied p rest ≤ tied p ts + one (eqb p s.pair.paper)
          → tied p (cond same (s ∷ ts) (cond before (s ∷ t ∷ ts) (t ∷ rest)))
          ≤ tied p (t ∷ ts) + one (eqb p s.pair.paper)
      by true before more = let here = tied-cons s ts in omega (arith, there, here)
      by false true more = let here = tied-cons s (t ∷ ts) in omega (arith, here)
      by false false more = let here = tied-cons t rest in omega (arith, there, here, more)

  -- one less at most
  tied-without : (q : Pair) (ts : List (Tie V)) → tied p (without_pair q ts) ≤ tied p ts
  tied-without q ts =
      let stays : Tie V → Bool = λ t. not (is_tied q t) in
      let same = ap (λ (us : List (Tie V)). length us) (filter-swap (λ (t : Tie V). eqb p t.pair.paper) stays ts) in
      let less = shorter stays (ties_of ByPaper p ts) in
      omega (arith, same, less)

-- a pair that is switched
tied-switched : (p : ℕ) (on : Bool) (paper user : ℕ) (ts : BareTies)
    → tied p (switched on paper user ts) ≤ tied p ts + one (eqb p paper)
tied-switched p true paper user ts = tied-with p (bare_tie paper user) ts
tied-switched p false paper user ts = let less = tied-without p (pair_of paper user) ts in omega (arith, less)

-- ---- the lists of each table

-- as many users as ties
length-users : (p : ℕ) (ts : BareTies) → length (users_tied_to p ts) ≡ tied p ts
length-users p ts = length-map (ties_of ByPaper p ts) (λ (t : Tie (Unit {0})). t.pair.user)

authors-more : (p paper user : ℕ) (ts : BareTies)
    → length (users_tied_to p (ts ++ bare_tie paper user ∷ [])) ≤ length (users_tied_to p ts) + one (eqb p paper)
authors-more p paper user ts =
    let same = ap (λ (us : List ℕ). length us) (users_tied_to-push p ts paper user) in
    let both = length-append (users_tied_to p ts) (given (eqb p paper) user) in
    let given_one = length-given (eqb p paper) user in
    omega (arith, same, both, given_one)

conflicts-more : (p : ℕ) (on : Bool) (paper user : ℕ) (ts : BareTies)
    → length (users_tied_to p (switched on paper user ts)) ≤ length (users_tied_to p ts) + one (eqb p paper)
conflicts-more p on paper user ts =
    let before = length-users p ts in
    let after = length-users p (switched on paper user ts) in
    let more = tied-switched p on paper user ts in
    omega (arith, before, after, more)

declared-more : (p : ℕ) (by_author : Bool) (paper user : ℕ) (ts : BareTies)
    → length (users_tied_to p (cond by_author (with_tie ByPaper (bare_tie paper user) ts) ts))
    ≤ length (users_tied_to p ts) + one (eqb p paper)
declared-more p true paper user ts = conflicts-more p true paper user ts
declared-more p false paper user ts = omega arith

bids-more : (p paper user value : ℕ) (ties : TiesState)
    → length (bids_in (record ties { bids = with_tie ByPaper (bid_tie paper user value) ties.bids }) p)
    ≤ length (bids_in ties p) + one (eqb p paper)
bids-more p paper user value ties =
    let bids : List (Tie ℕ) = with_tie ByPaper (bid_tie paper user value) ties.bids in
    let told : Tie ℕ → BidTold = λ t. record { user = t.pair.user; value = t.value } in
    let before = length-map (ties_of ByPaper p ties.bids) told in
    let after = length-map (ties_of ByPaper p bids) told in
    let more = tied-with p (bid_tie paper user value) ties.bids in
    omega (arith, before, after, more)

filed-more : {V : Type 0} (p : ℕ) (x : Filed V) (xs : List (Filed V))
    → length (filed_of p (with_filed x xs)) ≤ length (filed_of p xs) + one (eqb p x.paper)
filed-more {V} p x xs =
    let same = ap (λ (us : List V). length us) (filed_of-with_filed p x xs) in
    let both = length-append (filed_of p xs) (given (eqb p x.paper) x.value) in
    let given_one = length-given (eqb p x.paper) x.value in
    omega (arith, same, both, given_one)

-- a tag comes in the place of the one that it is the same as
with_tag-more : (on : Bool) (t : SetTag) (ts : List SetTag) → length (with_tag on t ts) ≤ length ts + 1
with_tag-more on t ts =
    let before : List SetTag = filter (λ (s : SetTag). tag_before s t) ts in
    let behind : List SetTag = filter (λ (s : SetTag). tag_before t s) ts in
    by on _ _ _ _ _ (length ts) (length-append (before ++ given on t) behind) (length-append before (given on t))
    (length-given on t)
    (both-shorter (λ (s : SetTag). tag_before s t) (λ (s : SetTag). tag_before t s) (λ s h. tag_before-turned s t h) ts)
  where
    by : (on : Bool) (n m k l b r : ℕ) → n ≡ m + l → m ≡ b + k → k ≡ one on → b + l ≤ r → n ≤ r + 1
    by true n m k l b r h i j le = omega (arith, h, i, j, le)
    by false n m k l b r h i j le = omega (arith, h, i, j, le)

tags-more : (p : ℕ) (on : Bool) (x : Filed SetTag) (xs : TagsState)
    → length (filed_of p (tag_switched on x xs)) ≤ length (filed_of p xs) + one (eqb p x.paper)
tags-more p on x xs =
    let same = ap (λ (us : List SetTag). length us) (filed_of-tag_switched p on x xs) in
    subst (λ (n : ℕ). n ≤ length (filed_of p xs) + one (eqb p x.paper)) (sym same) (by (eqb p x.paper))
  where
    by : (b : Bool) → length (cond b (with_tag on x.value (filed_of p xs)) (filed_of p xs)) ≤ length (filed_of p xs)
        + one b
    by true = with_tag-more on x.value (filed_of p xs)
    by false = omega arith

seats-more : (p : ℕ) (s : Tie Seat) (ts : SeatsState)
    → length (ties_of ByPaper p (with_seat s ts)) ≤ length (ties_of ByPaper p ts) + one (eqb p s.pair.paper)
seats-more p s ts =
    let same = ap (λ (us : SeatsState). length us) (ties_of-with_seat p s ts) in
    let both = length-append (ties_of ByPaper p ts) (given (eqb p s.pair.paper) s) in
    let given_one = length-given (eqb p s.pair.paper) s in
    omega (arith, same, both, given_one)

seats-left : (p paper ordinal : ℕ) (ts : SeatsState)
    → length (ties_of ByPaper p (without_seat paper ordinal ts)) ≡ length (ties_of ByPaper p ts)
seats-left p paper ordinal ts =
    ap (λ (us : SeatsState). length us) (ties_of-without_seat p paper ordinal ts)
    ∙ length-map (ties_of ByPaper p ts) (left_at paper ordinal)

-- ---- one entry

-- those who are in conflict with a paper, or those whom its authors have declared
abbrev conflicts_in : (declared : Bool) → Tables → BareTies
conflicts_in declared t = cond declared t.ties.declared t.ties.conflicts

-- it adds to one list at most, and there to its paper's alone
kept-entry : (declared : Bool) (p : ℕ) (t : Tables) (s : Stamped)
    → records_with (conflicts_in declared (tables_after t s)) p (tables_after t s)
    ≤ records_with (conflicts_in declared t) p t + one (is_on p s.entry)
kept-entry declared p t s = by s.entry
  where
    after : Entry → Tables
    after e = tables_after t (record { stamp = s.stamp; more = s.more; entry = e })

    turned : (which : Bool) (paper user : ℕ) (on : Bool)
        → length (users_tied_to p (conflicts_in which (after (Conflict paper user on))))
        ≤ length (users_tied_to p (conflicts_in which t)) + one (eqb p paper)
    turned true paper user on =
        declared-more p (is_author_in t.ties (Some s.stamp.maker) paper) paper user t.ties.declared
    turned false paper user on = conflicts-more p on paper user t.ties.conflicts

    by : (e : Entry) → records_with (conflicts_in declared (after e)) p (after e)
        ≤ records_with (conflicts_in declared t) p t + one (is_on p e)
    by (Submitted paper title abstract) = let more =
        authors-more p paper s.stamp.maker t.ties.authors in omega (arith, more)
    by (Coauthor paper user) = let more = authors-more p paper user t.ties.authors in omega (arith, more)
    by (Uploaded paper version content) = let more =
        filed-more p (filed paper (record { version = version; content = content })) t.papers.uploads in omega
        (arith, more)
    by (Conflict paper user on) = let more = turned declared paper user on in omega (arith, more)
    by (Bid paper value) = let more = bids-more p paper s.stamp.maker value t.ties in omega (arith, more)
    by (Assigned paper user kind ordinal) = let more =
        seats-more p (seat_tie paper user kind ordinal) t.seats in omega (arith, more)
    by (Unassigned paper user ordinal) = let left = seats-left p paper ordinal t.seats in omega (arith, left)
    by (Reviewed paper ordinal version form) =
        let more =
        filed-more p
        (filed paper (record { ordinal = ordinal; version = version; phase = t.reviews.phase; form = form }))
        t.reviews.forms in
        omega (arith, more)
    by (Tagged paper tag on) =
        let more = tags-more p on (filed paper (record { tag = tag; owner = tag_owner tag s.stamp.maker })) t.tags in
        omega (arith, more)
    by (Invited paper user) = let more = conflicts-more p true paper user t.invites in omega (arith, more)
    by (Uninvited paper user) = let more = conflicts-more p false paper user t.invites in omega (arith, more)
    by e = omega arith

-- ---- all of them

-- where no entry adds more than one to a number that the tables have, and none but those on the paper do
module _ (p : ℕ) (number : Tables → ℕ)
    (one_entry : (t : Tables) (s : Stamped) → number (tables_after t s) ≤ number t + one (is_on p s.entry)) where
  number-from : (t : Tables) (H : History) → number (tables_from t H) ≤ number t + entries_on p H
  number-from t [] = omega arith
  number-from t (s ∷ H) =
      let here = one_entry t s in
      let rest = number-from (tables_after t s) H in
      let counted = length-kept (is_on p s.entry) s (filter (λ (e : Stamped). is_on p e.entry) H) in
      omega (arith, here, rest, counted)

pub records-few : (p : ℕ) (H : History) → records_on p (tables_of H) ≤ entries_on p H
records-few p H = let few = number-from p (records_on p) (kept-entry false p) no_tables H in omega (arith, few)

pub records-declared-few : (p : ℕ) (H : History) → records_declared p (tables_of H) ≤ entries_on p H
records-declared-few p H = let few = number-from p (records_declared p) (kept-entry true p) no_tables H in omega
    (arith, few)
