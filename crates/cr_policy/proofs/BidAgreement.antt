-- SPDX-License-Identifier: Apache-2.0 OR MIT
-- Where the tables tell what a legal history tells, a clear chair's view shows the bids on a paper as the tables have
-- them.
use Rattle.std.proofs.Common.{ℕ, Bool, true, false, ◌≡◌, ◌≤◌, ◌+◌, ◌-◌, List, [], ◌∷◌, ◌++◌, length, eqb, refl, sym, ap}
use Rattle.std.proofs.Common.{◌∙◌, ◌||◌, ◌&&◌, Option, Some, arith}
use Rattle.std.specs.Prelude.{nat_le, map, is_some}
use Rattle.std.specs.List.{flat_map, list_any}
use Rattle.std.proofs.lemmas.Bool.{eqb-true, and_parts, or_parts, true≢false}
use Rattle.std.proofs.lemmas.Bool.Decides.{nat_tests}
use Rattle.std.proofs.lemmas.List.Concat.{flat_map-append}
use Rattle.std.proofs.lemmas.List.Folds.{flat_map-map, list_any-append}
use Rattle.cr_base.specs.declared.entry.Account.{Account}
use Rattle.cr_base.specs.declared.entry.Entry.{Entry}
use Rattle.cr_base.specs.declared.entry.Entry.TheVariants.{Bid}
use Rattle.cr_base.specs.declared.entry.Stamped.{Stamped}
use Rattle.cr_base.specs.declared.pairs.Order.TheVariants.{ByPaper}
use Rattle.cr_base.specs.declared.pairs.Tie.{Tie}
use Rattle.cr_base.specs.declared.reply.AccountLine.{AccountLine}
use Rattle.cr_base.specs.Accounts.{lines_of}
use Rattle.cr_base.specs.History.{History, Registration, BidTold, all_told, registration_told, bid_told}
use Rattle.cr_base.specs.HistoryFacts.{role_of, accounts_of}
use Rattle.cr_base.specs.Lists.{given, listed, last}
use Rattle.cr_base.specs.Page.{gets_bids}
use Rattle.cr_base.specs.Pairs.{IsAscending, has_pair, tie_value}
use Rattle.cr_base.specs.Sources.{standing_at}
use Rattle.cr_base.specs.Tables.{Tables, no_tables, tables_after, tables_from, tables_of}
use Rattle.cr_base.specs.Ties.{TiesState, pair_of, bid_tie, ties_after, bids_in}
use Rattle.cr_base.proofs.ListLaws.{list_any-numbers_from}
use Rattle.cr_base.proofs.PairLaws.{IsAscending-with_tie}
use Rattle.cr_base.proofs.TieValues.{is_some-tie_value, told_at, told-numbers}
use Rattle.cr_history.specs.Invariants.{IsMadeByUser, IsInOrder, InTurn}
use Rattle.cr_history.specs.Laws.{AreTold}
use Rattle.cr_history.proofs.OrderAgreement.{users-lines_from}
use Rattle.cr_policy.specs.View.{view}
use Rattle.cr_policy.specs.ViewFacts.{bids_in_view, accounts_in_view}
use Rattle.cr_policy.proofs.StandingLaws.{accounts-seen}
use Rattle.cr_policy.proofs.ReviewerTells.{bid-seen}

-- ---- the table's bids are in ascending order

ascending-entry : (ties : TiesState) (maker : ℕ) (e : Entry) → IsAscending ByPaper ties.bids
    → IsAscending ByPaper (ties_after ties maker e).bids
ascending-entry ties maker (Bid paper value) ascending =
    IsAscending-with_tie ByPaper (bid_tie paper maker value) ties.bids ascending
ascending-entry ties maker e ascending = ascending

ascending-from : (t : Tables) (H : History) → IsAscending ByPaper t.ties.bids
    → IsAscending ByPaper (tables_from t H).ties.bids
ascending-from t [] ascending = ascending
ascending-from t (s ∷ H) ascending =
    ascending-from (tables_after t s) H (ascending-entry t.ties s.stamp.maker s.entry ascending)

-- ---- whoever bids has registered

abbrev pub has_registered : History → ℕ → Bool
has_registered H v = list_any (λ (r : Registration). eqb r.user v) (all_told registration_told H)

no_bid : (before : History) (v p maker : ℕ) (e : Entry) → IsMadeByUser before maker e → has_registered before v ≡ false
    → bid_told (Some v) p maker e ≡ []
no_bid before v p maker (Bid paper value) made none = by (eqb paper p && eqb v maker) refl
  where
    by : (b : Bool) → (eqb paper p && eqb v maker) ≡ b → given b value ≡ []
    by true is =
        let same = eqb-true v maker (and_parts (eqb paper p) (eqb v maker) is).1 in
        absurd (true≢false (sym (ap (has_registered before) same ∙ made) ∙ none))
    by false is = refl
no_bid before v p maker e made none = refl

-- who hasn't has made no bid
no_bids : (before H : History) (v p : ℕ) → InTurn IsInOrder before H → has_registered before v ≡ false
    → has_registered H v ≡ false
    → flat_map (λ (e : Stamped). bid_told (Some v) p e.stamp.maker e.entry) H ≡ []
no_bids before [] v p kept none later = refl
no_bids before (e ∷ after) v p kept none later =
    let test : Registration → Bool = λ r. eqb r.user v in
    let rest : List ℕ = flat_map (λ (e : Stamped). bid_told (Some v) p e.stamp.maker e.entry) after in
    let parts = or_parts (list_any test (registration_told e.entry)) (has_registered after v)
    (sym (list_any-append test (registration_told e.entry) (all_told registration_told after)) ∙ later) in
    let still : has_registered (before ++ e ∷ []) v ≡ false =
    ap (list_any test) (flat_map-append (λ (e : Stamped). registration_told e.entry) before (e ∷ []))
    ∙ list_any-append test (all_told registration_told before) (all_told registration_told (e ∷ []))
    ∙ neither (has_registered before v) (has_registered (e ∷ []) v) none
    (list_any-append test (registration_told e.entry) [] ∙ neither (list_any test (registration_told e.entry)) false
    parts.0 refl) in
    ap (λ xs. xs ++ rest) (no_bid before v p e.stamp.maker e.entry kept.0.maker none)
    ∙ no_bids (before ++ e ∷ []) after v p kept.1 still parts.1
  where
    neither : (a b : Bool) → a ≡ false → b ≡ false → (a || b) ≡ false
    neither a b ha hb = ap (λ c. c || b) ha ∙ hb

-- the users of the accounts are those who have registered
pub users-registered : (H : History) (v : ℕ)
    → list_any (λ n. eqb n v) (map (λ (a : AccountLine). a.user) (accounts_of H)) ≡ has_registered H v
users-registered H v = by (all_told registration_told H)
  where
    by : (rs : List Registration)
        → list_any (λ n. eqb n v)
        (map (λ (a : AccountLine). a.user)
        (map (λ (r : Registration). record { user = r.user; name = r.name; role = role_of (Some r.user) H }) rs))
        ≡ list_any (λ (r : Registration). eqb r.user v) rs
    by [] = refl
    by (r ∷ rs) = ap (λ b. eqb r.user v || b) (by rs)

-- and have the first numbers
registered-within : (H : History) (v : ℕ) → AreTold H → has_registered H v ≡ true
    → (1 ≤ v) × (v ≤ length (tables_of H).accounts)
registered-within H v told is =
    let accounts : List Account = (tables_of H).accounts in
    let test : ℕ → Bool = λ n. eqb n v in
    bounds v (length accounts)
    (sym (sym (users-registered H v)
    ∙ ap (λ (lines : List AccountLine). list_any test (map (λ (a : AccountLine). a.user) lines)) told.accounts
    ∙ ap (list_any test) (users-lines_from 1 accounts)
    ∙ list_any-numbers_from 1 v accounts (omega arith)) ∙ is)
  where
    bounds : (v n : ℕ) → (nat_le 1 v && nat_le v (1 + n - 1)) ≡ true → (1 ≤ v) × (v ≤ n)
    bounds v n h = (low v n h, high v n h)
      where
        low : (v n : ℕ) → (nat_le 1 v && nat_le v (1 + n - 1)) ≡ true → 1 ≤ v
        low v n h = grind (arith, nat_tests)

        high : (v n : ℕ) → (nat_le 1 v && nat_le v (1 + n - 1)) ≡ true → v ≤ n
        high v n h = grind (arith, nat_tests)

-- so each bidder of the table has an account
bidder-within : (H : History) (p v : ℕ) → AreTold H → InTurn IsInOrder [] H
    → has_pair (pair_of p v) (tables_of H).ties.bids ≡ true
    → (1 ≤ v) × (v ≤ length (tables_of H).accounts)
bidder-within H p v told kept there = by (has_registered H v) refl
  where
    by : (b : Bool) → has_registered H v ≡ b → (1 ≤ v) × (v ≤ length (tables_of H).accounts)
    by true is = registered-within H v told is
    by false none =
        let value = told.bid (Some v) p in
        absurd (true≢false
        (sym there ∙ sym (is_some-tie_value (pair_of p v) (tables_of H).ties.bids)
        ∙ ap is_some (sym value ∙ ap last (no_bids [] H v p kept refl none))))

-- ---- the bids

-- the last bids on the paper, by user number, as the view of one who is told shows them
pub bids-tables : (u : Option ℕ) (H : History) → AreTold H → InTurn IsInOrder [] H → (p : ℕ)
    → gets_bids (standing_at (tables_of H) u (Some p)) ≡ true
    → bids_in_view p (view u H) ≡ bids_in (tables_of H).ties p
bids-tables u H told kept p may =
    let bids : List (Tie ℕ) = (tables_of H).ties.bids in
    let accounts : List Account = (tables_of H).accounts in
    let tell : ℕ → ℕ → BidTold = λ m value. record { user = m; value = value } in
    let walk : (ℕ → Option ℕ) → List AccountLine → List BidTold =
    λ bid lines. flat_map (λ (a : AccountLine). map (tell a.user) (listed (bid a.user))) lines in
    let bid : ℕ → Option ℕ = λ v. tie_value (pair_of p v) bids in
    ap (λ (bid : ℕ → Option ℕ). walk bid (accounts_in_view (view u H)))
    (λ i v. (bid-seen u (Some v) p H (ap gets_bids (told.standing u (Some p)) ∙ may) ∙ told.bid (Some v) p) i)
    ∙ ap (walk bid) (accounts-seen u H ∙ told.accounts)
    ∙ sym (flat_map-map (told_at ByPaper p tell bids) (λ (a : AccountLine). a.user) (lines_of accounts))
    ∙ ap (flat_map (told_at ByPaper p tell bids)) (users-lines_from 1 accounts)
    ∙ told-numbers ByPaper p tell accounts bids (ascending-from no_tables H tt)
    (λ v there. bidder-within H p v told kept there)
