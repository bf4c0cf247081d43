-- SPDX-License-Identifier: Apache-2.0 OR MIT
-- What plans ask of the tables: who is free for a paper, her bid, and how many papers are planned.
use Rattle.std.proofs.Common.{ℕ, Bool, true, false, cond, eqb, ◌≡◌, ◌≤◌, ◌<◌, ◌+◌, ◌&&◌, suc, List, [], ◌∷◌, length}
use Rattle.std.proofs.Common.{drop, get_or, map, refl, sym, ap, subst, ◌∙◌, arith, Option, Some}
use Rattle.std.specs.Prelude.{filter, find, is_some, not, unwrap_or}
use Rattle.std.specs.Option.{option_map, option_map_or}
use Rattle.std.proofs.Math.ListN.{drop_of_length-le}
use Rattle.std.proofs.lemmas.List.{drop_more}
use Rattle.cr_base.specs.declared.pairs.Order.TheVariants.{ByPaper}
use Rattle.cr_base.specs.declared.pairs.Tie.{Tie}
use Rattle.cr_base.specs.History.{BidTold}
use Rattle.cr_base.specs.Lists.{numbers_from}
use Rattle.cr_base.specs.Pairs.{ties_of, tie_value}
use Rattle.cr_base.specs.Papers.{paper_numbers}
use Rattle.cr_base.specs.Plans.{bid_by, has_labels_for, is_free_for, planned_papers}
use Rattle.cr_base.specs.Reports.{is_clear_of}
use Rattle.cr_base.specs.Seats.{ordinal_in}
use Rattle.cr_base.specs.Sources.{facts_of_tables, shown_in_tables}
use Rattle.cr_base.specs.Tables.{Tables}
use Rattle.cr_base.specs.Ties.{bid_in, is_author_in, is_conflict_on_in, pair_of}
use Rattle.cr_base.specs.Words.{no_bid}
use Rattle.cr_base.proofs.FiledLaws.{filter-filter}
use Rattle.cr_base.proofs.ListLaws.{length-numbers_from}
use Rattle.cr_base.proofs.PairLaws.{list_any-others_of}
use Rattle.cr_base.proofs.Small.{eqb-swap}
use Rattle.cr_view.specs.Plans.{is_planned_in, one}
use Rattle.cr_view.proofs.AcceptedLaws.{get_or-numbers_from}

-- ---- a user and a paper

pub free-is : (t : Tables) (p user : ℕ) (a d r : Bool) → a ≡ is_author_in t.ties (Some user) p
    → d ≡ is_conflict_on_in t.ties (Some user) p
    → r ≡ is_some (ordinal_in t.seats (Some user) p)
    → (not a && not d && not r) ≡ is_free_for (shown_in_tables t) p user
free-is t p user a d r wrote declared reviews =
    let among = declared ∙ sym (list_any-others_of ByPaper p user t.ties.conflicts) in
    λ i. not (wrote i) && not (among i) && not (reviews i)

abbrev tell : Tie ℕ → BidTold
tell t = record { user = t.pair.user; value = t.value }

bid-found : (p user : ℕ) (ts : List (Tie ℕ)) → unwrap_or (tie_value (pair_of p user) ts) no_bid
    ≡ option_map_or (λ (bid : BidTold). bid.value)
    (find (λ (bid : BidTold). eqb bid.user user) (map tell (ties_of ByPaper p ts))) no_bid
bid-found p user [] = refl
bid-found p user (t ∷ ts) =
    by (eqb p t.pair.paper) (eqb user t.pair.user) (eqb-swap t.pair.user user) (bid-found p user ts)
  where
    held : Option BidTold
    held = find (λ (bid : BidTold). eqb bid.user user) (map tell (ties_of ByPaper p ts))

    value : BidTold → ℕ
    value bid = bid.value

    kept : Option (Tie ℕ)
    kept = find (λ (s : Tie ℕ). eqb p s.pair.paper && eqb user s.pair.user) ts

    first : (c : Bool) → unwrap_or (option_map (λ (s : Tie ℕ). s.value) kept) no_bid ≡ option_map_or value held no_bid
        → unwrap_or (option_map (λ (s : Tie ℕ). s.value) (cond c (Some t) kept)) no_bid
        ≡ option_map_or value (cond c (Some (tell t)) held) no_bid
    first true rest = refl
    first false rest = rest

    by : (b c : Bool) → eqb t.pair.user user ≡ c
        → unwrap_or (option_map (λ (s : Tie ℕ). s.value) kept) no_bid ≡ option_map_or value held no_bid
        → unwrap_or (option_map (λ (s : Tie ℕ). s.value) (cond (b && c) (Some t) kept)) no_bid
        ≡ option_map_or value (find (λ (bid : BidTold). eqb bid.user user)
        (map tell (cond b (t ∷ ties_of ByPaper p ts) (ties_of ByPaper p ts)))) no_bid
    by true c is rest =
        first c rest ∙ ap (λ (e : Bool). option_map_or value (cond e (Some (tell t)) held) no_bid) (sym is)
    by false c is rest = rest

-- her last bid, or none
pub bid-is : (t : Tables) (p user : ℕ) → unwrap_or (bid_in t.ties (Some user) p) no_bid ≡ bid_by (shown_in_tables t) p
    user
bid-is t p user = bid-found p user t.ties.bids

-- ---- papers

pub planned-are : (t : Tables) (user : Option ℕ) (per_paper : ℕ)
    → filter (is_planned_in t user per_paper) (paper_numbers t.papers) ≡ planned_papers (facts_of_tables t user)
    (shown_in_tables t) per_paper
planned-are t user per_paper =
    let facts = facts_of_tables t user in
    let shown = shown_in_tables t in
    let open_ : ℕ → Bool = λ p. not (shown.withdrawn p) in
    filter-filter (λ (p : ℕ). is_clear_of facts p && open_ p) (has_labels_for shown per_paper) (paper_numbers t.papers)
    ∙ ap (filter (has_labels_for shown per_paper)) (filter-filter (is_clear_of facts) open_ (paper_numbers t.papers))

pub one-few : (b : Bool) → one b ≤ 1
one-few true = omega arith
one-few false = omega arith

module _ {B : Type 0} (test : ℕ → Bool) (papers : List B) where
  -- those from one on
  abbrev pub left : ℕ → List ℕ
  left i = filter test (drop i (numbers_from 1 papers))

  pub count-step : (i n old new whole : ℕ) → i < length papers → n ≡ i + 1 → new ≡ old + one (test n)
      → old + length (left i) ≡ whole → new + length (left (i + 1)) ≡ whole
  count-step i n old new whole within is counted h =
      let number : get_or (numbers_from 1 papers) i 0 ≡ n = get_or-numbers_from 1 i 0 papers within ∙ from_one i n is in
      let cut : drop i (numbers_from 1 papers) ≡ n ∷ drop (i + 1) (numbers_from 1 papers) =
      drop_more (numbers_from 1 papers) i 0 (subst (λ (k : ℕ). i < k) (sym (length-numbers_from 1 papers)) within)
      ∙ ap (λ (m : ℕ). m ∷ drop (i + 1) (numbers_from 1 papers)) number in
      let first : length (left i) ≡ one (test n) + length (left (i + 1)) =
      ap (λ (ps : List ℕ). length (filter test ps)) cut ∙ by (test n) in
      omega (arith, first, counted, h)
    where
      from_one : (i n : ℕ) → n ≡ i + 1 → 1 + i ≡ n
      from_one i n is = omega (arith, is)

      from_none : (k : ℕ) → k ≡ 0 + k
      from_none k = omega arith

      from_one_more : (k : ℕ) → suc k ≡ 1 + k
      from_one_more k = omega arith

      by : (b : Bool) → length (cond b (n ∷ left (i + 1)) (left (i + 1))) ≡ one b + length (left (i + 1))
      by true = from_one_more (length (left (i + 1)))
      by false = from_none (length (left (i + 1)))

  pub count-all : (i n whole : ℕ) → length papers ≤ i → n + length (left i) ≡ whole → n ≡ whole
  count-all i n whole past h =
      let gone = drop_of_length-le (numbers_from 1 papers)
      (subst (λ (k : ℕ). k ≤ i) (sym (length-numbers_from 1 papers)) past) in
      let none : length (left i) ≡ 0 = ap (λ (ps : List ℕ). length (filter test ps)) gone in
      omega (arith, none, h)
