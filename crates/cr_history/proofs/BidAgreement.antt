-- SPDX-License-Identifier: Apache-2.0 OR MIT
-- The last bid that a history tells of a user on a paper is the one that the table of ties has.
use Rattle.std.proofs.Common.{ℕ, Bool, true, false, cond, ◌≡◌, List, [], ◌++◌, eqb, refl, sym, ap, ◌∙◌, ◌&&◌, Option}
use Rattle.std.proofs.Common.{Some, None}
use Rattle.cr_base.specs.declared.entry.Entry.{Entry}
use Rattle.cr_base.specs.declared.entry.Entry.TheVariants.{Bid}
use Rattle.cr_base.specs.declared.entry.Stamped.{Stamped}
use Rattle.cr_base.specs.declared.pairs.Order.TheVariants.{ByPaper}
use Rattle.cr_base.specs.Lists.{given, last_from}
use Rattle.cr_base.specs.History.{History, bid_told}
use Rattle.cr_base.specs.HistoryFacts.{bid_of}
use Rattle.cr_base.specs.Tables.{Tables, no_tables, tables_of}
use Rattle.cr_base.specs.Ties.{TiesState, pair_of, bid_tie, ties_after, bid_in}
use Rattle.cr_base.proofs.LastLaws.{last_from-given}
use Rattle.cr_base.proofs.PairLaws.{tie_value-with_tie}
use Rattle.cr_base.proofs.Small.{eqb-swap}
use Rattle.cr_history.proofs.Folds.{told-always, each-silent}

-- ---- bids

bid-entry : (p v : ℕ) (ties : TiesState) (maker : ℕ) (e : Entry) (rest : List ℕ)
    → last_from (bid_in ties (Some v) p) (bid_told (Some v) p maker e ++ rest)
    ≡ last_from (bid_in (ties_after ties maker e) (Some v) p) rest
bid-entry p v ties maker (Bid paper value) rest =
    let before : Option ℕ = bid_in ties (Some v) p in
    last_from-given (eqb paper p && eqb v maker) value before rest
    ∙ ap (λ b. last_from (cond (b && eqb v maker) (Some value) before) rest) (eqb-swap paper p)
    ∙ ap (λ o. last_from o rest) (sym (tie_value-with_tie (pair_of p v) ByPaper (bid_tie paper maker value) ties.bids))
bid-entry p v ties maker e rest = refl

-- nobody bids
nobody-entry : (p maker : ℕ) (e : Entry) → bid_told None p maker e ≡ []
nobody-entry p maker (Bid paper value) = by (eqb paper p)
  where
    by : (b : Bool) → given (b && false) value ≡ []
    by true = refl
    by false = refl
nobody-entry p maker e = refl

-- a user's last bid on a paper is the one that the table has
pub bid_of-tables : (u : Option ℕ) (p : ℕ) (H : History) → bid_of u p H ≡ bid_in (tables_of H).ties u p
bid_of-tables None p H =
    ap (last_from None) (each-silent (λ (s : Stamped). bid_told None p s.stamp.maker s.entry)
    (λ s. nobody-entry p s.stamp.maker s.entry) H)
bid_of-tables (Some v) p H =
    told-always last_from (λ _. refl) (λ (t : Tables). bid_in t.ties (Some v) p)
    (λ (s : Stamped). bid_told (Some v) p s.stamp.maker s.entry)
    (λ t s. bid-entry p v t.ties s.stamp.maker s.entry) no_tables H
