-- SPDX-License-Identifier: Apache-2.0 OR MIT
-- The table of ties: who is an author of which paper, who is declared in conflict with it, and who has bid on it
-- (the HotCRP manual's conflicts and review preferences).
use Rattle.std.specs.Prelude.{ℕ, Bool, fold, map, ◌||◌, ◌&&◌, nat_le, nat_lt, IsTrue, IsFalse}
use Rattle.std.specs.Prelude.{List, [], ◌∷◌, ◌++◌, Option, Some, None, false, if◌then◌else◌}
use Rattle.std.specs.List.{list_any, list_all}
use Rattle.cr_base.specs.declared.entry.Entry.{Entry}
use Rattle.cr_base.specs.declared.entry.Entry.TheVariants.{Submitted, Coauthor, Conflict, Bid}
use Rattle.cr_base.specs.declared.entry.Stamped.{Stamped}
use Rattle.cr_base.specs.declared.pairs.Order.TheVariants.{ByPaper}
use Rattle.cr_base.specs.declared.pairs.Pair.{Pair}
use Rattle.cr_base.specs.declared.pairs.Tie.{Tie}
use Rattle.cr_base.specs.History.{History, BidTold}
use Rattle.cr_base.specs.Lists.{is_number}
use Rattle.cr_base.specs.Pairs.{with_tie, without_pair, has_pair, tie_value, ties_of, users_tied_to}

-- ---- the state

-- papers and users who are tied, with nothing kept of them
abbrev pub BareTies : Type 0
BareTies = List (Tie (Unit {0}))

-- papers and their authors, in the order in which they were told; and, in ascending order, papers and the users
-- declared in conflict with them, papers and the users whom an author declared, and papers and the users who bid on
-- them with their last bids, each kept plus 20
pub record TiesState : Type 0 where
  pub authors : BareTies
  pub conflicts : BareTies
  pub declared : BareTies
  pub bids : List (Tie ℕ)

-- no ties
abbrev pub no_ties : TiesState
no_ties = record { authors = []; conflicts = []; declared = []; bids = [] }

-- a paper and a user
abbrev pub pair_of : ℕ → ℕ → Pair
pair_of paper user = record { paper = paper; user = user }

-- a tie of a paper and a user with nothing kept of it
abbrev pub bare_tie : ℕ → ℕ → Tie (Unit {0})
bare_tie paper user = record { pair = pair_of paper user; value = tt }

-- a paper and a user who bids so on it
abbrev pub bid_tie : ℕ → ℕ → ℕ → Tie ℕ
bid_tie paper user value = record { pair = pair_of paper user; value = value }

-- the paper's authors, the submitter first, the others in the order in which they were told
abbrev pub authors_in : TiesState → ℕ → List ℕ
authors_in ties p = users_tied_to p ties.authors

-- whether the user is an author of the paper
abbrev pub is_author_in : TiesState → Option ℕ → ℕ → Bool
is_author_in ties u p = list_any (is_number u) (authors_in ties p)

-- the ties with this one, or without it
abbrev pub switched : Bool → ℕ → ℕ → BareTies → BareTies
switched on paper user ties =
    if on then with_tie ByPaper (bare_tie paper user) ties else without_pair (pair_of paper user) ties

-- the ties after one more entry, by this maker
abbrev pub ties_after : TiesState → ℕ → Entry → TiesState
ties_after ties maker (Submitted paper title abstract) =
    record ties { authors = ties.authors ++ bare_tie paper maker ∷ [] }
ties_after ties maker (Coauthor paper user) = record ties { authors = ties.authors ++ bare_tie paper user ∷ [] }
ties_after ties maker (Conflict paper user on) = record ties {
  conflicts = switched on paper user ties.conflicts;
  declared = if is_author_in ties (Some maker) paper then with_tie ByPaper (bare_tie paper user) ties.declared
      else ties.declared;
}
ties_after ties maker (Bid paper value) = record ties { bids = with_tie ByPaper (bid_tie paper maker value) ties.bids }
ties_after ties maker _ = ties

-- the ties after these entries
abbrev pub ties_from : TiesState → History → TiesState
ties_from ties entries = fold (λ (t : TiesState) (e : Stamped). ties_after t e.stamp.maker e.entry) ties entries

-- ---- what is read

-- whether the user is declared in conflict with the paper
abbrev pub is_conflict_on_in : TiesState → Option ℕ → ℕ → Bool
is_conflict_on_in ties None p = false
is_conflict_on_in ties (Some user) p = has_pair (pair_of p user) ties.conflicts

-- whether the user is in conflict with the paper: as an author, or declared so
abbrev pub is_conflicted_in : TiesState → Option ℕ → ℕ → Bool
is_conflicted_in ties u p = is_author_in ties u p || is_conflict_on_in ties u p

-- the user's last bid on the paper
abbrev pub bid_in : TiesState → Option ℕ → ℕ → Option ℕ
bid_in ties None p = None
bid_in ties (Some user) p = tie_value (pair_of p user) ties.bids

-- the last bids on the paper, by user number
abbrev pub bids_in : TiesState → ℕ → List BidTold
bids_in ties p = map (λ (t : Tie ℕ). record { user = t.pair.user; value = t.value }) (ties_of ByPaper p ties.bids)

-- ---- which entry may come next

-- the papers of all these ties have lower numbers
abbrev pub are_before : ℕ → BareTies → Bool
are_before paper ties = list_all (λ (t : Tie (Unit {0})). nat_lt t.pair.paper paper) ties

-- the papers of these ties have numbers up to this one
abbrev pub are_up_to : ℕ → BareTies → Bool
are_up_to paper ties = list_all (λ (t : Tie (Unit {0})). nat_le t.pair.paper paper) ties

-- the papers of all these ties have one of the first n numbers
abbrev pub are_within : {V : Type 0} → ℕ → List (Tie V) → Bool
are_within {V} n ties = list_all (λ (t : Tie V). nat_le 1 t.pair.paper && nat_le t.pair.paper n) ties

-- each paper with an author, or with a declared conflict, has one of the first n numbers
pub record AreWithin (n : ℕ) (ties : TiesState) : Type 0 where
  pub authors : IsTrue (are_within n ties.authors)
  pub conflicts : IsTrue (are_within n ties.conflicts)

-- the entry may come next: a paper that it submits comes after all that have authors; a co-author's paper is the last
-- of these, and the user is no author of it
abbrev pub TiesFit : TiesState → Entry → Type 0
TiesFit ties (Submitted paper title abstract) = IsTrue (are_before paper ties.authors)
TiesFit ties (Coauthor paper user) =
    IsTrue (are_up_to paper ties.authors) × IsFalse (has_pair (pair_of paper user) ties.authors)
TiesFit ties _ = Unit {0}
