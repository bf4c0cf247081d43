-- SPDX-License-Identifier: Apache-2.0 OR MIT
-- How the table of ties keeps authors by paper and by user.
use Rattle.std.specs.Prelude.{ℕ, ◌≡◌, Bool, ◌&&◌, [], ◌∷◌, ◌++◌, nat_le, not}
use Rattle.std.specs.List.{list_all}
use Rattle.cr_base.specs.declared.pairs.Order.{Order}
use Rattle.cr_base.specs.declared.pairs.Order.TheVariants.{ByPaper, ByUser}
use Rattle.cr_base.specs.declared.pairs.Pair.{Pair}
use Rattle.cr_base.specs.declared.pairs.Tie.{Tie}
use Rattle.cr_base.specs.Pairs.{same_pair, IsSortedBy, IsAscending, has_pair}
use Rattle.cr_base.specs.Ties.{BareTies, TiesState, bare_tie}

-- the paper's number is no less, and it is another pair
abbrev pub is_told_before : Pair → Pair → Bool
is_told_before p q = nat_le p.paper q.paper && not (same_pair p q)

-- all of the ties were told before the pair
abbrev pub all_before : Pair → BareTies → Bool
all_before p ties = list_all (λ (t : Tie (Unit {0})). is_told_before t.pair p) ties

-- the ties with one author more, behind the others
abbrev pub with_author : ℕ → ℕ → TiesState → TiesState
with_author paper user ties = record ties { authors = ties.authors ++ bare_tie paper user ∷ [] }

-- authors were told paper by paper, none of them twice; by user there are the same, in ascending order; and whom
-- authors named is in the order of papers, as the bids are
pub record AuthorsIndexed (authors : BareTies) (users : Order) (authored : BareTies)
    (declared bids : Order) : Type 0 where
  pub told : IsSortedBy is_told_before authors
  pub by_user : users ≡ ByUser
  pub ascending : IsAscending ByUser authored
  pub same : (q : Pair) → has_pair q authored ≡ has_pair q authors
  pub declared_by_paper : declared ≡ ByPaper
  pub bids_by_paper : bids ≡ ByPaper
