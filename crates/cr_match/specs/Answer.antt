-- SPDX-License-Identifier: Apache-2.0 OR MIT
-- What is asked of the search for plans, and what answers it: a greatest plan, or papers that show that there is
-- none.
use Rattle.std.specs.Prelude.{◌≡◌, ◌≢◌, ℕ, ◌*◌, ◌<◌, ◌≤◌, ◌⊎◌}
use Rattle.std.specs.Prelude.{Bool, List, [], ◌∷◌, length, ℤ, pos, negsuc, ◌≤ℤ◌}
use Rattle.cr_match.specs.declared.problem.Pair.{Pair}
use Rattle.cr_match.specs.declared.problem.Problem.{Problem}
use Rattle.cr_match.specs.declared.problem.Prices.{Prices}
use Rattle.cr_match.specs.declared.problem.Solved.{Solved}
use Rattle.cr_match.specs.declared.problem.Solved.TheVariants.{Best, NoPlan, OutOfMemory}
use Rattle.cr_match.specs.Plan.{kept, IsPlan, total_weight, bound, IsTooMuch}

-- every pair joins a paper and a member of the problem, and weighs -20 to 20
abbrev pub AreInside : ℕ → ℕ → List Pair → Type 0
AreInside papers members [] = Unit {0}
AreInside papers members (e ∷ es) = (e.paper < papers) × (e.member < members) × (negsuc 19 ≤ℤ e.weight)
    × (e.weight ≤ℤ pos 20) × AreInside papers members es

-- `f` comes after `e`, by paper, then member
abbrev pub ComesAfter : Pair → Pair → Type 0
ComesAfter e f = (e.paper < f.paper) ⊎ ((e.paper ≡ f.paper) × (e.member < f.member))

-- each pair comes after the one before it, the first after `e`
abbrev pub Ascends : Pair → List Pair → Type 0
Ascends e [] = Unit {0}
Ascends e (f ∷ fs) = ComesAfter e f × Ascends f fs

abbrev pub IsAscending : List Pair → Type 0
IsAscending [] = Unit {0}
IsAscending (e ∷ es) = Ascends e es

-- no pair of the same paper and member
abbrev pub IsApart : Pair → List Pair → Type 0
IsApart e [] = Unit {0}
IsApart e (f ∷ fs) = ((f.paper ≢ e.paper) ⊎ (f.member ≢ e.member)) × IsApart e fs

-- no pair stands twice
abbrev pub AreDistinct : List Pair → Type 0
AreDistinct [] = Unit {0}
AreDistinct (e ∷ es) = IsApart e es × AreDistinct es

-- what may be asked: at most 512 places, 4,096 pairs of a paper and a member, and 10,000 papers or members; no pair
-- twice
pub record IsAsked (papers members per_paper : ℕ) (pairs : List Pair) : Type 0 where
  pub places : per_paper * papers ≤ 512
  pub grid : papers * members ≤ 4096
  pub sides : (papers ≤ 10000) × (members ≤ 10000) × (per_paper ≤ 512)
  pub few : length pairs ≤ 4096
  pub inside : AreInside papers members pairs
  pub distinct : AreDistinct pairs

abbrev pub IsProblem : Problem → Type 0
IsProblem problem = IsAsked problem.papers problem.members problem.per_paper problem.pairs.items

-- some of the pairs, with as many members for each paper as it needs, and no more papers
-- for a member than she may have
pub record IsPlanOf (problem : Problem) (plan : List Pair) : Type 0 where
  pub marks : List Bool
  pub some : plan ≡ kept marks problem.pairs.items
  pub fits : IsPlan problem.papers problem.per_paper problem.load plan

-- a plan, its sum, and the prices that say that no plan has a greater sum
pub record IsGreatest (problem : Problem) (pairs : List Pair) (sum : ℤ) (prices : Prices) : Type 0 where
  pub plan : IsPlanOf problem pairs
  pub sum_is : sum ≡ total_weight pairs
  pub greatest : (other : List Pair) → IsPlanOf problem other → total_weight other ≤ℤ sum
  pub papers : length prices.papers.items ≡ problem.papers
  pub members : length prices.members.items ≡ problem.members
  pub says : sum ≡ bound problem.per_paper problem.load prices.papers.items prices.members.items problem.pairs.items

-- papers for which the members have too little room, so that there is no plan
pub record HasNoPlan (problem : Problem) (papers : List ℕ) : Type 0 where
  pub too_much : IsTooMuch problem.papers problem.members problem.per_paper problem.load papers problem.pairs.items
  pub none : (other : List Pair) → IsPlanOf problem other → ⊥

-- what answers a problem
abbrev pub IsSolved : Problem → Solved → Type 0
IsSolved problem (Best pairs sum prices) = IsGreatest problem pairs.items sum prices
IsSolved problem (NoPlan papers) = HasNoPlan problem papers.items
IsSolved problem OutOfMemory = Unit {0}

-- two lists of pairs in dictionary order, each pair by paper, then member
abbrev pub IsBefore : List Pair → List Pair → Type 0
IsBefore [] [] = ⊥
IsBefore [] (f ∷ fs) = Unit {0}
IsBefore (e ∷ es) [] = ⊥
IsBefore (e ∷ es) (f ∷ fs) =
    ComesAfter e f ⊎ ((e.paper ≡ f.paper) × (e.member ≡ f.member) × IsBefore es fs)

-- every other plan that weighs as much comes after this one
abbrev pub IsFirst : Problem → List Pair → Type 0
IsFirst problem pairs = (other : List Pair) → IsPlanOf problem other → total_weight other ≡ total_weight pairs
    → (other ≡ pairs) ⊎ IsBefore pairs other

-- the plan of the greatest sum is the first in order of these
abbrev pub IsFirstSolved : Problem → Solved → Type 0
IsFirstSolved problem (Best pairs sum prices) = IsGreatest problem pairs.items sum prices × IsFirst problem pairs.items
IsFirstSolved problem (NoPlan papers) = HasNoPlan problem papers.items
IsFirstSolved problem OutOfMemory = Unit {0}
