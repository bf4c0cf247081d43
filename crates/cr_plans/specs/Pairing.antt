-- SPDX-License-Identifier: Apache-2.0 OR MIT
-- From what is planned to a problem of `cr_match`: papers and members by their places in these lists, from 0, and bids
-- as weights.
use Rattle.std.specs.Prelude.{◌≡◌, ℕ, ◌+◌, List, [], ◌∷◌, ◌++◌, length, pos, negsuc, ◌-ℤ◌, ◌≤ℤ◌, ℤ, Option}
use Rattle.std.specs.Prelude.{slice_index, slice_index_or, if◌then◌else◌, Result, Ok}
use Rattle.std.specs.Option.{option_map}
use Rattle.cr_base.specs.declared.reply.AccountLine.{AccountLine}
use Rattle.cr_base.specs.declared.reply.Rule.{Rule}
use Rattle.cr_base.specs.declared.words.Role.TheVariants.{Account}
use Rattle.cr_base.specs.Answering.{plan_asked}
use Rattle.cr_base.specs.Checks.{judged}
use Rattle.cr_base.specs.Plans.{best_plan, bid_by, is_free_for, plan_row, plan_text}
use Rattle.cr_base.specs.Sources.{facts_of_tables, shown_in_tables}
use Rattle.cr_base.specs.Tables.{Tables}
use Rattle.cr_match.specs.declared.problem.Pair.{Pair}
use Rattle.cr_match.specs.declared.problem.Problem.{Problem}
use Rattle.cr_match.specs.Answer.{IsProblem}

-- ---- the problem

-- a bid, kept plus 20, as a weight
abbrev pub weight_of : ℕ → ℤ
weight_of bid = pos bid -ℤ pos 20

-- the pair of a paper and a user at these places, where she may be assigned to it
abbrev pub pair_at : Tables → ℕ → ℕ → ℕ → ℕ → List Pair
pair_at t i p j user =
    let shown = shown_in_tables t in
    if is_free_for shown p user then record { paper = i; member = j; weight = weight_of (bid_by shown p user) } ∷ []
    else []

-- those of the paper at a place, with the members from a place on
abbrev pub pairs_of_place : Tables → ℕ → ℕ → ℕ → List AccountLine → List Pair
pairs_of_place t i p j [] = []
pairs_of_place t i p j (a ∷ members) = pair_at t i p j a.user ++ pairs_of_place t i p (j + 1) members

-- those of the papers from a place on
abbrev pub pairs_at : Tables → ℕ → List ℕ → List AccountLine → List Pair
pairs_at t i [] members = []
pairs_at t i (p ∷ papers) members = pairs_of_place t i p 0 members ++ pairs_at t (i + 1) papers members

-- it may be asked, and is that of these papers and members
pub record IsProblemOf (t : Tables) (papers : List ℕ) (members : List AccountLine) (per_paper load : ℕ)
    (problem : Problem) : Type 0 where
  pub asked : IsProblem problem
  pub papers_are : problem.papers ≡ length papers
  pub members_are : problem.members ≡ length members
  pub places : problem.per_paper ≡ per_paper
  pub load_is : problem.load ≡ load
  pub pairs_are : problem.pairs.items ≡ pairs_at t 0 papers members

-- each weighs -20 to 20
abbrev pub AllWeigh : List Pair → Type 0
AllWeigh [] = Unit {0}
AllWeigh (e ∷ es) = (negsuc 19 ≤ℤ e.weight) × (e.weight ≤ℤ pos 20) × AllWeigh es

-- ---- what is told

-- a place that no member has
abbrev pub no_line : AccountLine
no_line = record { user = 0; name = []; role = Account }

-- the row of a pair of places over these papers and members
abbrev pub row_at : List ℕ → List AccountLine → Pair → List ℕ
row_at papers members e = plan_row (slice_index papers e.paper) (slice_index_or members e.member no_line).name

-- the caller may ask for a plan
abbrev pub MayPlan : Tables → Option ℕ → ℕ → Type 0
MayPlan t user per_paper =
    ◌≡◌ {A = Result (Unit {0}) Rule} (Ok tt)
    (judged (plan_asked (facts_of_tables t user) (shown_in_tables t) per_paper) tt)

-- the text of the best plan, where there is one
abbrev pub plan_due : Tables → Option ℕ → ℕ → ℕ → Option (List ℕ)
plan_due t user per_paper load =
    option_map plan_text (best_plan (facts_of_tables t user) (shown_in_tables t) per_paper load)
