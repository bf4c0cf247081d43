-- SPDX-License-Identifier: Apache-2.0 OR MIT
-- What the program makes of what is planned, and of what answers its problem, is what is due.
use Rattle.std.proofs.Common.{ℕ, false, ◌≡◌, ◌≤◌, ◌+◌, ◌*◌, ◌||◌, zero, suc, List, [], ◌∷◌, ◌++◌, length, map, refl}
use Rattle.std.proofs.Common.{sym, ap, subst, ◌∙◌, arith, Option, Some, None, ℤ, suc-mul}
use Rattle.std.specs.Prelude.{filter, nat_lt}
use Rattle.std.specs.List.{flat_map}
use Rattle.std.specs.Option.{option_map}
use Rattle.std.proofs.lemmas.Bool.Decides.{nat_tests}
use Rattle.cr_base.specs.declared.reply.AccountLine.{AccountLine}
use Rattle.cr_base.specs.Lists.{IsRising}
use Rattle.cr_base.specs.Plans.{PlanPair, best_plan, choices, first_greatest, is_plan, pair_row, pairs_of_paper}
use Rattle.cr_base.specs.Plans.{plan_header, plan_text, planned_members, planned_pairs, planned_papers}
use Rattle.cr_base.specs.Sources.{Facts, Shown, facts_of_tables, shown_in_tables}
use Rattle.cr_base.specs.Tables.{Tables}
use Rattle.cr_base.specs.Words.{is_member}
use Rattle.cr_base.specs.Answering.{plan_asked}
use Rattle.cr_base.proofs.CheckLaws.{judged-Ok}
use Rattle.cr_base.proofs.PlanLaws.{papers-rise, users, users-rise}
use Rattle.cr_match.specs.declared.problem.Pair.{Pair}
use Rattle.cr_match.specs.declared.problem.Problem.{Problem}
use Rattle.cr_match.specs.declared.problem.Prices.{Prices}
use Rattle.cr_match.specs.Answer.{AreInside, HasNoPlan, IsFirst, IsGreatest}
use Rattle.cr_plans.specs.Pairing.{IsProblemOf, MayPlan, pairs_at, plan_due, row_at}
use Rattle.cr_plans.proofs.Problems.{problem-ascends, told, told-all}
use Rattle.cr_plans.proofs.Solutions.{best-is, none-is, inside-kept-all}

-- ---- what may be asked for

pub may-fit : (t : Tables) (user : Option ℕ) (per_paper : ℕ) → MayPlan t user per_paper
    → let papers = length (planned_papers (facts_of_tables t user) (shown_in_tables t) per_paper) in
    (per_paper * papers ≤ 512) × (papers * length (planned_members (facts_of_tables t user)) ≤ 4096)
may-fit t user per_paper may =
    let papers : ℕ = length (planned_papers (facts_of_tables t user) (shown_in_tables t) per_paper) in
    let members : ℕ = length (planned_members (facts_of_tables t user)) in
    let none = judged-Ok (plan_asked (facts_of_tables t user) (shown_in_tables t) per_paper) tt tt (sym may) in (
      first (per_paper * papers) (papers * members) none.0.1.1.0,
      second (per_paper * papers) (papers * members) none.0.1.1.0,
    )
  where
    first : (x y : ℕ) → (nat_lt 512 x || nat_lt 4096 y) ≡ false → x ≤ 512
    first x y h = grind (arith, nat_tests)

    second : (x y : ℕ) → (nat_lt 512 x || nat_lt 4096 y) ≡ false → y ≤ 4096
    second x y h = grind (arith, nat_tests)

pub few-papers : (k n : ℕ) → 1 ≤ k → k * n ≤ 512 → n ≤ 9999
few-papers zero n some h = absurd (omega (arith, some))
few-papers (suc k) n some h = let e : suc k * n ≡ k * n + n = suc-mul k n in omega (arith, e, h)

-- ---- the text

rows-told : (papers : List ℕ) (members : List AccountLine) (pairs : List Pair)
    → flat_map pair_row (map (told papers members) pairs) ≡ flat_map (row_at papers members) pairs
rows-told papers members [] = refl
rows-told papers members (e ∷ es) = ap (λ (l : List ℕ). row_at papers members e ++ l) (rows-told papers members es)

module _ (t : Tables) (user : Option ℕ) (per_paper load : ℕ) (papers : List ℕ) (members : List AccountLine)
    (problem : Problem)
    (papers_are : papers ≡ planned_papers (facts_of_tables t user) (shown_in_tables t) per_paper)
    (members_are : members ≡ planned_members (facts_of_tables t user))
    (of : IsProblemOf t papers members per_paper load problem) where
  abbrev facts : Facts
  facts = facts_of_tables t user

  abbrev shown : Shown
  shown = shown_in_tables t

  abbrev least : List ℕ → List AccountLine → ℕ → ℕ → List PlanPair → Option (List PlanPair)
  least ps ms k l pairs = first_greatest (filter (is_plan ps ms k l) (choices pairs))

  rising : IsRising papers
  rising = subst (λ (ps : List ℕ). IsRising ps) (sym papers_are) (papers-rise t user per_paper)

  rising_users : IsRising (users members)
  rising_users = subst (λ (ms : List AccountLine). IsRising (users ms)) (sym members_are)
      (users-rise (λ (a : AccountLine). is_member a.role) 1 t.accounts)

  -- the pairs of places stand for the pairs that are planned
  pairs-told : map (told papers members) problem.pairs.items ≡ planned_pairs facts shown per_paper
  pairs-told =
      ap (map (told papers members)) of.pairs_are
      ∙ ap (λ (ms : List AccountLine). map (told papers ms) (pairs_at t 0 papers ms)) members_are
      ∙ told-all t user papers
      ∙ ap (λ (ps : List ℕ). flat_map (pairs_of_paper facts shown) ps) papers_are

  same : least papers members problem.per_paper problem.load (map (told papers members) problem.pairs.items)
      ≡ best_plan facts shown per_paper load
  same = λ i. least (papers_are i) (members_are i) (of.places i) (of.load_is i) (pairs-told i)

  pub due-best : (pairs : List Pair) (sum : ℤ) (prices : Prices) → IsGreatest problem pairs sum prices
      → IsFirst problem pairs
      → Some (plan_header ++ flat_map (row_at papers members) pairs) ≡ plan_due t user per_paper load
  due-best pairs sum prices greatest first =
      let best = sym same ∙ best-is problem papers members of.asked of.papers_are of.members_are rising rising_users
      pairs sum prices greatest first (problem-ascends t papers members per_paper load problem of) in
      ap (λ (rows : List ℕ). Some (plan_header ++ rows)) (sym (rows-told papers members pairs))
      ∙ sym (ap (option_map plan_text) best)

  pub due-none : (s : List ℕ) → HasNoPlan problem s → None ≡ plan_due t user per_paper load
  due-none s lacks =
      sym
      (ap (option_map plan_text) (sym same ∙ none-is problem papers members of.asked of.papers_are of.members_are
      rising rising_users s lacks))

  -- the pairs that are told stand for papers and members that are there
  pub due-inside : (pairs : List Pair) (sum : ℤ) (prices : Prices) → IsGreatest problem pairs sum prices
      → AreInside (length papers) (length members) pairs
  due-inside pairs sum prices greatest =
      subst (λ (n : ℕ). AreInside n (length members) pairs) of.papers_are
      (subst (λ (n : ℕ). AreInside problem.papers n pairs) of.members_are
      (subst (λ (es : List Pair). AreInside problem.papers problem.members es) (sym greatest.plan.some)
      (inside-kept-all problem.papers problem.members greatest.plan.marks problem.pairs.items of.asked.inside)))
