-- SPDX-License-Identifier: Apache-2.0 OR MIT
-- Where the tables tell what a history tells, the plan told to one who may have it is by her view what it is by the
-- tables.
use Rattle.std.proofs.Common.{ℕ, Bool, true, false, ◌≡◌, ◌+◌, ◌==◌, List, [], ◌∷◌, length, ◌||◌, ◌&&◌, refl, ap, ◌∙◌}
use Rattle.std.proofs.Common.{arith, Option, Some, None}
use Rattle.std.specs.Prelude.{map, filter, find, not, nat_le, is_some}
use Rattle.std.specs.List.{flat_map, list_any}
use Rattle.std.specs.Option.{option_map_or}
use Rattle.std.proofs.lemmas.Bool.{and_parts, not-false, and_from}
use Rattle.cr_base.specs.declared.reply.AccountLine.{AccountLine}
use Rattle.cr_base.specs.declared.reply.Reply.{Reply}
use Rattle.cr_base.specs.declared.reply.Rule.TheVariants as rules
use Rattle.cr_base.specs.declared.standing.Standing.{Standing}
use Rattle.cr_base.specs.declared.words.Phase.TheVariants.{Bidding, Notification}
use Rattle.cr_base.specs.declared.words.Role.{Role}
use Rattle.cr_base.specs.declared.words.Role.TheVariants.{Account, Member, Chair}
use Rattle.cr_base.specs.Answering.{plan_asked}
use Rattle.cr_base.specs.Checks.{Check, ◌breaks◌, judged}
use Rattle.cr_base.specs.History.{History, BidTold}
use Rattle.cr_base.specs.Lists.{is_number}
use Rattle.cr_base.specs.Page.{gets_bids, gets_conflicts, is_clear_chair}
use Rattle.cr_base.specs.Phases.{is_from, committee_works, members_see_papers}
use Rattle.cr_base.specs.Plans.{has_labels_for, planned_papers, planned_members, pairs_of_paper, planned_pairs, choices}
use Rattle.cr_base.specs.Plans.{is_plan, first_greatest, best_plan, is_too_large, plan_reply}
use Rattle.cr_base.specs.Reports.{open_papers}
use Rattle.cr_base.specs.Sources.{Facts, Shown, facts_of_tables, shown_in_tables}
use Rattle.cr_base.specs.Tables.{tables_of}
use Rattle.cr_base.specs.Words.{is_member, is_chair, no_bid}
use Rattle.cr_base.proofs.CheckLaws.{judged-behind}
use Rattle.cr_history.specs.Laws.{AreTold, AreFormsTold}
use Rattle.cr_history.proofs.ListCuts.{AllByRecursion-filter}
use Rattle.cr_policy.specs.View.{view}
use Rattle.cr_policy.specs.ViewFacts.{shown_in_view}
use Rattle.cr_policy.proofs.FactAgreement.{authors-tables, seat-tables, labels-tables}
use Rattle.cr_policy.proofs.ReportAgreement.{IsClear, clear_chair, filter-same, flat_map-same, open-clear, open-same}

-- a chair is a member
chair-serves : (role : Role) → is_chair role ≡ true → is_member role ≡ true
chair-serves Account h = h
chair-serves Member h = refl
chair-serves Chair h = refl

module _ (u : Option ℕ) (H : History) (told : AreTold H) (forms : AreFormsTold H) where
  abbrev facts : Facts
  facts = facts_of_tables (tables_of H) u

  abbrev shown : Shown
  shown = shown_in_view u (view u H)

  abbrev tabled : Shown
  tabled = shown_in_tables (tables_of H)

  abbrev to : ℕ → Standing
  to p = facts.standing (Some p)

  abbrev here : Standing
  here = facts.standing None

  abbrev Clear : ℕ → Type 0
  Clear p = IsClear u H told forms p

  -- the conflicts and the bids of a paper are the same, where she is told them
  module _ (conflicts : (p : ℕ) → gets_conflicts (to p) ≡ true → shown.conflicts p ≡ tabled.conflicts p)
      (bids : (p : ℕ) → gets_bids (to p) ≡ true → shown.bids p ≡ tabled.bids p) where
    module _ (serves : is_chair here.role ≡ true) (begun : members_see_papers here.phase ≡ true) where
      -- what a chair in no conflict with a paper is told of it
      told-clear : (p : ℕ) → Clear p → gets_conflicts (to p) ≡ true
      told-clear p clear = and_from (is_clear_chair (to p)) (members_see_papers here.phase)
          (clear_chair u H told forms serves begun p clear) begun

      authors-same : (p : ℕ) → Clear p → shown.authors p ≡ tabled.authors p
      authors-same p clear =
          authors-tables u H told p
          (named (to p).author (is_clear_chair (to p)) (members_see_papers here.phase) _ (facts.accepted p)
          (clear_chair u H told forms serves begun p clear) begun)
        where
          named : (a k b m accepted : Bool) → k ≡ true → b ≡ true → (a || (k && b) || m || accepted) ≡ true
          named a k b m accepted hk hb = grind arith

      pub papers-same : (per_paper : ℕ) → planned_papers facts shown per_paper ≡ planned_papers facts tabled per_paper
      papers-same per_paper =
          ap (filter (has_labels_for shown per_paper)) (open-same u H told forms (chair-serves here.role serves) begun)
          ∙ filter-same Clear (has_labels_for shown per_paper) (has_labels_for tabled per_paper)
          (λ p clear. ap (λ (n : ℕ). nat_le (n + per_paper) 26) (labels-tables u H told p (told-clear p clear)))
          (open_papers facts tabled) (open-clear u H told forms)

      pairs-of : (p : ℕ) → Clear p → pairs_of_paper facts shown p ≡ pairs_of_paper facts tabled p
      pairs-of p clear =
          let may = told-clear p clear in
          let wrote = authors-same p clear in
          let declared = conflicts p may in
          let reviews = seat-tables u H told p may in
          let told_bids = bids p may in
          λ i.
          map
          (λ (a : AccountLine). record {
            paper = p;
            member = a;
            bid = option_map_or (λ (bid : BidTold). bid.value)
                (find (λ (bid : BidTold). bid.user == a.user) (told_bids i)) no_bid;
          })
          (filter
          (λ (a : AccountLine). not (list_any (is_number (Some a.user)) (wrote i))
          && not (list_any (is_number (Some a.user)) (declared i))
          && not (is_some (reviews (Some a.user) i)))
          (planned_members facts))

      pairs-same : (per_paper : ℕ) → planned_pairs facts shown per_paper ≡ planned_pairs facts tabled per_paper
      pairs-same per_paper =
          ap (flat_map (pairs_of_paper facts shown)) (papers-same per_paper)
          ∙ flat_map-same Clear (pairs_of_paper facts shown) (pairs_of_paper facts tabled) pairs-of
          (planned_papers facts tabled per_paper)
          (AllByRecursion-filter Clear (has_labels_for tabled per_paper) (open_papers facts tabled)
          (open-clear u H told forms))

      pub best-same : (per_paper load : ℕ) → best_plan facts shown per_paper load ≡ best_plan facts tabled per_paper
          load
      best-same per_paper load =
          let papers = papers-same per_paper in
          let pairs = pairs-same per_paper in
          λ i. first_greatest (filter (is_plan (papers i) (planned_members facts) per_paper load) (choices (pairs i)))

    begun-by : (b n : Bool) → not (b && n) ≡ false → b ≡ true
    begun-by b n h = (and_parts b n (not-false (b && n) h)).0

    -- so is the answer: what is planned is read only where she may have a plan
    pub plan-tables : (per_paper load : ℕ)
        → judged (plan_asked facts shown per_paper) (plan_reply (best_plan facts shown per_paper load))
        ≡ judged (plan_asked facts tabled per_paper) (plan_reply (best_plan facts tabled per_paper load))
    plan-tables per_paper load =
        judged-behind before (behind (count shown)) (behind (count tabled)) (reply shown) (reply tabled)
        (λ none.
        let serves = not-false (is_chair here.role) none.0 in
        let begun = begun-by (is_from Bidding here.phase) (not (is_from Notification here.phase)) none.1.0 in
        let papers = papers-same serves begun per_paper in
        let plan = best-same serves begun per_paper load in
        λ i. judged (behind (length (papers i))) (plan_reply (plan i)))
      where
        before : List Check
        before =
            not (is_chair here.role) breaks rules.NotChair ∷ not (committee_works here.phase) breaks rules.WrongPhase
            ∷ []

        behind : ℕ → List Check
        behind papers = is_too_large per_paper papers (length (planned_members facts)) breaks rules.PlanTooLarge ∷ []

        count : Shown → ℕ
        count from = length (planned_papers facts from per_paper)

        reply : Shown → Reply
        reply from = plan_reply (best_plan facts from per_paper load)
