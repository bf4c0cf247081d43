-- SPDX-License-Identifier: Apache-2.0 OR MIT
-- Plans of assignments: this many more members for each paper and at most this many papers for each member, by what
-- they bid (paper assignment by preferences, as HotCRP's manual has it; which papers and members, and the text, are the
-- server's own). The plan that is told is defined as the best of all plans; the program doesn't make them all.
use Rattle.std.specs.Prelude.{ℕ, Bool, not, ◌||◌, ◌&&◌, ◌+◌, ◌*◌, ◌==◌, nat_le, nat_lt, List, [], ◌∷◌, ◌++◌}
use Rattle.std.specs.Prelude.{map, filter, find, count_by, decimal, codes, Option, Some, None, is_some, if◌then◌else◌}
use Rattle.std.specs.List.{flat_map, list_all, list_any}
use Rattle.std.specs.Option.{option_map_or}
use Rattle.cr_base.specs.declared.reply.AccountLine.{AccountLine}
use Rattle.cr_base.specs.declared.reply.Reply.{Reply}
use Rattle.cr_base.specs.declared.reply.Reply.TheVariants as replies
use Rattle.cr_base.specs.declared.reply.Rule.TheVariants as rules
use Rattle.cr_base.specs.declared.standing.Standing.{Standing}
use Rattle.cr_base.specs.Checks.{Check, ◌breaks◌}
use Rattle.cr_base.specs.History.{BidTold}
use Rattle.cr_base.specs.Lists.{is_number, total}
use Rattle.cr_base.specs.Phases.{committee_works}
use Rattle.cr_base.specs.Reports.{open_papers}
use Rattle.cr_base.specs.Sources.{Facts, Shown}
use Rattle.cr_base.specs.Words.{is_member, is_chair, no_bid}

-- ---- what is planned

-- the paper has labels left for this many more reviewers
abbrev pub has_labels_for : Shown → ℕ → ℕ → Bool
has_labels_for shown per_paper p = nat_le (shown.labels p + per_paper) 26

-- the papers, by number: those that the caller is in no conflict with, that aren't withdrawn and have labels left
abbrev pub planned_papers : Facts → Shown → ℕ → List ℕ
planned_papers facts shown per_paper = filter (has_labels_for shown per_paper) (open_papers facts shown)

-- the members, chairs among them, by user number
abbrev pub planned_members : Facts → List AccountLine
planned_members facts = filter (λ (a : AccountLine). is_member a.role) facts.accounts

-- the user may be assigned to the paper: is no author of it, isn't declared in conflict with it, and doesn't review it
abbrev pub is_free_for : Shown → ℕ → ℕ → Bool
is_free_for shown p user =
    not (list_any (is_number (Some user)) (shown.authors p))
    && not (list_any (is_number (Some user)) (shown.conflicts p))
    && not (is_some (shown.ordinal (Some user) p))

-- the user's last bid on the paper, kept plus 20; 20, which is bid 0, if there is none
abbrev pub bid_by : Shown → ℕ → ℕ → ℕ
bid_by shown p user =
    option_map_or (λ (bid : BidTold). bid.value) (find (λ (bid : BidTold). bid.user == user) (shown.bids p)) no_bid

-- a paper, a member who may be assigned to it, and the member's bid
pub record PlanPair : Type 0 where
  pub paper : ℕ
  pub member : AccountLine
  pub bid : ℕ

-- the pairs of this paper and a member who may be assigned to it, by user number
abbrev pub pairs_of_paper : Facts → Shown → ℕ → List PlanPair
pairs_of_paper facts shown p =
    map (λ (a : AccountLine). record { paper = p; member = a; bid = bid_by shown p a.user })
    (filter (λ (a : AccountLine). is_free_for shown p a.user) (planned_members facts))

-- all pairs of a paper that is planned and a member who may be assigned to it, by paper, then member
abbrev pub planned_pairs : Facts → Shown → ℕ → List PlanPair
planned_pairs facts shown per_paper = flat_map (pairs_of_paper facts shown) (planned_papers facts shown per_paper)

-- ---- which plans there are

-- all choices among these, in dictionary order: those with the first before those without it. (A choice that is the
-- beginning of another comes after it; but no plan is the beginning of another, since all have equally many pairs.)
abbrev pub choices : {A : Type 0} → List A → List (List A)
choices [] = [] ∷ []
choices (x ∷ xs) = map (λ chosen. x ∷ chosen) (choices xs) ++ choices xs

-- the pair is of this paper
abbrev pub is_of_paper : ℕ → PlanPair → Bool
is_of_paper p pair = pair.paper == p

-- the pair is of this member
abbrev pub is_of_member : ℕ → PlanPair → Bool
is_of_member user pair = pair.member.user == user

-- each of the papers has so many members, and none of the members more than so many papers
abbrev pub is_plan : List ℕ → List AccountLine → ℕ → ℕ → List PlanPair → Bool
is_plan papers members per_paper load chosen =
    list_all (λ (p : ℕ). count_by (is_of_paper p) chosen == per_paper) papers
    && list_all (λ (a : AccountLine). nat_le (count_by (is_of_member a.user) chosen) load) members

-- all plans, in dictionary order
abbrev pub plans : Facts → Shown → ℕ → ℕ → List (List PlanPair)
plans facts shown per_paper load =
    filter (is_plan (planned_papers facts shown per_paper) (planned_members facts) per_paper load)
    (choices (planned_pairs facts shown per_paper))

-- ---- the one told

-- the sum of a plan's bids, each kept plus 20. Two plans have equally many pairs, so the sum is greater if and only if
-- the sum of their bids is.
abbrev pub bid_sum : List PlanPair → ℕ
bid_sum plan = total (map (λ (pair : PlanPair). pair.bid) plan)

-- the plan, unless a later one has a greater sum
abbrev pub or_greater : List PlanPair → Option (List PlanPair) → List PlanPair
or_greater plan None = plan
or_greater plan (Some later) = if nat_lt (bid_sum plan) (bid_sum later) then later else plan

-- of these the first one of the greatest sum, if there are any
abbrev pub first_greatest : List (List PlanPair) → Option (List PlanPair)
first_greatest [] = None
first_greatest (plan ∷ rest) = Some (or_greater plan (first_greatest rest))

-- of all plans the first one of the greatest sum
abbrev pub best_plan : Facts → Shown → ℕ → ℕ → Option (List PlanPair)
best_plan facts shown per_paper load = first_greatest (plans facts shown per_paper load)

-- ---- the rules

-- there are more places than 512, or more than 4,096 papers times members
abbrev pub is_too_large : ℕ → ℕ → ℕ → Bool
is_too_large per_paper papers members = nat_lt 512 (per_paper * papers) || nat_lt 4096 (papers * members)

-- the rules of asking for a plan, except that there is none: only chairs ask, from the bidding to the discussion, and
-- it isn't too large
abbrev pub plan_checks : Standing → Bool → List Check
plan_checks by too_large =
    not (is_chair by.role) breaks rules.NotChair
    ∷ not (committee_works by.phase) breaks rules.WrongPhase
    ∷ too_large breaks rules.PlanTooLarge
    ∷ []

-- ---- what is told

-- the header of a bulk's file, and the row that assigns a pair
unfoldable pub plan_header : List ℕ
plan_header = codes "paper,action,user,tag\n"

-- a row of a bulk that assigns this member to the paper
unfoldable pub plan_row : ℕ → List ℕ → List ℕ
plan_row p name = decimal p ++ codes ",pcreview," ++ name ++ codes ",\n"

-- a row of a bulk that assigns the pair
abbrev pub pair_row : PlanPair → List ℕ
pair_row pair = plan_row pair.paper pair.member.name

-- the text of a plan
abbrev pub plan_text : List PlanPair → List ℕ
plan_text plan = plan_header ++ flat_map pair_row plan

-- it, or that there is no plan
abbrev pub plan_reply : Option (List PlanPair) → Reply
plan_reply None = replies.Refused rules.NoPlan
plan_reply (Some plan) = replies.Report (plan_text plan)
