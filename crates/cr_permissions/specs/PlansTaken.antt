-- SPDX-License-Identifier: Apache-2.0 OR MIT
-- That a plan is accepted as a bulk with a row for each of its pairs, if the user who was told it sends it before
-- anything else happens.
use Rattle.std.specs.Prelude.{ℕ, List, [], map, decimal, codes, Option, Some, IsOk, ◌≡◌}
use Rattle.cr_base.specs.declared.bulk.BulkRow.{BulkRow}
use Rattle.cr_base.specs.declared.retry.RetryKey.{RetryKey}
use Rattle.cr_base.specs.Answering.{plan_asked}
use Rattle.cr_base.specs.Calls.{bulk_by}
use Rattle.cr_base.specs.Checks.{judged}
use Rattle.cr_base.specs.History.{History}
use Rattle.cr_base.specs.Keys.{IsKeyOrNone}
use Rattle.cr_base.specs.Moments.{IsMoment}
use Rattle.cr_base.specs.Plans.{PlanPair, best_plan}
use Rattle.cr_history.specs.Invariants.{IsRegistered}
use Rattle.cr_policy.specs.Judge.{judge_bulk}
use Rattle.cr_policy.specs.Legal.{Legal}
use Rattle.cr_policy.specs.View.{view}
use Rattle.cr_policy.specs.ViewFacts.{facts_in_view, shown_in_view}
use Rattle.cr_policy.specs.Sentences.{a_row}

-- the row that assigns a pair
abbrev pub row_of_pair : PlanPair → BulkRow
row_of_pair pair = a_row (decimal pair.paper) (codes "pcreview") pair.member.name []

-- PlansTaken: on a legal history, the best plan of a user who has registered and may ask for it is accepted as a bulk
-- of this user's, at every timestamp, with a number or without
abbrev pub PlansTaken : Type 0
PlansTaken =
    (user at : ℕ) (key : Option RetryKey) (H : History) (per_paper load : ℕ) (plan : List PlanPair) → Legal H
    → IsRegistered H user → IsMoment at → IsKeyOrNone key
    → IsOk
    (judged (plan_asked (facts_in_view (Some user) (view (Some user) H))
    (shown_in_view (Some user) (view (Some user) H)) per_paper) (tt {0}))
    → best_plan (facts_in_view (Some user) (view (Some user) H)) (shown_in_view (Some user) (view (Some user) H))
    per_paper load ≡ Some plan
    → IsOk (judge_bulk (view (Some user) H) (bulk_by user at key (map row_of_pair plan)))
