-- SPDX-License-Identifier: Apache-2.0 OR MIT
-- That the text of a plan is accepted as a bulk, if the user who was told it posts it before anything else happens.
use Rattle.std.specs.Prelude.{ℕ, List, Option, None, Some, IsOk, ◌≡◌}
use Rattle.cr_base.specs.declared.bulk.BulkRow.{BulkRow}
use Rattle.cr_base.specs.declared.command.Query.TheVariants as queries
use Rattle.cr_base.specs.declared.reply.Reply.TheVariants as replies
use Rattle.cr_base.specs.declared.retry.RetryKey.{RetryKey}
use Rattle.cr_base.specs.Calls.{bulk_by}
use Rattle.cr_base.specs.History.{History}
use Rattle.cr_base.specs.Keys.{IsKeyOrNone}
use Rattle.cr_base.specs.Moments.{IsMoment}
use Rattle.cr_history.specs.Invariants.{IsRegistered}
use Rattle.cr_policy.specs.Judge.{answer, judge_bulk}
use Rattle.cr_policy.specs.Legal.{Legal}
use Rattle.cr_policy.specs.View.{view}
use Rattle.cr_bulk.specs.Rows.{parse_rows}

-- there are rows, and this holds of them
abbrev pub AreSpelt : Option (List BulkRow) → (List BulkRow → Type 0) → Type 0
AreSpelt None holds = ⊥
AreSpelt (Some rows) holds = holds rows

-- PlanPosted: on a legal history, the text that a user who has registered is told as a plan spells rows that are
-- accepted as a bulk of this user's, at every timestamp, with a number or without
abbrev pub PlanPosted : Type 0
PlanPosted =
    (user at : ℕ) (key : Option RetryKey) (H : History) (per_paper load : ℕ) (text : List ℕ) → Legal H
    → IsRegistered H user → IsMoment at → IsKeyOrNone key
    → answer (Some user) (view (Some user) H) (queries.Plan per_paper load) ≡ replies.Report text
    → AreSpelt (parse_rows text) (λ rows. IsOk (judge_bulk (view (Some user) H) (bulk_by user at key rows)))
