-- SPDX-License-Identifier: Apache-2.0 OR MIT
-- Judge and Answer: the judgement of a command and of a bulk, what becomes of them if they have a number, and the
-- answer to a query, computed from the caller's view only.
use Rattle.std.specs.Prelude.{ℕ, Bool, true, false, ◌++◌, map, Option, Some, None, Result}
use Rattle.cr_base.specs.declared.bulk.Broken.{Broken}
use Rattle.cr_base.specs.declared.bulk.Broken.TheVariants as broken
use Rattle.cr_base.specs.declared.bulk.BulkRow.{BulkRow}
use Rattle.cr_base.specs.declared.command.Call.{Call}
use Rattle.cr_base.specs.declared.command.Query.{Query}
use Rattle.cr_base.specs.declared.entry.Stamp.{Stamp}
use Rattle.cr_base.specs.declared.entry.Stamped.{Stamped}
use Rattle.cr_base.specs.declared.reply.Reply.{Reply}
use Rattle.cr_base.specs.declared.reply.Rule.{Rule}
use Rattle.cr_base.specs.declared.reply.Rule.TheVariants as rules
use Rattle.cr_base.specs.declared.resolved.ResolvedCall.{ResolvedCall}
use Rattle.cr_base.specs.Answering.{answer_by, login_wanted}
use Rattle.cr_base.specs.Bulk.{Basis, row_judged, bulk_judged}
use Rattle.cr_base.specs.Calls.{BulkCall, stamp_by, maker_of}
use Rattle.cr_base.specs.Drawn.{Drawn}
use Rattle.cr_base.specs.History.{History}
use Rattle.cr_base.specs.Judging.{judge_resolved}
use Rattle.cr_base.specs.Resolving.{resolve_call}
use Rattle.cr_base.specs.Retries.{Outcome, settled}
use Rattle.cr_policy.specs.Part.{own_parts}
use Rattle.cr_policy.specs.Sighting.{sighting}
use Rattle.cr_policy.specs.View.{View}
use Rattle.cr_policy.specs.ViewFacts.{facts_in_view, shown_in_view}
use Rattle.cr_policy.specs.ViewRetries.{kept_in_view}

-- Judge of a command whose users are told by number, on the caller's view: the first broken rule of the command's list,
-- or the entries that it adds and its receipt
abbrev pub judge_by_number : View → ResolvedCall → Result Drawn Rule
judge_by_number V call =
    judge_resolved (facts_in_view call.caller V) (shown_in_view call.caller V)
    (stamp_by (maker_of call.caller) call.at call.key) call.command

-- Judge: the judgement of the command with each user that it names looked up among the accounts that the view shows
abbrev pub judge : View → Call → Result Drawn Rule
judge V call = judge_by_number V (resolve_call (facts_in_view call.caller V).accounts call)

-- what becomes of a command: its number is looked up among the caller's own entries, before Judge
abbrev pub decide : View → Call → Outcome Rule
decide V call = settled rules.NumberUsed false call.key (kept_in_view V) (judge V call)

-- Answer: the answer to the caller's query, from the caller's view
abbrev pub answer : Option ℕ → View → Query → Reply
answer u V query = answer_by (facts_in_view u V) (shown_in_view u V) u query

-- the query requires authentication, by an unauthenticated caller's view: what is published is for everyone
abbrev pub needs_login : View → Query → Bool
needs_login V query = login_wanted (facts_in_view None V) query

-- ---- bulks

-- what these entries show the user who made all of them
abbrev pub own_sightings : History → View
own_sightings group = map (λ (e : Stamped). sighting own_parts true e) group

-- what the rows of a user's bulk are judged on: the user's view, followed by what the bulk's own earlier entries show
-- the user
abbrev pub view_basis : ℕ → Basis View
view_basis user = record {
  facts = λ V. facts_in_view (Some user) V;
  shown = λ V. shown_in_view (Some user) V;
  behind = λ V group. V ++ own_sightings group;
}

-- Judge of one row of a bulk under this stamp
abbrev pub judge_row : View → Stamp → BulkRow → Result Drawn Rule
judge_row V stamp row =
    row_judged (facts_in_view (Some stamp.maker) V) (shown_in_view (Some stamp.maker) V) stamp row

-- Judge of a bulk: the first rule that it breaks as a whole, or the first row that breaks one, or the entries of all
-- rows and the receipt
abbrev pub judge_bulk : View → BulkCall → Result Drawn Broken
judge_bulk V bulk = bulk_judged (view_basis bulk.stamp.maker) V bulk

-- what becomes of a bulk: its number is looked up among its caller's own entries, before Judge
abbrev pub decide_bulk : View → BulkCall → Outcome Broken
decide_bulk V bulk =
    settled (broken.Rule rules.NumberUsed) true bulk.stamp.key (kept_in_view V) (judge_bulk V bulk)
