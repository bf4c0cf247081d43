-- SPDX-License-Identifier: Apache-2.0 OR MIT
-- A rule that a query breaks is its answer.
use Rattle.std.proofs.Common.{ℕ, ◌≡◌, ◌≢◌, Option, Result, Err, ap, subst, sym}
use Rattle.cr_base.specs.declared.command.Query.{Query}
use Rattle.cr_base.specs.declared.command.Query.TheVariants as queries
use Rattle.cr_base.specs.declared.reply.Reply.TheVariants as replies
use Rattle.cr_base.specs.declared.reply.Rule.{Rule}
use Rattle.cr_base.specs.Answering.{answer_by_role, query_checks, reply_or_rule, told_by}
use Rattle.cr_base.specs.Checks.{judged}
use Rattle.cr_base.specs.Sources.{facts_of_tables, shown_in_tables}
use Rattle.cr_base.specs.Tables.{Tables}
use Rattle.cr_view.proofs.JudgeLaws.{refused}

-- by the tables, the rules of a query let it pass, or this one is the first that it breaks
abbrev asked_of : Tables → Option ℕ → Query → Result (Unit {0}) Rule
asked_of t caller query = judged (query_checks (facts_of_tables t caller) (shown_in_tables t) query) (tt {0})

pub rule-told : (t : Tables) (caller : Option ℕ) (query : Query) (rule : Rule)
    → ◌≡◌ {A = Result (Unit {0}) Rule} (Err rule)
    (judged (query_checks (facts_of_tables t caller) (shown_in_tables t) query) (tt {0}))
    → answer_by_role t caller query ≡ replies.Refused rule
rule-told t caller query rule broken =
    ap reply_or_rule
    (sym
    (refused (query_checks (facts_of_tables t caller) (shown_in_tables t) query) (tt {0})
    (told_by (facts_of_tables t caller) (shown_in_tables t) caller query) rule broken))

-- none stands in the way of who asks for the state of the conference
pub phase-told : (t : Tables) (caller : Option ℕ) (query : Query) (rule : Rule)
    → ◌≡◌ {A = Result (Unit {0}) Rule} (Err rule)
    (judged (query_checks (facts_of_tables t caller) (shown_in_tables t) query) (tt {0}))
    → query ≢ queries.Phase
phase-told t caller query rule broken is =
    cc (subst (λ (q : Query). ◌≡◌ {A = Result (Unit {0}) Rule} (Err rule) (asked_of t caller q)) is broken)
