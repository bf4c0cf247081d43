-- SPDX-License-Identifier: Apache-2.0 OR MIT
-- Whether a query may be asked, alone: as it is told where something is read besides.
use Rattle.std.proofs.Common.{ℕ, ◌≡◌, List, Option, Result, Ok, Err}
use Rattle.cr_base.specs.declared.command.Query.{Query}
use Rattle.cr_base.specs.declared.reply.Rule.{Rule}
use Rattle.cr_base.specs.Answering.{query_checks}
use Rattle.cr_base.specs.Checks.{Check, judged}
use Rattle.cr_base.specs.Sources.{facts_of_tables, shown_in_tables}
use Rattle.cr_base.specs.Tables.{Tables}
use Rattle.cr_view.proofs.JudgeLaws.{passed, refused}

module _ (t : Tables) (user : Option ℕ) (query : Query) {A : Type 0} (x : A) where
  abbrev checks : List Check
  checks = query_checks (facts_of_tables t user) (shown_in_tables t) query

  pub may_pass : (given : A) → ◌≡◌ {A = Result A Rule} (Ok given) (judged checks x)
      → ◌≡◌ {A = Result (Unit {0}) Rule} (Ok tt) (judged checks tt)
  may_pass given h = passed checks (λ (a : A). tt {0}) x given h

  pub may_not : (rule : Rule) → ◌≡◌ {A = Result A Rule} (Err rule) (judged checks x)
      → ◌≡◌ {A = Result (Unit {0}) Rule} (Err rule) (judged checks tt)
  may_not rule h = refused checks x (tt {0}) rule h
