-- SPDX-License-Identifier: Apache-2.0 OR MIT
-- The judgement of commands, by facts (Facts, Shown): with those of a view it is `judge` of cr_policy, with those of
-- the tables `judge_by_role`. First the users that a command names are looked up among the accounts; all rules and
-- entries go by their numbers.
use Rattle.std.specs.Prelude.{Result}
use Rattle.cr_base.specs.declared.command.Call.{Call}
use Rattle.cr_base.specs.declared.command.Command.{Command}
use Rattle.cr_base.specs.declared.entry.Stamp.{Stamp}
use Rattle.cr_base.specs.declared.reply.Rule.{Rule}
use Rattle.cr_base.specs.declared.resolved.ResolvedCall.{ResolvedCall}
use Rattle.cr_base.specs.declared.resolved.ResolvedCommand.{ResolvedCommand}
use Rattle.cr_base.specs.Calls.{stamp_by, stamp_of, maker_of}
use Rattle.cr_base.specs.Deeds.{deed_at, judged_by}
use Rattle.cr_base.specs.Drawn.{Drawn}
use Rattle.cr_base.specs.Resolving.{resolve}
use Rattle.cr_base.specs.Sources.{Facts, Shown, facts_of_tables, shown_in_tables}
use Rattle.cr_base.specs.Tables.{Tables}

-- the first broken rule of a resolved command's list, or what it adds under this stamp and its receipt
abbrev pub judge_resolved : Facts → Shown → Stamp → ResolvedCommand → Result Drawn Rule
judge_resolved facts shown stamp command = judged_by facts.accounts stamp (deed_at facts shown stamp command)

-- of a command: that of its resolution
abbrev pub judge_by : Facts → Shown → Stamp → Command → Result Drawn Rule
judge_by facts shown stamp command = judge_resolved facts shown stamp (resolve facts.accounts command)

-- ---- by the tables

-- the judgement of a resolved command by checks on the tables, and that of a command
abbrev pub resolved_by_role : Tables → ResolvedCall → Result Drawn Rule
resolved_by_role t call =
    judge_resolved (facts_of_tables t call.caller) (shown_in_tables t)
    (stamp_by (maker_of call.caller) call.at call.key) call.command

-- the judgement of a call by checks on the tables
abbrev pub judge_by_role : Tables → Call → Result Drawn Rule
judge_by_role t call = judge_by (facts_of_tables t call.caller) (shown_in_tables t) (stamp_of call) call.command
