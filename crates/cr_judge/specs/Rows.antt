-- SPDX-License-Identifier: Apache-2.0 OR MIT
-- The rows of a bulk by the tables: their commands, the entries that they draw, and what each is judged on.
use Rattle.std.specs.Prelude.{[], ◌∷◌, Some, Result, Ok, Err}
use Rattle.cr_base.specs.declared.command.Command.{Command}
use Rattle.cr_base.specs.declared.entry.Entry.{Entry}
use Rattle.cr_base.specs.declared.entry.Stamp.{Stamp}
use Rattle.cr_base.specs.declared.reply.Rule.{Rule}
use Rattle.cr_base.specs.declared.resolved.ResolvedCommand.{ResolvedCommand}
use Rattle.cr_base.specs.Bulk.{row_judged_by, row_resolved_by, IsRowEntry}
use Rattle.cr_base.specs.Drawn.{Drawn, grouped}
use Rattle.cr_base.specs.History.{History}
use Rattle.cr_base.specs.Sources.{facts_of_tables, shown_in_tables}
use Rattle.cr_base.specs.Tables.{Tables, FitInTurn}

-- ---- what rows may draw

-- each entry is of a kind that rows draw
abbrev pub AreRowEntries : History → Type 0
AreRowEntries [] = Unit {0}
AreRowEntries (s ∷ group) = IsRowEntry s.entry × AreRowEntries group

-- these may be the entries of the rows before one: all are of kinds that rows draw, and each fits the tables in its
-- turn
pub record AreEarlier (t : Tables) (earlier : History) : Type 0 where
  pub rows : AreRowEntries earlier
  pub fits : FitInTurn t earlier

-- ---- what is judged of one

-- what the command of a row draws, by the tables, with its user told by name
abbrev pub row_judged_at : Tables → Stamp → Command → Result Drawn Rule
row_judged_at t stamp command = row_judged_by (facts_of_tables t (Some stamp.maker)) (shown_in_tables t) stamp command

-- what the command of a row draws, by the tables, with its user told by number
abbrev pub row_resolved_at : Tables → Stamp → ResolvedCommand → Result Drawn Rule
row_resolved_at t stamp command =
    row_resolved_by (facts_of_tables t (Some stamp.maker)) (shown_in_tables t) stamp command

-- a judgement without its receipt, since no row is given one
abbrev pub group_or_rule : Result Drawn Rule → Result History Rule
group_or_rule (Ok drawn) = Ok drawn.group
group_or_rule (Err rule) = Err rule

-- the entry of a row of a bulk under this stamp, as a group of its own
abbrev pub row_group : Stamp → Result Entry Rule → Result History Rule
row_group stamp (Ok entry) = Ok (grouped stamp (entry ∷ []))
row_group stamp (Err rule) = Err rule
