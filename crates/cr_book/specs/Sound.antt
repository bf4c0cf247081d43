-- SPDX-License-Identifier: Apache-2.0 OR MIT
-- What is true of every book, and what a command or a bulk did to one.
use Rattle.std.specs.Prelude.{◌≡◌, ◌++◌, List, Option, Some, Ok, Err, IfSome}
use Rattle.cr_base.specs.declared.command.Call.{Call}
use Rattle.cr_base.specs.declared.row.Row.{Row}
use Rattle.cr_base.specs.declared.reply.Receipt.{Receipt}
use Rattle.cr_base.specs.Calls.{BulkCall}
use Rattle.cr_base.specs.History.{History}
use Rattle.cr_base.specs.Retries.{Outcome, Repeats, Judged}
use Rattle.cr_base.specs.Rows.{rows_of}
use Rattle.cr_base.specs.Tables.{Tables, tables_of}
use Rattle.cr_policy.specs.Judge.{decide, decide_bulk}
use Rattle.cr_policy.specs.View.{view}
use Rattle.cr_policy.specs.Legal.{Legal}

-- the keeper's rows are those of the history, where it tells them
abbrev pub IsKept : {K : Type 0} → (K → Option (List Row)) → K → History → Type 0
IsKept rows keeper log = IfSome (rows keeper) (λ told. told ≡ rows_of log)

-- the history comes of commands and bulks, and the tables and the keeper's rows are the history's
pub record IsSound {K : Type 0} (rows : K → Option (List Row)) (log : History) (tables : Tables)
    (keeper : K) : Type 0 where
  pub legal : Legal log
  pub same : tables ≡ tables_of log
  pub kept : IsKept rows keeper log

-- What an outcome does, and its receipt: a repeat adds nothing and has the receipt that it says; what was judged and
-- accepted has the receipt drawn, and its group follows the history. What was refused isn't accepted.
abbrev pub Acts : {E : Type 0} → Outcome E → History → History → Receipt → Type 0
Acts (Repeats told) old new receipt = (receipt ≡ told) × (new ≡ old)
Acts (Judged (Ok drawn)) old new receipt = (receipt ≡ drawn.receipt) × (new ≡ old ++ drawn.group)
Acts (Judged (Err refusal)) old new receipt = ⊥

-- `Acts` of what becomes of the call on its caller's view
abbrev pub Accepts : History → History → Call → Receipt → Type 0
Accepts old new call receipt = Acts (decide (view call.caller old) call) old new receipt

-- `Acts` of what becomes of the bulk on its caller's view
abbrev pub AcceptsBulk : History → History → BulkCall → Receipt → Type 0
AcceptsBulk old new bulk receipt = Acts (decide_bulk (view (Some bulk.stamp.maker) old) bulk) old new receipt
