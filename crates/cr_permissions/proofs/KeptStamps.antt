-- SPDX-License-Identifier: Apache-2.0 OR MIT
-- No rule reads the number of a command, nor its moment but for whether it is too late. So under a stamp without a
-- number, and with another moment that is as late, all is judged as it is under its own.
use Rattle.std.proofs.Common.{ℕ, Bool, true, false, cond, ◌≡◌, ◌+◌, List, [], ◌∷◌, ◌++◌, length, refl, sym, ap, subst}
use Rattle.std.proofs.Common.{◌∙◌, Some, None, Result, Ok, Err}
use Rattle.std.specs.Prelude.{map}
use Rattle.cr_base.specs.declared.bulk.Broken.{Broken}
use Rattle.cr_base.specs.declared.bulk.BulkRow.{BulkRow}
use Rattle.cr_base.specs.declared.command.Call.{Call}
use Rattle.cr_base.specs.declared.command.Command.{Command}
use Rattle.cr_base.specs.declared.entry.Entry.{Entry}
use Rattle.cr_base.specs.declared.entry.Entry.TheVariants as entries
use Rattle.cr_base.specs.declared.entry.Stamp.{Stamp}
use Rattle.cr_base.specs.declared.entry.Stamped.{Stamped}
use Rattle.cr_base.specs.declared.reply.Receipt.TheVariants as receipts
use Rattle.cr_base.specs.declared.reply.Rule.{Rule}
use Rattle.cr_base.specs.declared.reply.Rule.TheVariants as rules
use Rattle.cr_base.specs.Bulk.{entries_of, row_command, row_judged, row_told_judged, turns_own_conflict, and_rows}
use Rattle.cr_base.specs.Bulk.{and_behind, rows_judged, bulk_of_rows, bulk_behind, bulk_checks, bulk_by_role}
use Rattle.cr_base.specs.Bulk.{tables_basis}
use Rattle.cr_base.specs.Calls.{BulkCall, stamp_by, stamp_of, call_of}
use Rattle.cr_base.specs.Checks.{Check, judged}
use Rattle.cr_base.specs.Drawn.{Drawn, stamped, grouped}
use Rattle.cr_base.specs.History.{History, all_told}
use Rattle.cr_base.specs.Judging.{judge_by, judge_by_role}
use Rattle.cr_base.specs.Sources.{Facts, Shown, facts_of_tables, shown_in_tables, is_late}
use Rattle.cr_base.specs.Stage.{StageState, is_late_in, stage_after}
use Rattle.cr_base.specs.Tables.{Tables, tables_after, tables_from, tables_of}
use Rattle.cr_base.specs.Deeds.{Deed, deed, deed_at, drawn_by, judged_by}
use Rattle.cr_base.specs.Resolving.{resolve}
use Rattle.cr_base.specs.declared.resolved.ResolvedCommand.{ResolvedCommand}
use Rattle.cr_policy.specs.Legal.{unnumbered}
use Rattle.cr_policy.proofs.BulkLaws.{RowDraws, row-draws, row-told, seen, IsReady, rows-same}
use Rattle.cr_policy.proofs.BulkViews.{LeavesStanding}

-- ---- a row leaves the stage as it is

stage-left : (stage : StageState) (user : ℕ) (e : Entry) → LeavesStanding user e → stage_after stage e ≡ stage
stage-left stage user (entries.Conflict paper other on) row = refl
stage-left stage user (entries.Assigned paper other kind ordinal) row = refl
stage-left stage user (entries.Unassigned paper other ordinal) row = refl
stage-left stage user (entries.Tagged paper tag on) row = refl
stage-left stage user e row = absurd row

row-drawn : (facts : Facts) (shown : Shown) (stamp : Stamp) (row : BulkRow) (drawn : Drawn)
    → row_judged facts shown stamp row ≡ Ok drawn → RowDraws stamp drawn
row-drawn facts shown stamp row drawn accepted = by (row_command row) refl accepted
  where
    own : (command : Command) → row_command row ≡ Ok command → (b : Bool)
        → turns_own_conflict stamp.maker (resolve facts.accounts command) ≡ b
        → ◌≡◌ {A = Result Drawn Rule} (cond b (Err rules.BulkSelf) (judge_by facts shown stamp command)) (Ok drawn)
        → RowDraws stamp drawn
    own command told true is accepted = cc
    own command told false is accepted =
        row-draws facts shown stamp command drawn (row-told row command told).of_row is accepted

    by : (told : Result Command Rule) → row_command row ≡ told → row_told_judged facts shown stamp told ≡ Ok drawn
        → RowDraws stamp drawn
    by (Err rule) told accepted = cc
    by (Ok command) told accepted = own command told (turns_own_conflict stamp.maker (resolve facts.accounts command)) refl accepted

-- ---- what doesn't read the stamps

-- the moment that is kept of each
module _ (time : ℕ → ℕ) where
  -- the stamp, the entry and the history with that moment and no number
  abbrev pub kept : Stamp → Stamp
  kept stamp = stamp_by stamp.maker (time stamp.at) None

  abbrev pub keep : Stamped → Stamped
  keep e = stamped (kept e.stamp) e.more e.entry

  abbrev pub all_kept : History → History
  all_kept H = map keep H

  -- the tables
  pub tables-kept : (t : Tables) (H : History) → tables_from t (all_kept H) ≡ tables_from t H
  tables-kept t [] = refl
  tables-kept t (e ∷ H) = tables-kept (tables_after t e) H

  -- what entries tell
  pub told-kept : {A : Type 0} (told : Entry → List A) (H : History) → all_told told (all_kept H) ≡ all_told told H
  told-kept told [] = refl
  told-kept told (e ∷ H) = ap (λ xs. told e.entry ++ xs) (told-kept told H)

  entries-kept : (H : History) → entries_of (all_kept H) ≡ entries_of H
  entries-kept [] = refl
  entries-kept (e ∷ H) = ap (λ es. e.entry ∷ es) (entries-kept H)

  -- a group under a stamp
  grouped-kept : (stamp : Stamp) (es : List Entry) → grouped (kept stamp) es ≡ all_kept (grouped stamp es)
  grouped-kept stamp [] = refl
  grouped-kept stamp (e ∷ []) = refl
  grouped-kept stamp (e ∷ next ∷ es) =
      ap (λ (g : History). keep (record { stamp = stamp; more = true; entry = e }) ∷ g) (grouped-kept stamp (next ∷ es))

  -- ---- judgement

  -- what is drawn, and what a judgement gives, under that stamp
  abbrev pub kept_drawn : Drawn → Drawn
  kept_drawn d = record { group = all_kept d.group; receipt = d.receipt }

  abbrev pub kept_result : {E : Type 0} → Result Drawn E → Result Drawn E
  kept_result (Ok drawn) = Ok (kept_drawn drawn)
  kept_result (Err refusal) = Err refusal

  judged-kept : (checks : List Check) (drawn : Drawn)
      → judged checks (kept_drawn drawn) ≡ kept_result (judged checks drawn)
  judged-kept [] drawn = refl
  judged-kept (check ∷ checks) drawn = by check.broken (judged-kept checks drawn)
    where
      by : (b : Bool) → judged checks (kept_drawn drawn) ≡ kept_result (judged checks drawn)
          → ◌≡◌ {A = Result Drawn Rule} (cond b (Err check.rule) (judged checks (kept_drawn drawn)))
          (kept_result (cond b (Err check.rule) (judged checks drawn)))
      by true rest = refl
      by false rest = rest

  -- where what is drawn is a group under the stamp
  grouped-judged : (checks : List Check) (stamp : Stamp) (es : List Entry) (drawn : Drawn)
      → drawn.group ≡ grouped stamp es
      → judged checks (record { group = grouped (kept stamp) es; receipt = drawn.receipt })
      ≡ kept_result (judged checks drawn)
  grouped-judged checks stamp es drawn is =
      ap (λ (g : History). judged checks (record { group = g; receipt = drawn.receipt }))
      (grouped-kept stamp es ∙ ap all_kept (sym is))
      ∙ judged-kept checks drawn

  -- where it is too late at the moment that is kept exactly where it was at its own
  module _ (facts : Facts) (shown : Shown) (stamp : Stamp)
      (same : is_late facts (time stamp.at) ≡ is_late facts stamp.at) where
    judge_by-kept : (command : Command) → judge_by facts shown (kept stamp) command
        ≡ kept_result (judge_by facts shown stamp command)
    judge_by-kept command =
        let c : ResolvedCommand = resolve facts.accounts command in
        let d : Deed = deed_at facts shown stamp c in
        ap (λ (late : Bool). judged_by facts.accounts (kept stamp) (deed facts shown stamp.maker late c)) same
        ∙ grouped-judged d.checks (record stamp { maker = d.maker }) (d.first ∷ d.behind) (drawn_by facts.accounts stamp d) refl

    -- so is a row's
    row-kept : (row : BulkRow) → row_judged facts shown (kept stamp) row
        ≡ kept_result (row_judged facts shown stamp row)
    row-kept row = by (row_command row)
      where
        own : (b : Bool) (command : Command)
            → ◌≡◌ {A = Result Drawn Rule} (cond b (Err rules.BulkSelf) (judge_by facts shown (kept stamp) command))
            (kept_result (cond b (Err rules.BulkSelf) (judge_by facts shown stamp command)))
        own true command = refl
        own false command = judge_by-kept command

        by : (told : Result Command Rule) → row_told_judged facts shown (kept stamp) told
            ≡ kept_result (row_told_judged facts shown stamp told)
        by (Err rule) = refl
        by (Ok command) = own (turns_own_conflict stamp.maker (resolve facts.accounts command)) command

  -- ---- rows, calls and bulks

  -- it is as late at the moments that are kept as at their own
  abbrev pub IsTimedAlike : StageState → Type 0
  IsTimedAlike stage = (at : ℕ) → is_late_in stage (time at) ≡ is_late_in stage at

  row-alike : (stamp : Stamp) (t : Tables) (drawn : Drawn) → RowDraws stamp drawn → IsTimedAlike t.stage
      → IsTimedAlike (tables_from t drawn.group).stage
  row-alike stamp t drawn draws alike =
      subst IsTimedAlike
      (sym (ap (λ (g : History). (tables_from t g).stage) draws.group ∙ stage-left t.stage stamp.maker draws.entry
      draws.of_row)) alike

  -- and so are all rows
  pub rows-kept : (stamp : Stamp) (t : Tables) → IsTimedAlike t.stage → (n : ℕ) (rows : List BulkRow)
      → rows_judged (tables_basis stamp.maker) (kept stamp) t n rows ≡ rows_judged (tables_basis stamp.maker) stamp t n
      rows
  rows-kept stamp t alike n [] = refl
  rows-kept stamp t alike n (row ∷ rows) =
      ap (λ (r : Result Drawn Rule). and_behind n r (goes (kept stamp)))
      (row-kept facts (shown_in_tables t) stamp (alike stamp.at) row)
      ∙ by (row_judged facts (shown_in_tables t) stamp row) refl (λ t alike. rows-kept stamp t alike (n + 1) rows)
    where
      facts : Facts
      facts = facts_of_tables t (Some stamp.maker)

      goes : Stamp → History → Result (List Entry) Broken
      goes under group = rows_judged (tables_basis stamp.maker) under (tables_from t group) (n + 1) rows

      by : (r : Result Drawn Rule) → row_judged facts (shown_in_tables t) stamp row ≡ r
          → ((t : Tables) → IsTimedAlike t.stage
          → rows_judged (tables_basis stamp.maker) (kept stamp) t (n + 1) rows ≡ rows_judged (tables_basis stamp.maker)
          stamp t (n + 1) rows)
          → and_behind n (kept_result r) (goes (kept stamp)) ≡ and_behind n r (goes stamp)
      by (Err rule) is rest = refl
      by (Ok drawn) is rest =
          ap (λ (es : List Entry). and_rows es (goes (kept stamp) (all_kept drawn.group))) (entries-kept drawn.group)
          ∙ ap (λ (u : Tables). and_rows (entries_of drawn.group)
          (rows_judged (tables_basis stamp.maker) (kept stamp) u (n + 1) rows)) (tables-kept t drawn.group)
          ∙ ap (and_rows (entries_of drawn.group))
          (rest (tables_from t drawn.group) (row-alike stamp t drawn
          (row-drawn facts (shown_in_tables t) stamp row drawn is) alike))

  -- so are a call and a bulk
  abbrev pub call_kept : Call → Call
  call_kept call = call_of call.caller (time call.at) None call.command

  abbrev pub bulk_kept : BulkCall → BulkCall
  bulk_kept bulk = record { stamp = kept bulk.stamp; rows = bulk.rows }

  pub call-judged : (t : Tables) → IsTimedAlike t.stage → (call : Call)
      → judge_by_role t (call_kept call) ≡ kept_result (judge_by_role t call)
  call-judged t alike call =
      judge_by-kept (facts_of_tables t call.caller) (shown_in_tables t) (stamp_of call) (alike call.at) call.command

  pub bulk-judged : (t : Tables) → IsTimedAlike t.stage → (bulk : BulkCall)
      → bulk_by_role t (bulk_kept bulk) ≡ kept_result (bulk_by_role t bulk)
  bulk-judged t alike bulk = by (judged (bulk_checks ((facts_of_tables t (Some bulk.stamp.maker)).standing None)) tt)
    where
      all : (r : Result (List Entry) Broken) → bulk_of_rows (kept bulk.stamp) (length bulk.rows) r
          ≡ kept_result (bulk_of_rows bulk.stamp (length bulk.rows) r)
      all (Err refusal) = refl
      all (Ok es) = ap (λ (g : History). Ok (record { group = g; receipt = receipts.Rows (length bulk.rows) }))
          (grouped-kept bulk.stamp es)

      by : (r : Result (Unit {0}) Rule) → bulk_behind (tables_basis bulk.stamp.maker) t (bulk_kept bulk) r
          ≡ kept_result (bulk_behind (tables_basis bulk.stamp.maker) t bulk r)
      by (Err rule) = refl
      by (Ok done) = ap (bulk_of_rows (kept bulk.stamp) (length bulk.rows)) (rows-kept bulk.stamp t alike 1 bulk.rows)
          ∙ all _

-- ---- without a number

-- the rows of a bulk are judged as they are without one
module _ (stamp : Stamp) (H : History) (ready : IsReady stamp H) where
  pub ready-unnumbered : IsReady (unnumbered stamp) H
  ready-unnumbered =
      record {
        kept = ready.kept;
        registered = ready.registered;
        bounds = record { moment = ready.bounds.moment; key = tt };
      }

  pub seen-unnumbered : (n : ℕ) (rows : List BulkRow) → seen (unnumbered stamp) H n rows ≡ seen stamp H n rows
  seen-unnumbered n rows =
      rows-same (unnumbered stamp) rows n H ready-unnumbered
      ∙ rows-kept (λ at. at) stamp (tables_of H) (λ at. refl) n rows
      ∙ sym (rows-same stamp rows n H ready)
