-- SPDX-License-Identifier: Apache-2.0 OR MIT
-- Of a stamp no rule reads more than its maker, and whether its moment is too late: under another that isn't too late
-- where the first isn't, a command and a bulk add the same entries.
use Rattle.std.proofs.Common.{ℕ, Bool, true, false, cond, ◌≡◌, ◌+◌, List, [], ◌∷◌, ◌++◌, length, refl, sym, ap, subst}
use Rattle.std.proofs.Common.{◌∙◌, Option, Some, None, Result, Ok, Err}
use Rattle.std.proofs.lemmas.Bool.{true≢false}
use Rattle.cr_base.specs.declared.bulk.Broken.{Broken}
use Rattle.cr_base.specs.declared.bulk.BulkRow.{BulkRow}
use Rattle.cr_base.specs.declared.command.Call.{Call}
use Rattle.cr_base.specs.declared.command.Command.{Command}
use Rattle.cr_base.specs.declared.entry.Entry.{Entry}
use Rattle.cr_base.specs.declared.entry.Entry.TheVariants as entries
use Rattle.cr_base.specs.declared.entry.Stamp.{Stamp}
use Rattle.cr_base.specs.declared.reply.Receipt.{Receipt}
use Rattle.cr_base.specs.declared.reply.Receipt.TheVariants as receipts
use Rattle.cr_base.specs.declared.reply.Rule.{Rule}
use Rattle.cr_base.specs.declared.reply.Rule.TheVariants as rules
use Rattle.cr_base.specs.declared.resolved.ResolvedCommand.{ResolvedCommand}
use Rattle.cr_base.specs.declared.resolved.ResolvedCommand.TheVariants as resolved
use Rattle.cr_base.specs.declared.retry.RetryKey.{RetryKey}
use Rattle.cr_base.specs.declared.standing.Standing.{Standing}
use Rattle.cr_base.specs.declared.target.Target.{Target}
use Rattle.cr_base.specs.Accounts.{lines_of}
use Rattle.cr_base.specs.Bulk.{entries_of, row_command, row_judged, row_told_judged, turns_own_conflict, and_rows}
use Rattle.cr_base.specs.Bulk.{and_behind, rows_judged, bulk_behind, bulk_by_role, bulk_checks, bulk_of_rows}
use Rattle.cr_base.specs.Bulk.{tables_basis}
use Rattle.cr_base.specs.Calls.{stamp_by, stamp_of, call_of}
use Rattle.cr_base.specs.Checks.{NamedPaper, judged, conflict_case, conflict_checks}
use Rattle.cr_base.specs.Deeds.{Deed, deed, deed_at, drawn_by, judged_by}
use Rattle.cr_base.specs.Drawn.{Drawn, stamped, grouped}
use Rattle.cr_base.specs.History.{History}
use Rattle.cr_base.specs.Judging.{judge_by, judge_by_role}
use Rattle.cr_base.specs.Phases.{authors_have_declared, conflicts_are_final}
use Rattle.cr_base.specs.Resolving.{resolve}
use Rattle.cr_base.specs.Sources.{Facts, Shown, facts_of_tables, shown_in_tables}
use Rattle.cr_base.specs.Stage.{StageState, is_late_in, stage_after}
use Rattle.cr_base.specs.Tables.{Tables, tables_after, tables_from}
use Rattle.cr_base.proofs.CheckLaws.{NoneBroken, judged-Ok, judged-none}
use Rattle.cr_policy.proofs.BulkLaws.{row-draws, row-told}
use Rattle.cr_policy.proofs.BulkViews.{LeavesStanding}

-- ---- what is accepted too late is accepted in time

conflict-in_time : (by : Standing) (paper : NamedPaper) (target : Option Target) (on : Bool)
    → NoneBroken (conflict_checks by paper target on true) → NoneBroken (conflict_checks by paper target on false)
conflict-in_time by paper None on none = none
conflict-in_time by paper (Some user) on none =
    (none.0, (none.1.0, of on (authors_have_declared by.phase) (conflicts_are_final by.phase) none.1.1))
  where
    of : (on declared final : Bool) → NoneBroken (conflict_case on declared final by paper.withdrawn user true)
        → NoneBroken (conflict_case on declared final by paper.withdrawn user false)
    of false declared final none = none
    of true false final none = absurd (true≢false none.1.0)
    of true true true none = none
    of true true false none = none

module _ (facts : Facts) (shown : Shown) (maker : ℕ) where
  in-time : (command : ResolvedCommand) → NoneBroken (deed facts shown maker true command).checks
      → NoneBroken (deed facts shown maker false command).checks
  in-time (resolved.Submit title abstract authors) none = absurd (true≢false none.1.1.0)
  in-time (resolved.Revise paper title abstract) none = absurd (true≢false none.1.1.1.0)
  in-time (resolved.Upload paper content) none = absurd (true≢false none.1.1.1.0)
  in-time (resolved.Withdraw paper) none = absurd (true≢false none.1.1.1.0)
  in-time (resolved.SetConflict paper user on) none = conflict-in_time (facts.standing paper) _ _ on none
  in-time (resolved.Bid paper value) none = absurd (true≢false none.1.1.1.1.0)
  in-time (resolved.Review paper form) none = absurd (true≢false none.1.1.1.1.1.0)
  in-time (resolved.Respond paper text) none = absurd (true≢false none.1.1.1.0)
  in-time (resolved.Comment paper text) none = absurd (true≢false none.1.1.1.1.0)
  in-time (resolved.Register name digest) none = none
  in-time command none = none

  -- what is drawn is the same
  drawn-in_time : (stamp : Stamp) (command : ResolvedCommand)
      → drawn_by facts.accounts stamp (deed facts shown maker false command) ≡ drawn_by facts.accounts stamp (deed facts shown maker true command)
  drawn-in_time stamp (resolved.Register name digest) = refl
  drawn-in_time stamp command = refl

  -- under another stamp, too late only where it was
  judged-again : (again : Stamp) (late late' : Bool) → (late ≡ false → late' ≡ false) → (command : ResolvedCommand)
      → NoneBroken (deed facts shown maker late command).checks
      → judged_by facts.accounts again (deed facts shown maker late' command)
      ≡ Ok (drawn_by facts.accounts again (deed facts shown maker late command))
  judged-again again true true no_later command none = judged-none _ _ none
  judged-again again false false no_later command none = judged-none _ _ none
  judged-again again false true no_later command none = absurd (true≢false (no_later refl))
  judged-again again true false no_later command none =
      judged-none (deed facts shown maker false command).checks
      (drawn_by facts.accounts again (deed facts shown maker false command)) (in-time command none)
      ∙ ap (λ (drawn : Drawn). Ok drawn) (drawn-in_time again command)

-- ---- a command

-- what its call does on the tables
abbrev pub deed_of : Tables → Call → Deed
deed_of t call = deed_at (facts_of_tables t call.caller) (shown_in_tables t) (stamp_of call)
    (resolve (lines_of t.accounts) call.command)

-- all that it adds
abbrev pub added_by : Deed → List Entry
added_by d = d.first ∷ d.behind

-- it is too late at the other moment only where it was at the first
abbrev pub IsNoLater : StageState → ℕ → ℕ → Type 0
IsNoLater stage own at = is_late_in stage own ≡ false → is_late_in stage at ≡ false

-- what was drawn is drawn of its deed; and so it is under the other moment and number
pub record Redrawn (t : Tables) (call : Call) (at : ℕ) (key : Option RetryKey) (drawn : Drawn) : Type 0 where
  pub own : drawn.group
      ≡ grouped (stamp_by (deed_of t call).maker call.at call.key) (added_by (deed_of t call))
  pub other : judge_by_role t (call_of call.caller at key call.command)
      ≡ Ok (record {
        group = grouped (stamp_by (deed_of t call).maker at key) (added_by (deed_of t call));
        receipt = (drawn_by (lines_of t.accounts) (stamp_of call) (deed_of t call)).receipt;
      })

pub call-redrawn : (t : Tables) (call : Call) (at : ℕ) (key : Option RetryKey) (drawn : Drawn)
    → IsNoLater t.stage call.at at → judge_by_role t call ≡ Ok drawn → Redrawn t call at key drawn
call-redrawn t call at key drawn no_later accepted =
    let d : Deed = deed_of t call in
    let k = judged-Ok d.checks (drawn_by (lines_of t.accounts) (stamp_of call) d) drawn accepted in
    record {
      own = ap (λ (drawn : Drawn). drawn.group) (sym k.1);
      other =
          judged-again (facts_of_tables t call.caller) (shown_in_tables t) (stamp_of call).maker
          (stamp_of (call_of call.caller at key call.command)) (is_late_in t.stage call.at) (is_late_in t.stage at)
          no_later (resolve (lines_of t.accounts) call.command) k.0;
    }

-- ---- groups under other stamps

entries-grouped : (stamp : Stamp) (es : List Entry) → entries_of (grouped stamp es) ≡ es
entries-grouped stamp [] = refl
entries-grouped stamp (e ∷ []) = refl
entries-grouped stamp (e ∷ next ∷ es) = ap (λ (rest : List Entry). e ∷ rest) (entries-grouped stamp (next ∷ es))

tables-grouped : (maker at at' : ℕ) (key key' : Option RetryKey) (t : Tables) (es : List Entry)
    → tables_from t (grouped (stamp_by maker at key) es) ≡ tables_from t (grouped (stamp_by maker at' key') es)
tables-grouped maker at at' key key' t [] = refl
tables-grouped maker at at' key key' t (e ∷ []) = refl
tables-grouped maker at at' key key' t (e ∷ next ∷ es) =
    tables-grouped maker at at' key key' (tables_after t (stamped (stamp_by maker at key) true e)) (next ∷ es)

-- ---- a row

-- it leaves the stage as it is
stage-left : (stage : StageState) (user : ℕ) (e : Entry) → LeavesStanding user e → stage_after stage e ≡ stage
stage-left stage user (entries.Conflict paper other on) row = refl
stage-left stage user (entries.Assigned paper other kind ordinal) row = refl
stage-left stage user (entries.Unassigned paper other ordinal) row = refl
stage-left stage user (entries.Tagged paper tag on) row = refl
stage-left stage user e row = absurd row

module _ (stamp : Stamp) (at : ℕ) (key : Option RetryKey) where
  abbrev again : Stamp
  again = stamp_by stamp.maker at key

  -- what is drawn under the one stamp, and under the other
  record RowAgain (t : Tables) (row : BulkRow) (drawn : Drawn) : Type 0 where
    other : Drawn
    is : row_judged (facts_of_tables t (Some stamp.maker)) (shown_in_tables t) again row ≡ Ok other
    entries : entries_of other.group ≡ entries_of drawn.group
    tables : tables_from t other.group ≡ tables_from t drawn.group
    stage : (tables_from t drawn.group).stage ≡ t.stage

  module _ (t : Tables) (no_later : IsNoLater t.stage stamp.at at) where
    abbrev facts : Facts
    facts = facts_of_tables t (Some stamp.maker)

    abbrev shown : Shown
    shown = shown_in_tables t

    command-again : (row : BulkRow) (command : Command) (drawn : Drawn) → row_command row ≡ Ok command
        → turns_own_conflict stamp.maker (resolve facts.accounts command) ≡ false → judge_by facts shown stamp command ≡ Ok drawn
        → RowAgain t row drawn
    command-again row command drawn told other accepted =
        let c : ResolvedCommand = resolve facts.accounts command in
        let d : Deed = deed_at facts shown stamp c in
        let k = judged-Ok d.checks (drawn_by facts.accounts stamp d) drawn accepted in
        let draws = row-draws facts shown stamp command drawn (row-told row command told).of_row other accepted in
        record {
          other = drawn_by facts.accounts again d;
          is =
              ap (row_told_judged facts shown again) told
              ∙ ap (λ b. cond b (Err rules.BulkSelf) (judge_by facts shown again command)) other
              ∙ judged-again facts shown stamp.maker again (is_late_in t.stage stamp.at) (is_late_in t.stage at)
              no_later c k.0;
          entries =
              entries-grouped (record again { maker = d.maker }) (added_by d)
              ∙ sym (entries-grouped (record stamp { maker = d.maker }) (added_by d))
              ∙ ap (λ (drawn : Drawn). entries_of drawn.group) k.1;
          tables =
              tables-grouped d.maker at stamp.at key stamp.key t (added_by d)
              ∙ ap (λ (drawn : Drawn). tables_from t drawn.group) k.1;
          stage =
              ap (λ (g : History). (tables_from t g).stage) draws.group
              ∙ stage-left t.stage stamp.maker draws.entry draws.of_row;
        }

    row-again : (row : BulkRow) (drawn : Drawn) → row_judged facts shown stamp row ≡ Ok drawn → RowAgain t row drawn
    row-again row drawn accepted = by (row_command row) refl accepted
      where
        own : (command : Command) → row_command row ≡ Ok command → (b : Bool)
            → turns_own_conflict stamp.maker (resolve facts.accounts command) ≡ b
            → ◌≡◌ {A = Result Drawn Rule} (cond b (Err rules.BulkSelf) (judge_by facts shown stamp command)) (Ok drawn)
            → RowAgain t row drawn
        own command told true is accepted = cc
        own command told false is accepted = command-again row command drawn told is accepted

        by : (told : Result Command Rule) → row_command row ≡ told → row_told_judged facts shown stamp told ≡ Ok drawn
            → RowAgain t row drawn
        by (Err rule) told accepted = cc
        by (Ok command) told accepted =
            own command told (turns_own_conflict stamp.maker (resolve facts.accounts command)) refl accepted

  -- ---- all rows

  rows-again : (rows : List BulkRow) (n : ℕ) (t : Tables) (es : List Entry) → IsNoLater t.stage stamp.at at
      → rows_judged (tables_basis stamp.maker) stamp t n rows ≡ Ok es
      → rows_judged (tables_basis stamp.maker) again t n rows ≡ Ok es
  rows-again [] n t es no_later accepted = accepted
  rows-again (row ∷ rows) n t es no_later accepted =
      by (row_judged (facts_of_tables t (Some stamp.maker)) (shown_in_tables t) stamp row) refl accepted
      (λ t es no_later accepted. rows-again rows (n + 1) t es no_later accepted)
    where
      goes : Stamp → History → Result (List Entry) Broken
      goes under group = rows_judged (tables_basis stamp.maker) under (tables_from t group) (n + 1) rows

      Rest : Type 0
      Rest = (t : Tables) (es : List Entry) → IsNoLater t.stage stamp.at at
          → rows_judged (tables_basis stamp.maker) stamp t (n + 1) rows ≡ Ok es
          → rows_judged (tables_basis stamp.maker) again t (n + 1) rows ≡ Ok es

      both : (drawn : Drawn)
          → row_judged (facts_of_tables t (Some stamp.maker)) (shown_in_tables t) stamp row ≡ Ok drawn
          → (r : Result (List Entry) Broken) → goes stamp drawn.group ≡ r
          → and_rows (entries_of drawn.group) r ≡ Ok es → Rest
          → rows_judged (tables_basis stamp.maker) again t n (row ∷ rows) ≡ Ok es
      both drawn is (Err refusal) went accepted rest = cc
      both drawn is (Ok more) went accepted rest =
          let one = row-again t no_later row drawn is in
          ap (λ (r : Result Drawn Rule). and_behind n r (goes again)) one.is
          ∙ ap (λ (u : Tables). and_rows (entries_of one.other.group)
          (rows_judged (tables_basis stamp.maker) again u (n + 1) rows)) one.tables
          ∙ ap (and_rows (entries_of one.other.group))
          (rest (tables_from t drawn.group) more
          (subst (λ (stage : StageState). IsNoLater stage stamp.at at) (sym one.stage) no_later) went)
          ∙ ap (λ (xs : List Entry). Ok (xs ++ more)) one.entries
          ∙ accepted

      by : (r : Result Drawn Rule) → row_judged (facts_of_tables t (Some stamp.maker)) (shown_in_tables t) stamp row ≡ r
          → and_behind n r (goes stamp) ≡ Ok es → Rest
          → rows_judged (tables_basis stamp.maker) again t n (row ∷ rows) ≡ Ok es
      by (Err rule) is accepted rest = cc
      by (Ok drawn) is accepted rest = both drawn is (goes stamp drawn.group) refl accepted rest

-- ---- a bulk

-- what it draws is drawn of its rows' entries; and so it is under the other moment and number
pub record BulkRedrawn (t : Tables) (stamp : Stamp) (at : ℕ) (key : Option RetryKey) (rows : List BulkRow)
    (drawn : Drawn) : Type 0 where
  pub entries : List Entry
  pub own : drawn.group ≡ grouped stamp entries
  pub receipt : Receipt
  pub other : bulk_by_role t (record { stamp = stamp_by stamp.maker at key; rows = rows })
      ≡ Ok (record { group = grouped (stamp_by stamp.maker at key) entries; receipt = receipt })

pub bulk-redrawn : (t : Tables) (stamp : Stamp) (at : ℕ) (key : Option RetryKey) (rows : List BulkRow) (drawn : Drawn)
    → IsNoLater t.stage stamp.at at → bulk_by_role t (record { stamp = stamp; rows = rows }) ≡ Ok drawn
    → BulkRedrawn t stamp at key rows drawn
bulk-redrawn t stamp at key rows drawn no_later accepted = by checked refl accepted
  where
    checked : Result (Unit {0}) Rule
    checked = judged (bulk_checks ((facts_of_tables t (Some stamp.maker)).standing None)) tt

    other_stamp : Stamp
    other_stamp = stamp_by stamp.maker at key

    all : (r : Result (List Entry) Broken) → rows_judged (tables_basis stamp.maker) stamp t 1 rows ≡ r
        → bulk_of_rows stamp (length rows) r ≡ Ok drawn → ◌≡◌ {A = Result (Unit {0}) Rule} checked (Ok tt)
        → BulkRedrawn t stamp at key rows drawn
    all (Err refusal) is accepted passed = cc
    all (Ok es) is accepted passed = record {
      entries = es;
      own = cc;
      receipt = receipts.Rows (length rows);
      other =
          ap (bulk_behind (tables_basis stamp.maker) t (record { stamp = other_stamp; rows = rows })) passed
          ∙ ap (bulk_of_rows other_stamp (length rows)) (rows-again stamp at key rows 1 t es no_later is);
    }

    by : (r : Result (Unit {0}) Rule) → checked ≡ r
        → bulk_behind (tables_basis stamp.maker) t (record { stamp = stamp; rows = rows }) r ≡ Ok drawn
        → BulkRedrawn t stamp at key rows drawn
    by (Err rule) is accepted = cc
    by (Ok done) is accepted = all (rows_judged (tables_basis stamp.maker) stamp t 1 rows) refl accepted is
