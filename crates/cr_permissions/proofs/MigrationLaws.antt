-- SPDX-License-Identifier: Apache-2.0 OR MIT
-- What an older store keeps of a legal history is legal, and judged as it was: no rule reads a number, and without
-- deadlines, which a store without moments has none of, none reads a moment.
use Rattle.std.proofs.Common.{ℕ, Bool, true, false, ◌≡◌, ◌≤◌, ◌==◌, List, [], ◌∷◌, ◌++◌, refl, sym, ap, subst, ◌∙◌}
use Rattle.std.proofs.Common.{arith, Option, Some, None, Result, Ok, Err}
use Rattle.std.specs.Prelude.{map}
use Rattle.std.specs.List.{list_any}
use Rattle.std.proofs.lemmas.List.{map-append}
use Rattle.cr_base.specs.declared.deadline.Deadlines.{Deadlines}
use Rattle.cr_base.specs.declared.entry.Entry.{Entry}
use Rattle.cr_base.specs.declared.entry.Entry.TheVariants as entries
use Rattle.cr_base.specs.declared.entry.Stamped.{Stamped}
use Rattle.cr_base.specs.declared.row.OldVersion.{OldVersion}
use Rattle.cr_base.specs.declared.row.OldVersion.TheVariants.{First, Second}
use Rattle.cr_base.specs.declared.words.Phase.{Phase}
use Rattle.cr_base.specs.declared.words.Phase.TheVariants.{Setup}
use Rattle.cr_base.specs.Bulk.{bulk_by_role}
use Rattle.cr_base.specs.Deadlines.{no_deadlines, deadline_in, is_past}
use Rattle.cr_base.specs.Drawn.{Drawn}
use Rattle.cr_base.specs.History.{History, Registration, registration_told}
use Rattle.cr_base.specs.Judging.{judge_by_role}
use Rattle.cr_base.specs.Logins.{command_wants_login}
use Rattle.cr_base.specs.Moments.{IsMoment}
use Rattle.cr_base.specs.Rows.{kind_number, kind_of, row_of, rows_of, migrated}
use Rattle.cr_base.specs.Stage.{StageState, stage_after}
use Rattle.cr_base.specs.Tables.{Tables, no_tables, tables_after, tables_from, tables_of}
use Rattle.cr_history.specs.Invariants.{IsRegistered}
use Rattle.cr_policy.specs.Judge.{judge, judge_bulk}
use Rattle.cr_policy.specs.Legal.{CallsAs, followed_by, Move, calls, bulks, IsMoveAllowed, moved, LeadsTo, Legal}
use Rattle.cr_policy.specs.View.{view}
use Rattle.cr_policy.proofs.LegalLaws.{Legal-moved, Legal-judge, Legal-judge_bulk, given-bounded}
use Rattle.cr_permissions.specs.Migration.{kept_as, all_kept_as, HasKindsOf, Migrates}
use Rattle.cr_permissions.proofs.KeptStamps.{keep, all_kept, IsTimedAlike, kept_result, tables-kept, told-kept}
use Rattle.cr_permissions.proofs.KeptStamps.{call_kept}
use Rattle.cr_permissions.proofs.KeptStamps.{bulk_kept, call-judged, bulk-judged}

-- ---- moves

module _ (time : ℕ → ℕ) (early : (at : ℕ) → IsMoment at → IsMoment (time at)) where
  -- the move at the moment that is kept, without a number
  abbrev move_kept : Move → Move
  move_kept (calls call) = calls (call_kept time call)
  move_kept (bulks bulk) = bulks (bulk_kept time bulk)

  -- who has registered is the same, and so who may call
  registered-kept : (H : History) (user : ℕ) → IsRegistered H user → IsRegistered (all_kept time H) user
  registered-kept H user is = ap (list_any (λ (r : Registration). r.user == user)) (told-kept time registration_told H)
      ∙ is

  caller-kept : (H : History) (login : Bool) (caller : Option ℕ) → CallsAs H login caller
      → CallsAs (all_kept time H) login caller
  caller-kept H false caller is = is
  caller-kept H true None is = is
  caller-kept H true (Some user) is = registered-kept H user is

  allowed-kept : (H : History) (move : Move) → IsMoveAllowed H move → IsMoveAllowed (all_kept time H) (move_kept move)
  allowed-kept H (calls call) allowed = record {
    given = record {
      caller = caller-kept H (command_wants_login call.command) call.caller allowed.given.caller;
      bounded = allowed.given.bounded;
      moment = early call.at allowed.given.moment;
      key = tt;
    };
    unused = tt;
  }
  allowed-kept H (bulks bulk) allowed = record {
    given = record {
      caller = registered-kept H bulk.stamp.maker allowed.given.caller;
      bounded = allowed.given.bounded;
      moment = early bulk.stamp.at allowed.given.moment;
      key = tt;
    };
    unused = tt;
  }

  followed-kept : {E : Type 0} (H : History) (r : Result Drawn E)
      → followed_by (all_kept time H) (kept_result time r) ≡ all_kept time (followed_by H r)
  followed-kept H (Ok drawn) = sym (map-append (keep time) H drawn.group)
  followed-kept H (Err refusal) = refl

  -- the move leads on to the same
  moved-kept : (H : History) (move : Move) → IsTimedAlike time (tables_of H).stage → Legal H → Legal (all_kept time H)
      → IsMoveAllowed H move
      → moved (all_kept time H) (move_kept move) ≡ all_kept time (moved H move)
  moved-kept H (calls call) alike legal kept allowed =
      ap (followed_by (all_kept time H))
      (Legal-judge (all_kept time H) (call_kept time call) kept
      ∙ ap (λ (t : Tables). judge_by_role t (call_kept time call)) (tables-kept time no_tables H)
      ∙ call-judged time (tables_of H) alike call
      ∙ ap (kept_result time) (sym (Legal-judge H call legal)))
      ∙ followed-kept H (judge (view call.caller H) call)
  moved-kept H (bulks bulk) alike legal kept allowed =
      ap (followed_by (all_kept time H))
      (Legal-judge_bulk (all_kept time H) (bulk_kept time bulk) kept
      (registered-kept H bulk.stamp.maker allowed.given.caller)
      (record { moment = early bulk.stamp.at allowed.given.moment; key = tt })
      ∙ ap (λ (t : Tables). bulk_by_role t (bulk_kept time bulk)) (tables-kept time no_tables H)
      ∙ bulk-judged time (tables_of H) alike bulk
      ∙ ap (kept_result time)
      (sym (Legal-judge_bulk H bulk legal allowed.given.caller (given-bounded H bulk allowed.given))))
      ∙ followed-kept H (judge_bulk (view (Some bulk.stamp.maker) H) bulk)

-- ---- histories of a version's kinds

module _ (version : OldVersion) where
  -- what leads on to entries of these kinds began with such entries
  kinds-before : (H g : History) → HasKindsOf version (H ++ g) → HasKindsOf version H
  kinds-before [] g kinds = tt
  kinds-before (e ∷ H) g kinds = (kinds.0, kinds-before H g kinds.1)

  kinds-followed : {E : Type 0} (H : History) (r : Result Drawn E) → HasKindsOf version (followed_by H r)
      → HasKindsOf version H
  kinds-followed H (Ok drawn) kinds = kinds-before H drawn.group kinds
  kinds-followed H (Err refusal) kinds = kinds

  kinds-moved : (H : History) (move : Move) → HasKindsOf version (moved H move) → HasKindsOf version H
  kinds-moved H (calls call) kinds = kinds-followed H (judge (view call.caller H) call) kinds
  kinds-moved H (bulks bulk) kinds = kinds-followed H (judge_bulk (view (Some bulk.stamp.maker) H) bulk) kinds

  kinds-led : (from to : History) (moves : List Move) → LeadsTo from moves to → HasKindsOf version to
      → HasKindsOf version from
  kinds-led from to [] leads kinds = subst (HasKindsOf version) (sym leads) kinds
  kinds-led from to (move ∷ moves) leads kinds =
      kinds-moved from move (kinds-led (moved from move) to moves leads.1 kinds)

  -- where in those it is as late at the moments that are kept, moves lead on as they did
  module _ (time : ℕ → ℕ) (early : (at : ℕ) → IsMoment at → IsMoment (time at))
      (alike : (H : History) → HasKindsOf version H → IsTimedAlike time (tables_of H).stage) where
    leads-kept : (from to : History) (moves : List Move) → HasKindsOf version to → Legal from
        → Legal (all_kept time from) → LeadsTo from moves to
        → LeadsTo (all_kept time from) (map (move_kept time early) moves) (all_kept time to)
    leads-kept from to [] kinds legal kept leads = ap (all_kept time) leads
    leads-kept from to (move ∷ moves) kinds legal kept leads =
        let same_time = alike from (kinds-led from to (move ∷ moves) leads kinds) in
        let allowed : IsMoveAllowed (all_kept time from) (move_kept time early move) =
        allowed-kept time early from move leads.0 in
        let same = moved-kept time early from move same_time legal kept leads.0 in (
          allowed,
          subst (λ (G : History). LeadsTo G (map (move_kept time early) moves) (all_kept time to)) (sym same)
              (leads-kept (moved from move) to moves kinds (Legal-moved from move legal leads.0)
              (subst Legal same (Legal-moved (all_kept time from) (move_kept time early move) kept allowed)) leads.1),
        )

    legal-kept : (H : History) → HasKindsOf version H → Legal H → Legal (all_kept time H)
    legal-kept H kinds legal =
        (map (move_kept time early) legal.0, leads-kept [] H legal.0 kinds ([], refl) ([], refl) legal.1)

-- ---- no deadlines

-- without deadlines it is never too late
never-late : (phase : Phase) (at : ℕ) → is_past (deadline_in no_deadlines phase) at ≡ false
never-late Setup at = refl
never-late phase at = refl

untimed-alike : (time : ℕ → ℕ) (stage : StageState) → stage.deadlines ≡ no_deadlines → IsTimedAlike time stage
untimed-alike time stage untimed at = never (time at) ∙ sym (never at)
  where
    never : (at : ℕ) → is_past (deadline_in stage.deadlines stage.phase) at ≡ false
    never at = ap (λ (deadlines : Deadlines). is_past (deadline_in deadlines stage.phase) at) untimed
        ∙ never-late stage.phase at

-- no entry of a kind that stores without moments have sets one
untimed-entry : (stage : StageState) (e : Entry) → kind_number (kind_of e) ≤ 17 → stage.deadlines ≡ no_deadlines
    → (stage_after stage e).deadlines ≡ no_deadlines
untimed-entry stage (entries.DeadlineSet phase until) few untimed = absurd (omega (arith, few))
untimed-entry stage e few untimed = untimed

untimed-from : (t : Tables) (H : History) → HasKindsOf First H → t.stage.deadlines ≡ no_deadlines
    → (tables_from t H).stage.deadlines ≡ no_deadlines
untimed-from t [] kinds untimed = untimed
untimed-from t (e ∷ H) kinds untimed =
    untimed-from (tables_after t e) H kinds.1 (untimed-entry t.stage e.entry kinds.0 untimed)

-- ---- the law

-- the first moment of all is kept of each, or its own
abbrev the_first : ℕ → ℕ
the_first at = 0

abbrev its_own : ℕ → ℕ
its_own at = at

legal-migrated : (version : OldVersion) (H : History) → HasKindsOf version H → Legal H → Legal (all_kept_as version H)
legal-migrated First H kinds legal =
    legal-kept First the_first (λ at is. omega arith)
    (λ H kinds. untimed-alike the_first (tables_of H).stage (untimed-from no_tables H kinds refl)) H kinds legal
legal-migrated Second H kinds legal = legal-kept Second its_own (λ at is. is) (λ H kinds at. refl) H kinds legal

row-migrated : (version : OldVersion) (e : Stamped) → row_of (kept_as version e) ≡ migrated version (row_of e)
row-migrated First e = refl
row-migrated Second e = refl

rows-migrated : (version : OldVersion) (H : History)
    → rows_of (all_kept_as version H) ≡ map (migrated version) (rows_of H)
rows-migrated version [] = refl
rows-migrated version (e ∷ H) = λ i. row-migrated version e i ∷ rows-migrated version H i

pub migrates : Migrates
migrates = record { legal = legal-migrated; rows = rows-migrated }
