-- SPDX-License-Identifier: Apache-2.0 OR MIT
-- The phase, the mode and the deadlines that a history tells are those of its tables.
use Rattle.std.proofs.Common.{◌≡◌, ℕ, Bool, true, false, List, [], ◌∷◌, ◌++◌, refl, ap, ◌∙◌, Option, None}
use Rattle.std.specs.Prelude.{◌||◌}
use Rattle.std.specs.List.{list_any}
use Rattle.std.proofs.Math.Bool.{or-false}
use Rattle.cr_base.specs.declared.entry.Entry.{Entry}
use Rattle.cr_base.specs.declared.deadline.Deadlines.{Deadlines}
use Rattle.cr_base.specs.declared.entry.Entry.TheVariants.{PhaseSet, ModeSet, DeadlineSet}
use Rattle.cr_base.specs.declared.entry.Stamped.{Stamped}
use Rattle.cr_base.specs.declared.words.Mode.{Mode}
use Rattle.cr_base.specs.declared.words.Phase.{Phase}
use Rattle.cr_base.specs.declared.words.Phase.TheVariants.{Setup, Submission, Bidding, Reviewing, Response, Discussion}
use Rattle.cr_base.specs.Deadlines.{no_deadlines, deadline_in, with_deadline}
use Rattle.cr_base.specs.Lists.{last_or}
use Rattle.cr_base.specs.History.{History, all_told, phase_told, mode_told, deadline_given, deadline_told, opens}
use Rattle.cr_base.specs.History.{opens_response}
use Rattle.cr_base.specs.HistoryFacts.{phase_of, mode_of, deadline_of, had_response_of}
use Rattle.cr_base.specs.Phases.{is_phase}
use Rattle.cr_base.specs.Stage.{StageState, stage_after}
use Rattle.cr_base.specs.Tables.{Tables, no_tables, tables_after, tables_from, tables_of}
use Rattle.cr_base.proofs.LastLaws.{last_or-cons}
use Rattle.cr_history.proofs.Folds.{told-always}

-- ---- the phase

phase-entry : (stage : StageState) (e : Entry) (rest : List Phase)
    → last_or stage.phase (phase_told e ++ rest) ≡ last_or (stage_after stage e).phase rest
phase-entry stage (PhaseSet next) rest = last_or-cons stage.phase next rest
phase-entry stage e rest = refl

-- the phase is the last one set
pub phase_of-tables : (H : History) → phase_of H ≡ (tables_of H).stage.phase
phase_of-tables H = told-always last_or (λ _. refl) (λ (t : Tables). t.stage.phase)
    (λ (s : Stamped). phase_told s.entry) (λ t s. phase-entry t.stage s.entry) no_tables H

-- ---- whether the response was opened

opened-entry : (stage : StageState) (e : Entry) (rest : Bool)
    → (stage.had_response || (opens Response e || rest)) ≡ ((stage_after stage e).had_response || rest)
opened-entry stage (PhaseSet next) rest = by stage.had_response (is_phase next Response) rest
  where
    by : (had opened rest : Bool) → (had || (opened || rest)) ≡ ((opened || had) || rest)
    by true true rest = refl
    by true false rest = refl
    by false true rest = refl
    by false false rest = refl
opened-entry stage e rest = refl

opened-from : (t : Tables) (H : History)
    → (t.stage.had_response || list_any opens_response H) ≡ (tables_from t H).stage.had_response
opened-from t [] = or-false t.stage.had_response
opened-from t (s ∷ H) = opened-entry t.stage s.entry (list_any opens_response H) ∙ opened-from (tables_after t s) H

-- it was where the tables say so
pub had_response-tables : (H : History) → had_response_of H ≡ (tables_of H).stage.had_response
had_response-tables H = opened-from no_tables H

-- ---- the mode

mode-entry : (stage : StageState) (e : Entry) (rest : List Mode)
    → last_or stage.mode (mode_told e ++ rest) ≡ last_or (stage_after stage e).mode rest
mode-entry stage (ModeSet next) rest = last_or-cons stage.mode next rest
mode-entry stage e rest = refl

-- the mode is the last one set
pub mode_of-tables : (H : History) → mode_of H ≡ (tables_of H).stage.mode
mode_of-tables H = told-always last_or (λ _. refl) (λ (t : Tables). t.stage.mode) (λ (s : Stamped). mode_told s.entry)
    (λ t s. mode-entry t.stage s.entry) no_tables H

-- ---- the deadlines

deadline-set : (deadlines : Deadlines) (set phase : Phase) (until : Option ℕ) (rest : List (Option ℕ))
    → last_or (deadline_in deadlines phase) (deadline_given phase set until ++ rest)
    ≡ last_or (deadline_in (with_deadline set until deadlines) phase) rest
deadline-set deadlines Submission Submission until rest = last_or-cons deadlines.submission until rest
deadline-set deadlines Bidding Bidding until rest = last_or-cons deadlines.bidding until rest
deadline-set deadlines Reviewing Reviewing until rest = last_or-cons deadlines.reviewing until rest
deadline-set deadlines Response Response until rest = last_or-cons deadlines.response until rest
deadline-set deadlines Discussion Discussion until rest = last_or-cons deadlines.discussion until rest
deadline-set deadlines set phase until rest = refl

deadline-entry : (phase : Phase) (stage : StageState) (e : Entry) (rest : List (Option ℕ))
    → last_or (deadline_in stage.deadlines phase) (deadline_told phase e ++ rest)
    ≡ last_or (deadline_in (stage_after stage e).deadlines phase) rest
deadline-entry phase stage (DeadlineSet set until) rest = deadline-set stage.deadlines set phase until rest
deadline-entry phase stage e rest = refl

none-first : (phase : Phase) → None ≡ deadline_in no_deadlines phase
none-first Setup = refl
none-first phase = refl

-- the deadline of a phase is the last one set, where the phase may have one
pub deadline_of-tables : (phase : Phase) (H : History)
    → deadline_of phase H ≡ deadline_in (tables_of H).stage.deadlines phase
deadline_of-tables phase H =
    ap (λ (first : Option ℕ). last_or first (all_told (deadline_told phase) H)) (none-first phase)
    ∙ told-always last_or (λ _. refl) (λ (t : Tables). deadline_in t.stage.deadlines phase)
    (λ (s : Stamped). deadline_told phase s.entry)
    (λ t s. deadline-entry phase t.stage s.entry) no_tables H
