-- SPDX-License-Identifier: Apache-2.0 OR MIT
-- What single commands draw that name no user, by reads of the tables.
use Rattle.std.proofs.Common.{ℕ, Bool, true, false, cond, ◌≡◌, ◌+◌, ◌==◌, List, [], ◌∷◌, length, refl, sym, ap, ◌∙◌}
use Rattle.std.proofs.Common.{Option, Some, None, Result, Ok, Err}
use Rattle.std.specs.Prelude.{is_some, unwrap_or}
use Rattle.cr_base.specs.declared.entry.Entry.TheVariants as entries
use Rattle.cr_base.specs.Drawn.{alone}
use Rattle.cr_base.specs.declared.resolved.ResolvedCommand.TheVariants as commands
use Rattle.cr_base.specs.declared.resolved.ResolvedCommand.TheVariants.{SetPhase, SetMode, SetDeadline, Upload}
use Rattle.cr_base.specs.declared.entry.Account.{Account}
use Rattle.cr_base.specs.declared.entry.Entry.{Entry}
use Rattle.cr_base.specs.declared.entry.Entry.TheVariants.{Registered, Named}
use Rattle.cr_base.specs.declared.entry.Stamp.{Stamp}
use Rattle.cr_base.specs.declared.reply.Receipt.TheVariants as receipts
use Rattle.cr_base.specs.declared.reply.Rule.{Rule}
use Rattle.cr_base.specs.declared.retry.RetryKey.{RetryKey}
use Rattle.cr_base.specs.declared.standing.Standing.{Standing}
use Rattle.cr_base.specs.declared.words.Mode.{Mode}
use Rattle.cr_base.specs.declared.words.Phase.{Phase}
use Rattle.cr_base.specs.declared.words.Role.TheVariants.{Chair}
use Rattle.cr_base.specs.Accounts.{number_at}
use Rattle.cr_base.specs.Calls.{resolved_by, stamp_by}
use Rattle.cr_base.specs.Checks.{judged, register_checks, phase_checks, mode_checks, deadline_checks, revise_checks}
use Rattle.cr_base.specs.Checks.{upload_checks}
use Rattle.cr_base.specs.Drawn.{Drawn, grouped, registration}
use Rattle.cr_base.specs.Judging.{resolved_by_role}
use Rattle.cr_base.specs.Papers.{PapersState, uploads_at, own_bytes}
use Rattle.cr_base.specs.Sources.{standing_at}
use Rattle.cr_base.specs.Stage.{StageState, is_late_in}
use Rattle.cr_base.specs.Tables.{Tables}
use Rattle.cr_base.proofs.AccountLaws.{length-lines_of, number_in-lines_of}
use Rattle.cr_papers.specs.Named.{named_in}
use Rattle.cr_view.proofs.JudgeLaws.{made_of, judged-made}
use Rattle.cr_judge.specs.declared.effect.Rest.{Rest}
use Rattle.cr_judge.specs.declared.effect.Rest.TheVariants as rests
use Rattle.cr_judge.specs.Effects.{behind, drawn_by}

-- a registration; the first user is made a chair
module _ (t : Tables) (at : ℕ) (key : Option RetryKey) (name digest : List ℕ) (seen : List Account)
    (same : seen ≡ t.accounts) where
  -- what it draws, where it has this number
  abbrev registered : ℕ → Drawn
  registered user = record {
    group = grouped (stamp_by user at key) (registration user name digest);
    receipt = receipts.User user;
  }

  abbrev due : Result Drawn Rule
  due =
      resolved_by_role t (record { caller = None; at = at; key = key; command = commands.Register name digest })

  -- the lines of the accounts tell whether the name is taken, and how many there are
  registration-judged : judged (register_checks (is_some (number_at t.accounts name)) (length t.accounts))
      (registered (length t.accounts + 1)) ≡ due
  registration-judged =
      λ i. judged (register_checks (is_some (sym (number_in-lines_of t.accounts name) i))
      (sym (length-lines_of t.accounts) i))
      (registered (sym (length-lines_of t.accounts) i + 1))

  registration-made : (r : Result ℕ Rule) → r ≡ judged (register_checks (is_some (number_at seen name)) (length seen))
      (length seen + 1)
      → made_of registered r ≡ due
  registration-made r judges =
      judged-made (register_checks (is_some (number_at seen name)) (length seen)) registered (length seen + 1) r judges
      ∙ ap (λ (x : List Account). judged (register_checks (is_some (number_at x name)) (length x))
      (registered (length x + 1))) same
      ∙ registration-judged

  pub registration-refused : (rule : Rule)
      → ◌≡◌ {A = Result ℕ Rule} (Err rule) (judged (register_checks (is_some (number_at seen name)) (length seen))
      (length seen + 1))
      → ◌≡◌ {A = Result Drawn Rule} (Err rule) due
  registration-refused rule judges = registration-made (Err rule) judges

  pub registration-drawn : (user : ℕ)
      → ◌≡◌ {A = Result ℕ Rule} (Ok user) (judged (register_checks (is_some (number_at seen name)) (length seen))
      (length seen + 1))
      → (rest : Rest) → rest ≡ cond (user == 1) (rests.FirstChair user) rests.Nothing
      → ◌≡◌ {A = Result Drawn Rule}
      (Ok
      (drawn_by t.accounts
      (record { stamp = stamp_by user at key; first = Registered user name digest; rest = rest }))) due
  registration-drawn user judges rest is =
      ap (λ (es : List Entry). Ok (record { group = grouped (stamp_by user at key) es; receipt = receipts.User user }))
      (ap (λ (r : Rest). first ∷ behind r) is ∙ by (user == 1))
      ∙ registration-made (Ok user) judges
    where
      first : Entry
      first = Registered user name digest

      by : (b : Bool) → first ∷ behind (cond b (rests.FirstChair user) rests.Nothing)
          ≡ first ∷ cond b (Named user Chair ∷ []) []
      by true = refl
      by false = refl

-- the phase, the mode and the deadlines
module _ (t : Tables) (stamp : Stamp) (by : Standing) (stands : by ≡ standing_at t (Some stamp.maker) None)
    (seen : StageState) (same : seen ≡ t.stage)
    (kept : Result (Unit {0}) Rule) where
  pub phase-drawn : (to : Phase) → kept ≡ judged (phase_checks by seen.phase to) tt
      → made_of (λ (done : Unit {0}). alone stamp (entries.PhaseSet to)) kept ≡ resolved_by_role t (resolved_by stamp
      (SetPhase to))
  phase-drawn to judges =
      judged-made (phase_checks by seen.phase to) (λ (done : Unit {0}). alone stamp (entries.PhaseSet to)) tt kept
      judges
      ∙ (λ i. judged (phase_checks (stands i) (same i).phase to) (alone stamp (entries.PhaseSet to)))

  pub mode-drawn : (to : Mode) → kept ≡ judged (mode_checks by seen.phase) tt
      → made_of (λ (done : Unit {0}). alone stamp (entries.ModeSet to)) kept ≡ resolved_by_role t (resolved_by stamp
      (SetMode to))
  mode-drawn to judges =
      judged-made (mode_checks by seen.phase) (λ (done : Unit {0}). alone stamp (entries.ModeSet to)) tt kept judges
      ∙ (λ i. judged (mode_checks (stands i) (same i).phase) (alone stamp (entries.ModeSet to)))

  pub deadline-drawn : (phase : Phase) (until : Option ℕ) → kept ≡ judged (deadline_checks by seen.phase phase) tt
      → made_of (λ (done : Unit {0}). alone stamp (entries.DeadlineSet phase until)) kept
      ≡ resolved_by_role t (resolved_by stamp (SetDeadline phase until))
  deadline-drawn phase until judges =
      judged-made (deadline_checks by seen.phase phase) (λ (done : Unit {0}). alone stamp (entries.DeadlineSet phase
      until)) tt kept
      judges
      ∙ (λ i. judged (deadline_checks (stands i) (same i).phase phase) (alone stamp (entries.DeadlineSet phase until)))

-- what an author does with her paper, until it is too late
module _ (t : Tables) (stamp : Stamp) (paper : Option ℕ) (by : Standing)
    (stands : by ≡ standing_at t (Some stamp.maker) paper)
    (seen : PapersState) (same : seen ≡ t.papers) (late : Bool) (when : late ≡ is_late_in t.stage stamp.at) where
  -- a revision or a withdrawal, of which the same is asked
  pub revision-drawn : (draw : ℕ → Drawn) (kept : Result (Unit {0}) Rule)
      → kept ≡ judged (revise_checks by (named_in seen paper) late) tt
      → made_of (λ (done : Unit {0}). draw (unwrap_or paper 0)) kept
      ≡ judged (revise_checks (standing_at t (Some stamp.maker) paper) (named_in t.papers paper)
      (is_late_in t.stage stamp.at)) (draw (unwrap_or paper 0))
  revision-drawn draw kept judges =
      judged-made (revise_checks by (named_in seen paper) late) (λ (done : Unit {0}). draw (unwrap_or paper 0)) tt kept
      judges
      ∙ (λ i. judged (revise_checks (stands i) (named_in (same i) paper) (when i)) (draw (unwrap_or paper 0)))

  -- an upload, judged by so many bytes
  pub upload-made : (content : List ℕ) (count : ℕ) → count ≡ length content → (r : Result ℕ Rule)
      → r ≡ judged (upload_checks by (named_in seen paper) (own_bytes seen (Some stamp.maker)) count late)
      (length (uploads_at seen (unwrap_or paper 0)) + 1)
      → made_of (λ (version : ℕ). alone stamp (entries.Uploaded (unwrap_or paper 0) version content)) r
      ≡ resolved_by_role t (resolved_by stamp (Upload paper content))
  upload-made content count counted r judges =
      judged-made (upload_checks by (named_in seen paper) (own_bytes seen (Some stamp.maker)) count late)
      (λ (version : ℕ). alone stamp (entries.Uploaded (unwrap_or paper 0) version content))
      (length (uploads_at seen (unwrap_or paper 0)) + 1) r judges
      ∙
      (λ i. judged (upload_checks (stands i) (named_in (same i) paper) (own_bytes (same i) (Some stamp.maker))
      (counted i) (when i))
      (alone stamp (entries.Uploaded (unwrap_or paper 0) (length (uploads_at (same i) (unwrap_or paper 0)) + 1)
      content)))
