-- SPDX-License-Identifier: Apache-2.0 OR MIT
-- What everyone is shown, the answers on accounts, on the conference and on its deadlines tell.
use Rattle.std.proofs.Common.{◌≡◌, ℕ, Bool, true, false, List, [], ◌∷◌, ◌++◌, length, refl, sym, ap, ◌∙◌, ◌&&◌}
use Rattle.std.proofs.Common.{Option}
use Rattle.std.proofs.Common.{Some, None}
use Rattle.std.specs.Prelude.{map, nat_le, not}
use Rattle.std.specs.List.{flat_map}
use Rattle.std.specs.Option.{option_map}
use Rattle.std.proofs.lemmas.Bool.{eqb-true, true≢false}
use Rattle.cr_base.specs.declared.entry.Entry.{Entry}
use Rattle.cr_base.specs.declared.entry.Entry.TheVariants.{Registered, Named, Dismissed, PhaseSet, ModeSet, Submitted}
use Rattle.cr_base.specs.declared.entry.Entry.TheVariants.{DeadlineSet}
use Rattle.cr_base.specs.declared.entry.EntryKind.TheVariants as kinds
use Rattle.cr_base.specs.declared.entry.Stamp.{Stamp}
use Rattle.cr_base.specs.declared.reply.AccountLine.{AccountLine}
use Rattle.cr_base.specs.declared.reply.Reply.TheVariants as replies
use Rattle.cr_base.specs.declared.words.Mode.TheVariants.{Blind}
use Rattle.cr_base.specs.declared.words.Phase.{Phase}
use Rattle.cr_base.specs.declared.words.Phase.TheVariants.{Setup, Submission, Bidding, Reviewing, Response}
use Rattle.cr_base.specs.declared.words.Phase.TheVariants.{Discussion}
use Rattle.cr_base.specs.declared.words.Role.TheVariants.{Account}
use Rattle.cr_base.specs.Deadlines.{phase_deadline, deadlines_told as told_of}
use Rattle.cr_base.specs.History.{History, Registration}
use Rattle.cr_base.specs.Lists.{given, listed, last_or}
use Rattle.cr_base.specs.Phases.{phase_rank, is_phase, may_have_deadline}
use Rattle.cr_policy.specs.Sighting.{Sighting}
use Rattle.cr_policy.specs.View.{view}
use Rattle.cr_policy.specs.ViewFacts.{only, is_user, is_kind, shows_phase, phase_seen, mode_seen, deadline_seen}
use Rattle.cr_policy.specs.ViewFacts.{paper_seen, role_seen, registration_seen, deadline_in_view, role_in_view}
use Rattle.cr_policy.specs.ViewFacts.{accounts_in_view}
use Rattle.cr_policy.proofs.Walk.{map-flat_map}
use Rattle.cr_bounds.proofs.BoundsWalk.{shown_to}
use Rattle.cr_told.specs.ToldPublic.{all_shown, phases_shown, deadlines_shown, role_by, role_shown, account_shown}
use Rattle.cr_told.specs.ToldPublic.{AccountsTold, ConferenceTold, DeadlinesTold}
use Rattle.cr_told.proofs.ToldShown.{readings}

module _ (u : Option ℕ) (H : History) where
  pub phases : flat_map phase_seen (view u H) ≡ phases_shown (view u H)
  phases = readings u 0 H phase_seen (λ (s : Sighting). only (is_kind kinds.PhaseSet s) (listed s.phase)) one
    where
      one : (before later : History) (stamp : Stamp) (e : Entry)
          → phase_seen (shown_to u H before later stamp e)
          ≡ (let s : Sighting = shown_to u H before later stamp e in only (is_kind kinds.PhaseSet s) (listed s.phase))
      one before later stamp (PhaseSet phase) = refl
      one before later stamp e = refl

  -- of a phase that may have one
  pub deadlines : (phase : Phase) → may_have_deadline phase ≡ true
      → deadline_in_view phase (view u H) ≡ last_or None (deadlines_shown phase (view u H))
  deadlines phase may =
      ap (last_or None) (readings u 0 H (deadline_seen phase)
      (λ (s : Sighting). only (shows_phase phase s.phase) (listed s.until)) one)
    where
      same : (m b : Bool) (until : Option ℕ) → (b ≡ true → m ≡ true) → given (m && b) until ≡ only b (until ∷ [])
      same true true until h = refl
      same true false until h = refl
      same false true until h = absurd (true≢false (sym (h refl)))
      same false false until h = refl

      one : (before later : History) (stamp : Stamp) (e : Entry)
          → deadline_seen phase (shown_to u H before later stamp e)
          ≡ (let s : Sighting = shown_to u H before later stamp e in only (shows_phase phase s.phase) (listed s.until))
      one before later stamp (DeadlineSet set until) =
          same (may_have_deadline set) (is_phase set phase) until
          (λ is. ap (λ n. nat_le 1 n && not (nat_le 6 n)) (eqb-true (phase_rank set) (phase_rank phase) is) ∙ may)
      one before later stamp (PhaseSet to) = refl
      one before later stamp e = refl

  pub modes : flat_map mode_seen (view u H) ≡ all_shown (λ (s : Sighting). s.mode) (view u H)
  modes = readings u 0 H mode_seen (λ (s : Sighting). listed s.mode) one
    where
      one : (before later : History) (stamp : Stamp) (e : Entry)
          → mode_seen (shown_to u H before later stamp e) ≡ listed (shown_to u H before later stamp e).mode
      one before later stamp (ModeSet mode) = refl
      one before later stamp e = refl

  papers : flat_map paper_seen (view u H) ≡ flat_map
      (λ (s : Sighting). only (is_kind kinds.Submitted s) (listed s.paper)) (view u H)
  papers = readings u 0 H paper_seen (λ (s : Sighting). only (is_kind kinds.Submitted s) (listed s.paper)) one
    where
      one : (before later : History) (stamp : Stamp) (e : Entry)
          → paper_seen (shown_to u H before later stamp e)
          ≡ (let s : Sighting = shown_to u H before later stamp e in only (is_kind kinds.Submitted s) (listed s.paper))
      one before later stamp (Submitted paper title abstract) = refl
      one before later stamp e = refl

  pub roles : (v : Option ℕ) → role_in_view v (view u H) ≡ role_shown v (view u H)
  roles v =
      ap (last_or Account) (readings u 0 H (role_seen v)
      (λ (s : Sighting). only (is_user v s.user) (listed (role_by s.kind s.role))) one)
    where
      one : (before later : History) (stamp : Stamp) (e : Entry)
          → role_seen v (shown_to u H before later stamp e)
          ≡ (let s : Sighting = shown_to u H before later stamp e in only (is_user v s.user)
          (listed (role_by s.kind s.role)))
      one before later stamp (Named user role) = refl
      one before later stamp (Dismissed user) = refl
      one before later stamp e = refl

  accounts : accounts_in_view (view u H) ≡ flat_map (account_shown (view u H)) (view u H)
  accounts =
      (λ i. map (λ (r : Registration). record { user = r.user; name = r.name; role = roles (Some r.user) i })
      (flat_map registration_seen (view u H)))
      ∙ map-flat_map line registration_seen (view u H)
      ∙ readings u 0 H (λ (s : Sighting). map line (registration_seen s)) (account_shown (view u H)) one
    where
      line : Registration → AccountLine
      line r = record { user = r.user; name = r.name; role = role_shown (Some r.user) (view u H) }

      one : (before later : History) (stamp : Stamp) (e : Entry)
          → map line (registration_seen (shown_to u H before later stamp e)) ≡ account_shown (view u H)
          (shown_to u H before later stamp e)
      one before later stamp (Registered user name digest) = refl
      one before later stamp e = refl

pub accounts_told : AccountsTold
accounts_told u H = ap (λ (lines : List AccountLine). replies.Accounts lines) (accounts u H)

pub conference_told : ConferenceTold
conference_told u H =
    λ i. replies.Conference
    (record {
      mode = last_or Blind (modes u H i);
      papers = length (papers u H i);
      phase = last_or Setup (phases u H i);
    })

-- five phases may have one
told_of-same : (D E : Phase → Option ℕ) → D Submission ≡ E Submission → D Bidding ≡ E Bidding
    → D Reviewing ≡ E Reviewing → D Response ≡ E Response
    → D Discussion ≡ E Discussion → told_of D ≡ told_of E
told_of-same D E s b r a d = λ i.
    listed (option_map (phase_deadline Submission) (s i))
    ++ (listed (option_map (phase_deadline Bidding) (b i))
    ++ (listed (option_map (phase_deadline Reviewing) (r i))
    ++ (listed (option_map (phase_deadline Response) (a i))
    ++ (listed (option_map (phase_deadline Discussion) (d i)) ++ []))))

pub deadlines_told : DeadlinesTold
deadlines_told u H =
    ap (λ lines. replies.Deadlines lines)
    (told_of-same (λ phase. deadline_in_view phase (view u H))
    (λ phase. last_or None (deadlines_shown phase (view u H)))
    (deadlines u H Submission refl) (deadlines u H Bidding refl) (deadlines u H Reviewing refl)
    (deadlines u H Response refl) (deadlines u H Discussion refl))
