-- SPDX-License-Identifier: Apache-2.0 OR MIT
-- Told of the conference: the answers tell what everyone is shown of accounts, the phase, the mode and deadlines.
use Rattle.std.specs.Prelude.{ℕ, ◌≡◌, List, length, map, Option, Some, None, unwrap_or}
use Rattle.std.specs.List.{flat_map}
use Rattle.cr_base.specs.declared.command.Query.TheVariants as queries
use Rattle.cr_base.specs.declared.entry.EntryKind.{EntryKind}
use Rattle.cr_base.specs.declared.entry.EntryKind.TheVariants as kinds
use Rattle.cr_base.specs.declared.reply.AccountLine.{AccountLine}
use Rattle.cr_base.specs.declared.reply.Reply.TheVariants as replies
use Rattle.cr_base.specs.declared.words.Mode.TheVariants.{Blind}
use Rattle.cr_base.specs.declared.words.Phase.{Phase}
use Rattle.cr_base.specs.declared.words.Phase.TheVariants.{Setup}
use Rattle.cr_base.specs.declared.words.Role.{Role}
use Rattle.cr_base.specs.declared.words.Role.TheVariants.{Account}
use Rattle.cr_base.specs.Deadlines.{deadlines_told}
use Rattle.cr_base.specs.Lists.{listed, last_or}
use Rattle.cr_base.specs.History.{History}
use Rattle.cr_policy.specs.Judge.{answer}
use Rattle.cr_policy.specs.Sighting.{Sighting}
use Rattle.cr_policy.specs.View.{View, view}
use Rattle.cr_policy.specs.ViewFacts.{only, is_user, is_kind, shows_phase}

-- what the sightings show in this part, in order
abbrev pub all_shown : {A : Type 0} → (Sighting → Option A) → View → List A
all_shown part V = flat_map (λ (s : Sighting). listed (part s)) V

-- the phases that are shown to be set, in order
abbrev pub phases_shown : View → List Phase
phases_shown V = flat_map (λ (s : Sighting). only (is_kind kinds.PhaseSet s) (listed s.phase)) V

-- the deadlines of this phase that are shown, in order; `None` each time that one is taken away
abbrev pub deadlines_shown : Phase → View → List (Option ℕ)
deadlines_shown phase V = flat_map (λ (s : Sighting). only (shows_phase phase s.phase) (listed s.until)) V

-- the role that a sighting of this kind shows of its user: the one to which it appoints them, or an account's if it
-- dismisses them
abbrev pub role_by : EntryKind → Option Role → Option Role
role_by kinds.Dismissed role = Some Account
role_by _ role = role

-- the roles that the user is shown to be given, in order
abbrev pub roles_shown : Option ℕ → View → List Role
roles_shown user V = flat_map (λ (s : Sighting). only (is_user user s.user) (listed (role_by s.kind s.role))) V

-- the last role that the user is shown to be given; else an account's
abbrev pub role_shown : Option ℕ → View → Role
role_shown user V = last_or Account (roles_shown user V)

-- the account whose name a sighting shows; none if it shows no name
abbrev pub account_shown : View → Sighting → List AccountLine
account_shown V s =
    map (λ (name : List ℕ). record { user = unwrap_or s.user 0; name = name; role = role_shown s.user V })
    (listed s.name)

-- the accounts that are answered are all whose names are shown
abbrev pub AccountsTold : Type 0
AccountsTold = (u : Option ℕ) (H : History)
    → answer u (view u H) queries.Accounts ≡ replies.Accounts (flat_map (account_shown (view u H)) (view u H))

-- the phase and the mode that are answered are the last that are shown, else setup and blind; the number of papers is
-- that of the submissions shown
abbrev pub ConferenceTold : Type 0
ConferenceTold =
    (u : Option ℕ) (H : History)
    → answer u (view u H) queries.Phase
    ≡ replies.Conference (record {
      mode = last_or Blind (all_shown (λ (s : Sighting). s.mode) (view u H));
      papers = length (flat_map (λ (s : Sighting). only (is_kind kinds.Submitted s) (listed s.paper)) (view u H));
      phase = last_or Setup (phases_shown (view u H));
    })

-- the deadlines that are answered are the last that are shown, of each phase that may have one, if it isn't taken away
abbrev pub DeadlinesTold : Type 0
DeadlinesTold =
    (u : Option ℕ) (H : History)
    → answer u (view u H) queries.Deadlines
    ≡ replies.Deadlines (deadlines_told (λ (phase : Phase). last_or None (deadlines_shown phase (view u H))))
