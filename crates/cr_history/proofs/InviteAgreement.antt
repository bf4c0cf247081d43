-- SPDX-License-Identifier: Apache-2.0 OR MIT
-- Who is invited to a paper by what a history tells is who is by the table of invitations.
use Rattle.std.proofs.Common.{ℕ, Bool, true, false, ◌≡◌, List, [], ◌++◌, eqb, refl, sym, ap, ◌∙◌, ◌&&◌, Option, Some}
use Rattle.std.proofs.Common.{None}
use Rattle.std.specs.Prelude.{not}
use Rattle.cr_base.specs.declared.entry.Entry.{Entry}
use Rattle.cr_base.specs.declared.entry.Entry.TheVariants.{Invited, Uninvited}
use Rattle.cr_base.specs.declared.entry.Stamped.{Stamped}
use Rattle.cr_base.specs.declared.words.Role.{Role}
use Rattle.cr_base.specs.Accounts.{role_in}
use Rattle.cr_base.specs.History.{History, invite_told}
use Rattle.cr_base.specs.HistoryFacts.{is_external, is_invited}
use Rattle.cr_base.specs.Invites.{InvitesState, invites_after, is_invited_in}
use Rattle.cr_base.specs.Lists.{given, last_or}
use Rattle.cr_base.specs.Sources.{is_external_in}
use Rattle.cr_base.specs.Tables.{Tables, no_tables, tables_of, FitInTurn}
use Rattle.cr_base.specs.Words.{is_member}
use Rattle.cr_base.proofs.InviteLaws.{is_invited_in-after}
use Rattle.cr_history.proofs.Folds.{last_or-append, told-always, each-silent}
use Rattle.cr_history.proofs.RoleAgreement.{role_of-tables}

invite-entry : (p v : ℕ) (invites : InvitesState) (e : Entry) (rest : List Bool)
    → last_or (is_invited_in invites (Some v) p) (invite_told (Some v) p e ++ rest)
    ≡ last_or (is_invited_in (invites_after invites e) (Some v) p) rest
invite-entry p v invites e rest =
    last_or-append (is_invited_in invites (Some v) p) (invite_told (Some v) p e) rest
    ∙ ap (λ b. last_or b rest) (sym (is_invited_in-after (Some v) p invites e))

-- nothing is told of nobody
nobody-entry : (p : ℕ) (e : Entry) → invite_told None p e ≡ []
nobody-entry p (Invited paper user) = by (eqb paper p)
  where
    by : (b : Bool) → given (b && false) true ≡ []
    by true = refl
    by false = refl
nobody-entry p (Uninvited paper user) = by (eqb paper p)
  where
    by : (b : Bool) → given (b && false) false ≡ []
    by true = refl
    by false = refl
nobody-entry p e = refl

pub is_invited-tables : (u : Option ℕ) (p : ℕ) (H : History)
    → is_invited u p H ≡ is_invited_in (tables_of H).invites u p
is_invited-tables None p H =
    ap (last_or false) (each-silent (λ (s : Stamped). invite_told None p s.entry) (λ s. nobody-entry p s.entry) H)
is_invited-tables (Some v) p H =
    told-always last_or (λ _. refl) (λ (t : Tables). is_invited_in t.invites (Some v) p)
    (λ (s : Stamped). invite_told (Some v) p s.entry)
    (λ t s. invite-entry p v t.invites s.entry) no_tables H

-- and who is an external of it
pub is_external-tables : (u : Option ℕ) (p : ℕ) (H : History) → FitInTurn no_tables H
    → is_external u p H ≡ is_external_in (tables_of H) u p
is_external-tables u p H fits =
    ap (λ (role : Role). not (is_member role) && is_invited u p H) (role_of-tables u H fits)
    ∙ ap (λ (b : Bool). not (is_member (role_in (tables_of H).accounts u)) && b) (is_invited-tables u p H)
