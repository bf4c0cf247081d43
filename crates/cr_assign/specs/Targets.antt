-- SPDX-License-Identifier: Apache-2.0 OR MIT
-- The user whom a command names, and the paper's labels, as the rules ask of them.
use Rattle.std.specs.Prelude.{ℕ, Bool, false, not, ◌&&◌, Option, Some, is_some, unwrap_or}
use Rattle.std.specs.Option.{option_map, option_and_then}
use Rattle.cr_base.specs.declared.target.Target.{Target}
use Rattle.cr_base.specs.declared.words.Role.{Role}
use Rattle.cr_base.specs.Invites.{InvitesState, is_invited_in}
use Rattle.cr_base.specs.Lists.{at_some}
use Rattle.cr_base.specs.Seats.{SeatsState, labels_in, ordinal_in}
use Rattle.cr_base.specs.Words.{is_member}

-- a user of this role, whether she is in conflict with the paper named, under which ordinal she reviews it, if she
-- does, and whether she is an external of it; no rule about assignments and invitations asks whether she is the caller,
-- or an author
abbrev pub target_with : Role → Bool → Option ℕ → Bool → Target
target_with role conflicted held external = record {
  role = role;
  herself = false;
  author = false;
  conflicted = conflicted;
  reviewer = is_some held;
  external = external;
}

-- the ordinal under which the user reviews the paper, where there are both
abbrev pub ordinal_at : SeatsState → Option ℕ → Option ℕ → Option ℕ
ordinal_at seats user paper = option_and_then (λ p. ordinal_in seats user p) paper

-- whether the user is no member, of this role, and invited to the paper, where there are both
abbrev pub external_at : InvitesState → Role → Option ℕ → Option ℕ → Bool
external_at invites role user paper = not (is_member role) && at_some (is_invited_in invites user) paper

-- the user named, where there is one
abbrev pub target_of : SeatsState → InvitesState → Bool → Option ℕ → Option (ℕ × Role) → Option Target
target_of seats invites conflicted paper target =
    option_map
    (λ (t : ℕ × Role). target_with t.1 conflicted (ordinal_at seats (Some t.0) paper)
    (external_at invites t.1 (Some t.0) paper))
    target

-- the ordinal under which the user named reviews the paper; how many labels the paper has given; and whether the user
-- named is invited to the paper
abbrev pub held_at : SeatsState → Option ℕ → Option (ℕ × Role) → ℕ
held_at seats paper target = unwrap_or (ordinal_at seats (option_map (λ (t : ℕ × Role). t.0) target) paper) 0

abbrev pub labels_at : SeatsState → Option ℕ → ℕ
labels_at seats paper = labels_in seats (unwrap_or paper 0)

abbrev pub invited_at : InvitesState → Option ℕ → Option (ℕ × Role) → Bool
invited_at invites paper target = at_some (is_invited_in invites (option_map (λ (t : ℕ × Role). t.0) target)) paper
