-- SPDX-License-Identifier: Apache-2.0 OR MIT
-- The table of invitations: who may review which paper as one from outside the committee (the HotCRP manual's external
-- reviewers).
use Rattle.std.specs.Prelude.{ℕ, Bool, false, [], fold, Option, Some, None}
use Rattle.cr_base.specs.declared.entry.Entry.{Entry}
use Rattle.cr_base.specs.declared.entry.Entry.TheVariants.{Invited, Uninvited}
use Rattle.cr_base.specs.declared.entry.Stamped.{Stamped}
use Rattle.cr_base.specs.declared.pairs.Order.TheVariants.{ByPaper}
use Rattle.cr_base.specs.History.{History}
use Rattle.cr_base.specs.Pairs.{with_tie, without_pair, has_pair}
use Rattle.cr_base.specs.Ties.{BareTies, pair_of, bare_tie}

-- ---- the state

-- papers and the users who are invited to them, members since or not, in ascending order
abbrev pub InvitesState : Type 0
InvitesState = BareTies

-- no invitations
abbrev pub no_invites : InvitesState
no_invites = []

-- the invitations after one more entry
abbrev pub invites_after : InvitesState → Entry → InvitesState
invites_after invites (Invited paper user) = with_tie ByPaper (bare_tie paper user) invites
invites_after invites (Uninvited paper user) = without_pair (pair_of paper user) invites
invites_after invites _ = invites

-- the invitations after these entries
abbrev pub invites_from : InvitesState → History → InvitesState
invites_from invites entries = fold (λ (t : InvitesState) (e : Stamped). invites_after t e.entry) invites entries

-- ---- what is read

-- whether the user is invited to the paper
abbrev pub is_invited_in : InvitesState → Option ℕ → ℕ → Bool
is_invited_in invites None p = false
is_invited_in invites (Some user) p = has_pair (pair_of p user) invites
