-- SPDX-License-Identifier: Apache-2.0 OR MIT
-- Makers: an entry may have been made by any other user who had the right then, if no rule reads who made it. This
-- holds of phases, modes, deadlines, appointments, dismissals, revisions, withdrawals, responses, conflicts, bids,
-- assignments, invitations, tags and decisions. It doesn't hold of registrations, submissions and co-authors, which
-- belong to the users whom they name; of uploads, which count in a quota; nor of forms and comments, which belong to
-- their writers.
use Rattle.std.specs.Prelude.{ℕ, Bool, false, not, ◌==◌, ◌||◌, ◌&&◌, suc, [], ◌∷◌, ◌++◌, Option, None}
use Rattle.std.specs.Prelude.{take, IsTrue, IsFalse, if◌then◌else◌, ◌≡◌}
use Rattle.std.specs.List.{list_any}
use Rattle.cr_base.specs.declared.entry.Entry.{Entry}
use Rattle.cr_base.specs.declared.entry.Entry.TheVariants.{Named, PhaseSet, ModeSet, Revised, Withdrawn, Conflict, Bid}
use Rattle.cr_base.specs.declared.entry.Entry.TheVariants.{Assigned, Unassigned, Tagged, Decided, DeadlineSet}
use Rattle.cr_base.specs.declared.entry.Entry.TheVariants.{Dismissed, Invited, Uninvited, Responded}
use Rattle.cr_base.specs.declared.entry.Stamp.{Stamp}
use Rattle.cr_base.specs.declared.entry.Stamped.{Stamped}
use Rattle.cr_base.specs.Calls.{stamp_by}
use Rattle.cr_base.specs.Drawn.{stamped}
use Rattle.cr_base.specs.History.{History, Registration, all_told, registration_told}
use Rattle.cr_base.specs.Lists.{is_number}
use Rattle.cr_bounds.specs.ShownTo.{maker_for}
use Rattle.cr_policy.specs.HiddenPayload.{IsDeclaredAlike}
use Rattle.cr_policy.specs.Legal.{Legal}
use Rattle.cr_policy.specs.Sentences.{before_bidding, chairs, wrote, is_eligible, administers, is_for_chairs_alone}
use Rattle.cr_undeduced.specs.Undeducible.{Look, seen_at, was_told}

-- ---- who had the right

-- the user could have made the entry after this history in its actor's place: a chair what chairs do; one of the
-- paper's authors what authors do; a chair in no conflict with the paper what such chairs do; a member in no conflict
-- with it a bid or a tag, one for chairs only if the member is one; and no user a conflict that names them
abbrev pub has_right : ℕ → History → Entry → Bool
has_right w H (Named user role) = chairs w H
has_right w H (Dismissed user) = chairs w H
has_right w H (PhaseSet phase) = chairs w H
has_right w H (ModeSet mode) = chairs w H
has_right w H (DeadlineSet phase until) = chairs w H
has_right w H (Revised paper title abstract) = wrote w paper H
has_right w H (Withdrawn paper) = wrote w paper H
has_right w H (Responded paper text) = wrote w paper H
has_right w H (Conflict paper user on) =
    not (user == w) && ((before_bidding H && wrote w paper H) || (not (before_bidding H) && administers w paper H))
has_right w H (Bid paper value) = is_eligible w paper H
has_right w H (Tagged paper tag on) =
    is_eligible w paper H && (chairs w H || not (is_for_chairs_alone tag))
has_right w H (Assigned paper user review_kind ordinal) = administers w paper H
has_right w H (Unassigned paper user ordinal) = administers w paper H
has_right w H (Decided paper decision) = administers w paper H
has_right w H (Invited paper user) = administers w paper H
has_right w H (Uninvited paper user) = administers w paper H
has_right w H _ = false

-- the user has registered
abbrev pub has_account : ℕ → History → Bool
has_account w H = list_any (λ (r : Registration). r.user == w) (all_told registration_told H)

-- the user made the entry, or could have made it in its actor's place
abbrev pub may_have_made : ℕ → History → Stamped → Bool
may_have_made w before e = w == e.stamp.maker || (has_account w before && has_right w before e.entry)

-- if another entry of the same command or bulk follows this one, both have the same actor: the one that they had, or a
-- chair
abbrev pub is_one_command : ℕ → ℕ → History → Stamped → Bool
is_one_command w next before e = not e.more || (next == w && (w == e.stamp.maker || chairs w before))

-- each of the later entries may have been made by the user at its place in `ws` (`may_have_made`), and all entries of
-- one command by one user; `before` are the entries before these
abbrev pub MayHaveMade : (ℕ → ℕ) → History → History → Type 0
MayHaveMade ws before [] = Unit {0}
MayHaveMade ws before (e ∷ later) =
    IsTrue (may_have_made (ws 0) before e) × IsTrue (is_one_command (ws 0) (ws 1) before e)
    × MayHaveMade (λ n. ws (suc n)) (before ++ e ∷ []) later

-- ---- the other history

-- the stamp of a command of this user's: at the same timestamp, and without a number if the user isn't the one who gave
-- it
abbrev pub stamp_of : ℕ → Stamp → Stamp
stamp_of w stamp = if w == stamp.maker then stamp else stamp_by w stamp.at None

-- the history with each entry made by the user at its place in `ws`
abbrev pub made_by : (ℕ → ℕ) → History → History
made_by ws [] = []
made_by ws (e ∷ later) = stamped (stamp_of (ws 0) e.stamp) e.more e.entry ∷ made_by (λ n. ws (suc n)) later

-- ---- who isn't shown it

-- at the end of a history the user is neither the actor of the entry nor the other one, isn't told who made it, and if
-- it is a conflict with a paper of the user's, both of the two are authors of the paper, or neither is
pub record IsUnseen (u : Option ℕ) (H : History) (w : ℕ) (before later : History) (e : Stamped) : Type 0 where
  pub maker : IsFalse (is_number u e.stamp.maker)
  pub other : IsFalse (is_number u w)
  pub untold : IsFalse (was_told maker_for before e u H (e ∷ later))
  pub declared : IsDeclaredAlike u H H e.entry e.stamp.maker w

-- each of the later entries whose actor is another in `ws` is unseen by the user (`IsUnseen`); `before` are the entries
-- before these
abbrev pub AreUnseen : Option ℕ → History → (ℕ → ℕ) → History → History → Type 0
AreUnseen u H ws before [] = Unit {0}
AreUnseen u H ws before (e ∷ later) =
    (IsFalse (ws 0 == e.stamp.maker) → IsUnseen u H (ws 0) before later e)
    × AreUnseen u H (λ n. ws (suc n)) (before ++ e ∷ []) later

-- ---- the clauses

-- OtherMakersLegal: a legal history stays legal if its entries are made by others who could have made them, all at once
abbrev pub OtherMakersLegal : Type 0
OtherMakersLegal = (ws : ℕ → ℕ) (H : History) → Legal H → MayHaveMade ws [] H → Legal (made_by ws H)

-- OtherMakersUnseen: a user who isn't shown the actors when they look sees the same of both histories, legal or not
abbrev pub OtherMakersUnseen : Type 0
OtherMakersUnseen = (ws : ℕ → ℕ) (H : History) (look : Look) → MayHaveMade ws [] H
    → AreUnseen look.who (take look.upto H) ws [] (take look.upto H) → seen_at H look ≡ seen_at (made_by ws H) look
