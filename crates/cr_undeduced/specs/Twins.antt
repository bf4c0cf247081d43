-- SPDX-License-Identifier: Apache-2.0 OR MIT
-- Twins: two users of one role, of whom neither wrote a paper, change places at it. A user who was shown neither of
-- them by name can't tell which of the two bid, reviews, comments, was declared in conflict or invited, decided or
-- assigned there.
use Rattle.std.specs.Prelude.{ℕ, Bool, false, not, ◌==◌, ◌||◌, ◌&&◌, ◌≡◌, ◌≤◌, [], ◌∷◌, ◌++◌, Option, Some, map}
use Rattle.std.specs.Prelude.{take, IsTrue, IsFalse, if◌then◌else◌}
use Rattle.cr_base.specs.declared.entry.Entry.{Entry}
use Rattle.cr_base.specs.declared.entry.Entry.TheVariants.{Conflict, Bid, Assigned, Unassigned, Reviewed, Commented}
use Rattle.cr_base.specs.declared.entry.Entry.TheVariants.{Tagged, Decided, Invited, Uninvited}
use Rattle.cr_base.specs.declared.entry.Stamped.{Stamped}
use Rattle.cr_base.specs.Drawn.{stamped}
use Rattle.cr_base.specs.History.{History}
use Rattle.cr_base.specs.HistoryFacts.{mode_of, role_of, is_author, own_comments_of}
use Rattle.cr_base.specs.Lists.{is_number}
use Rattle.cr_bounds.specs.ShownTo.{maker_for, user_for, hides_reviewers, names_reviewers, chairs_committee}
use Rattle.cr_history.specs.Invariants.{IsRegistered}
use Rattle.cr_policy.specs.Legal.{Legal}
use Rattle.cr_undeduced.specs.Makers.{stamp_of}
use Rattle.cr_undeduced.specs.Undeducible.{Look, seen_at, was_told}

-- ---- who takes whose place

-- two users, and the paper at which they change places
pub record Twins : Type 0 where
  pub paper : ℕ
  pub one : ℕ
  pub other : ℕ

-- the user who takes this user's place at the paper: the other of the two, at their paper; else the user themselves
abbrev pub placed : Twins → ℕ → ℕ → ℕ
placed t paper v =
    if paper == t.paper then (if v == t.one then t.other else (if v == t.other then t.one else v)) else v

-- the entry with the other of the two named, if it is on the paper and names one; a co-author isn't changed
abbrev pub twin_entry : Twins → Entry → Entry
twin_entry t (Conflict paper user on) = Conflict paper (placed t paper user) on
twin_entry t (Assigned paper user review_kind ordinal) = Assigned paper (placed t paper user) review_kind ordinal
twin_entry t (Unassigned paper user ordinal) = Unassigned paper (placed t paper user) ordinal
twin_entry t (Invited paper user) = Invited paper (placed t paper user)
twin_entry t (Uninvited paper user) = Uninvited paper (placed t paper user)
twin_entry t e = e

-- the user who takes the place of the entry's actor; an author's entry stays the author's
abbrev pub twin_maker : Twins → ℕ → Entry → ℕ
twin_maker t m (Conflict paper user on) = placed t paper m
twin_maker t m (Bid paper value) = placed t paper m
twin_maker t m (Assigned paper user review_kind ordinal) = placed t paper m
twin_maker t m (Unassigned paper user ordinal) = placed t paper m
twin_maker t m (Reviewed paper ordinal version form) = placed t paper m
twin_maker t m (Commented paper n ordinal text) = placed t paper m
twin_maker t m (Tagged paper tag on) = placed t paper m
twin_maker t m (Decided paper decision) = placed t paper m
twin_maker t m (Invited paper user) = placed t paper m
twin_maker t m (Uninvited paper user) = placed t paper m
twin_maker t m e = m

-- the entry with both changes; a command whose actor changes has no number
abbrev pub twin_of : Twins → Stamped → Stamped
twin_of t e = stamped (stamp_of (twin_maker t e.stamp.maker e.entry) e.stamp) e.more (twin_entry t e.entry)

-- the history in which the two have each other's place at the paper
abbrev pub twinned : Twins → History → History
twinned t H = map (twin_of t) H

-- ---- the conditions

-- the actor of the entry changes
abbrev pub moves : Twins → Stamped → Bool
moves t e = not (twin_maker t e.stamp.maker e.entry == e.stamp.maker)

-- the user whom the entry names changes
abbrev pub renames : Twins → Entry → Bool
renames t (Conflict paper user on) = not (placed t paper user == user)
renames t (Assigned paper user review_kind ordinal) = not (placed t paper user == user)
renames t (Unassigned paper user ordinal) = not (placed t paper user == user)
renames t (Invited paper user) = not (placed t paper user == user)
renames t (Uninvited paper user) = not (placed t paper user == user)
renames t e = false

-- both have registered, and have the same role
pub record ArePeers (t : Twins) (H : History) : Type 0 where
  pub one : IsRegistered H t.one
  pub other : IsRegistered H t.other
  pub role : role_of (Some t.one) H ≡ role_of (Some t.other) H

-- the actor of the first of these entries changes, if there is one
abbrev pub first_moves : Twins → History → Bool
first_moves t [] = false
first_moves t (e ∷ later) = moves t e

-- before each of the later entries whose actor or named user changes the two are peers; and no entry whose actor
-- changes is one of several of a bulk, whose other rows may be on other papers. `before` are the entries before these.
abbrev pub PeersInTurn : Twins → History → History → Type 0
PeersInTurn t before [] = Unit {0}
PeersInTurn t before (e ∷ later) =
    (IsTrue (moves t e || renames t e.entry) → ArePeers t before)
    × (IsTrue e.more → IsFalse (moves t e || first_moves t later))
    × PeersInTurn t (before ++ e ∷ []) later

-- the two are peers whenever one takes the other's place (`PeersInTurn`); neither is an author of the paper; and in the
-- changed history no user has written more than 1,000 comments
pub record AreTwins (t : Twins) (H : History) : Type 0 where
  pub peers : PeersInTurn t [] H
  pub one : IsFalse (is_author (Some t.one) t.paper H)
  pub other : IsFalse (is_author (Some t.other) t.paper H)
  pub comments : (user : ℕ) → own_comments_of (Some user) (twinned t H) ≤ 1000

-- ---- who isn't shown it

-- at the end of a history the user isn't told the actor of any later entry whose actor changes, nor the user named in
-- any whose named user changes; `before` are the entries before these
abbrev pub AreUntold : Twins → Option ℕ → History → History → History → Type 0
AreUntold t u H before [] = Unit {0}
AreUntold t u H before (e ∷ later) =
    (IsTrue (moves t e) → IsFalse (was_told maker_for before e u H (e ∷ later)))
    × (IsTrue (renames t e.entry) → IsFalse (was_told user_for before e u H (e ∷ later)))
    × AreUntold t u H (before ++ e ∷ []) later

-- the user is neither of the two, neither of them is an author of the paper, and the user is told of no change
-- (`AreUntold`)
pub record IsOutside (t : Twins) (u : Option ℕ) (H : History) : Type 0 where
  pub one : IsFalse (is_number u t.one)
  pub other : IsFalse (is_number u t.other)
  pub one_wrote : IsFalse (is_author (Some t.one) t.paper H)
  pub other_wrote : IsFalse (is_author (Some t.other) t.paper H)
  pub untold : AreUntold t u H [] H

-- ---- who is shown no names

-- the mode is anonymous and the user is no chair; or the user is an author of the paper, in any mode except the open
-- one
abbrev pub is_blind_to : Option ℕ → ℕ → History → Bool
is_blind_to u paper H =
    (hides_reviewers (mode_of H) && not (chairs_committee (role_of u H)))
    || (is_author u paper H && not (names_reviewers (mode_of H)))

-- the user made none of the entries that name one of the two, as a chair who was dismissed has; and if the user is an
-- author of the paper, none of them is a declaration by another of its authors
abbrev pub MadeNone : Twins → Option ℕ → History → History → Type 0
MadeNone t u H [] = Unit {0}
MadeNone t u H (e ∷ later) =
    (IsTrue (renames t e.entry) → IsFalse (is_number u e.stamp.maker)
    × IsFalse (is_author u t.paper H && is_author (Some e.stamp.maker) t.paper H))
    × MadeNone t u H later

-- the user is neither of the two, neither of them is an author of the paper, the user is shown no names at it
-- (`is_blind_to`), and no entry tells them by its actor (`MadeNone`)
pub record IsShownNoNames (t : Twins) (u : Option ℕ) (H : History) : Type 0 where
  pub one : IsFalse (is_number u t.one)
  pub other : IsFalse (is_number u t.other)
  pub one_wrote : IsFalse (is_author (Some t.one) t.paper H)
  pub other_wrote : IsFalse (is_author (Some t.other) t.paper H)
  pub blind : IsTrue (is_blind_to u t.paper H)
  pub none : MadeNone t u H H

-- ---- the clauses

-- TwinsLegal: the history in which twins have each other's place is legal
abbrev pub TwinsLegal : Type 0
TwinsLegal = (t : Twins) (H : History) → Legal H → AreTwins t H → Legal (twinned t H)

-- TwinsUnseen: a user who isn't told of the changes when they look sees the same of both histories, legal or not
abbrev pub TwinsUnseen : Type 0
TwinsUnseen = (t : Twins) (H : History) (look : Look) → IsOutside t look.who (take look.upto H)
    → seen_at H look ≡ seen_at (twinned t H) look

-- TwinsUnnamed: a user who is shown no names at the paper sees the same of both histories, in a committee's terms
abbrev pub TwinsUnnamed : Type 0
TwinsUnnamed = (t : Twins) (H : History) (look : Look) → IsShownNoNames t look.who (take look.upto H)
    → seen_at H look ≡ seen_at (twinned t H) look
