-- SPDX-License-Identifier: Apache-2.0 OR MIT
-- Invariants: what is so of each entry of a legal history, on the history before it, and of the history as a whole.
use Rattle.std.specs.Prelude.{ℕ, Bool, false, ◌≡◌, ◌==◌, ◌<◌, ◌+◌, ◌&&◌, ◌||◌, not, [], ◌∷◌}
use Rattle.std.specs.Prelude.{◌++◌, length, nat_le, Option, Some, None, unwrap_or, IsTrue, IsFalse, if◌then◌else◌}
use Rattle.std.specs.List.{All, AllByRecursion, list_any}
use Rattle.cr_base.specs.declared.entry.Entry.{Entry}
use Rattle.cr_base.specs.declared.entry.Entry.TheVariants.{Registered, Named, PhaseSet, Submitted}
use Rattle.cr_base.specs.declared.entry.Entry.TheVariants.{Coauthor, Uploaded, Conflict}
use Rattle.cr_base.specs.declared.entry.Entry.TheVariants.{Assigned, Unassigned, Reviewed}
use Rattle.cr_base.specs.declared.entry.Entry.TheVariants.{Commented, Tagged, DeadlineSet}
use Rattle.cr_base.specs.declared.entry.Entry.TheVariants.{Dismissed, Invited, Uninvited}
use Rattle.cr_base.specs.declared.entry.EntryKind.{EntryKind}
use Rattle.cr_base.specs.declared.entry.EntryKind.TheVariants as kinds
use Rattle.cr_base.specs.declared.entry.Stamped.{Stamped}
use Rattle.cr_base.specs.declared.words.Phase.{Phase}
use Rattle.cr_base.specs.declared.words.Phase.TheVariants.{Bidding, Response}
use Rattle.cr_base.specs.Accounts.{chair_count}
use Rattle.cr_base.specs.HistoryFacts.{phase_of, role_of, accounts_of, papers_of, uploads_of}
use Rattle.cr_base.specs.HistoryFacts.{number_of, is_author, is_conflicted, is_invited, is_external, ordinal_of}
use Rattle.cr_base.specs.HistoryFacts.{seats_of, had_response_of}
use Rattle.cr_base.specs.HistoryFacts.{forms_of, is_written, comments_of}
use Rattle.cr_base.specs.History.{History, Registration, all_told, registration_told, opens, opens_discussion}
use Rattle.cr_base.specs.History.{paper_about, user_about}
use Rattle.cr_base.specs.Lists.{until, since}
use Rattle.cr_base.specs.Phases.{committee_reads_from}
use Rattle.cr_base.specs.Phases.{is_from, is_next, mode_may_be_set, accepts_submissions, papers_may_change}
use Rattle.cr_base.specs.Phases.{may_have_deadline}
use Rattle.cr_base.specs.Phases.{authors_have_declared, conflicts_are_final, roles_are_final, committee_works}
use Rattle.cr_base.specs.Phases.{bids_are_taken, reviews_are_written, responses_are_written, comments_are_written}
use Rattle.cr_base.specs.Phases.{decisions_are_made}
use Rattle.cr_base.specs.Rows.{kind_of, row_of, restored, IsBoundedEntry}
use Rattle.cr_base.specs.Tables.{no_tables, FitInTurn}
use Rattle.cr_base.specs.TagTexts.{is_for_chairs}
use Rattle.cr_base.specs.Words.{role_number, is_member, is_chair}

-- the user has registered
abbrev pub IsRegistered : History → ℕ → Type 0
IsRegistered H user = IsTrue (list_any (λ (r : Registration). r.user == user) (all_told registration_told H))

-- ---- an entry in its turn: each is said of the history before it

-- a registration is made by its own user; every other entry is made by a user who has registered before
abbrev pub IsMadeByUser : History → ℕ → Entry → Type 0
IsMadeByUser H maker (Registered user name digest) = maker ≡ user
IsMadeByUser H maker e = IsRegistered H maker

-- the mark `more` of an entry that commands add: after the first user's registration another entry of the command
-- follows; after a submission, a co-author and an entry of a bulk one may
abbrev pub IsMarked : Bool → Entry → Type 0
IsMarked more (Registered user name digest) = more ≡ (user == 1)
IsMarked more (Submitted paper title abstract) = Unit {0}
IsMarked more (Coauthor paper user) = Unit {0}
IsMarked more (Conflict paper user on) = Unit {0}
IsMarked more (Assigned paper user kind ordinal) = Unit {0}
IsMarked more (Unassigned paper user ordinal) = Unit {0}
IsMarked more (Tagged paper tag on) = Unit {0}
IsMarked more _ = IsFalse more

-- users are numbered from 1 as they register, papers as they are submitted, the versions of each paper as they
-- are uploaded, its labels as reviewers are assigned to it, the forms of each label as they are written, and
-- the comments on each paper too
abbrev pub HasNextNumber : History → Entry → Type 0
HasNextNumber H (Registered user name digest) = user ≡ length (accounts_of H) + 1
HasNextNumber H (Submitted paper title abstract) = paper ≡ length (papers_of H) + 1
HasNextNumber H (Uploaded paper version content) = version ≡ length (uploads_of paper H) + 1
HasNextNumber H (Assigned paper user kind ordinal) = ordinal ≡ length (seats_of paper H) + 1
HasNextNumber H (Reviewed paper ordinal version form) = version ≡ length (forms_of paper ordinal H) + 1
HasNextNumber H (Commented paper n ordinal text) = n ≡ length (comments_of paper H) + 1
HasNextNumber H _ = Unit {0}

-- no user has registered under the name before
abbrev pub HasNewName : History → Entry → Type 0
HasNewName H (Registered user name digest) = number_of name H ≡ None
HasNewName H _ = Unit {0}

-- there is such a paper
abbrev pub IsSubmitted : History → ℕ → Type 0
IsSubmitted H paper = IsTrue (list_any (λ p. p == paper) (papers_of H))

-- the paper and the user are there
abbrev pub AreThere : History → Option ℕ → Option ℕ → Type 0
AreThere H None None = Unit {0}
AreThere H None (Some user) = IsRegistered H user
AreThere H (Some paper) None = IsSubmitted H paper
AreThere H (Some paper) (Some user) = IsSubmitted H paper × IsRegistered H user

-- the paper and the user that the entry is about are there
abbrev pub IsAboutThose : History → Entry → Type 0
IsAboutThose H e = AreThere H (paper_about e) (user_about e)

-- who may make entries of a kind, as far as roles and ties to a paper tell: anybody, the paper's authors, members in no
-- conflict with it, they and its externals in none, chairs, and chairs in no conflict with it
pub data Right : Type 0 where
  Anybody : Right
  Author : Right
  ClearMember : Right
  ClearOfPaper : Right
  Chair : Right
  ClearChair : Right

-- what is asked for an entry of a kind: of the phase before it, and of its maker
pub record Charter : Type 1 where
  pub during : Phase → Type 0
  pub right : Right

-- a charter: entries of a kind are made in these phases, by users with this right
abbrev pub while : (Phase → Bool) → Right → Charter
while may right = record { during = λ phase. IsTrue (may phase); right = right }

-- a charter: entries of a kind are made in all phases but these, by users with this right
abbrev pub until_final : (Phase → Bool) → Right → Charter
until_final is_final right = record { during = λ phase. IsFalse (is_final phase); right = right }

-- a charter: entries of a kind are made in every phase, by users with this right
abbrev pub ever : Right → Charter
ever right = record { during = λ phase. Unit {0}; right = right }

-- the charter: in which phases each kind of entry is made, and which right its maker has. What else is asked of phases
-- and deadlines, appointments, conflicts and tags is said of these kinds below.
abbrev pub charter : EntryKind → Charter
charter kinds.Registered = ever Anybody
charter kinds.Named = until_final roles_are_final Chair
charter kinds.PhaseSet = ever Chair
charter kinds.ModeSet = while mode_may_be_set Chair
charter kinds.Submitted = while accepts_submissions Anybody
charter kinds.Coauthor = while accepts_submissions Author
charter kinds.Revised = while papers_may_change Author
charter kinds.Uploaded = while papers_may_change Author
charter kinds.Withdrawn = while papers_may_change Author
charter kinds.Conflict = until_final conflicts_are_final Anybody
charter kinds.Bid = while bids_are_taken ClearMember
charter kinds.Assigned = while committee_works ClearChair
charter kinds.Unassigned = while committee_works ClearChair
charter kinds.Reviewed = while reviews_are_written ClearOfPaper
charter kinds.Commented = while comments_are_written ClearMember
charter kinds.Tagged = while committee_works ClearMember
charter kinds.Decided = while decisions_are_made ClearChair
charter kinds.DeadlineSet = ever Chair
charter kinds.Dismissed = until_final roles_are_final Chair
charter kinds.Invited = while committee_works ClearChair
charter kinds.Uninvited = while committee_works ClearChair
charter kinds.Responded = while responses_are_written Author

-- the phase is one of the charter's; it goes on to a next one, and deadlines are set of the current phase and of later
-- ones, where the phase may have one
abbrev pub IsInPhase : History → Entry → Type 0
IsInPhase H (PhaseSet phase) = IsTrue (is_next (phase_of H) phase)
IsInPhase H (DeadlineSet phase until) = IsTrue (is_from (phase_of H) phase) × IsTrue (may_have_deadline phase)
IsInPhase H e = (charter (kind_of e)).during (phase_of H)

-- where the charter asks for a chair, the maker is one
abbrev pub IsChairIf : History → ℕ → Right → Type 0
IsChairIf H maker Chair = IsTrue (is_chair (role_of (Some maker) H))
IsChairIf H maker ClearChair = IsTrue (is_chair (role_of (Some maker) H))
IsChairIf H maker right = Unit {0}

-- a chair made the entry, if its charter asks for one; the first user is appointed otherwise, by the second entry of
-- all, with the registration
abbrev pub IsByChair : History → ℕ → Entry → Type 0
IsByChair H maker (Named user role) = IsTrue (is_chair (role_of (Some maker) H) || length H == 1)
IsByChair H maker e = IsChairIf H maker (charter (kind_of e)).right

-- naming raises a role, and dismissing ends a member's, and never that of the only chair
abbrev pub RaisesRole : History → Entry → Type 0
RaisesRole H (Named user role) = role_number (role_of (Some user) H) < role_number role
RaisesRole H (Dismissed user) =
    IsTrue (is_member (role_of (Some user) H))
    × IsFalse (is_chair (role_of (Some user) H) && nat_le (chair_count (accounts_of H)) 1)
RaisesRole H _ = Unit {0}

-- the user is a member, or an external of the paper
abbrev pub is_of_paper : History → ℕ → ℕ → Bool
is_of_paper H user paper = is_member (role_of (Some user) H) || is_external (Some user) paper H

-- only such users are declared in conflict, or assigned; and no member is invited
abbrev pub IsOfMember : History → Entry → Type 0
IsOfMember H (Conflict paper user on) = IsTrue (is_of_paper H user paper)
IsOfMember H (Assigned paper user kind ordinal) = IsTrue (is_of_paper H user paper)
IsOfMember H (Invited paper user) = IsFalse (is_member (role_of (Some user) H))
IsOfMember H _ = Unit {0}

-- before the bidding only authors declare conflicts with their paper, and turn none off; from the bidding on members
-- declare their own, and chairs in no conflict with the paper turn anyone's on and off
abbrev pub may_turn : History → ℕ → ℕ → ℕ → Bool → Bool
may_turn H maker paper user on =
    if authors_have_declared (phase_of H)
    then (user == maker && (on && is_member (role_of (Some maker) H)))
    || (is_chair (role_of (Some maker) H) && not (is_conflicted (Some maker) paper H))
    else is_author (Some maker) paper H && on

-- a member in no conflict with the paper
abbrev pub is_clear_member_of : History → ℕ → ℕ → Bool
is_clear_member_of H maker paper = is_member (role_of (Some maker) H) && not (is_conflicted (Some maker) paper H)

-- such a user in no conflict with the paper
abbrev pub is_clear_of_paper : History → ℕ → ℕ → Bool
is_clear_of_paper H maker paper = is_of_paper H maker paper && not (is_conflicted (Some maker) paper H)

-- the maker has the right on the paper; whether a chair is one is said above
abbrev pub HasRight : History → ℕ → ℕ → Right → Type 0
HasRight H maker paper Anybody = Unit {0}
HasRight H maker paper Author = IsTrue (is_author (Some maker) paper H)
HasRight H maker paper ClearMember = IsTrue (is_clear_member_of H maker paper)
HasRight H maker paper ClearOfPaper = IsTrue (is_clear_of_paper H maker paper)
HasRight H maker paper Chair = Unit {0}
HasRight H maker paper ClearChair = IsFalse (is_conflicted (Some maker) paper H)

-- the maker has the right that the charter asks for; of a conflict `may_turn` holds, and only chairs tag with tags for
-- chairs
abbrev pub IsByRight : History → ℕ → Entry → Type 0
IsByRight H maker (Conflict paper user on) = IsTrue (may_turn H maker paper user on)
IsByRight H maker (Tagged paper tag on) =
    IsTrue (is_clear_member_of H maker paper) × IsFalse (is_for_chairs tag && not (is_chair (role_of (Some maker) H)))
IsByRight H maker e = HasRight H maker (unwrap_or (paper_about e) 0) (charter (kind_of e)).right

-- an assigned user is in no conflict with the paper and doesn't review it, and it has a label left; an unassigned user
-- reviews it under that label, and has written no form under it; a form is under its maker's own label, and a comment
-- tells that label, if its maker has one; an invited user is in no conflict with the paper and isn't invited to it; a
-- user whose invitation ends is invited, and doesn't review it
abbrev pub IsSeated : History → ℕ → Entry → Type 0
IsSeated H maker (Assigned paper user kind ordinal) =
    IsFalse (is_conflicted (Some user) paper H) × (ordinal_of (Some user) paper H ≡ None)
    × (length (seats_of paper H) < 26)
IsSeated H maker (Unassigned paper user ordinal) =
    (ordinal_of (Some user) paper H ≡ Some ordinal) × IsFalse (is_written paper ordinal H)
IsSeated H maker (Reviewed paper ordinal version form) = ordinal_of (Some maker) paper H ≡ Some ordinal
IsSeated H maker (Commented paper n ordinal text) = ordinal_of (Some maker) paper H ≡ ordinal
IsSeated H maker (Invited paper user) =
    IsFalse (is_conflicted (Some user) paper H) × IsFalse (is_invited (Some user) paper H)
IsSeated H maker (Uninvited paper user) =
    IsTrue (is_invited (Some user) paper H) × (ordinal_of (Some user) paper H ≡ None)
IsSeated H maker _ = Unit {0}

-- the entry turns a conflict with the paper on or off
abbrev pub is_conflict_with : ℕ → Entry → Bool
is_conflict_with p (Conflict paper user on) = paper == p
is_conflict_with p _ = false

-- a paper's co-authors are told before any conflict with it
abbrev pub ComesFirst : History → Entry → Type 0
ComesFirst H (Coauthor paper user) = IsFalse (list_any (λ (e : Stamped). is_conflict_with paper e.entry) H)
ComesFirst H _ = Unit {0}

-- all of it
pub record IsInOrder (H : History) (e : Stamped) : Type 0 where
  pub maker : IsMadeByUser H e.stamp.maker e.entry
  pub mark : IsMarked e.more e.entry
  pub number : HasNextNumber H e.entry
  pub name : HasNewName H e.entry
  pub about : IsAboutThose H e.entry
  pub phase : IsInPhase H e.entry
  pub chair : IsByChair H e.stamp.maker e.entry
  pub role : RaisesRole H e.entry
  pub member : IsOfMember H e.entry
  pub right : IsByRight H e.stamp.maker e.entry
  pub seat : IsSeated H e.stamp.maker e.entry
  pub first : ComesFirst H e.entry

-- this holds of each entry and the history before it
abbrev pub InTurn : (History → Stamped → Type 0) → History → History → Type 0
InTurn P before [] = Unit {0}
InTurn P before (e ∷ after) = P before e × InTurn P (before ++ e ∷ []) after

-- ---- a history as a whole

-- no command's entries are cut off: after an entry with the mark `more` comes another with the same stamp, and so of
-- the same maker, timestamp and number
abbrev pub IsWhole : History → Type 0
IsWhole [] = Unit {0}
IsWhole (e ∷ []) = IsFalse e.more
IsWhole (e ∷ next ∷ after) = (IsTrue e.more → next.stamp ≡ e.stamp) × IsWhole (next ∷ after)

-- whether the entry opens the bidding
abbrev pub is_opening : Stamped → Bool
is_opening e = opens Bidding e.entry

-- of a conflict entry: an author of its paper made it
abbrev pub ByAuthor : History → ℕ → Entry → Type 0
ByAuthor H maker (Conflict paper user on) = IsTrue (is_author (Some maker) paper H)
ByAuthor H maker e = Unit {0}

-- the maker of a conflict is the user whom it names, or no author of its paper
abbrev pub ByNamedOrOther : History → ℕ → Entry → Type 0
ByNamedOrOther H maker (Conflict paper user on) = IsFalse (user == maker) → IsFalse (is_author (Some maker) paper H)
ByNamedOrOther H maker e = Unit {0}

-- the maker of the entry, if it is a conflict, is an author of its paper at the end of the history; it is asked of
-- entries before the bidding is opened
abbrev pub Early : History → Stamped → Type 0
Early H e = ByAuthor H e.stamp.maker e.entry

-- the maker of the entry, if it is a conflict, is the user whom it names, or no author of its paper at the end of the
-- history; it is asked of entries after the bidding is opened
abbrev pub Late : History → Stamped → Type 0
Late H e = ByNamedOrOther H e.stamp.maker e.entry

-- before the bidding each conflict entry is made by an author of its paper; from the bidding on, one whose maker isn't
-- the user named is made by no author; and an entry opens the bidding exactly where it is that phase or a later one
pub record DeclaresInTime (H : History) : Type 0 where
  pub early : AllByRecursion (Early H) (until is_opening H)
  pub late : AllByRecursion (Late H) (since is_opening H)
  pub begun : list_any is_opening H ≡ is_from Bidding (phase_of H)

-- the discussion was opened exactly where it is that phase or a later one
abbrev pub IsDiscussedInTime : History → Type 0
IsDiscussedInTime H = list_any opens_discussion H ≡ is_from committee_reads_from (phase_of H)

-- the response was opened at most where it is that phase or a later one: a conference may skip it
abbrev pub IsRespondedInTime : History → Type 0
IsRespondedInTime H = IsTrue (had_response_of H) → IsTrue (is_from Response (phase_of H))

-- of a form: who wrote it reviews the paper under that label at the end of the history
abbrev pub IsHeld : History → ℕ → Entry → Type 0
IsHeld H maker (Reviewed paper ordinal version form) = ordinal_of (Some maker) paper H ≡ Some ordinal
IsHeld H maker e = Unit {0}

-- a user who has written a form stays a reviewer of the paper, under the label of that form
abbrev pub ReviewersStay : History → Type 0
ReviewersStay H = All (λ (e : Stamped). IsHeld H e.stamp.maker e.entry) H

-- ---- all of them

-- the row of the entry spells the entry
abbrev pub IsSpelled : Stamped → Type 0
IsSpelled e = restored (kind_of e.entry) (row_of e) ≡ Some e

-- what every legal history keeps, and what the entries of a bulk keep after each of them. Each entry is within its
-- bounds, so that its row spells it; fits the tables of the history before it; and is in order there. Conflicts are
-- declared in time, the discussion is opened once, the response is opened in time, and a user who has written a form
-- stays a reviewer. That no command's entries are cut off is said apart (`IsWhole`).
pub record Invariants (H : History) : Type 0 where
  pub bounded : All IsBoundedEntry H
  pub spelled : All IsSpelled H
  pub fits : FitInTurn no_tables H
  pub in_order : InTurn IsInOrder [] H
  pub declared_in_time : DeclaresInTime H
  pub discussed : IsDiscussedInTime H
  pub responded : IsRespondedInTime H
  pub stay : ReviewersStay H
