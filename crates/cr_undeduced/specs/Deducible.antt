-- SPDX-License-Identifier: Apache-2.0 OR MIT
-- Deducible: what a view tells of a legal history though no part of it says so: numbers count what came before, and if
-- there has been only one chair, an entry that only chairs make is that chair's.
use Rattle.std.specs.Prelude.{ℕ, ◌≡◌, ◌≤◌, ◌&&◌, length, Option, All, IsTrue}
use Rattle.std.specs.List.{AllByRecursion}
use Rattle.cr_base.specs.declared.entry.Entry.{Entry}
use Rattle.cr_base.specs.declared.entry.Entry.TheVariants.{Named, PhaseSet, ModeSet, Assigned, Unassigned, Decided}
use Rattle.cr_base.specs.declared.entry.Entry.TheVariants.{DeadlineSet, Dismissed, Invited, Uninvited}
use Rattle.cr_base.specs.declared.entry.EntryKind.TheVariants as kinds
use Rattle.cr_base.specs.declared.entry.Stamped.{Stamped}
use Rattle.cr_base.specs.declared.words.Role.TheVariants.{Chair}
use Rattle.cr_base.specs.History.{History}
use Rattle.cr_base.specs.HistoryFacts.{uploads_of, forms_of, comments_of, seats_of}
use Rattle.cr_base.specs.Lists.{is_number}
use Rattle.cr_policy.specs.Legal.{Legal}
use Rattle.cr_policy.specs.Sighting.{Sighting}
use Rattle.cr_policy.specs.View.{view}
use Rattle.cr_policy.specs.ViewFacts.{is_kind}

-- ---- numbers

-- a user who is shown a version's number knows that this many contents were uploaded to the paper
abbrev pub VersionsTell : Type 0
VersionsTell = (u : Option ℕ) (p v : ℕ) (H : History) → Legal H
    → All
    (λ (s : Sighting). IsTrue (is_kind kinds.Uploaded s && is_number s.paper p && is_number s.version v)
    → v ≤ length (uploads_of p H))
    (view u H)

-- a form's, that so many were written under the label
abbrev pub FormNumbersTell : Type 0
FormNumbersTell = (u : Option ℕ) (p o v : ℕ) (H : History) → Legal H
    → All
    (λ (s : Sighting).
    IsTrue (is_kind kinds.Reviewed s && is_number s.paper p && is_number s.ordinal o && is_number s.version v)
    → v ≤ length (forms_of p o H))
    (view u H)

-- a comment's, that so many were written on the paper: also who wrote it, and is then in conflict with the paper
abbrev pub CommentNumbersTell : Type 0
CommentNumbersTell = (u : Option ℕ) (p n : ℕ) (H : History) → Legal H
    → All
    (λ (s : Sighting). IsTrue (is_kind kinds.Commented s && is_number s.paper p && is_number s.n n)
    → n ≤ length (comments_of p H))
    (view u H)

-- a user who is shown a label knows that this many labels were given: also authors, by the labels of forms, and by the
-- letters that are left out
abbrev pub LabelsTell : Type 0
LabelsTell = (u : Option ℕ) (p o : ℕ) (H : History) → Legal H
    → All (λ (s : Sighting). IsTrue (is_number s.paper p && is_number s.ordinal o)
    → o ≤ length (seats_of p H)) (view u H)

-- ---- one chair

-- an entry that names a chair names this user
abbrev pub NamesNoOther : ℕ → Entry → Type 0
NamesNoOther c (Named user Chair) = user ≡ c
NamesNoOther c e = Unit {0}

-- only chairs make such an entry
abbrev pub IsOfChairs : Entry → Type 0
IsOfChairs (PhaseSet phase) = Unit {0}
IsOfChairs (ModeSet mode) = Unit {0}
IsOfChairs (Assigned paper user kind ordinal) = Unit {0}
IsOfChairs (Unassigned paper user ordinal) = Unit {0}
IsOfChairs (Decided paper decision) = Unit {0}
IsOfChairs (DeadlineSet phase until) = Unit {0}
IsOfChairs (Dismissed user) = Unit {0}
IsOfChairs (Invited paper user) = Unit {0}
IsOfChairs (Uninvited paper user) = Unit {0}
IsOfChairs e = ⊥

-- if no other chair was ever appointed, which everyone is shown, all such entries are the one chair's, though no user
-- is shown who made them
abbrev pub OneChairActs : Type 0
OneChairActs = (c : ℕ) (H : History) → Legal H → AllByRecursion (λ (e : Stamped). NamesNoOther c e.entry) H
    → AllByRecursion (λ (e : Stamped). IsOfChairs e.entry → e.stamp.maker ≡ c) H
