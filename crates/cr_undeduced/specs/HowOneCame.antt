-- SPDX-License-Identifier: Apache-2.0 OR MIT
-- HowOneCame: how a user came to be what lets them see or do something (CoCon's traceback: Popescu, Lammich and Hou,
-- JAR 2021). Each clause names the entry that made the user so, between those before and after it: its place is that of
-- a row in a store. Who may do what is said in the terms of Sentences.
use Rattle.std.specs.Prelude.{ℕ, ◌≡◌, ◌==◌, ◌||◌, ◌&&◌, true, [], ◌∷◌, ◌++◌, length, Some, All, IsTrue}
use Rattle.std.specs.Prelude.{IsFalse}
use Rattle.cr_base.specs.declared.entry.Entry.{Entry}
use Rattle.cr_base.specs.declared.entry.Entry.TheVariants.{Named, Submitted, Coauthor, Conflict, Assigned, Decided}
use Rattle.cr_base.specs.declared.entry.Entry.TheVariants.{Invited}
use Rattle.cr_base.specs.declared.entry.EntryKind.TheVariants as kinds
use Rattle.cr_base.specs.declared.entry.Stamped.{Stamped}
use Rattle.cr_base.specs.declared.words.Decision.TheVariants.{Accept}
use Rattle.cr_base.specs.declared.words.Phase.TheVariants.{Submission, Discussion}
use Rattle.cr_base.specs.History.{History, all_told, role_told, conflict_told, ordinal_told, invite_told, decision_told}
use Rattle.cr_base.specs.HistoryFacts.{role_of, is_conflict_on, is_invited, ordinal_of, is_accepted}
use Rattle.cr_policy.specs.Legal.{Legal}
use Rattle.cr_policy.specs.Sentences.{now, before_bidding, committee_at_work, is_over, chairs, on_committee, wrote}
use Rattle.cr_policy.specs.Sentences.{in_conflict, administers, may_have_it}
use Rattle.cr_bounds.specs.ShownTo.{is_author_since_response, discusses}
use Rattle.cr_policy.specs.Sighting.{Sighting}
use Rattle.cr_policy.specs.View.{view}
use Rattle.cr_bounds.specs.ViewBounds.{is_others}

-- an entry of the history made it so, on those before it, and no later entry changed it
pub record Came (H : History) (Made : History → ℕ → Entry → Type 0) (Since : History → Type 0) : Type 0 where
  pub before : History
  pub entry : Stamped
  pub after : History
  pub there : H ≡ before ++ entry ∷ after
  pub made : Made before entry.stamp.maker entry.entry
  pub since : Since after

-- nothing could
abbrev pub Whatever : History → Type 0
Whatever after = Unit {0}

-- ---- the committee

-- before the notification a chair appointed the user to the role that they have; the first user is appointed by the
-- second entry of all, with the registration
abbrev pub NamedTo : ℕ → History → History → ℕ → Entry → Type 0
NamedTo u H before maker (Named user role) =
    (user ≡ u) × (role ≡ role_of (Some u) H) × IsTrue (chairs maker before || length before == 1)
    × IsFalse (is_over before)
NamedTo u H before maker _ = ⊥

-- the user was appointed so, and since then was neither appointed to another role nor dismissed
abbrev pub CameToCommittee : ℕ → History → Type 0
CameToCommittee u H = Came H (NamedTo u H) (λ after. all_told (role_told (Some u)) after ≡ [])

-- MembersCame: on a legal history each user on the committee came to it so
abbrev pub MembersCame : Type 0
MembersCame = (u : ℕ) (H : History) → Legal H → IsTrue (on_committee u H) → CameToCommittee u H

-- ---- authors

-- in the submission the user submitted the paper, or one of its authors named them
abbrev pub MadeAuthor : ℕ → ℕ → History → ℕ → Entry → Type 0
MadeAuthor u p before maker (Submitted paper title abstract) =
    (paper ≡ p) × (maker ≡ u) × IsTrue (now Submission before)
MadeAuthor u p before maker (Coauthor paper user) =
    (paper ≡ p) × (user ≡ u) × IsTrue (wrote maker paper before) × IsTrue (now Submission before)
MadeAuthor u p before maker _ = ⊥

-- AuthorsCame: on a legal history each author of a paper became one so
abbrev pub AuthorsCame : Type 0
AuthorsCame = (u p : ℕ) (H : History) → Legal H → IsTrue (wrote u p H) → Came H (MadeAuthor u p) Whatever

-- ---- who reviews

-- while the committee worked a chair in no conflict with the paper assigned it to the user, who was a member or an
-- external of it, and in no conflict with it
abbrev pub MadeReviewer : ℕ → ℕ → ℕ → History → ℕ → Entry → Type 0
MadeReviewer u p o before maker (Assigned paper user kind ordinal) =
    (paper ≡ p) × (user ≡ u) × (ordinal ≡ o) × IsTrue (administers maker paper before)
    × IsTrue (committee_at_work before) × IsTrue (may_have_it user paper before)
MadeReviewer u p o before maker _ = ⊥

-- ReviewersCame: on a legal history each reviewer of a paper was assigned so, and since then neither assigned again nor
-- unassigned
abbrev pub ReviewersCame : Type 0
ReviewersCame = (u p o : ℕ) (H : History) → Legal H → ordinal_of (Some u) p H ≡ Some o
    → Came H (MadeReviewer u p o) (λ after. all_told (ordinal_told (Some u) p) after ≡ [])

-- ---- externals

-- while the committee worked a chair in no conflict with the paper invited the user, who was no member and in no
-- conflict with it
abbrev pub MadeExternal : ℕ → ℕ → History → ℕ → Entry → Type 0
MadeExternal u p before maker (Invited paper user) =
    (paper ≡ p) × (user ≡ u) × IsTrue (administers maker paper before) × IsTrue (committee_at_work before)
    × IsFalse (on_committee user before) × IsFalse (in_conflict user paper before)
MadeExternal u p before maker _ = ⊥

-- ExternalsCame: on a legal history each external of a paper was invited so
abbrev pub ExternalsCame : Type 0
ExternalsCame = (u p : ℕ) (H : History) → Legal H → IsTrue (is_invited (Some u) p H)
    → Came H (MadeExternal u p) (λ after. all_told (invite_told (Some u) p) after ≡ [])

-- ---- conflicts

-- before the bidding an author of the paper declared the user; from then to the notification the user did, as a member,
-- or a chair in no conflict with the paper
abbrev pub MadeConflicted : ℕ → ℕ → History → ℕ → Entry → Type 0
MadeConflicted u p before maker (Conflict paper user on) =
    (paper ≡ p) × (user ≡ u) × (on ≡ true)
    × IsTrue ((before_bidding before && wrote maker paper before)
    || (committee_at_work before && ((user == maker && on_committee maker before) || administers maker paper before)))
MadeConflicted u p before maker _ = ⊥

-- ConflictsCame: on a legal history each user who is declared in conflict with a paper was declared so
abbrev pub ConflictsCame : Type 0
ConflictsCame = (u p : ℕ) (H : History) → Legal H → IsTrue (is_conflict_on (Some u) p H)
    → Came H (MadeConflicted u p) (λ after. all_told (conflict_told (Some u) p) after ≡ [])

-- ---- accepted papers

-- in the discussion a chair in no conflict with the paper decided to accept it
abbrev pub MadeAccepted : ℕ → History → ℕ → Entry → Type 0
MadeAccepted p before maker (Decided paper decision) =
    (paper ≡ p) × (decision ≡ Accept) × IsTrue (administers maker paper before) × IsTrue (now Discussion before)
MadeAccepted p before maker _ = ⊥

-- AcceptedCame: on a legal history each accepted paper was accepted so, and no later entry decided on it
abbrev pub AcceptedCame : Type 0
AcceptedCame = (p : ℕ) (H : History) → Legal H → IsTrue (is_accepted p H)
    → Came H (MadeAccepted p) (λ after. all_told (decision_told p) after ≡ [])

-- ---- whoever is shown another's form

-- a user who is shown another's form on the paper is an author of it, from the response on; or discusses it; or is a
-- chair in no conflict with it; and came to be so
pub data ReadsAs (u p : ℕ) (H : History) : Type 0 where
  author : IsTrue (is_author_since_response (Some u) p H) → Came H (MadeAuthor u p) Whatever → ReadsAs u p H
  member : IsTrue (discusses (Some u) p H) → CameToCommittee u H → ReadsAs u p H
  chair : IsTrue (administers u p H) → CameToCommittee u H → ReadsAs u p H

-- FormReadersCame: on a legal history each user who is shown another's form came to be a reader of it so
abbrev pub FormReadersCame : Type 0
FormReadersCame = (u p : ℕ) (H : History) → Legal H
    → All (λ (s : Sighting). IsTrue (is_others kinds.Reviewed p s) → ReadsAs u p H) (view (Some u) H)
