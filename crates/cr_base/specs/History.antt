-- SPDX-License-Identifier: Apache-2.0 OR MIT
-- Histories, and what one entry tells: each definition ending in `_told` gives the values that an entry adds to one
-- fact, at most one. In the records a field that an answer or a view may hide is `None` where it is hidden.
use Rattle.std.specs.Prelude.{ℕ, Bool, true, false, List, [], ◌∷◌, Option, Some, None, ◌&&◌, ◌==◌, length}
use Rattle.std.specs.List.{flat_map}
use Rattle.std.specs.Str.{bytes_eq}
use Rattle.cr_base.specs.declared.entry.Entry.{Entry}
use Rattle.cr_base.specs.declared.entry.Entry.TheVariants.{Registered, Named, PhaseSet, ModeSet, Submitted}
use Rattle.cr_base.specs.declared.entry.Entry.TheVariants.{Coauthor, Revised, Uploaded, Withdrawn, Conflict}
use Rattle.cr_base.specs.declared.entry.Entry.TheVariants.{Bid, Assigned, Unassigned, Reviewed}
use Rattle.cr_base.specs.declared.entry.Entry.TheVariants.{Commented, Tagged, Decided, DeadlineSet}
use Rattle.cr_base.specs.declared.entry.Entry.TheVariants.{Dismissed, Invited, Uninvited, Responded}
use Rattle.cr_base.specs.declared.entry.Stamped.{Stamped}
use Rattle.cr_base.specs.declared.form.Form.{Form}
use Rattle.cr_base.specs.declared.tag.SetTag.{SetTag}
use Rattle.cr_base.specs.declared.words.Decision.{Decision}
use Rattle.cr_base.specs.declared.words.Kind.{Kind}
use Rattle.cr_base.specs.declared.words.Phase.{Phase}
use Rattle.cr_base.specs.declared.words.Phase.TheVariants.{Response}
use Rattle.cr_base.specs.declared.words.Mode.{Mode}
use Rattle.cr_base.specs.declared.words.Role.{Role}
use Rattle.cr_base.specs.declared.words.Role.TheVariants.{Account}
use Rattle.cr_base.specs.Lists.{given, is_number}
use Rattle.cr_base.specs.Phases.{committee_reads_from, is_phase, may_have_deadline}
use Rattle.cr_base.specs.Tags.{tag_owner}

-- the entries of the accepted commands, in order. Those of one command are next to each other, and all of them but the
-- last have the mark `more`.
abbrev pub History : Type 0
History = List Stamped

-- a user's number and name
pub record Registration : Type 0 where
  pub user : ℕ
  pub name : List ℕ

-- what was uploaded to a paper: the number of the version, and its bytes
pub record Upload : Type 0 where
  pub version : ℕ
  pub content : List ℕ

-- a bid on a paper, kept plus 20, and the user who made it
pub record BidTold : Type 0 where
  pub user : ℕ
  pub value : ℕ

-- a reviewer of a paper: the ordinal of the reviewer's label, whether they are the primary, the secondary or another,
-- and who they are
pub record SeatTold : Type 0 where
  pub ordinal : ℕ
  pub kind : Option Kind
  pub user : Option ℕ

-- a form of a review: its number among those of its label, what it says to the authors, and what it says to the
-- committee only
pub record FormTold : Type 0 where
  pub version : Option ℕ
  pub score : ℕ
  pub confidence : ℕ
  pub to_authors : List ℕ
  pub to_pc : Option (List ℕ)

-- a comment: its number, who wrote it, and the ordinal under which the writer reviews the paper, if they do
pub record CommentTold : Type 0 where
  pub n : ℕ
  pub writer : Option ℕ
  pub ordinal : Option ℕ
  pub text : List ℕ

-- a tag, and whether it is turned on or off
pub record TagTold : Type 0 where
  pub tag : SetTag
  pub on : Bool

-- what each entry tells, in order
abbrev pub all_told : {A : Type 0} → (Entry → List A) → History → List A
all_told told H = flat_map (λ (e : Stamped). told e.entry) H

-- what each entry tells, in order, where this depends on the user who made the entry as well
abbrev pub all_told_by : {A : Type 0} → (ℕ → Entry → List A) → History → List A
all_told_by told H = flat_map (λ (e : Stamped). told e.stamp.maker e.entry) H

-- ---- what it names

-- the paper on which the entry is, and which is submitted before it. A submission is about no paper, since the paper
-- isn't there before it.
abbrev pub paper_about : Entry → Option ℕ
paper_about (Registered user name digest) = None
paper_about (Named user role) = None
paper_about (PhaseSet phase) = None
paper_about (ModeSet mode) = None
paper_about (Submitted paper title abstract) = None
paper_about (Coauthor paper user) = Some paper
paper_about (Revised paper title abstract) = Some paper
paper_about (Uploaded paper version content) = Some paper
paper_about (Withdrawn paper) = Some paper
paper_about (Conflict paper user on) = Some paper
paper_about (Bid paper value) = Some paper
paper_about (Assigned paper user kind ordinal) = Some paper
paper_about (Unassigned paper user ordinal) = Some paper
paper_about (Reviewed paper ordinal version form) = Some paper
paper_about (Commented paper n ordinal text) = Some paper
paper_about (Tagged paper tag on) = Some paper
paper_about (Decided paper decision) = Some paper
paper_about (DeadlineSet phase until) = None
paper_about (Dismissed user) = None
paper_about (Invited paper user) = Some paper
paper_about (Uninvited paper user) = Some paper
paper_about (Responded paper text) = Some paper

-- the user whom the entry names, and who has registered before it. A registration is about no user, since the user
-- isn't there before it.
abbrev pub user_about : Entry → Option ℕ
user_about (Named user role) = Some user
user_about (Coauthor paper user) = Some user
user_about (Conflict paper user on) = Some user
user_about (Assigned paper user kind ordinal) = Some user
user_about (Unassigned paper user ordinal) = Some user
user_about (Dismissed user) = Some user
user_about (Invited paper user) = Some user
user_about (Uninvited paper user) = Some user
user_about _ = None

-- ---- what it gives of each fact

-- the phase that the entry sets
abbrev pub phase_told : Entry → List Phase
phase_told (PhaseSet phase) = phase ∷ []
phase_told _ = []

-- the mode that the entry sets
abbrev pub mode_told : Entry → List Mode
mode_told (ModeSet mode) = mode ∷ []
mode_told _ = []

-- what setting the deadline of `set` to `until` tells of the deadline of `phase`: `until`, if both are one phase and
-- chairs may set a deadline of it; else nothing
abbrev pub deadline_given : Phase → Phase → Option ℕ → List (Option ℕ)
deadline_given phase set until = given (may_have_deadline set && is_phase set phase) until

-- the deadline that the entry sets for the phase; `None` if it says that the phase has none any more
abbrev pub deadline_told : Phase → Entry → List (Option ℕ)
deadline_told phase (DeadlineSet set until) = deadline_given phase set until
deadline_told phase _ = []

-- the entry sets the phase to this one
abbrev pub opens : Phase → Entry → Bool
opens first (PhaseSet phase) = is_phase phase first
opens first _ = false

-- the entry sets the phase to the one from which members read each other's reviews: the discussion
abbrev pub opens_discussion : Stamped → Bool
opens_discussion e = opens committee_reads_from e.entry

-- the entry sets the phase to the response
abbrev pub opens_response : Stamped → Bool
opens_response e = opens Response e.entry

-- the paper that the entry submits
abbrev pub paper_told : Entry → List ℕ
paper_told (Submitted paper title abstract) = paper ∷ []
paper_told _ = []

-- the paper that the entry submits, if the user made it
abbrev pub own_paper_told : Option ℕ → ℕ → Entry → List ℕ
own_paper_told u maker (Submitted paper title abstract) = given (is_number u maker) paper
own_paper_told u maker _ = []

-- the author that the entry, which `maker` made, gives the paper: the submitter, or a co-author
abbrev pub author_told : ℕ → ℕ → Entry → List ℕ
author_told p maker (Submitted paper title abstract) = given (paper == p) maker
author_told p maker (Coauthor paper user) = given (paper == p) user
author_told p maker _ = []

-- whether the entry turns the user's declared conflict with the paper on or off
abbrev pub conflict_told : Option ℕ → ℕ → Entry → List Bool
conflict_told u p (Conflict paper user on) = given (paper == p && is_number u user) on
conflict_told u p _ = []

-- the user whom the entry names in a conflict with the paper, if `authors`: whether an author of the paper made it
abbrev pub declared_told : Bool → ℕ → Entry → List ℕ
declared_told authors p (Conflict paper user on) = given (paper == p && authors) user
declared_told authors p _ = []

-- the user's bid on the paper, if the entry is one; `maker` made it
abbrev pub bid_told : Option ℕ → ℕ → ℕ → Entry → List ℕ
bid_told u p maker (Bid paper value) = given (paper == p && is_number u maker) value
bid_told u p maker _ = []

-- the ordinal under which the user reviews the paper from this entry on: `Some` if it assigns the user, `None` if it
-- unassigns them
abbrev pub ordinal_told : Option ℕ → ℕ → Entry → List (Option ℕ)
ordinal_told u p (Assigned paper user kind ordinal) = given (paper == p && is_number u user) (Some ordinal)
ordinal_told u p (Unassigned paper user ordinal) = given (paper == p && is_number u user) None
ordinal_told u p _ = []

-- whether the user is invited to the paper from this entry on: true if it invites them, false if it ends the invitation
abbrev pub invite_told : Option ℕ → ℕ → Entry → List Bool
invite_told u p (Invited paper user) = given (paper == p && is_number u user) true
invite_told u p (Uninvited paper user) = given (paper == p && is_number u user) false
invite_told u p _ = []

-- the reviewer whom the entry assigns to the paper
abbrev pub assigned_told : ℕ → Entry → List SeatTold
assigned_told p (Assigned paper user kind ordinal) =
    given (paper == p) (record { ordinal = ordinal; kind = Some kind; user = Some user })
assigned_told p _ = []

-- the ordinal of the reviewer whom the entry unassigns from the paper
abbrev pub unassigned_told : ℕ → Entry → List ℕ
unassigned_told p (Unassigned paper user ordinal) = given (paper == p) ordinal
unassigned_told p _ = []

-- a form of this number with nothing hidden
abbrev pub whole_form : ℕ → Form → FormTold
whole_form version form = record {
  version = Some version;
  score = form.score;
  confidence = form.confidence;
  to_authors = form.to_authors;
  to_pc = Some form.to_pc;
}

-- the form that the entry adds under the paper's label of this ordinal
abbrev pub form_told : ℕ → ℕ → Entry → List FormTold
form_told p o (Reviewed paper ordinal version form) = given (paper == p && ordinal == o) (whole_form version form)
form_told p o _ = []

-- the form of the paper that the entry, which `maker` made, adds, if the user made it
abbrev pub own_form_told : Option ℕ → ℕ → ℕ → Entry → List FormTold
own_form_told u p maker (Reviewed paper ordinal version form) =
    given (paper == p && is_number u maker) (whole_form version form)
own_form_told u p maker _ = []

-- the comment on the paper that the entry, which `maker` made, adds
abbrev pub comment_told : ℕ → ℕ → Entry → List CommentTold
comment_told p maker (Commented paper n ordinal text) =
    given (paper == p) (record { n = n; writer = Some maker; ordinal = ordinal; text = text })
comment_told p maker _ = []

-- the number of the comment that the entry adds, if the user made it
abbrev pub own_comment_told : Option ℕ → ℕ → Entry → List ℕ
own_comment_told u maker (Commented paper n ordinal text) = given (is_number u maker) n
own_comment_told u maker _ = []

-- the text that the paper's authors respond
abbrev pub response_told : ℕ → Entry → List (List ℕ)
response_told p (Responded paper text) = given (paper == p) text
response_told p _ = []

-- the tag that the entry, which `maker` made, turns on or off at the paper
abbrev pub tag_told : ℕ → ℕ → Entry → List TagTold
tag_told p maker (Tagged paper tag on) =
    given (paper == p) (record { tag = record { tag = tag; owner = tag_owner tag maker }; on = on })
tag_told p maker _ = []

-- what the entry decides on the paper
abbrev pub decision_told : ℕ → Entry → List Decision
decision_told p (Decided paper decision) = given (paper == p) decision
decision_told p _ = []

-- the title that the entry gives the paper
abbrev pub title_told : ℕ → Entry → List (List ℕ)
title_told p (Submitted paper title abstract) = given (paper == p) title
title_told p (Revised paper title abstract) = given (paper == p) title
title_told p _ = []

-- the abstract that the entry gives the paper
abbrev pub abstract_told : ℕ → Entry → List (List ℕ)
abstract_told p (Submitted paper title abstract) = given (paper == p) abstract
abstract_told p (Revised paper title abstract) = given (paper == p) abstract
abstract_told p _ = []

-- the version and the content that the entry uploads to the paper
abbrev pub upload_told : ℕ → Entry → List Upload
upload_told p (Uploaded paper version content) = given (paper == p) (record { version = version; content = content })
upload_told p _ = []

-- how many bytes the entry uploads, if the user made it
abbrev pub own_bytes_told : Option ℕ → ℕ → Entry → List ℕ
own_bytes_told u maker (Uploaded paper version content) = given (is_number u maker) (length content)
own_bytes_told u maker _ = []

-- true, if the entry withdraws the paper
abbrev pub withdrawal_told : ℕ → Entry → List Bool
withdrawal_told p (Withdrawn paper) = given (paper == p) true
withdrawal_told p _ = []

-- the account that the entry registers
abbrev pub registration_told : Entry → List Registration
registration_told (Registered user name digest) = record { user = user; name = name } ∷ []
registration_told _ = []

-- the role that the user has from this entry on: the one to which it appoints them, or an account's if it dismisses
-- them
abbrev pub role_told : Option ℕ → Entry → List Role
role_told u (Named user role) = given (is_number u user) role
role_told u (Dismissed user) = given (is_number u user) Account
role_told u _ = []

-- the number of the user whom the entry registers under this name
abbrev pub number_told : List ℕ → Entry → List ℕ
number_told name (Registered user name' digest) = given (bytes_eq name' name) user
number_told name _ = []

-- the number of the user whom the entry registers under this name with this digest of a secret
abbrev pub caller_told : List ℕ → List ℕ → Entry → List ℕ
caller_told name digest (Registered user name' digest') = given (bytes_eq name' name && bytes_eq digest' digest) user
caller_told name digest _ = []
