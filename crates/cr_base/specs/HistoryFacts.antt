-- SPDX-License-Identifier: Apache-2.0 OR MIT
-- Facts of a history: what it says of the conference, of its papers, and of a user.
use Rattle.std.specs.Prelude.{ℕ, Bool, false, not, ◌||◌, ◌&&◌, ◌==◌, List, [], ◌++◌, Option}
use Rattle.std.specs.Prelude.{length, map, Some, None, is_some, filter, find, fold, if◌then◌else◌}
use Rattle.std.specs.List.{flat_map, list_any}
use Rattle.std.specs.Option.{option_and_then}
use Rattle.cr_base.specs.declared.entry.Stamped.{Stamped}
use Rattle.cr_base.specs.declared.words.Decision.{Decision}
use Rattle.cr_base.specs.declared.words.Phase.{Phase}
use Rattle.cr_base.specs.declared.words.Phase.TheVariants.{Setup}
use Rattle.cr_base.specs.declared.words.Mode.{Mode}
use Rattle.cr_base.specs.declared.words.Mode.TheVariants.{Blind}
use Rattle.cr_base.specs.declared.words.Role.{Role}
use Rattle.cr_base.specs.declared.words.Role.TheVariants.{Account}
use Rattle.cr_base.specs.declared.reply.AccountLine.{AccountLine}
use Rattle.cr_base.specs.declared.standing.Standing.{Standing}
use Rattle.cr_base.specs.declared.tag.SetTag.{SetTag}
use Rattle.cr_base.specs.Decisions.{is_accepted_when}
use Rattle.cr_base.specs.Lists.{last, last_or, listed, total, is_nothing, is_number, at_some, until, since}
use Rattle.cr_base.specs.Tags.{with_tag}
use Rattle.cr_base.specs.Words.{is_member}
use Rattle.cr_base.specs.History.{History, Registration, Upload, SeatTold, all_told}
use Rattle.cr_base.specs.History.{all_told_by, phase_told, mode_told, deadline_told, paper_told}
use Rattle.cr_base.specs.History.{own_paper_told, author_told, conflict_told, declared_told, title_told}
use Rattle.cr_base.specs.History.{bid_told, ordinal_told, assigned_told, unassigned_told}
use Rattle.cr_base.specs.History.{FormTold, CommentTold, TagTold, form_told, own_form_told, comment_told}
use Rattle.cr_base.specs.History.{own_comment_told, tag_told, decision_told, opens_discussion, opens_response}
use Rattle.cr_base.specs.History.{abstract_told, upload_told, own_bytes_told, withdrawal_told}
use Rattle.cr_base.specs.History.{registration_told, role_told, number_told, caller_told, invite_told, response_told}

-- ---- what is public

-- the last phase that was set; setup if none was
abbrev pub phase_of : History → Phase
phase_of H = last_or Setup (all_told phase_told H)

-- the last mode that was set; blind if none was
abbrev pub mode_of : History → Mode
mode_of H = last_or Blind (all_told mode_told H)

-- the deadline of the phase that was set last; none if none was, or it was taken away
abbrev pub deadline_of : Phase → History → Option ℕ
deadline_of phase H = last_or None (all_told (deadline_told phase) H)

-- the response was opened
abbrev pub had_response_of : History → Bool
had_response_of H = list_any opens_response H

-- the role of the last entry that appointed the user or dismissed them (a dismissal leaves an account's); an account's
-- if there is no such entry
abbrev pub role_of : Option ℕ → History → Role
role_of u H = last_or Account (all_told (role_told u) H)

-- the papers, in the order of their submission
abbrev pub papers_of : History → List ℕ
papers_of H = all_told paper_told H

-- the accounts, in the order of their registration, each with its role
abbrev pub accounts_of : History → List AccountLine
accounts_of H =
    map (λ (r : Registration). record { user = r.user; name = r.name; role = role_of (Some r.user) H })
    (all_told registration_told H)

-- the user who registered this name
abbrev pub number_of : List ℕ → History → Option ℕ
number_of name H = last (all_told (number_told name) H)

-- the user whose registration has this name and this digest of a secret; `None` if there is none
abbrev pub caller_of : List ℕ → List ℕ → History → Option ℕ
caller_of name digest H = last (all_told (caller_told name digest) H)

-- ---- Ties

-- the paper's authors: the submitter, then the co-authors in the order in which they were told
abbrev pub authors_of : ℕ → History → List ℕ
authors_of p H = all_told_by (author_told p) H

-- the user is one of the paper's authors
abbrev pub is_author : Option ℕ → ℕ → History → Bool
is_author u p H = list_any (is_number u) (authors_of p H)

-- the last entry on the user's conflict with the paper turns it on
abbrev pub is_conflict_on : Option ℕ → ℕ → History → Bool
is_conflict_on u p H = last_or false (all_told (conflict_told u p) H)

-- the user is in conflict with the paper: is an author of it, or is declared in conflict with it
abbrev pub is_conflicted : Option ℕ → ℕ → History → Bool
is_conflicted u p H = is_author u p H || is_conflict_on u p H

-- the users whom the paper's authors named in conflict with it
abbrev pub declared_by_authors : ℕ → History → List ℕ
declared_by_authors p H = flat_map (λ (e : Stamped). declared_told (is_author (Some e.stamp.maker) p H) p e.entry) H

-- the ordinal under which the user reviews the paper: that of the last entry on the two, if it assigns the user; none
-- if it unassigns them, or there is no such entry
abbrev pub ordinal_of : Option ℕ → ℕ → History → Option ℕ
ordinal_of u p H = last_or None (all_told (ordinal_told u p) H)

-- the user reviews the paper
abbrev pub is_reviewer : Option ℕ → ℕ → History → Bool
is_reviewer u p H = is_some (ordinal_of u p H)

-- the user was invited to the paper, and the last such invitation didn't end since
abbrev pub is_invited : Option ℕ → ℕ → History → Bool
is_invited u p H = last_or false (all_told (invite_told u p) H)

-- the user is an external of the paper: not on the committee, and invited to the paper
abbrev pub is_external : Option ℕ → ℕ → History → Bool
is_external u p H = not (is_member (role_of u H)) && is_invited u p H

-- what a user is to the conference, and to a paper, if one is named
abbrev pub standing_of : Option ℕ → Option ℕ → History → Standing
standing_of u paper H = record {
  phase = phase_of H;
  mode = mode_of H;
  role = role_of u H;
  author = at_some (λ p. is_author u p H) paper;
  conflicted = at_some (λ p. is_conflicted u p H) paper;
  reviewer = at_some (λ p. is_reviewer u p H) paper;
  external = at_some (λ p. is_external u p H) paper;
}

-- ---- bids and assignments

-- the user's last bid on the paper
abbrev pub bid_of : Option ℕ → ℕ → History → Option ℕ
bid_of u p H = last (all_told_by (bid_told u p) H)

-- each user who was assigned to the paper, in order of assignment and so of labels
abbrev pub seats_of : ℕ → History → List SeatTold
seats_of p H = all_told (assigned_told p) H

-- the seats that have none of these ordinals
abbrev pub seats_left : List ℕ → List SeatTold → List SeatTold
seats_left gone seats = filter (λ (seat : SeatTold). not (list_any (λ o. o == seat.ordinal) gone)) seats

-- the paper's reviewers: the seats whose ordinal was not unassigned
abbrev pub reviewers_of : ℕ → History → List SeatTold
reviewers_of p H = seats_left (all_told (unassigned_told p) H) (seats_of p H)

-- the user who was assigned to the paper under this ordinal, whether they have left since or not
abbrev pub assigned_under : ℕ → List SeatTold → Option ℕ
assigned_under o seats =
    option_and_then (λ (seat : SeatTold). seat.user) (find (λ (seat : SeatTold). seat.ordinal == o) seats)

-- ---- reviews

-- the forms under the paper's label of this ordinal, in the order in which they were written, which is that of their
-- numbers
abbrev pub forms_of : ℕ → ℕ → History → List FormTold
forms_of p o H = all_told (form_told p o) H

-- the last form under the paper's label of this ordinal, which its authors read from the notification on
abbrev pub last_form_of : ℕ → ℕ → History → Option FormTold
last_form_of p o H = last (forms_of p o H)

-- the forms under the paper's label of this ordinal that the committee discusses: the last one before the discussion,
-- and all from it on
abbrev pub forms_discussed_of : ℕ → ℕ → History → List FormTold
forms_discussed_of p o H =
    listed (last (forms_of p o (until opens_discussion H))) ++ forms_of p o (since opens_discussion H)

-- the form under the paper's label of this ordinal to which its authors respond: the last one before the response was
-- opened; none if it never was
abbrev pub early_form_of : ℕ → ℕ → History → Option FormTold
early_form_of p o H = if had_response_of H then last (forms_of p o (until opens_response H)) else None

-- a form was written under the paper's label of this ordinal
abbrev pub is_written : ℕ → ℕ → History → Bool
is_written p o H = not (is_nothing (forms_of p o H))

-- the forms of the paper that the user wrote
abbrev pub own_forms_of : Option ℕ → ℕ → History → List FormTold
own_forms_of u p H = all_told_by (own_form_told u p) H

-- ---- comments, responses and tags

-- the comments on the paper, in the order in which they were written, which is that of their numbers
abbrev pub comments_of : ℕ → History → List CommentTold
comments_of p H = all_told_by (comment_told p) H

-- how many comments the user has written
abbrev pub own_comments_of : Option ℕ → History → ℕ
own_comments_of u H = length (all_told_by (own_comment_told u) H)

-- what the paper's authors responded
abbrev pub response_of : ℕ → History → Option (List ℕ)
response_of p H = last (all_told (response_told p) H)

-- the tags that are on after these were turned on and off, in order
abbrev pub tags_left : List TagTold → List SetTag
tags_left turned = fold (λ (ts : List SetTag) (t : TagTold). with_tag t.on t.tag ts) [] turned

-- the paper's tags that are on: each by the last entry on it, a private one by its owner's last
abbrev pub tags_of : ℕ → History → List SetTag
tags_of p H = tags_left (all_told_by (tag_told p) H)

-- ---- papers

-- the last title that the paper was given
abbrev pub title_of : ℕ → History → Option (List ℕ)
title_of p H = last (all_told (title_told p) H)

-- the last abstract that the paper was given
abbrev pub abstract_of : ℕ → History → Option (List ℕ)
abstract_of p H = last (all_told (abstract_told p) H)

-- the versions that were uploaded to the paper, in order
abbrev pub uploads_of : ℕ → History → List Upload
uploads_of p H = all_told (upload_told p) H

-- the paper was withdrawn
abbrev pub is_withdrawn : ℕ → History → Bool
is_withdrawn p H = last_or false (all_told (withdrawal_told p) H)

-- the last decision on the paper
abbrev pub decision_of : ℕ → History → Option Decision
decision_of p H = last (all_told (decision_told p) H)

-- the paper is accepted: the last decision on it is to accept it, it isn't withdrawn, and the phase is the notification
-- or later
abbrev pub is_accepted : ℕ → History → Bool
is_accepted p H = is_accepted_when (phase_of H) (is_withdrawn p H) (decision_of p H)

-- how many papers the user has submitted
abbrev pub own_papers_of : Option ℕ → History → ℕ
own_papers_of u H = length (all_told_by (own_paper_told u) H)

-- how many bytes the user has uploaded, in all versions of all papers
abbrev pub own_bytes_of : Option ℕ → History → ℕ
own_bytes_of u H = total (all_told_by (own_bytes_told u) H)
