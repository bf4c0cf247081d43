-- SPDX-License-Identifier: Apache-2.0 OR MIT
-- Told: what a view shows, some answer tells. Here it is said of each key of a paper's page when it is there and what
-- it holds, in a committee's terms (the HotCRP manual's title, abstract, authors, conflicts, review preferences,
-- reviewers, tags and decisions, by CoCon's phases): by the parts that the view's sightings show, and not by the page's
-- definition. Where a view can't show who is told, the bounds (ShownTo) say it. That each sighting has its place in an
-- answer is said in ToldPlaces.
use Rattle.std.specs.Prelude.{ℕ, Bool, true, false, not, ◌≡◌, ◌&&◌, ◌||◌, ◌==◌, List, [], ◌∷◌}
use Rattle.std.specs.Prelude.{map, filter, Option, Some, None, is_some, unwrap_or, if◌then◌else◌}
use Rattle.std.specs.Option.{option_map}
use Rattle.std.specs.List.{flat_map, list_any}
use Rattle.cr_base.specs.declared.command.Query.TheVariants as queries
use Rattle.cr_base.specs.declared.entry.EntryKind.{EntryKind}
use Rattle.cr_base.specs.declared.entry.EntryKind.TheVariants as kinds
use Rattle.cr_base.specs.declared.page.Page.{Page}
use Rattle.cr_base.specs.declared.reply.AccountLine.{AccountLine}
use Rattle.cr_base.specs.declared.reply.Reply.{Reply}
use Rattle.cr_base.specs.declared.reply.Reply.TheVariants as replies
use Rattle.cr_base.specs.declared.words.Decision.TheVariants.{Accept}
use Rattle.cr_base.specs.Lists.{listed, last, last_or, is_number}
use Rattle.cr_base.specs.History.{History}
use Rattle.cr_base.specs.HistoryFacts.{role_of, is_author, declared_by_authors}
use Rattle.cr_base.specs.Sources.{names_in}
use Rattle.cr_history.specs.Invariants.{IsSubmitted}
use Rattle.cr_policy.specs.Judge.{answer}
use Rattle.cr_policy.specs.Legal.{Legal}
use Rattle.cr_policy.specs.Sighting.{Sighting}
use Rattle.cr_policy.specs.View.{View, view}
use Rattle.cr_policy.specs.ViewFacts.{only, is_user, is_kind, accounts_in_view}
use Rattle.cr_bounds.specs.ShownTo.{is_on_committee, has_conflict, serves, is_eligible, visits, reads_visiting}
use Rattle.cr_bounds.specs.ShownTo.{oversees, discusses, is_notified, where_known}

-- ---- what a view shows

-- what the sightings on the paper show in this part, in order, whatever their kinds
abbrev pub shown_on : {A : Type 0} → ℕ → (Sighting → Option A) → View → List A
shown_on p part V = flat_map (λ (s : Sighting). only (is_number s.paper p) (listed (part s))) V

-- what the sightings of this kind on the paper show in this part, in order
abbrev pub shown_by : {A : Type 0} → EntryKind → ℕ → (Sighting → Option A) → View → List A
shown_by kind p part V = flat_map (λ (s : Sighting). only (is_kind kind s && is_number s.paper p) (listed (part s))) V

-- what the sightings on the paper that name the user show in this part, in order
abbrev pub shown_of : {A : Type 0} → Option ℕ → ℕ → (Sighting → Option A) → View → List A
shown_of u p part V = flat_map (λ (s : Sighting). only (is_number s.paper p && is_user u s.user) (listed (part s))) V

-- a sighting on the paper is of this kind
abbrev pub is_shown : EntryKind → ℕ → View → Bool
is_shown kind p V = list_any (λ (s : Sighting). is_kind kind s && is_number s.paper p) V

-- the author whom a sighting of this kind shows: the submitter of the paper, or a co-author
abbrev pub writer_by : EntryKind → Option ℕ → Option ℕ → Option ℕ
writer_by kinds.Submitted by user = by
writer_by kinds.Coauthor by user = user
writer_by _ by user = None

-- the authors of the paper that are shown, in order
abbrev pub writers_shown : ℕ → View → List ℕ
writers_shown p V = shown_on p (λ (s : Sighting). writer_by s.kind s.by s.user) V

-- the user's conflict with the paper is on, by the last sighting on it
abbrev pub is_shown_in_conflict : Option ℕ → ℕ → View → Bool
is_shown_in_conflict u p V = last_or false (shown_of u p (λ (s : Sighting). s.on) V)

-- what a sighting of this kind says of a reviewer: that they have the label of this ordinal, or no longer
abbrev pub ordinal_by : EntryKind → Option ℕ → Option (Option ℕ)
ordinal_by kinds.Assigned ordinal = option_map (λ (o : ℕ). Some o) ordinal
ordinal_by kinds.Unassigned ordinal = option_map (λ (o : ℕ). None) ordinal
ordinal_by _ ordinal = None

-- the ordinal of the label under which the user reviews the paper, by the last sighting that assigns or unassigns them
abbrev pub label_shown_of : Option ℕ → ℕ → View → Option ℕ
label_shown_of u p V = last_or None (shown_of u p (λ (s : Sighting). ordinal_by s.kind s.ordinal) V)

-- what a sighting of this kind says of an invitation: that it is on, or no longer
abbrev pub invitation_by : EntryKind → Option Bool
invitation_by kinds.Invited = Some true
invitation_by kinds.Uninvited = Some false
invitation_by _ = None

-- the user is invited to the paper, by the last sighting that invites them or ends the invitation
abbrev pub is_shown_invited : Option ℕ → ℕ → View → Bool
is_shown_invited u p V = last_or false (shown_of u p (λ (s : Sighting). invitation_by s.kind) V)

-- the reader's own bids on the paper, in order
abbrev pub own_bids_shown : ℕ → View → List ℕ
own_bids_shown p V = flat_map (λ (s : Sighting). only (is_number s.paper p && s.mine) (listed s.value)) V

-- the bids on the paper that are shown as this user's, in order
abbrev pub bids_shown_of : ℕ → ℕ → View → List ℕ
bids_shown_of v p V =
    flat_map (λ (s : Sighting). only (is_number s.paper p && is_user (Some v) s.by) (listed s.value)) V

-- the paper is shown to be accepted
abbrev pub is_shown_accepted : ℕ → View → Bool
is_shown_accepted p V = last_or false (shown_on p (λ (s : Sighting). s.accepted) V)

-- the names of these users, as the accounts shown have them
abbrev pub names_shown : List ℕ → View → List (List ℕ)
names_shown users V = names_in (accounts_in_view V) users

-- the users of the accounts shown of whom this holds, by number
abbrev pub users_shown : (ℕ → Bool) → View → List ℕ
users_shown test V = filter test (map (λ (a : AccountLine). a.user) (accounts_in_view V))

-- ---- what is answered

-- the page that a reply tells; `None` if it tells none
abbrev pub page_answered : Reply → Option Page
page_answered (replies.Page page) = Some page
page_answered _ = None

-- what the page has under a key; `None` if there is no page
abbrev pub key_in : {A : Type 0} → (Page → Option A) → Option Page → Option A
key_in key None = None
key_in key (Some page) = key page

-- what the answer to the user's query of the paper's page has under a key; `None` if the page is refused
abbrev pub page_told : {A : Type 0} → (Page → Option A) → Option ℕ → ℕ → History → Option A
page_told key u p H = key_in key (page_answered (answer u (view u H) (queries.Page (Some p))))

-- ---- a paper's page

-- the user is on the committee, and in no conflict with the paper
abbrev pub is_clear : Option ℕ → ℕ → History → Bool
is_clear u p H = is_on_committee (role_of u H) && not (has_conflict u p H)

-- the names of these users; `None` if there are no users
abbrev pub some_names : List ℕ → View → Option (List (List ℕ))
some_names [] V = None
some_names (u ∷ users) V = Some (names_shown (u ∷ users) V)

-- what each key of the page of a paper that is there holds, and when it is there. The page is answered to a user who is
-- on the committee, is an external or an author of the paper, or is shown that it is accepted.
-- Title and abstract: if and only if the view shows one of the paper; the last that it shows.
-- Authors: if and only if the view shows one; all that it shows, in order.
-- Withdrawn: for authors, those who serve, and externals who read it; whether the view shows that it was withdrawn.
-- Versions: if and only if the view shows an abstract; those of the uploads that it shows.
-- Decision: for those who discuss the paper, its authors from the notification on, and everyone who is shown that it is
-- accepted; that it is accepted, if that is shown, else the last decision that is shown.
-- Conflict: for the committee, externals and authors; whether the reader is shown to be an author, or in conflict.
-- Conflicts: for those who oversee the paper; the users who are shown to be in conflict, by number.
-- Declared: for authors; the users whom an author named, by number.
-- Bid: for those who are eligible; the last of the reader's own that is shown, or 20, which is none.
-- Label: for members and externals in no conflict; the one under which the reader is shown to review the paper.
pub record PageTold (u : Option ℕ) (p : ℕ) (H : History) : Type 0 where
  pub paper : page_told (λ page. Some page.paper) u p H
      ≡ where_known (is_on_committee (role_of u H) || visits u p H || is_author u p H
      || is_shown_accepted p (view u H)) p
  pub title : page_told (λ page. page.title) u p H ≡ last (shown_on p (λ (s : Sighting). s.title) (view u H))
  pub abstract_ : page_told (λ page. page.abstract_) u p H
      ≡ last (shown_on p (λ (s : Sighting). s.abstract) (view u H))
  pub authors : page_told (λ page. page.authors) u p H ≡ some_names (writers_shown p (view u H)) (view u H)
  pub withdrawn : page_told (λ page. page.withdrawn) u p H
      ≡ where_known (is_author u p H || serves u H || reads_visiting u p H) (is_shown kinds.Withdrawn p (view u H))
  pub versions : page_told (λ page. page.versions) u p H
      ≡ where_known (is_some (last (shown_on p (λ (s : Sighting). s.abstract) (view u H))))
      (shown_by kinds.Uploaded p (λ (s : Sighting). s.version) (view u H))
  pub decision : page_told (λ page. page.decision) u p H
      ≡ where_known (discusses u p H || is_notified u p H || is_shown_accepted p (view u H))
      (if is_shown_accepted p (view u H) then Some Accept
      else last (shown_on p (λ (s : Sighting). s.decision) (view u H)))
  pub conflict : page_told (λ page. page.conflict) u p H
      ≡ where_known (is_on_committee (role_of u H) || visits u p H || is_author u p H)
      (list_any (is_number u) (writers_shown p (view u H)) || is_shown_in_conflict u p (view u H))
  pub conflicts : page_told (λ page. page.conflicts) u p H
      ≡ where_known (oversees u p H)
      (names_shown (users_shown (λ v. is_shown_in_conflict (Some v) p (view u H)) (view u H)) (view u H))
  pub declared : page_told (λ page. page.declared) u p H
      ≡ where_known (is_author u p H)
      (names_shown (users_shown (λ v. list_any (λ w. w == v) (declared_by_authors p H)) (view u H)) (view u H))
  pub bid : page_told (λ page. page.bid) u p H
      ≡ where_known (is_eligible u p H) (unwrap_or (last (own_bids_shown p (view u H))) 20)
  pub label : page_told (λ page. page.label) u p H
      ≡ (if is_clear u p H || (visits u p H && not (has_conflict u p H)) then label_shown_of u p (view u H) else None)

-- PageTold holds of every user, every paper that is there, and every legal history
abbrev pub PagesTold : Type 0
PagesTold = (u : Option ℕ) (p : ℕ) (H : History) → Legal H → IsSubmitted H p → PageTold u p H
