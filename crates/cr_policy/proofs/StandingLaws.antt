-- SPDX-License-Identifier: Apache-2.0 OR MIT
-- What a view says of the conference, of its papers and of its reader is what the history says.
use Rattle.std.proofs.Common.{◌≡◌, ℕ, Bool, true, false, List, [], refl, ap, ◌∙◌, ◌||◌, ◌&&◌, Option, Some, None}
use Rattle.std.proofs.Common.{length}
use Rattle.std.specs.Prelude.{map, is_some, not}
use Rattle.std.specs.Cmp.Derive.{both_true}
use Rattle.std.specs.List.{list_any}
use Rattle.std.proofs.lemmas.Bool.{or_left}
use Rattle.cr_base.specs.declared.entry.Entry.TheVariants.{Conflict}
use Rattle.cr_base.specs.declared.entry.Stamp.{Stamp}
use Rattle.cr_base.specs.declared.entry.Stamped.{Stamped}
use Rattle.cr_base.specs.declared.words.Phase.{Phase}
use Rattle.cr_base.specs.declared.words.Phase.TheVariants.{Setup, Response}
use Rattle.cr_base.specs.declared.words.Mode.TheVariants.{Blind}
use Rattle.cr_base.specs.declared.words.Role.{Role}
use Rattle.cr_base.specs.declared.words.Role.TheVariants.{Account}
use Rattle.cr_base.specs.declared.reply.AccountLine.{AccountLine}
use Rattle.cr_base.specs.Lists.{last, last_or, total, is_number, at_some}
use Rattle.cr_base.specs.Drawn.{stamped}
use Rattle.cr_base.specs.History.{History, Registration, all_told, phase_told, mode_told, deadline_told, paper_told}
use Rattle.cr_base.specs.History.{own_paper_told, own_bytes_told, own_comment_told, author_told, invite_told}
use Rattle.cr_base.specs.History.{opens_response, conflict_told, registration_told, role_told, number_told, bid_told}
use Rattle.cr_base.specs.History.{ordinal_told}
use Rattle.cr_base.specs.HistoryFacts.{phase_of, mode_of, deadline_of, role_of, papers_of, own_papers_of, own_bytes_of}
use Rattle.cr_base.specs.HistoryFacts.{own_comments_of, accounts_of, number_of, authors_of, had_response_of, is_author}
use Rattle.cr_base.specs.HistoryFacts.{is_conflict_on, is_conflicted, is_invited, is_external, bid_of, ordinal_of}
use Rattle.cr_base.specs.HistoryFacts.{is_reviewer}
use Rattle.cr_base.specs.Words.{is_member}
use Rattle.cr_policy.specs.Part as part
use Rattle.cr_policy.specs.Triggers.{reader, Around}
use Rattle.cr_policy.specs.View.{view}
use Rattle.cr_policy.specs.ViewFacts.{phase_seen, mode_seen, deadline_seen, paper_seen, own_paper_seen, own_bytes_seen}
use Rattle.cr_policy.specs.ViewFacts.{own_comment_seen, author_seen, conflict_seen, registration_seen, role_seen}
use Rattle.cr_policy.specs.ViewFacts.{number_seen, own_bid_seen, ordinal_seen, own_bid_in_view, ordinal_in_view}
use Rattle.cr_policy.specs.ViewFacts.{phase_in_view, mode_in_view, deadline_in_view, role_in_view, papers_in_view}
use Rattle.cr_policy.specs.ViewFacts.{own_papers_in_view, own_bytes_in_view, own_comments_in_view, accounts_in_view}
use Rattle.cr_policy.specs.ViewFacts.{number_in_view, authors_in_view, is_author_in_view, is_conflict_on_in_view}
use Rattle.cr_policy.specs.ViewFacts.{opening_response_seen, had_response_in_view, is_conflicted_in_view, invite_seen}
use Rattle.cr_policy.specs.ViewFacts.{is_invited_in_view, is_external_in_view}
use Rattle.cr_policy.specs.Laws.{StandingFromView, PublicFactsFromView}
use Rattle.cr_policy.proofs.Cuts.{opening_cuts, cut-seen}
use Rattle.cr_policy.proofs.DecisionTells.{accepted-seen}
use Rattle.cr_policy.proofs.Walk.{sights-all, sights-kept, fold_all, list_any-kept}
use Rattle.cr_policy.proofs.InviteTells.{ShowsInvite, invite_kept, invite_tells}
use Rattle.cr_policy.proofs.SeatTells.{ShowsSeat, own_bid_tells, seat_tells, seat_value}
use Rattle.cr_policy.proofs.Tells.{passes, passes_both, names_author, phase_tells, mode_tells, deadline_tells}
use Rattle.cr_policy.proofs.Tells.{paper_tells, own_paper_tells, own_bytes_tells, own_comment_tells, author_tells}
use Rattle.cr_policy.proofs.Tells.{author_value, conflict_tells, conflict_value, registration_tells, role_tells}
use Rattle.cr_policy.proofs.Tells.{number_tells}

-- ---- the conference

pub phase-seen : (u : Option ℕ) (H : History) → phase_in_view (view u H) ≡ phase_of H
phase-seen u H =
    ap (last_or Setup) (sights-all (reader u H) phase_seen (λ (e : Stamped). phase_told e.entry)
    (phase_tells (reader u H)) [] H)

mode-seen : (u : Option ℕ) (H : History) → mode_in_view (view u H) ≡ mode_of H
mode-seen u H =
    ap (last_or Blind) (sights-all (reader u H) mode_seen (λ (e : Stamped). mode_told e.entry) (mode_tells (reader u H))
    [] H)

pub deadline-seen : (u : Option ℕ) (phase : Phase) (H : History)
    → deadline_in_view phase (view u H) ≡ deadline_of phase H
deadline-seen u phase H =
    ap (last_or None) (sights-all (reader u H) (deadline_seen phase) (λ (e : Stamped). deadline_told phase e.entry)
    (deadline_tells (reader u H) phase) [] H)

-- the response was opened
pub had_response-seen : (u : Option ℕ) (H : History) → had_response_in_view (view u H) ≡ had_response_of H
had_response-seen u H =
    cut-seen (reader u H) opens_response opening_response_seen (opening_cuts (reader u H) Response) [] H

-- the role of any user, not of the reader alone
role-seen : (u v : Option ℕ) (H : History) → role_in_view v (view u H) ≡ role_of v H
role-seen u v H =
    ap (last_or Account) (sights-all (reader u H) (role_seen v) (λ (e : Stamped). role_told v e.entry)
    (role_tells (reader u H) v) [] H)

pub papers-seen : (u : Option ℕ) (H : History) → papers_in_view (view u H) ≡ papers_of H
papers-seen u H =
    sights-all (reader u H) paper_seen (λ (e : Stamped). paper_told e.entry) (paper_tells (reader u H)) [] H

number-seen : (u : Option ℕ) (name : List ℕ) (H : History) → number_in_view name (view u H) ≡ number_of name H
number-seen u name H =
    ap last (sights-all (reader u H) (number_seen name) (λ (e : Stamped). number_told name e.entry)
    (number_tells (reader u H) name) [] H)

-- the accounts of these registrations, each with the role that is said of its user
abbrev lines_with : (ℕ → Role) → List Registration → List AccountLine
lines_with role rs = map (λ (r : Registration). record { user = r.user; name = r.name; role = role r.user }) rs

pub accounts-seen : (u : Option ℕ) (H : History) → accounts_in_view (view u H) ≡ accounts_of H
accounts-seen u H =
    ap (lines_with (λ n. role_in_view (Some n) (view u H)))
    (sights-all (reader u H) registration_seen (λ (e : Stamped). registration_told e.entry)
    (registration_tells (reader u H)) [] H)
    ∙ ap (λ (role : ℕ → Role). lines_with role (all_told registration_told H)) (λ i n. role-seen u (Some n) H i)

-- ---- the reader's own

pub own_papers-seen : (u : Option ℕ) (H : History) → own_papers_in_view (view u H) ≡ own_papers_of u H
own_papers-seen u H =
    ap length (sights-all (reader u H) own_paper_seen (λ (e : Stamped). own_paper_told u e.stamp.maker e.entry)
    (own_paper_tells (reader u H)) [] H)

pub own_bytes-seen : (u : Option ℕ) (H : History) → own_bytes_in_view (view u H) ≡ own_bytes_of u H
own_bytes-seen u H =
    ap total (sights-all (reader u H) own_bytes_seen (λ (e : Stamped). own_bytes_told u e.stamp.maker e.entry)
    (own_bytes_tells (reader u H)) [] H)

pub own_comments-seen : (u : Option ℕ) (H : History) → own_comments_in_view (view u H) ≡ own_comments_of u H
own_comments-seen u H =
    ap length (sights-all (reader u H) own_comment_seen (λ (e : Stamped). own_comment_told u e.stamp.maker e.entry)
    (own_comment_tells (reader u H)) [] H)

-- an author sees all authors of her paper
authors-seen_by_author : (u : Option ℕ) (p : ℕ) (H : History) → is_author u p H ≡ true
    → authors_in_view p (view u H) ≡ authors_of p H
authors-seen_by_author u p H h =
    fold_all (reader u H) (author_seen p) (λ (e : Stamped). author_told p e.stamp.maker e.entry)
    (names_author (reader u H)) (author_tells (reader u H) p)
    (λ at e. author_value (reader u H) at p (record {
      submitted = λ stamp more title abstract. or_left (is_author u p H) _ h;
      coauthor = λ stamp more user. or_left (is_author u p H) _ h;
    }) e) [] H

-- the reader is told exactly where she is an author
author-seen : (u : Option ℕ) (p : ℕ) (H : History) → is_author_in_view u p (view u H) ≡ is_author u p H
author-seen u p H = by (is_author u p H) refl
  where
    by : (b : Bool) → is_author u p H ≡ b → is_author_in_view u p (view u H) ≡ b
    by true h = ap (list_any (is_number u)) (authors-seen_by_author u p H h) ∙ h
    by false h =
        ap (list_any (is_number u)) (sights-kept (reader u H) (author_seen p)
        (λ (e : Stamped). author_told p e.stamp.maker e.entry) (names_author (reader u H))
        (author_tells (reader u H) p) [] H)
        ∙ list_any-kept (is_number u) (names_author (reader u H)) (λ (e : Stamped). author_told p e.stamp.maker e.entry)
        [] H h

-- a user's conflicts are told the reader, where she is shown each entry on them
pub declared-seen_where : (u v : Option ℕ) (p : ℕ) (H : History)
    → ((at : Around) (stamp : Stamp) (more : Bool) (user : ℕ) (on : Bool) → is_number v user ≡ true
    → passes part.on (reader u H) at (stamped stamp more (Conflict p user on)) ≡ true)
    → is_conflict_on_in_view v p (view u H) ≡ is_conflict_on v p H
declared-seen_where u v p H shown =
    ap (last_or false) (fold_all (reader u H) (conflict_seen v p) (λ (e : Stamped). conflict_told v p e.entry)
    (passes part.on (reader u H)) (conflict_tells (reader u H) v p)
    (λ at e. conflict_value (reader u H) at v p e (shown at)) [] H)

-- each entry on her own conflicts is shown a user; nobody has any
declared-seen : (u : Option ℕ) (p : ℕ) (H : History) → is_conflict_on_in_view u p (view u H) ≡ is_conflict_on u p H
declared-seen u p H = declared-seen_where u u p H (λ at stamp more user on hers. or_left (is_number u user) _ hers)

-- ---- bids and seats

pub own_bid-seen : (u : Option ℕ) (p : ℕ) (H : History) → own_bid_in_view p (view u H) ≡ bid_of u p H
own_bid-seen u p H =
    ap last (sights-all (reader u H) (own_bid_seen p) (λ (e : Stamped). bid_told u p e.stamp.maker e.entry)
    (own_bid_tells (reader u H) p) [] H)

-- a user's seat is told the reader, where she is shown each entry on it
pub seat-seen_where : (u v : Option ℕ) (p : ℕ) (H : History) → ((at : Around) → ShowsSeat (reader u H) at v p)
    → ordinal_in_view v p (view u H) ≡ ordinal_of v p H
seat-seen_where u v p H shown =
    ap (last_or None)
    (fold_all (reader u H) (ordinal_seen v p) (λ (e : Stamped). ordinal_told v p e.entry)
    (passes_both part.user part.ordinal (reader u H))
    (seat_tells (reader u H) v p)
    (λ at e. seat_value (reader u H) at v p (shown at) e) [] H)

-- each entry by which she is assigned or unassigned is shown a user
pub seat-seen : (u : Option ℕ) (p : ℕ) (H : History) → ordinal_in_view u p (view u H) ≡ ordinal_of u p H
seat-seen u p H = seat-seen_where u u p H (λ at. record {
  assigned = λ stamp more user kind ordinal hers. both_true (or_left (is_number u user) _ hers)
      (or_left (is_number u user) _ hers);
  unassigned =
      λ stamp more user ordinal hers. both_true (or_left (is_number u user) _ hers)
      (or_left (is_number u user) _ hers);
})

conflicted-seen : (u : Option ℕ) (p : ℕ) (H : History) → is_conflicted_in_view u p (view u H) ≡ is_conflicted u p H
conflicted-seen u p H =
    ap (λ b. b || is_conflict_on_in_view u p (view u H)) (author-seen u p H)
    ∙ ap (λ b. is_author u p H || b) (declared-seen u p H)

-- a user's invitations to a paper are told the reader, where she is shown each entry on them
pub invited-seen_where : (u v : Option ℕ) (p : ℕ) (H : History) → ((at : Around) → ShowsInvite (reader u H) at v p)
    → is_invited_in_view v p (view u H) ≡ is_invited v p H
invited-seen_where u v p H shown =
    ap (last_or false)
    (fold_all (reader u H) (invite_seen v p) (λ (e : Stamped). invite_told v p e.entry) (passes part.user (reader u H))
    (invite_tells (reader u H) v p)
    (λ at e. invite_kept (reader u H) at v p (shown at) e) [] H)

-- each entry on her own is shown a user
invited-seen : (u : Option ℕ) (p : ℕ) (H : History) → is_invited_in_view u p (view u H) ≡ is_invited u p H
invited-seen u p H = invited-seen_where u u p H (λ at. record {
  invited = λ stamp more user hers. or_left (is_number u user) _ hers;
  uninvited = λ stamp more user hers. or_left (is_number u user) _ hers;
})

external-seen : (u : Option ℕ) (p : ℕ) (H : History) → is_external_in_view u p (view u H) ≡ is_external u p H
external-seen u p H =
    ap (λ (role : Role). not (is_member role) && is_invited_in_view u p (view u H)) (role-seen u u H)
    ∙ ap (λ b. not (is_member (role_of u H)) && b) (invited-seen u p H)

-- what is said of any paper is said of the one that is named, if one is
at_some-seen : (paper : Option ℕ) (says told : ℕ → Bool) → ((p : ℕ) → says p ≡ told p)
    → at_some says paper ≡ at_some told paper
at_some-seen paper says told same = ap (λ (says : ℕ → Bool). at_some says paper) (λ i p. same p i)

-- ---- the laws

pub standing_from_view : StandingFromView
standing_from_view u paper H = λ i. record {
  phase = phase-seen u H i;
  mode = mode-seen u H i;
  role = role-seen u u H i;
  author = at_some-seen paper (λ p. is_author_in_view u p (view u H)) (λ p. is_author u p H) (λ p. author-seen u p H) i;
  conflicted = at_some-seen paper (λ p. is_conflicted_in_view u p (view u H)) (λ p. is_conflicted u p H)
      (λ p. conflicted-seen u p H) i;
  reviewer = at_some-seen paper (λ p. is_some (ordinal_in_view u p (view u H))) (λ p. is_reviewer u p H)
      (λ p. ap is_some (seat-seen u p H)) i;
  external =
      at_some-seen paper (λ p. is_external_in_view u p (view u H)) (λ p. is_external u p H) (λ p. external-seen u p H)
      i;
}

pub public_from_view : (u : Option ℕ) (H : History) → PublicFactsFromView u H
public_from_view u H = record {
  deadlines = λ phase. deadline-seen u phase H;
  had_response = had_response-seen u H;
  accounts = accounts-seen u H;
  papers = papers-seen u H;
  accepted = λ p. accepted-seen u p H;
  own_papers = own_papers-seen u H;
  own_bytes = own_bytes-seen u H;
  own_comments = own_comments-seen u H;
  number = λ name. number-seen u name H;
}
