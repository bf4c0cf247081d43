-- SPDX-License-Identifier: Apache-2.0 OR MIT
-- So the sentences on who may do what say the same of two such histories, and commands add the same.
use Rattle.std.proofs.Common.{ℕ, true, false, ◌≡◌, List, [], ◌∷◌, length, refl, ap, ◌∙◌, Option, Some, None}
use Rattle.std.proofs.Common.{◌||◌, ◌&&◌, ◌+◌}
use Rattle.std.specs.Prelude.{map, not, nat_lt, nat_le, is_none, is_some, count_by}
use Rattle.std.specs.List.{flat_map, list_any, list_all}
use Rattle.cr_base.specs.declared.command.Command.{Command}
use Rattle.cr_base.specs.declared.command.Command.TheVariants as commands
use Rattle.cr_base.specs.declared.entry.Entry.{Entry}
use Rattle.cr_base.specs.declared.entry.Entry.TheVariants as entries
use Rattle.cr_base.specs.declared.reply.AccountLine.{AccountLine}
use Rattle.cr_base.specs.declared.words.Phase.{Phase}
use Rattle.cr_base.specs.declared.words.Phase.TheVariants.{Setup, Submission, Bidding, Reviewing, Response}
use Rattle.cr_base.specs.declared.words.Phase.TheVariants.{Discussion, Notification, Closed}
use Rattle.cr_base.specs.declared.words.Role.TheVariants.{Account, Chair}
use Rattle.cr_base.specs.History.{History, Registration, all_told, phase_told, deadline_told, paper_told}
use Rattle.cr_base.specs.History.{own_paper_told, author_told, conflict_told, ordinal_told, invite_told, assigned_told}
use Rattle.cr_base.specs.History.{form_told, comment_told, own_comment_told, response_told, upload_told, own_bytes_told}
use Rattle.cr_base.specs.History.{withdrawal_told, registration_told, role_told, number_told, decision_told}
use Rattle.cr_base.specs.HistoryFacts.{phase_of, deadline_of, role_of, papers_of, number_of, authors_of}
use Rattle.cr_base.specs.HistoryFacts.{is_conflict_on, ordinal_of, is_invited, is_withdrawn, accounts_of, seats_of}
use Rattle.cr_base.specs.HistoryFacts.{forms_of, own_papers_of, own_bytes_of, own_comments_of, response_of}
use Rattle.cr_base.specs.HistoryFacts.{uploads_of, comments_of, decision_of}
use Rattle.cr_base.specs.Lists.{given, is_number, is_nothing, last, last_or, listed, total}
use Rattle.cr_policy.specs.Added.{added, made_by, for_user, for_label, without, once}
use Rattle.cr_policy.specs.Sentences.{now, is_it, comes_behind, before_bidding, committee_at_work, is_over, in_time}
use Rattle.cr_policy.specs.Sentences.{meets, lasts_or_comes_in, is_above, is_members, is_chairs}
use Rattle.cr_policy.specs.Sentences.{on_committee, chairs, has_two_chairs, is_live, wrote, in_conflict}
use Rattle.cr_policy.specs.Sentences.{is_eligible, administers, has_part, may_have_it, reviews}
use Rattle.cr_policy.specs.Sentences.{of_some, user_named, is_for_chairs_alone}
use Rattle.cr_permissions.specs.MayDo.{may_do, has_written}
use Rattle.cr_permissions.specs.MayDo.{may_change}
use Rattle.cr_undeduced.specs.Makers.{has_right, has_account}
use Rattle.cr_undeduced.proofs.MakersFacts.{Blind, Alike}

-- ---- what is told by makers

author-blind : (p : ℕ) → Blind (author_told p)
author-blind p m w (entries.Submitted paper title abstract) is = absurd is
author-blind p m w (entries.Coauthor paper user) is = absurd is
author-blind p m w e is = refl

own_paper-blind : (u : Option ℕ) → Blind (own_paper_told u)
own_paper-blind u m w (entries.Submitted paper title abstract) is = absurd is
own_paper-blind u m w e is = refl

own_bytes-blind : (u : Option ℕ) → Blind (own_bytes_told u)
own_bytes-blind u m w (entries.Uploaded paper version content) is = absurd is
own_bytes-blind u m w e is = refl

comment-blind : (p : ℕ) → Blind (comment_told p)
comment-blind p m w (entries.Commented paper n ordinal text) is = absurd is
comment-blind p m w e is = refl

own_comment-blind : (u : Option ℕ) → Blind (own_comment_told u)
own_comment-blind u m w (entries.Commented paper n ordinal text) is = absurd is
own_comment-blind u m w e is = refl

module _ (A B : History) (alike : Alike A B) where
  -- what no maker has a part in
  pub also : {X : Type 0} (f : Entry → List X) → all_told f A ≡ all_told f B
  also f = alike _ (λ m e. f e) (λ m w e is. refl)

  -- ---- the facts

  pub phase-also : phase_of A ≡ phase_of B
  phase-also = ap (last_or Setup) (also phase_told)

  deadline-also : (phase : Phase) → deadline_of phase A ≡ deadline_of phase B
  deadline-also phase = ap (last_or None) (also (deadline_told phase))

  pub role-also : (u : Option ℕ) → role_of u A ≡ role_of u B
  role-also u = ap (last_or Account) (also (role_told u))

  papers-also : papers_of A ≡ papers_of B
  papers-also = also paper_told

  number-also : (name : List ℕ) → number_of name A ≡ number_of name B
  number-also name = ap last (also (number_told name))

  pub registered-also : all_told registration_told A ≡ all_told registration_told B
  registered-also = also registration_told

  pub accounts-also : accounts_of A ≡ accounts_of B
  accounts-also = λ i. map
      (λ (r : Registration). record { user = r.user; name = r.name; role = role-also (Some r.user) i })
      (registered-also i)

  pub authors-also : (p : ℕ) → authors_of p A ≡ authors_of p B
  authors-also p = alike _ (author_told p) (author-blind p)

  conflict-also : (u : Option ℕ) (p : ℕ) → is_conflict_on u p A ≡ is_conflict_on u p B
  conflict-also u p = ap (last_or false) (also (conflict_told u p))

  ordinal-also : (u : Option ℕ) (p : ℕ) → ordinal_of u p A ≡ ordinal_of u p B
  ordinal-also u p = ap (last_or None) (also (ordinal_told u p))

  invited-also : (u : Option ℕ) (p : ℕ) → is_invited u p A ≡ is_invited u p B
  invited-also u p = ap (last_or false) (also (invite_told u p))

  pub withdrawn-also : (p : ℕ) → is_withdrawn p A ≡ is_withdrawn p B
  withdrawn-also p = ap (last_or false) (also (withdrawal_told p))

  pub decision-also : (p : ℕ) → decision_of p A ≡ decision_of p B
  decision-also p = ap last (also (decision_told p))

  labels-also : (p : ℕ) → length (seats_of p A) ≡ length (seats_of p B)
  labels-also p = ap length (also (assigned_told p))

  forms-also : (p o : ℕ) → forms_of p o A ≡ forms_of p o B
  forms-also p o = also (form_told p o)

  own_papers-also : (u : Option ℕ) → own_papers_of u A ≡ own_papers_of u B
  own_papers-also u = ap length (alike _ (own_paper_told u) (own_paper-blind u))

  own_bytes-also : (u : Option ℕ) → own_bytes_of u A ≡ own_bytes_of u B
  own_bytes-also u = ap total (alike _ (own_bytes_told u) (own_bytes-blind u))

  own_comments-also : (u : Option ℕ) → own_comments_of u A ≡ own_comments_of u B
  own_comments-also u = ap length (alike _ (own_comment_told u) (own_comment-blind u))

  response-also : (p : ℕ) → response_of p A ≡ response_of p B
  response-also p = ap last (also (response_told p))

  uploads-also : (p : ℕ) → length (uploads_of p A) ≡ length (uploads_of p B)
  uploads-also p = ap length (also (upload_told p))

  comments-also : (p : ℕ) → length (comments_of p A) ≡ length (comments_of p B)
  comments-also p = ap length (alike _ (comment_told p) (comment-blind p))

  -- ---- the words

  now-also : (phase : Phase) → now phase A ≡ now phase B
  now-also phase = ap (is_it phase) phase-also

  pub before-also : before_bidding A ≡ before_bidding B
  before-also = λ i. now-also Setup i || now-also Submission i

  pub working-also : committee_at_work A ≡ committee_at_work B
  working-also = λ i. now-also Bidding i || now-also Reviewing i || now-also Response i || now-also Discussion i

  over-also : is_over A ≡ is_over B
  over-also = λ i. now-also Notification i || now-also Closed i

  in_time-also : (at : ℕ) → in_time at A ≡ in_time at B
  in_time-also at =
      ap (λ (phase : Phase). meets at (deadline_of phase A)) phase-also
      ∙ ap (meets at) (deadline-also (phase_of B))

  members-also : (u : ℕ) → on_committee u A ≡ on_committee u B
  members-also u = ap is_members (role-also (Some u))

  pub chairs-also : (u : ℕ) → chairs u A ≡ chairs u B
  chairs-also u = ap is_chairs (role-also (Some u))

  two-also : has_two_chairs A ≡ has_two_chairs B
  two-also = ap (λ (lines : List AccountLine). nat_le 2 (count_by (λ (a : AccountLine). is_chairs a.role) lines))
      accounts-also

  stands-also : (p : ℕ) → is_live p A ≡ is_live p B
  stands-also p = λ i. list_any (λ q. Rattle.std.specs.Prelude.◌==◌ q p) (papers-also i) && not (withdrawn-also p i)

  wrote-also : (u p : ℕ) → wrote u p A ≡ wrote u p B
  wrote-also u p = ap (list_any (is_number (Some u))) (authors-also p)

  conflicted-also : (u p : ℕ) → in_conflict u p A ≡ in_conflict u p B
  conflicted-also u p = λ i. wrote-also u p i || conflict-also (Some u) p i

  eligible-also : (u p : ℕ) → is_eligible u p A ≡ is_eligible u p B
  eligible-also u p = λ i. members-also u i && not (conflicted-also u p i)

  administers-also : (u p : ℕ) → administers u p A ≡ administers u p B
  administers-also u p = λ i. chairs-also u i && not (conflicted-also u p i)

  part-also : (u p : ℕ) → has_part u p A ≡ has_part u p B
  part-also u p = λ i. members-also u i || (not (members-also u i) && invited-also (Some u) p i)

  may_have-also : (u p : ℕ) → may_have_it u p A ≡ may_have_it u p B
  may_have-also u p = λ i. part-also u p i && not (conflicted-also u p i)

  reviews-also : (u p : ℕ) → reviews u p A ≡ reviews u p B
  reviews-also u p = ap is_some (ordinal-also (Some u) p)

  pub named-also : (name : Option (List ℕ)) → user_named name A ≡ user_named name B
  named-also None = refl
  named-also (Some name) = number-also name

  written-also : (v p : ℕ) → has_written v p A ≡ has_written v p B
  written-also v p =
      λ i. of_some (ordinal-also (Some v) p i) (λ o. not (is_nothing (forms-also p o i)))

  pub account-also : (w : ℕ) → has_account w A ≡ has_account w B
  account-also w =
      ap (list_any (λ (r : Registration). Rattle.std.specs.Prelude.◌==◌ r.user w)) registered-also

  -- who has the right
  pub right-also : (w : ℕ) (e : Entry) → has_right w A e ≡ has_right w B e
  right-also w (entries.Named user role) = chairs-also w
  right-also w (entries.Dismissed user) = chairs-also w
  right-also w (entries.PhaseSet phase) = chairs-also w
  right-also w (entries.ModeSet mode) = chairs-also w
  right-also w (entries.DeadlineSet phase until) = chairs-also w
  right-also w (entries.Revised paper title abstract) = wrote-also w paper
  right-also w (entries.Withdrawn paper) = wrote-also w paper
  right-also w (entries.Responded paper text) = wrote-also w paper
  right-also w (entries.Conflict paper user on) =
      λ i. not (Rattle.std.specs.Prelude.◌==◌ user w)
      && ((before-also i && wrote-also w paper i) || (not (before-also i) && administers-also w paper i))
  right-also w (entries.Bid paper value) = eligible-also w paper
  right-also w (entries.Tagged paper tag on) =
      λ i. eligible-also w paper i && (chairs-also w i || not (is_for_chairs_alone tag))
  right-also w (entries.Assigned paper user review_kind ordinal) = administers-also w paper
  right-also w (entries.Unassigned paper user ordinal) = administers-also w paper
  right-also w (entries.Decided paper decision) = administers-also w paper
  right-also w (entries.Invited paper user) = administers-also w paper
  right-also w (entries.Uninvited paper user) = administers-also w paper
  right-also w e = refl

  -- ---- who may do what

  module _ (u at : ℕ) where
    change-also : (p : ℕ) → may_change u at A p ≡ may_change u at B p
    change-also p = λ i. stands-also p i && wrote-also u p i && now-also Submission i && in_time-also at i

    may-also : (command : Command) → may_do (Some u) at A command ≡ may_do (Some u) at B command
    may-also (commands.Register name digest) =
        λ i. is_none (number-also name i) && nat_lt (length (accounts-also i)) 9999
    may-also (commands.SetPhase to) = λ i. chairs-also u i && comes_behind (phase-also i) to
    may-also (commands.SetDeadline phase until) = λ i. chairs-also u i && lasts_or_comes_in phase (phase-also i)
    may-also (commands.Submit title abstract names) =
        λ i. now-also Submission i && in_time-also at i
        && list_all (λ name. of_some (named-also name i) (λ v. true)) names
        && nat_lt (length (papers-also i)) 9999 && nat_lt (own_papers-also (Some u) i) 20
    may-also (commands.Revise paper title abstract) = λ i. of_some paper (λ p. change-also p i)
    may-also (commands.Upload paper content) =
        λ i. of_some paper
        (λ p. change-also p i && nat_le (own_bytes-also (Some u) i + length content) 67108864)
    may-also (commands.Withdraw paper) = λ i. of_some paper (λ p. change-also p i)
    may-also (commands.Name name role) =
        λ i. of_some (named-also name i)
        (λ v. chairs-also u i && not (over-also i) && is_above role (role-also (Some v) i))
    may-also (commands.SetMode to) = λ i. chairs-also u i && now-also Setup i
    may-also (commands.SetConflict paper name true) =
        λ i. of_some paper
        (λ p. of_some (named-also name i)
        (λ v. stands-also p i
        && ((before-also i && in_time-also at i && wrote-also u p i && members-also v i)
        || (working-also i && ((Rattle.std.specs.Prelude.◌==◌ v u && members-also v i)
        || (administers-also u p i && part-also v p i))))))
    may-also (commands.SetConflict paper name false) =
        λ i. of_some paper
        (λ p. of_some (named-also name i)
        (λ v. stands-also p i && administers-also u p i && working-also i && part-also v p i
        && not (wrote-also v p i)))
    may-also (commands.Bid paper value) =
        λ i. of_some paper
        (λ p. stands-also p i && eligible-also u p i && now-also Bidding i && in_time-also at i)
    may-also (commands.Assign paper name kind) =
        λ i. of_some paper
        (λ p. of_some (named-also name i)
        (λ v. stands-also p i && administers-also u p i && working-also i && may_have-also v p i
        && not (reviews-also v p i) && nat_lt (labels-also p i) 26))
    may-also (commands.Unassign paper name) =
        λ i. of_some paper
        (λ p. of_some (named-also name i)
        (λ v. stands-also p i && administers-also u p i && working-also i && reviews-also v p i
        && not (written-also v p i)))
    may-also (commands.Dismiss name) =
        λ i. of_some (named-also name i)
        (λ v. chairs-also u i && not (over-also i) && members-also v i && (not (chairs-also v i) || two-also i))
    may-also (commands.Invite paper name) =
        λ i. of_some paper
        (λ p. of_some (named-also name i)
        (λ v. stands-also p i && administers-also u p i && working-also i && not (members-also v i)
        && not (conflicted-also v p i) && not (invited-also (Some v) p i)))
    may-also (commands.Uninvite paper name) =
        λ i. of_some paper
        (λ p. of_some (named-also name i)
        (λ v. stands-also p i && administers-also u p i && working-also i && invited-also (Some v) p i
        && not (reviews-also v p i)))
    may-also (commands.Review paper form) =
        λ i. of_some paper
        (λ p. stands-also p i && may_have-also u p i && reviews-also u p i
        && (now-also Reviewing i || now-also Discussion i) && in_time-also at i)
    may-also (commands.Respond paper text) =
        λ i. of_some paper
        (λ p. stands-also p i && wrote-also u p i && now-also Response i && in_time-also at i
        && is_none (response-also p i))
    may-also (commands.Comment paper text) =
        λ i. of_some paper
        (λ p. stands-also p i && eligible-also u p i && now-also Discussion i && in_time-also at i
        && nat_lt (own_comments-also (Some u) i) 1000)
    may-also (commands.Tag paper tag on) =
        λ i. of_some paper
        (λ p. stands-also p i && eligible-also u p i && working-also i
        && (chairs-also u i || not (is_for_chairs_alone tag)))
    may-also (commands.Decide paper decision) =
        λ i. of_some paper (λ p. stands-also p i && administers-also u p i && now-also Discussion i)

  -- whoever calls
  pub may_do-also : (caller : Option ℕ) (at : ℕ) (command : Command)
      → may_do caller at A command ≡ may_do caller at B command
  may_do-also (Some u) at command = may-also u at command
  may_do-also None at (commands.Register name digest) = may-also 0 at (commands.Register name digest)
  may_do-also None at (commands.SetConflict paper name true) = refl
  may_do-also None at (commands.SetConflict paper name false) = refl
  may_do-also None at command = refl

  -- ---- what is added

  user-also : (name : Option (List ℕ)) (entry : ℕ → Entry) → for_user name A entry ≡ for_user name B entry
  user-also name entry = ap (λ (o : Option ℕ). listed (Rattle.std.specs.Option.option_map entry o)) (named-also name)

  label-also : (u p : ℕ) (entry : ℕ → Entry) → for_label u p A entry ≡ for_label u p B entry
  label-also u p entry =
      ap (λ (o : Option ℕ). listed (Rattle.std.specs.Option.option_map entry o)) (ordinal-also (Some u) p)

  added-by : (u : ℕ) (command : Command) → added (Some u) A command ≡ added (Some u) B command
  added-by u (commands.Register name digest) =
      λ i. entries.Registered (length (accounts-also i) + 1) name digest
      ∷ given (is_nothing (accounts-also i)) (entries.Named 1 Chair)
  added-by u (commands.Name name role) = user-also name _
  added-by u (commands.Dismiss name) = user-also name _
  added-by u (commands.Submit title abstract names) =
      λ i. entries.Submitted (length (papers-also i) + 1) title abstract
      ∷ map (λ (v : ℕ). entries.Coauthor (length (papers-also i) + 1) v)
      (without u (once (flat_map (λ name. listed (named-also name i)) names)))
  added-by u (commands.Upload (Some p) content) = λ i. entries.Uploaded p (uploads-also p i + 1) content ∷ []
  added-by u (commands.SetConflict (Some p) name on) = user-also name _
  added-by u (commands.Assign (Some p) name kind) =
      λ i. listed (Rattle.std.specs.Option.option_map (λ v. entries.Assigned p v kind (labels-also p i + 1))
      (named-also name i))
  added-by u (commands.Unassign (Some p) name) =
      λ i. flat_map (λ v. label-also v p (λ o. entries.Unassigned p v o) i) (listed (named-also name i))
  added-by u (commands.Invite (Some p) name) = user-also name _
  added-by u (commands.Uninvite (Some p) name) = user-also name _
  added-by u (commands.Review (Some p) form) =
      λ i. listed (Rattle.std.specs.Option.option_map (λ o. entries.Reviewed p o (length (forms-also p o i) + 1) form)
      (ordinal-also (Some u) p i))
  added-by u (commands.Comment (Some p) text) =
      λ i. entries.Commented p (comments-also p i + 1) (ordinal-also (Some u) p i) text ∷ []
  added-by u command = refl

  pub added-also : (caller : Option ℕ) (command : Command) → added caller A command ≡ added caller B command
  added-also (Some u) command = added-by u command
  added-also None (commands.Register name digest) = added-by 0 (commands.Register name digest)
  added-also None command = refl

  -- who makes them
  pub maker-also : (caller : Option ℕ) (command : Command)
      → Rattle.cr_policy.specs.Added.made_by caller A command ≡ Rattle.cr_policy.specs.Added.made_by caller B command
  maker-also caller (commands.Register name digest) = λ i. length (accounts-also i) + 1
  maker-also (Some u) command = refl
  maker-also None command = refl
