-- SPDX-License-Identifier: Apache-2.0 OR MIT
-- A command is accepted exactly where its sentence holds.
use Rattle.std.proofs.Common.{ℕ, Bool, true, false, cond, ◌≡◌, ◌+◌, List, [], ◌∷◌, length, eqb, refl, sym, ap, ◌∙◌}
use Rattle.std.proofs.Common.{◌||◌, ◌&&◌, arith, Option, Some, None}
use Rattle.std.specs.Prelude.{count_by, not, nat_le, nat_lt, is_ok, is_some, is_none}
use Rattle.std.specs.List.{list_any, list_all}
use Rattle.std.specs.Option.{option_map}
use Rattle.std.proofs.lemmas.Bool.{eqb-true, true≢false}
use Rattle.std.proofs.lemmas.Bool.Decides.{nat_tests}
use Rattle.std.proofs.Math.Bool.{and-false}
use Rattle.cr_base.specs.declared.command.Command.{Command}
use Rattle.cr_base.specs.declared.command.Command.TheVariants as commands
use Rattle.cr_base.specs.declared.entry.Stamp.{Stamp}
use Rattle.cr_base.specs.declared.form.Form.{Form}
use Rattle.cr_base.specs.declared.pairs.Order.TheVariants.{ByPaper}
use Rattle.cr_base.specs.declared.words.Decision.{Decision}
use Rattle.cr_base.specs.declared.target.Target.{Target}
use Rattle.cr_base.specs.declared.words.Kind.{Kind}
use Rattle.cr_base.specs.declared.words.Mode.{Mode}
use Rattle.cr_base.specs.declared.retry.RetryKey.{RetryKey}
use Rattle.cr_base.specs.declared.standing.Standing.{Standing}
use Rattle.cr_base.specs.declared.words.Phase.{Phase}
use Rattle.cr_base.specs.declared.words.Phase.TheVariants.{Setup, Submission, Bidding, Reviewing, Response}
use Rattle.cr_base.specs.declared.words.Phase.TheVariants.{Discussion}
use Rattle.cr_base.specs.declared.words.Role.{Role}
use Rattle.cr_base.specs.declared.words.Role.TheVariants.{Account, Member, Chair}
use Rattle.cr_base.specs.declared.reply.AccountLine.{AccountLine}
use Rattle.cr_base.specs.Accounts.{chair_count}
use Rattle.cr_base.specs.Calls.{stamp_by, call_of}
use Rattle.cr_base.specs.Checks.{NamedPaper, revise_checks, of_role, name_checks, own_checks, other_checks}
use Rattle.cr_base.specs.Checks.{conflict_case, conflict_checks, assign_checks, unassign_checks, dismiss_checks}
use Rattle.cr_base.specs.Checks.{invite_checks, uninvite_checks}
use Rattle.cr_base.specs.Lists.{at_some, is_number}
use Rattle.cr_base.specs.History.{History}
use Rattle.cr_base.specs.HistoryFacts.{standing_of, phase_of, deadline_of, role_of, is_conflicted, is_withdrawn}
use Rattle.cr_base.specs.HistoryFacts.{is_author, is_reviewer, authors_of, papers_of, ordinal_of, seats_of}
use Rattle.cr_base.specs.HistoryFacts.{accounts_of, number_of, is_external, is_invited, is_written, response_of}
use Rattle.cr_base.specs.HistoryFacts.{own_comments_of, own_bytes_of, own_papers_of}
use Rattle.cr_base.specs.Phases.{is_phase, is_from, is_next, mode_may_be_set, accepts_submissions, papers_may_change}
use Rattle.cr_base.specs.Phases.{authors_have_declared, conflicts_are_final, roles_are_final, committee_works}
use Rattle.cr_base.specs.Phases.{bids_are_taken, responses_are_written, comments_are_written, decisions_are_made}
use Rattle.cr_base.specs.Deeds.{is_missing}
use Rattle.cr_base.specs.Resolving.{all_found}
use Rattle.cr_base.specs.Sources.{number_in, users_among, role_among, paper_named, is_late, target_named}
use Rattle.cr_base.specs.Tables.{tables_of}
use Rattle.cr_base.specs.TagTexts.{is_for_chairs}
use Rattle.cr_base.specs.Words.{is_member, is_chair, role_number}
use Rattle.cr_base.proofs.PairLaws.{list_any-others_of}
use Rattle.cr_history.proofs.RuleFacts.{facts_of}
use Rattle.cr_policy.specs.Judge.{judge}
use Rattle.cr_policy.specs.Legal.{Legal}
use Rattle.cr_policy.specs.View.{view}
use Rattle.cr_policy.specs.Sentences.{now, comes_behind, in_time, lasts_or_comes, committee_at_work, is_over}
use Rattle.cr_policy.specs.Sentences.{is_members, is_chairs, is_above, is_paper, is_live, has_part, has_two_chairs}
use Rattle.cr_policy.specs.Sentences.{administers, of_some, user_named, is_somebody, is_for_chairs_alone}
use Rattle.cr_policy.proofs.LegalLaws.{Legal-told}
use Rattle.cr_policy.proofs.JudgedByHistory.{shown_of, number-same}
use Rattle.cr_permissions.specs.MayDo.{may_register, may_name, may_set_mode, may_open, may_set_deadline, may_submit}
use Rattle.cr_permissions.specs.MayDo.{may_change, may_upload, may_declare, may_take_back, may_bid, may_assign}
use Rattle.cr_permissions.specs.MayDo.{may_dismiss, may_invite, may_uninvite, has_written, may_unassign, may_review}
use Rattle.cr_permissions.specs.MayDo.{may_respond, may_comment, may_tag, may_decide, may_do, is_accepted_from}
use Rattle.cr_permissions.specs.MayDo.{PermissionsAsSaid}
use Rattle.cr_permissions.proofs.SentenceLaws.{both-said, none_broken, phase-same, next-same, ahead-same, time-same}
use Rattle.cr_permissions.proofs.SentenceLaws.{member-same, chair-same, in_committee-same, above-same, over-same}
use Rattle.cr_permissions.proofs.SentenceLaws.{early-same, none-same, at-same, fewer, up_to, accepted-checks, by_name}
use Rattle.cr_permissions.proofs.SentenceLaws.{missing-same}

-- ---- conflicts

-- an author's, before the bidding
early-said : (t a late w m m' x y z : Bool) → m ≡ m'
    → (not (not t) && (not (not a) && (not late && (not w && (not (not m) && true)))))
    ≡ ((t && not w) && ((true && not late && a && m') || (false && ((x && m') || (y && z)))))
early-said t a late w m m' x y z hm = grind arith

-- never, behind the discussion
final-said : (t w late a m x y z : Bool)
    → (not (not t) && false) ≡ ((t && not w) && ((false && not late && a && m) || (false && ((x && m) || (y && z)))))
final-said t w late a m x y z = grind arith

own-said : (t w late a m m' y z : Bool) → m ≡ m' → (y ≡ true → z ≡ true → m' ≡ true)
    → (not (not t) && (not (not m) && (not w && true)))
    ≡ ((t && not w) && ((false && not late && a && m') || (true && ((true && m') || (y && z)))))
own-said t w late a m m' y z hm hz = by m' y z (hm) hz
  where
    by : (m' y z : Bool) → m ≡ m' → (y ≡ true → z ≡ true → m' ≡ true)
        → (not (not t) && (not (not m) && (not w && true)))
        ≡ ((t && not w) && ((false && not late && a && m') || (true && ((true && m') || (y && z)))))
    by true y z hm hz = grind arith
    by false true true hm hz = absurd (true≢false (sym (hz refl refl)))
    by false true false hm hz = grind arith
    by false false z hm hz = grind arith

other-said : (t w late a k k' c m m' p p' : Bool) → k ≡ k' → m ≡ m' → p ≡ p'
    → (not (not t) && (not (not k) && (not c && (not w && (not (not p) && true)))))
    ≡ ((t && not w) && ((false && not late && a && m') || (true && ((false && m') || ((k' && not c) && p')))))
other-said t w late a k k' c m m' p p' hk hm hp = grind arith

-- all of them: by whether it is the bidding or later, and whether it is later than the discussion; a chair is a member
declared-said : (b final t w late : Bool) (by : Standing) (user : Target) → (user.herself ≡ true → by.role ≡ user.role)
    → (part : Bool) → (is_member user.role || user.external) ≡ part
    → (not (not t) && none_broken (conflict_case true b final by w user late))
    ≡ ((t && not w)
    && ((not b && not late && by.author && is_members user.role)
    ||
    ((b && not final) && ((user.herself && is_members user.role)
    || ((is_chairs by.role && not by.conflicted) && part)))))
declared-said false final t w late by user same part is =
    early-said t by.author late w (is_member user.role) (is_members user.role) user.herself
    (is_chairs by.role && not by.conflicted) part (member-same user.role)
declared-said true true t w late by user same part is =
    final-said t w late by.author (is_members user.role) user.herself (is_chairs by.role && not by.conflicted) part
declared-said true false t w late by user same part is = by_user user.herself same
  where
    serves : (role : Role) (c : Bool) → (is_chairs role && not c) ≡ true → is_members role ≡ true
    serves Account c h = absurd (true≢false (sym h))
    serves Member c h = refl
    serves Chair c h = refl

    by_user : (h : Bool) → (h ≡ true → by.role ≡ user.role)
        → (not (not t) && none_broken (cond h (own_checks by w) (other_checks by w user)))
        ≡ ((t && not w)
        && ((false && not late && by.author && is_members user.role)
        || (true && ((h && is_members user.role) || ((is_chairs by.role && not by.conflicted) && part)))))
    by_user true same =
        own-said t w late by.author (is_member by.role) (is_members user.role) (is_chairs by.role && not by.conflicted)
        part
        (member-same by.role ∙ ap is_members (same refl))
        (λ chair p. ap is_members (sym (same refl)) ∙ serves by.role by.conflicted chair)
    by_user false same =
        other-said t w late by.author (is_chair by.role) (is_chairs by.role) by.conflicted (is_member user.role)
        (is_members user.role)
        (is_member user.role || user.external) part (chair-same by.role) (member-same user.role) is

-- ---- tags for chairs

for_chairs-same : (tag : List ℕ) → is_for_chairs tag ≡ is_for_chairs_alone tag
for_chairs-same [] = refl
for_chairs-same (b ∷ []) = and-false (eqb b 126)
for_chairs-same (b ∷ c ∷ rest) = refl

-- ---- registrations, whoever calls, and whenever

module _ (u : Option ℕ) (H : History) (legal : Legal H) (m : ℕ) (key : Option RetryKey) where
  registrations : (name digest : List ℕ) → is_ok (judge (view u H) (call_of u m key (commands.Register name digest)))
      ≡ may_register H name
  registrations name digest =
      accepted-checks u H legal m key (commands.Register name digest)
      ∙ said (is_some (number_in (accounts_of H) name)) (is_none (number_of name H))
      (nat_le 9999 (length (accounts_of H))) (nat_lt (length (accounts_of H)) 9999)
      (none-same (number_in (accounts_of H) name) ∙ ap (λ (o : Option ℕ). is_none o) (number-same u H legal name))
      (fewer 9999 (length (accounts_of H)))
    where
      said : (x x' q q' : Bool) → not x ≡ x' → not q ≡ q' → (not x && (not q && true)) ≡ (x' && q')
      said x x' q q' hx hq = grind arith

-- the commands of a user, at this moment and by this key
module _ (w : ℕ) (H : History) (legal : Legal H) (m : ℕ) (key : Option RetryKey) where
  abbrev u : Option ℕ
  u = Some w

  abbrev stamp : Stamp
  stamp = stamp_by w m key

  -- it is too late for what the phase opens, or in time
  abbrev late : Bool
  late = is_late (facts_of u H) m

  time : not late ≡ in_time m H
  time = time-same (deadline_of (phase_of H) H) m

  -- who is on the committee, or an external of the paper, has part in it
  part-same : (p v : ℕ) → (is_member (role_of (Some v) H) || is_external (Some v) p H) ≡ has_part v p H
  part-same p v =
      λ i. member-same (role_of (Some v) H) i || (not (member-same (role_of (Some v) H) i) && is_invited (Some v) p H)

  deadlines : (phase : Phase) (until : Option ℕ)
      → is_ok (judge (view u H) (call_of u m key (commands.SetDeadline phase until))) ≡ may_set_deadline w H phase
  deadlines phase until =
      accepted-checks u H legal m key (commands.SetDeadline phase until)
      ∙ both-said (is_chair (role_of u H)) (is_chairs (role_of u H)) (is_from (phase_of H) phase) (lasts_or_comes phase H)
      (chair-same (role_of u H)) (ahead-same phase (phase_of H))

  phases : (to : Phase) → is_ok (judge (view u H) (call_of u m key (commands.SetPhase to))) ≡ may_open w H to
  phases to =
      accepted-checks u H legal m key (commands.SetPhase to)
      ∙ both-said (is_chair (role_of u H)) (is_chairs (role_of u H)) (is_next (phase_of H) to)
      (comes_behind (phase_of H) to)
      (chair-same (role_of u H)) (next-same (phase_of H) to)

  bids : (paper : Option ℕ) (value : ℕ) → is_ok (judge (view u H) (call_of u m key (commands.Bid paper value)))
      ≡ of_some paper (may_bid w m H)
  bids None value = accepted-checks u H legal m key (commands.Bid None value)
  bids (Some p) value =
      accepted-checks u H legal m key (commands.Bid (Some p) value)
      ∙ said (is_paper p H) (is_member (role_of u H)) (is_conflicted u p H) (bids_are_taken (phase_of H)) late
      (is_withdrawn p H)
      (is_members (role_of u H)) (now Bidding H) (in_time m H) (member-same (role_of u H))
      (phase-same Bidding (phase_of H)) time
    where
      said : (t m c n l w m' n' l' : Bool) → m ≡ m' → n ≡ n' → not l ≡ l'
          → (not (not t) && (not (not m) && (not c && (not (not n) && (not l && (not w && true))))))
          ≡ ((t && not w) && (m' && not c) && n' && l')
      said t m c n l w m' n' l' hm hn hl = grind arith

  modes : (to : Mode) → is_ok (judge (view u H) (call_of u m key (commands.SetMode to))) ≡ may_set_mode w H
  modes to =
      accepted-checks u H legal m key (commands.SetMode to)
      ∙ both-said (is_chair (role_of u H)) (is_chairs (role_of u H)) (mode_may_be_set (phase_of H)) (now Setup H)
      (chair-same (role_of u H)) (phase-same Setup (phase_of H))

  -- what an author does with a paper
  by_author : (p : ℕ)
      → none_broken (revise_checks (standing_of u (Some p) H) (paper_named (facts_of u H) (shown_of H) (Some p)) late)
      ≡ may_change w m H p
  by_author p =
      said (is_paper p H) (is_author u p H) (papers_may_change (phase_of H)) late (is_withdrawn p H) (now Submission H)
      (in_time m H)
      (phase-same Submission (phase_of H)) time
    where
      said : (t a n l w n' l' : Bool) → n ≡ n' → not l ≡ l'
          → (not (not t) && (not (not a) && (not (not n) && (not l && (not w && true)))))
          ≡ ((t && not w) && a && n' && l')
      said t a n l w n' l' hn hl = grind arith

  revisions : (paper : Option ℕ) (title abstract : List ℕ)
      → is_ok (judge (view u H) (call_of u m key (commands.Revise paper title abstract)))
      ≡ of_some paper (may_change w m H)
  revisions None title abstract = accepted-checks u H legal m key (commands.Revise None title abstract)
  revisions (Some p) title abstract =
      accepted-checks u H legal m key (commands.Revise (Some p) title abstract)
      ∙ by_author p

  withdrawals : (paper : Option ℕ) → is_ok (judge (view u H) (call_of u m key (commands.Withdraw paper)))
      ≡ of_some paper (may_change w m H)
  withdrawals None = accepted-checks u H legal m key (commands.Withdraw None)
  withdrawals (Some p) =
      accepted-checks u H legal m key (commands.Withdraw (Some p))
      ∙ by_author p

  uploads : (paper : Option ℕ) (content : List ℕ)
      → is_ok (judge (view u H) (call_of u m key (commands.Upload paper content)))
      ≡ of_some paper (may_upload w m H (length content))
  uploads None content = accepted-checks u H legal m key (commands.Upload None content)
  uploads (Some p) content =
      accepted-checks u H legal m key (commands.Upload (Some p) content)
      ∙ said (is_paper p H) (is_author u p H) (papers_may_change (phase_of H)) late (is_withdrawn p H)
      (now Submission H) (in_time m H)
      (nat_lt 67108864 (own_bytes_of u H + length content)) (nat_le (own_bytes_of u H + length content) 67108864)
      (phase-same Submission (phase_of H)) time (up_to 67108864 (own_bytes_of u H + length content))
    where
      said : (t a n l w n' l' q q' : Bool) → n ≡ n' → not l ≡ l' → not q ≡ q'
          → (not (not t) && (not (not a) && (not (not n) && (not l && (not w && (not q && true))))))
          ≡ (((t && not w) && a && n' && l') && q')
      said t a n l w n' l' q q' hn hl hq = grind arith

  reviewing : (paper : Option ℕ) (form : Form) → is_ok (judge (view u H) (call_of u m key (commands.Review paper form)))
      ≡ of_some paper (may_review w m H)
  reviewing None form = accepted-checks u H legal m key (commands.Review None form)
  reviewing (Some p) form =
      accepted-checks u H legal m key (commands.Review (Some p) form)
      ∙ said (is_paper p H) (is_member (role_of u H) || is_external u p H) (is_conflicted u p H) (is_reviewer u p H)
      (is_phase (phase_of H) Reviewing)
      (is_phase (phase_of H) Discussion) late (is_withdrawn p H)
      (has_part w p H) (now Reviewing H) (now Discussion H) (in_time m H)
      (part-same p w) (phase-same Reviewing (phase_of H)) (phase-same Discussion (phase_of H)) time
    where
      said : (t m c r x y l w m' x' y' l' : Bool) → m ≡ m' → x ≡ x' → y ≡ y' → not l ≡ l'
          →
          (not (not t)
          && (not (not m) && (not c && (not (not r) && (not (not (x || y)) && (not l && (not w && true)))))))
          ≡ ((t && not w) && (m' && not c) && r && (x' || y') && l')
      said t m c r x y l w m' x' y' l' hm hx hy hl = grind arith

  responding : (paper : Option ℕ) (text : List ℕ)
      → is_ok (judge (view u H) (call_of u m key (commands.Respond paper text))) ≡ of_some paper (may_respond w m H)
  responding None text = accepted-checks u H legal m key (commands.Respond None text)
  responding (Some p) text =
      accepted-checks u H legal m key (commands.Respond (Some p) text)
      ∙ said (is_paper p H) (is_author u p H) (responses_are_written (phase_of H)) late (is_withdrawn p H)
      (is_some (response_of p H))
      (now Response H) (in_time m H) (is_none (response_of p H))
      (phase-same Response (phase_of H)) time (unanswered (response_of p H))
    where
      unanswered : (o : Option (List ℕ)) → not (is_some o) ≡ is_none o
      unanswered None = refl
      unanswered (Some text) = refl

      said : (t a n l w r n' l' r' : Bool) → n ≡ n' → not l ≡ l' → not r ≡ r'
          → (not (not t) && (not (not a) && (not (not n) && (not l && (not w && (not r && true))))))
          ≡ ((t && not w) && a && n' && l' && r')
      said t a n l w r n' l' r' hn hl hr = grind arith

  comments : (paper : Option ℕ) (text : List ℕ)
      → is_ok (judge (view u H) (call_of u m key (commands.Comment paper text))) ≡ of_some paper (may_comment w m H)
  comments None text = accepted-checks u H legal m key (commands.Comment None text)
  comments (Some p) text =
      accepted-checks u H legal m key (commands.Comment (Some p) text)
      ∙ said (is_paper p H) (is_member (role_of u H)) (is_conflicted u p H) (comments_are_written (phase_of H)) late
      (is_withdrawn p H)
      (nat_le 1000 (own_comments_of u H)) (is_members (role_of u H)) (now Discussion H) (in_time m H)
      (nat_lt (own_comments_of u H) 1000)
      (member-same (role_of u H)) (phase-same Discussion (phase_of H)) time (fewer 1000 (own_comments_of u H))
    where
      said : (t m c n l w q m' n' l' q' : Bool) → m ≡ m' → n ≡ n' → not l ≡ l' → not q ≡ q'
          → (not (not t) && (not (not m) && (not c && (not (not n) && (not l && (not w && (not q && true)))))))
          ≡ ((t && not w) && (m' && not c) && n' && l' && q')
      said t m c n l w q m' n' l' q' hm hn hl hq = grind arith

  tags : (paper : Option ℕ) (tag : List ℕ) (on : Bool)
      → is_ok (judge (view u H) (call_of u m key (commands.Tag paper tag on))) ≡ of_some paper (may_tag w H tag)
  tags None tag on = accepted-checks u H legal m key (commands.Tag None tag on)
  tags (Some p) tag on =
      accepted-checks u H legal m key (commands.Tag (Some p) tag on)
      ∙ said (is_paper p H) (is_for_chairs tag) (is_for_chairs_alone tag) (is_chair (role_of u H))
      (is_member (role_of u H)) (is_conflicted u p H)
      (committee_works (phase_of H)) (is_withdrawn p H) (is_chairs (role_of u H)) (is_members (role_of u H))
      (committee_at_work H)
      (chair-same (role_of u H)) (member-same (role_of u H)) (in_committee-same (phase_of H)) (for_chairs-same tag)
    where
      said : (t f f' k m c n w k' m' n' : Bool) → k ≡ k' → m ≡ m' → n ≡ n' → f ≡ f'
          → (not (not t) && (not (f && not k) && (not (not m) && (not c && (not (not n) && (not w && true))))))
          ≡ ((t && not w) && (m' && not c) && n' && (k' || not f'))
      said t f f' k m c n w k' m' n' hk hm hn hf = grind arith

  decisions : (paper : Option ℕ) (decision : Decision)
      → is_ok (judge (view u H) (call_of u m key (commands.Decide paper decision))) ≡ of_some paper (may_decide w H)
  decisions None decision = accepted-checks u H legal m key (commands.Decide None decision)
  decisions (Some p) decision =
      accepted-checks u H legal m key (commands.Decide (Some p) decision)
      ∙ said (is_paper p H) (is_chair (role_of u H)) (is_conflicted u p H) (decisions_are_made (phase_of H))
      (is_withdrawn p H)
      (is_chairs (role_of u H)) (now Discussion H) (chair-same (role_of u H)) (phase-same Discussion (phase_of H))
    where
      said : (t m c n w m' n' : Bool) → m ≡ m' → n ≡ n'
          → (not (not t) && (not (not m) && (not c && (not (not n) && (not w && true)))))
          ≡ ((t && not w) && (m' && not c) && n')
      said t m c n w m' n' hm hn = grind arith

  submissions : (title abstract : List ℕ) (names : List (Option (List ℕ)))
      → is_ok (judge (view u H) (call_of u m key (commands.Submit title abstract names))) ≡ may_submit w m H names
  submissions title abstract names =
      accepted-checks u H legal m key (commands.Submit title abstract names)
      ∙ said (is_missing (accounts_of H) (all_found (users_among (accounts_of H) names))) (list_all (λ name. is_somebody name H) names)
      (accepts_submissions (phase_of H)) (now Submission H) late (in_time m H) (nat_le 9999 (length (papers_of H)))
      (nat_lt (length (papers_of H)) 9999)
      (nat_le 20 (own_papers_of u H)) (nat_lt (own_papers_of u H) 20)
      (missing-same u H legal names) (phase-same Submission (phase_of H)) time (fewer 9999 (length (papers_of H)))
      (fewer 20 (own_papers_of u H))
    where
      said : (x x' n n' l l' q q' o o' : Bool) → not x ≡ x' → n ≡ n' → not l ≡ l' → not q ≡ q' → not o ≡ o'
          → (not x && (not (not n) && (not l && (not q && (not o && true))))) ≡ (n' && l' && x' && q' && o')
      said x x' n n' l l' q q' o o' hx hn hl hq ho = grind arith

  namings : (name : Option (List ℕ)) (role : Role)
      → is_ok (judge (view u H) (call_of u m key (commands.Name name role))) ≡ of_some (user_named name H)
      (may_name w H role)
  namings name role =
      accepted-checks u H legal m key (commands.Name name role)
      ∙ by_name u H legal (λ (target : Option ℕ).
      none_broken (name_checks (standing_of u None H) (option_map of_role (role_among (accounts_of H) target)) role)) (may_name w H role) name refl each
    where
      said : (c c' o o' b b' : Bool) → c ≡ c' → o ≡ o' → not b ≡ b'
          → (not (not c) && (not o && (not b && true))) ≡ (c' && not o' && b')
      said c c' o o' b b' hc ho hb = grind arith

      each : (v : ℕ) → role_among (accounts_of H) (Some v) ≡ Some (role_of (Some v) H)
          → none_broken (name_checks (standing_of u None H) (option_map of_role (role_among (accounts_of H) (Some v))) role)
          ≡ may_name w H role v
      each v is =
          ap
          (λ (o : Option Role). none_broken (name_checks (standing_of u None H) (option_map of_role o) role)) is
          ∙ said (is_chair (role_of u H)) (is_chairs (role_of u H)) (roles_are_final (phase_of H)) (is_over H)
          (nat_le (role_number role) (role_number (role_of (Some v) H))) (is_above role (role_of (Some v) H))
          (chair-same (role_of u H)) (over-same (phase_of H)) (above-same role (role_of (Some v) H))

  dismissals : (name : Option (List ℕ)) → is_ok (judge (view u H) (call_of u m key (commands.Dismiss name)))
      ≡ of_some (user_named name H) (may_dismiss w H)
  dismissals name =
      accepted-checks u H legal m key (commands.Dismiss name)
      ∙ by_name u H legal (λ (target : Option ℕ).
      none_broken (dismiss_checks (standing_of u None H) (option_map of_role (role_among (accounts_of H) target)) (chair_count (accounts_of H)))) (may_dismiss w H) name refl each
    where
      said : (c c' o o' b b' k k' l l' : Bool) → c ≡ c' → o ≡ o' → b ≡ b' → k ≡ k' → not l ≡ l'
          → (not (not c) && (not o && (not (not b) && (not (k && l) && true)))) ≡ (c' && not o' && b' && (not k' || l'))
      said c c' o o' b b' k k' l l' hc ho hb hk hl = grind arith

      chairs-same : chair_count (accounts_of H) ≡ count_by (λ (a : AccountLine). is_chairs a.role) (accounts_of H)
      chairs-same = ap (λ (test : AccountLine → Bool). count_by test (accounts_of H)) (λ i a. chair-same a.role i)

      more : (n : ℕ) → not (nat_le n 1) ≡ nat_le 2 n
      more n = grind (arith, nat_tests)

      each : (v : ℕ) → role_among (accounts_of H) (Some v) ≡ Some (role_of (Some v) H)
          → none_broken (dismiss_checks (standing_of u None H) (option_map of_role (role_among (accounts_of H) (Some v)))
          (chair_count (accounts_of H))) ≡ may_dismiss w H v
      each v is =
          ap
          (λ (o : Option Role).
          none_broken (dismiss_checks (standing_of u None H) (option_map of_role o) (chair_count (accounts_of H)))) is
          ∙ said (is_chair (role_of u H)) (is_chairs (role_of u H)) (roles_are_final (phase_of H)) (is_over H)
          (is_member (role_of (Some v) H)) (is_members (role_of (Some v) H)) (is_chair (role_of (Some v) H))
          (is_chairs (role_of (Some v) H))
          (nat_le (chair_count (accounts_of H)) 1) (has_two_chairs H)
          (chair-same (role_of u H)) (over-same (phase_of H)) (member-same (role_of (Some v) H))
          (chair-same (role_of (Some v) H))
          (more (chair_count (accounts_of H)) ∙ ap (nat_le 2) chairs-same)

  -- ---- those that name a paper and a user
  -- the user named, as the rules ask of her at the paper
  abbrev user_at : ℕ → ℕ → Role → Target
  user_at p v role =
      let wrote : Bool = list_any (is_number (Some v)) (authors_of p H) in
      record {
        role = role;
        herself = eqb v w;
        author = wrote;
        conflicted = wrote || list_any (is_number (Some v)) ((shown_of H).conflicts p);
        reviewer = is_some (ordinal_of (Some v) p H);
        external = not (is_member role) && is_invited (Some v) p H;
      }

  abbrev by : ℕ → Standing
  by p = standing_of (Some w) (Some p) H

  abbrev named : ℕ → NamedPaper
  named p = paper_named (facts_of (Some w) H) (shown_of H) (Some p)

  abbrev asked : ℕ → Option ℕ → Option Target
  asked p target = target_named (facts_of (Some w) H) (shown_of H) (Some w) (Some p) target

  -- who is declared in conflict
  clash-same : (p v : ℕ) → (user_at p v Account).conflicted ≡ is_conflicted (Some v) p H
  clash-same p v =
      ap (λ (b : Bool). is_author (Some v) p H || b)
      (list_any-others_of ByPaper p v (tables_of H).ties.conflicts ∙ sym ((Legal-told H legal).conflict (Some v) p))

  same_user : (v : ℕ) → eqb v w ≡ true → role_of (Some w) H ≡ role_of (Some v) H
  same_user v h = ap (λ (n : ℕ). role_of (Some n) H) (sym (eqb-true v w h))

  declarations : (paper : Option ℕ) (name : Option (List ℕ))
      → is_ok (judge (view (Some w) H) (call_of (Some w) m key (commands.SetConflict paper name true)))
      ≡ of_some paper (λ p. of_some (user_named name H) (may_declare w m H p))
  declarations None name = accepted-checks (Some w) H legal m key (commands.SetConflict None name true)
  declarations (Some p) name =
      accepted-checks (Some w) H legal m key (commands.SetConflict (Some p) name true)
      ∙ by_name (Some w) H legal (λ (target : Option ℕ).
      none_broken (conflict_checks (by p) (named p) (asked p target) true late))
      (may_declare w m H p) name (and-false (not (not (is_paper p H)))) each
    where
      each : (v : ℕ) → role_among (accounts_of H) (Some v) ≡ Some (role_of (Some v) H)
          → none_broken (conflict_checks (by p) (named p) (asked p (Some v)) true late)
          ≡ may_declare w m H p v
      each v is =
          ap
          (λ (o : Option Role).
          none_broken (conflict_checks (by p) (named p) (option_map (user_at p v) o) true late)) is
          ∙ declared-said (authors_have_declared (phase_of H)) (conflicts_are_final (phase_of H)) (is_paper p H)
          (is_withdrawn p H) late (by p)
          (user_at p v (role_of (Some v) H)) (same_user v) (has_part v p H) (part-same p v)
          ∙ (λ i. is_live p H
          && ((early-same (phase_of H) i && time i && is_author (Some w) p H && is_members (role_of (Some v) H))
          ||
          (in_committee-same (phase_of H) i && ((eqb v w && is_members (role_of (Some v) H))
          || (administers w p H && has_part v p H)))))

  -- what a chair does while the committee works
  chair-said : (t k c n w k' n' rest : Bool) → k ≡ k' → n ≡ n'
      → (not (not t) && (not (not k) && (not c && (not (not n) && (not w && rest)))))
      ≡ ((t && not w) && (k' && not c) && n' && rest)
  chair-said t k c n w k' n' rest hk hn = grind arith

  chair-checks : (p : ℕ) (rest : Bool)
      → (not (not (is_paper p H)) && (not (not (is_chair (role_of (Some w) H))) && (not (is_conflicted (Some w) p H)
      && (not (not (committee_works (phase_of H))) && (not (is_withdrawn p H) && rest)))))
      ≡ (is_live p H && administers w p H && committee_at_work H && rest)
  chair-checks p rest =
      chair-said (is_paper p H) (is_chair (role_of (Some w) H)) (is_conflicted (Some w) p H)
      (committee_works (phase_of H)) (is_withdrawn p H)
      (is_chairs (role_of (Some w) H)) (committee_at_work H) rest (chair-same (role_of (Some w) H))
      (in_committee-same (phase_of H))

  taken_back : (paper : Option ℕ) (name : Option (List ℕ))
      → is_ok (judge (view (Some w) H) (call_of (Some w) m key (commands.SetConflict paper name false)))
      ≡ of_some paper (λ p. of_some (user_named name H) (may_take_back w H p))
  taken_back None name = accepted-checks (Some w) H legal m key (commands.SetConflict None name false)
  taken_back (Some p) name =
      accepted-checks (Some w) H legal m key (commands.SetConflict (Some p) name false)
      ∙ by_name (Some w) H legal (λ (target : Option ℕ).
      none_broken (conflict_checks (by p) (named p) (asked p target) false late))
      (may_take_back w H p) name (and-false (not (not (is_paper p H)))) each
    where
      said : (x m m' a : Bool) → m ≡ m' → (x && (not (not m) && (not a && true))) ≡ (x && m' && not a)
      said x m m' a hm = grind arith

      each : (v : ℕ) → role_among (accounts_of H) (Some v) ≡ Some (role_of (Some v) H)
          → none_broken (conflict_checks (by p) (named p) (asked p (Some v)) false late)
          ≡ may_take_back w H p v
      each v is =
          ap
          (λ (o : Option Role).
          none_broken (conflict_checks (by p) (named p) (option_map (user_at p v) o) false late)) is
          ∙ chair-checks p (not (not (is_member (role_of (Some v) H) || is_external (Some v) p H))
          && (not (is_author (Some v) p H) && true))
          ∙ said (is_live p H && administers w p H && committee_at_work H)
          (is_member (role_of (Some v) H) || is_external (Some v) p H) (has_part v p H)
          (is_author (Some v) p H) (part-same p v)

  assignments : (paper : Option ℕ) (name : Option (List ℕ)) (kind : Kind)
      → is_ok (judge (view (Some w) H) (call_of (Some w) m key (commands.Assign paper name kind)))
      ≡ of_some paper (λ p. of_some (user_named name H) (may_assign w H p))
  assignments None name kind = accepted-checks (Some w) H legal m key (commands.Assign None name kind)
  assignments (Some p) name kind =
      accepted-checks (Some w) H legal m key (commands.Assign (Some p) name kind)
      ∙ by_name (Some w) H legal (λ (target : Option ℕ).
      none_broken (assign_checks (by p) (named p) (asked p target) (length (seats_of p H))))
      (may_assign w H p) name (and-false (not (not (is_paper p H)))) each
    where
      said : (x m m' c c' r q q' : Bool) → m ≡ m' → c ≡ c' → not q ≡ q'
          → (x && (not (not m) && (not c && (not r && (not q && true))))) ≡ (x && (m' && not c') && not r && q')
      said x m m' c c' r q q' hm hc hq = grind arith

      each : (v : ℕ) → role_among (accounts_of H) (Some v) ≡ Some (role_of (Some v) H)
          → none_broken (assign_checks (by p) (named p) (asked p (Some v)) (length (seats_of p H)))
          ≡ may_assign w H p v
      each v is =
          ap
          (λ (o : Option Role).
          none_broken (assign_checks (by p) (named p) (option_map (user_at p v) o) (length (seats_of p H)))) is
          ∙ chair-checks p (not (not (is_member (role_of (Some v) H) || is_external (Some v) p H))
          && (not ((user_at p v Account).conflicted)
          && (not (is_reviewer (Some v) p H) && (not (nat_le 26 (length (seats_of p H))) && true))))
          ∙ said (is_live p H && administers w p H && committee_at_work H)
          (is_member (role_of (Some v) H) || is_external (Some v) p H) (has_part v p H)
          ((user_at p v Account).conflicted) (is_conflicted (Some v) p H) (is_reviewer (Some v) p H)
          (nat_le 26 (length (seats_of p H))) (nat_lt (length (seats_of p H)) 26)
          (part-same p v) (clash-same p v) (fewer 26 (length (seats_of p H)))

  unassignments : (paper : Option ℕ) (name : Option (List ℕ))
      → is_ok (judge (view (Some w) H) (call_of (Some w) m key (commands.Unassign paper name)))
      ≡ of_some paper (λ p. of_some (user_named name H) (may_unassign w H p))
  unassignments None name = accepted-checks (Some w) H legal m key (commands.Unassign None name)
  unassignments (Some p) name =
      accepted-checks (Some w) H legal m key (commands.Unassign (Some p) name)
      ∙ by_name (Some w) H legal (λ (target : Option ℕ).
      none_broken (unassign_checks (by p) (named p) (asked p target) (at_some (λ o. is_written p o H) (ordinal_of target p H))))
      (may_unassign w H p) name (and-false (not (not (is_paper p H)))) each
    where
      said : (x r f f' : Bool) → f ≡ f' → (x && (not (not r) && (not f && true))) ≡ (x && r && not f')
      said x r f f' hf = grind arith

      each : (v : ℕ) → role_among (accounts_of H) (Some v) ≡ Some (role_of (Some v) H)
          → none_broken (unassign_checks (by p) (named p) (asked p (Some v)) (at_some (λ o. is_written p o H) (ordinal_of (Some v) p H)))
          ≡ may_unassign w H p v
      each v is =
          ap
          (λ (o : Option Role).
          none_broken (unassign_checks (by p) (named p) (option_map (user_at p v) o)
          (at_some (λ o. is_written p o H) (ordinal_of (Some v) p H)))) is
          ∙ chair-checks p (not (not (is_reviewer (Some v) p H))
          && (not (at_some (λ o. is_written p o H) (ordinal_of (Some v) p H)) && true))
          ∙ said (is_live p H && administers w p H && committee_at_work H) (is_reviewer (Some v) p H)
          (at_some (λ o. is_written p o H) (ordinal_of (Some v) p H)) (has_written v p H)
          (at-same (λ o. is_written p o H) (ordinal_of (Some v) p H))

  invitations : (paper : Option ℕ) (name : Option (List ℕ))
      → is_ok (judge (view (Some w) H) (call_of (Some w) m key (commands.Invite paper name)))
      ≡ of_some paper (λ p. of_some (user_named name H) (may_invite w H p))
  invitations None name = accepted-checks (Some w) H legal m key (commands.Invite None name)
  invitations (Some p) name =
      accepted-checks (Some w) H legal m key (commands.Invite (Some p) name)
      ∙ by_name (Some w) H legal (λ (target : Option ℕ).
      none_broken (invite_checks (by p) (named p) (asked p target) (is_invited target p H)))
      (may_invite w H p) name (and-false (not (not (is_paper p H)))) each
    where
      said : (x m m' c c' i : Bool) → m ≡ m' → c ≡ c'
          → (x && (not m && (not c && (not i && true)))) ≡ (x && not m' && not c' && not i)
      said x m m' c c' i hm hc = grind arith

      each : (v : ℕ) → role_among (accounts_of H) (Some v) ≡ Some (role_of (Some v) H)
          → none_broken (invite_checks (by p) (named p) (asked p (Some v)) (is_invited (Some v) p H)) ≡ may_invite w H p v
      each v is =
          ap
          (λ (o : Option Role).
          none_broken (invite_checks (by p) (named p) (option_map (user_at p v) o) (is_invited (Some v) p H))) is
          ∙ chair-checks p (not (is_member (role_of (Some v) H))
          && (not ((user_at p v Account).conflicted) && (not (is_invited (Some v) p H) && true)))
          ∙ said (is_live p H && administers w p H && committee_at_work H) (is_member (role_of (Some v) H))
          (is_members (role_of (Some v) H))
          ((user_at p v Account).conflicted) (is_conflicted (Some v) p H) (is_invited (Some v) p H)
          (member-same (role_of (Some v) H)) (clash-same p v)

  uninvitations : (paper : Option ℕ) (name : Option (List ℕ))
      → is_ok (judge (view (Some w) H) (call_of (Some w) m key (commands.Uninvite paper name)))
      ≡ of_some paper (λ p. of_some (user_named name H) (may_uninvite w H p))
  uninvitations None name = accepted-checks (Some w) H legal m key (commands.Uninvite None name)
  uninvitations (Some p) name =
      accepted-checks (Some w) H legal m key (commands.Uninvite (Some p) name)
      ∙ by_name (Some w) H legal (λ (target : Option ℕ).
      none_broken (uninvite_checks (by p) (named p) (asked p target) (is_invited target p H)))
      (may_uninvite w H p) name (and-false (not (not (is_paper p H)))) each
    where
      said : (x i r : Bool) → (x && (not (not i) && (not r && true))) ≡ (x && i && not r)
      said x i r = grind arith

      each : (v : ℕ) → role_among (accounts_of H) (Some v) ≡ Some (role_of (Some v) H)
          → none_broken (uninvite_checks (by p) (named p) (asked p (Some v)) (is_invited (Some v) p H))
          ≡ may_uninvite w H p v
      each v is =
          ap
          (λ (o : Option Role).
          none_broken (uninvite_checks (by p) (named p) (option_map (user_at p v) o) (is_invited (Some v) p H))) is
          ∙ chair-checks p (not (not (is_invited (Some v) p H)) && (not (is_reviewer (Some v) p H) && true))
          ∙ said (is_live p H && administers w p H && committee_at_work H) (is_invited (Some v) p H)
          (is_reviewer (Some v) p H)

-- ---- the law

pub permissions_as_said : PermissionsAsSaid
permissions_as_said H call legal = by call.caller call.command
  where
    by : (caller : Option ℕ) (command : Command)
        → is_accepted_from H (call_of caller call.at call.key command) ≡ may_do caller call.at H command
    by None (commands.Register name digest) = registrations None H legal call.at call.key name digest
    by None (commands.SetConflict paper name true) = refl
    by None (commands.SetConflict paper name false) = refl
    by None (commands.Tag paper tag true) = refl
    by None (commands.Tag paper tag false) = refl
    by None _ = refl
    by (Some w) (commands.Register name digest) = registrations (Some w) H legal call.at call.key name digest
    by (Some w) (commands.SetPhase to) = phases w H legal call.at call.key to
    by (Some w) (commands.SetDeadline phase until) = deadlines w H legal call.at call.key phase until
    by (Some w) (commands.Submit title abstract names) = submissions w H legal call.at call.key title abstract names
    by (Some w) (commands.Revise paper title abstract) = revisions w H legal call.at call.key paper title abstract
    by (Some w) (commands.Upload paper content) = uploads w H legal call.at call.key paper content
    by (Some w) (commands.Withdraw paper) = withdrawals w H legal call.at call.key paper
    by (Some w) (commands.Name name role) = namings w H legal call.at call.key name role
    by (Some w) (commands.SetMode to) = modes w H legal call.at call.key to
    by (Some w) (commands.SetConflict paper name true) = declarations w H legal call.at call.key paper name
    by (Some w) (commands.SetConflict paper name false) = taken_back w H legal call.at call.key paper name
    by (Some w) (commands.Bid paper value) = bids w H legal call.at call.key paper value
    by (Some w) (commands.Assign paper name kind) = assignments w H legal call.at call.key paper name kind
    by (Some w) (commands.Unassign paper name) = unassignments w H legal call.at call.key paper name
    by (Some w) (commands.Dismiss name) = dismissals w H legal call.at call.key name
    by (Some w) (commands.Invite paper name) = invitations w H legal call.at call.key paper name
    by (Some w) (commands.Uninvite paper name) = uninvitations w H legal call.at call.key paper name
    by (Some w) (commands.Review paper form) = reviewing w H legal call.at call.key paper form
    by (Some w) (commands.Respond paper text) = responding w H legal call.at call.key paper text
    by (Some w) (commands.Comment paper text) = comments w H legal call.at call.key paper text
    by (Some w) (commands.Tag paper tag on) = tags w H legal call.at call.key paper tag on
    by (Some w) (commands.Decide paper decision) = decisions w H legal call.at call.key paper decision
