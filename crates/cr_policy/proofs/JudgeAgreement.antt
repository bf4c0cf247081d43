-- SPDX-License-Identifier: Apache-2.0 OR MIT
-- Where the tables tell what a history tells, judgement by a view is that by the tables.
use Rattle.std.proofs.Common.{ℕ, Bool, true, false, cond, ◌≡◌, List, [], ◌∷◌, ◌+◌, ◌++◌, length, refl, ap, ◌∙◌, ◌||◌}
use Rattle.std.proofs.Common.{◌&&◌, eqb, arith, Option, Some, None, Result, Err}
use Rattle.std.specs.Prelude.{unwrap_or, is_some, not, nat_le, nat_lt}
use Rattle.std.specs.List.{list_any}
use Rattle.std.specs.Option.{option_map}
use Rattle.std.proofs.lemmas.Bool.{and_parts, not-false, or_left, or_right, true≢false, and_from}
use Rattle.std.proofs.lemmas.Bool.Decides.{nat_tests}
use Rattle.cr_base.specs.declared.command.Call.{Call}
use Rattle.cr_base.specs.declared.entry.Entry.TheVariants as entries
use Rattle.cr_base.specs.declared.entry.Entry.TheVariants.{Revised, Uploaded, Withdrawn, Conflict, Assigned, Unassigned}
use Rattle.cr_base.specs.declared.entry.Entry.TheVariants.{Reviewed, Commented, Tagged, Decided, Invited, Uninvited}
use Rattle.cr_base.specs.declared.entry.Entry.TheVariants.{Responded}
use Rattle.cr_base.specs.declared.entry.Stamp.{Stamp}
use Rattle.cr_base.specs.declared.reply.Rule.{Rule}
use Rattle.cr_base.specs.declared.reply.Rule.TheVariants as rules
use Rattle.cr_base.specs.declared.resolved.ResolvedCommand.{ResolvedCommand}
use Rattle.cr_base.specs.declared.resolved.ResolvedCommand.TheVariants as resolved
use Rattle.cr_base.specs.declared.standing.Standing.{Standing}
use Rattle.cr_base.specs.declared.target.Target.{Target}
use Rattle.cr_base.specs.declared.words.Phase.{Phase}
use Rattle.cr_base.specs.declared.words.Phase.TheVariants.{Bidding, Reviewing, Discussion, Notification}
use Rattle.cr_base.specs.declared.words.Role.{Role}
use Rattle.cr_base.specs.declared.words.Role.TheVariants.{Account, Member, Chair}
use Rattle.cr_base.specs.Calls.{stamp_of}
use Rattle.cr_base.specs.Checks.{Check, ◌breaks◌, judged, declare_checks, own_checks, other_checks, off_checks}
use Rattle.cr_base.specs.Checks.{conflict_case, conflict_checks, bid_checks, reviewer_checks}
use Rattle.cr_base.specs.Checks.{review_checks, respond_checks, comment_checks, tag_checks}
use Rattle.cr_base.specs.Checks.{decide_checks, is_of_paper, target_is, target_role}
use Rattle.cr_base.specs.Lists.{at_some, is_number}
use Rattle.cr_base.specs.History.{History, Upload}
use Rattle.cr_base.specs.Page.{is_admitted, is_clear_external, is_clear_member, is_clear_chair, reads_paper}
use Rattle.cr_base.specs.Page.{shows_author, gets_conflicts, gets_withdrawn}
use Rattle.cr_base.specs.Phases.{phase_rank, is_from, is_phase, papers_may_change, authors_have_declared}
use Rattle.cr_base.specs.Phases.{conflicts_are_final, committee_works, bids_are_taken, reviews_are_written}
use Rattle.cr_base.specs.Phases.{responses_are_written, comments_are_written, decisions_are_made, members_read_comments}
use Rattle.cr_base.specs.Tables.{tables_of}
use Rattle.cr_base.specs.TagTexts.{is_for_chairs}
use Rattle.cr_base.specs.Words.{is_anonymous, is_member, is_chair}
use Rattle.cr_base.specs.Drawn.{Drawn, alone}
use Rattle.cr_base.specs.Judging.{judge_resolved, judge_by, judge_by_role}
use Rattle.cr_base.specs.Resolving.{resolve}
use Rattle.cr_base.specs.Sources.{Facts, Shown, role_among, has_paper, paper_named, target_named}
use Rattle.cr_base.specs.Sources.{standing_at}
use Rattle.cr_base.specs.Sources.{is_accepted_in, is_late, facts_of_tables, shown_in_tables}
use Rattle.cr_base.proofs.CheckLaws.{NoneBroken, judged-behind, asked-behind}
use Rattle.cr_base.proofs.Small.{and_not_and_from}
use Rattle.cr_history.specs.Invariants.{Invariants}
use Rattle.cr_history.specs.Laws.{AreTold, AreFormsTold}
use Rattle.cr_policy.specs.View.{view}
use Rattle.cr_policy.specs.ViewFacts.{shown_in_view}
use Rattle.cr_policy.specs.Judge.{judge}
use Rattle.cr_policy.proofs.FactAgreement.{facts_in_view-tables, authors-tables, withdrawn-tables, own_uploads-tables}
use Rattle.cr_policy.proofs.FactAgreement.{seat-tables, labels-tables, invited-tables}
use Rattle.cr_policy.proofs.PageTells.{also_accepted}
use Rattle.cr_policy.proofs.PageAgreement.{conflicts-tables}
use Rattle.cr_policy.proofs.ReviewAgreement.{written-tables}
use Rattle.cr_policy.proofs.TalkAgreement.{comment_count-tables, response-tables}

-- ---- judgement

-- the user named, of whom it is told whether she is an author of the paper, is in conflict with it, reviews it, and
-- is an external of it
abbrev named : Role → Bool → Bool → Bool → Bool → Bool → Target
named role herself author clash reviews outside =
    record {
      role = role;
      herself = herself;
      author = author;
      conflicted = clash;
      reviewer = reviews;
      external = outside;
    }

module _ (by : Standing) (drawn : Drawn) where
  -- these lists of checks give the same answer
  abbrev Alike : List Check → List Check → Type 0
  Alike left right = ◌≡◌ {A = Result Drawn Rule} (judged left drawn) (judged right drawn)

  abbrev begun : Bool
  begun = is_from Bidding by.phase

  abbrev still : Bool
  still = not (is_from Notification by.phase)

  -- ---- whether the paper is withdrawn

  -- the page of a paper tells her if it is withdrawn
  told-author : not by.author ≡ false → gets_withdrawn by ≡ true
  told-author h =
      or_left (by.author || (is_member by.role && begun)) (is_clear_external by && begun)
      (or_left by.author (is_member by.role && begun) (not-false by.author h))

  told-member : not (is_member by.role) ≡ false → begun ≡ true → gets_withdrawn by ≡ true
  told-member h b =
      or_left (by.author || (is_member by.role && begun)) (is_clear_external by && begun)
      (or_right by.author (is_member by.role && begun)
      (and_from (is_member by.role) begun (not-false (is_member by.role) h) b))

  -- and that of an external in no conflict with it, too
  told-admitted : not (is_admitted by) ≡ false → by.conflicted ≡ false → begun ≡ true → gets_withdrawn by ≡ true
  told-admitted h clear b =
      any by.author (is_member by.role) by.external by.conflicted begun (not-false (is_admitted by) h) clear b
    where
      any : (author member outside clash b : Bool) → (member || outside) ≡ true → clash ≡ false → b ≡ true
          → (author || (member && b) || ((outside && not clash) && b)) ≡ true
      any author member outside clash b h1 h2 h3 = grind arith

  told-chair : not (is_chair by.role) ≡ false → begun ≡ true → gets_withdrawn by ≡ true
  told-chair h b = told-member (serves by.role h) b
    where
      serves : (role : Role) → not (is_chair role) ≡ false → not (is_member role) ≡ false
      serves Account h = h
      serves Member h = refl
      serves Chair h = refl

  in_committee : not (committee_works by.phase) ≡ false → begun ≡ true
  in_committee h = (and_parts begun still (not-false (begun && still) h)).0

  -- Of each list it is asked only behind rules that have let through one whom the page tells it.
  declare-withdrawn : (v w late : Bool) (user : Target) → (gets_withdrawn by ≡ true → v ≡ w)
      → Alike (declare_checks by v user late) (declare_checks by w user late)
  declare-withdrawn v w late user same =
      asked-behind
      (not by.author breaks rules.NotAuthor ∷ late breaks rules.Late ∷ [])
      v w rules.Withdrawn
      (not (is_member user.role) breaks rules.NotAMember ∷ []) drawn
      (λ none. same (told-author none.0))

  own-withdrawn : (v w : Bool) → begun ≡ true → (gets_withdrawn by ≡ true → v ≡ w)
      → Alike (own_checks by v) (own_checks by w)
  own-withdrawn v w b same =
      asked-behind
      (not (is_member by.role) breaks rules.NotMember ∷ [])
      v w rules.Withdrawn [] drawn
      (λ none. same (told-member none.0 b))

  other-withdrawn : (v w : Bool) (user : Target) → begun ≡ true → (gets_withdrawn by ≡ true → v ≡ w)
      → Alike (other_checks by v user) (other_checks by w user)
  other-withdrawn v w user b same =
      asked-behind
      (not (is_chair by.role) breaks rules.NotChair ∷ by.conflicted breaks rules.Conflict ∷ [])
      v w rules.Withdrawn
      (not (is_of_paper user) breaks rules.NotAMember ∷ []) drawn
      (λ none. same (told-chair none.0 b))

  off-withdrawn : (v w : Bool) (user : Target) → (gets_withdrawn by ≡ true → v ≡ w)
      → Alike (off_checks by v user) (off_checks by w user)
  off-withdrawn v w user same =
      asked-behind
      (not (is_chair by.role) breaks rules.NotChair ∷ by.conflicted breaks rules.Conflict
      ∷ not (committee_works by.phase) breaks rules.WrongPhase ∷ [])
      v w rules.Withdrawn
      (not (is_of_paper user) breaks rules.NotAMember ∷ user.author breaks rules.AuthorConflict ∷ []) drawn
      (λ none. same (told-chair none.0 (in_committee none.1.1.0)))

  case-withdrawn : (on bidding final late : Bool) (user : Target) (v w : Bool) → begun ≡ bidding
      → (gets_withdrawn by ≡ true → v ≡ w)
      → Alike (conflict_case on bidding final by v user late) (conflict_case on bidding final by w user late)
  case-withdrawn false bidding final late user v w b same = off-withdrawn v w user same
  case-withdrawn true false final late user v w b same = declare-withdrawn v w late user same
  case-withdrawn true true true late user v w b same = refl
  case-withdrawn true true false late user v w b same = by_user user.herself
    where
      by_user : (herself : Bool) → Alike (cond herself (own_checks by v) (other_checks by v user))
          (cond herself (own_checks by w) (other_checks by w user))
      by_user true = own-withdrawn v w b same
      by_user false = other-withdrawn v w user b same

  -- ---- whether the user named is an author

  shown : (author chair clash b rest : Bool) → chair ≡ true → clash ≡ false → b ≡ true
      → (author || ((chair && not clash) && b) || rest || false) ≡ true
  shown author chair clash b rest h1 h2 h3 = grind arith

  told-clear_chair : not (is_chair by.role) ≡ false → by.conflicted ≡ false → begun ≡ true
      → shows_author by false ≡ true
  told-clear_chair h clear b =
      shown by.author (is_chair by.role) by.conflicted begun (reads_paper by && not (is_anonymous by.mode) && begun)
      (not-false (is_chair by.role) h) clear b

  -- and who is invited to the paper
  told-conflicts : not (is_chair by.role) ≡ false → by.conflicted ≡ false → begun ≡ true → gets_conflicts by ≡ true
  told-conflicts h clear b = and_not_and_from (is_chair by.role) by.conflicted begun (not-false (is_chair by.role) h) clear b

  -- this is asked only behind those that have let through one whom the view shows who is
  off-author : (withdrawn herself : Bool) (role : Role) (x y clash clash' reviews reviews' outside outside' : Bool)
      → (shows_author by false ≡ true → x ≡ y) → (gets_conflicts by ≡ true → outside ≡ outside')
      → Alike (off_checks by withdrawn (named role herself x clash reviews outside))
      (off_checks by withdrawn (named role herself y clash' reviews' outside'))
  off-author withdrawn herself role x y clash clash' reviews reviews' outside outside' same invited =
      judged-behind
      (not (is_chair by.role) breaks rules.NotChair ∷ by.conflicted breaks rules.Conflict
      ∷ not (committee_works by.phase) breaks rules.WrongPhase ∷ withdrawn breaks rules.Withdrawn ∷ [])
      (behind x outside) (behind y outside') drawn drawn
      (λ none.
      let early = in_committee none.1.1.0 in
      ap (λ (b : Bool). judged (behind b outside) drawn) (same (told-clear_chair none.0 none.1.0 early))
      ∙ ap (λ (b : Bool). judged (behind y b) drawn) (invited (told-conflicts none.0 none.1.0 early)))
    where
      behind : Bool → Bool → List Check
      behind author out = not (is_member role || out) breaks rules.NotAMember ∷ author breaks rules.AuthorConflict ∷ []

  -- and so is whether she is an external of the paper
  other-outside : (withdrawn herself : Bool) (role : Role) (x y clash clash' reviews reviews' outside outside' : Bool)
      → begun ≡ true
      → (gets_conflicts by ≡ true → outside ≡ outside')
      → Alike (other_checks by withdrawn (named role herself x clash reviews outside))
      (other_checks by withdrawn (named role herself y clash' reviews' outside'))
  other-outside withdrawn herself role x y clash clash' reviews reviews' outside outside' b invited =
      judged-behind
      (not (is_chair by.role) breaks rules.NotChair ∷ by.conflicted breaks rules.Conflict
      ∷ withdrawn breaks rules.Withdrawn ∷ [])
      (behind outside) (behind outside') drawn drawn
      (λ none. ap (λ (out : Bool). judged (behind out) drawn) (invited (told-conflicts none.0 none.1.0 b)))
    where
      behind : Bool → List Check
      behind out = not (is_member role || out) breaks rules.NotAMember ∷ []

  -- and that is all that a conflict's rules ask of her ties
  case-author : (on bidding final late withdrawn herself : Bool) (role : Role)
      (x y clash clash' reviews reviews' outside outside' : Bool) → begun ≡ bidding
      → (shows_author by false ≡ true → x ≡ y) → (gets_conflicts by ≡ true → outside ≡ outside')
      → Alike (conflict_case on bidding final by withdrawn (named role herself x clash reviews outside) late)
      (conflict_case on bidding final by withdrawn (named role herself y clash' reviews' outside') late)
  case-author false bidding final late withdrawn herself role x y clash clash' reviews reviews' outside outside' b same
      invited =
      off-author withdrawn herself role x y clash clash' reviews reviews' outside outside' same invited
  case-author true false final late withdrawn herself role x y clash clash' reviews reviews' outside outside' b same
      invited = refl
  case-author true true true late withdrawn herself role x y clash clash' reviews reviews' outside outside' b same
      invited = refl
  case-author true true false late withdrawn true role x y clash clash' reviews reviews' outside outside' b same
      invited = refl
  case-author true true false late withdrawn false role x y clash clash' reviews reviews' outside outside' b same
      invited =
      other-outside withdrawn false role x y clash clash' reviews reviews' outside outside' b invited

-- what two sources show of papers is the same as far as a caller is told it
record Agree (facts : Facts) (shown tabled : Shown) : Type 0 where
  withdrawn : (p : ℕ) → gets_withdrawn (facts.standing (Some p)) ≡ true → shown.withdrawn p ≡ tabled.withdrawn p
  authors : (p : ℕ) → shows_author (facts.standing (Some p)) false ≡ true → shown.authors p ≡ tabled.authors p
  uploads : (p : ℕ) → (facts.standing (Some p)).author ≡ true → shown.uploads p ≡ tabled.uploads p
  conflicts : (p : ℕ) → gets_conflicts (facts.standing (Some p)) ≡ true → shown.conflicts p ≡ tabled.conflicts p
  ordinal : (p : ℕ) → gets_conflicts (facts.standing (Some p)) ≡ true → (v : Option ℕ)
      → shown.ordinal v p ≡ tabled.ordinal v p
  labels : (p : ℕ) → gets_conflicts (facts.standing (Some p)) ≡ true → shown.labels p ≡ tabled.labels p
  written : (p : ℕ) → gets_conflicts (facts.standing (Some p)) ≡ true → (o : ℕ) → shown.written p o ≡ tabled.written p o
  invited : (p : ℕ) → gets_conflicts (facts.standing (Some p)) ≡ true → (v : Option ℕ)
      → shown.invited v p ≡ tabled.invited v p
  comments : (p : ℕ) → is_clear_member (facts.standing (Some p)) ≡ true
      → members_read_comments (facts.standing (Some p)).phase ≡ true
      → length (shown.comments p) ≡ length (tabled.comments p)
  response : (p : ℕ) → (facts.standing (Some p)).author ≡ true → shown.response p ≡ tabled.response p

-- a paper's authors are judged alike: whether it is withdrawn is asked, and what was uploaded is counted, only behind
-- the rule that lets authors alone through
module _ (facts : Facts) (shown tabled : Shown) (same : Agree facts shown tabled) (p : ℕ) where
  abbrev by_author : Standing
  by_author = facts.standing (Some p)

  abbrev before : List Check
  before = not (has_paper facts (Some p)) breaks rules.NoPaper ∷ not by_author.author breaks rules.NotAuthor ∷ []

  abbrev behind : Bool → Bool → List Check → List Check
  behind late withdrawn more =
      not (papers_may_change by_author.phase) breaks rules.WrongPhase ∷ late breaks rules.Late
      ∷ withdrawn breaks rules.Withdrawn ∷ more

  author-same : (late : Bool) (more : List Check) (drawn : List Upload → Drawn)
      → judged (before ++ behind late (shown.withdrawn p) more) (drawn (shown.uploads p))
      ≡ judged (before ++ behind late (tabled.withdrawn p) more) (drawn (tabled.uploads p))
  author-same late more drawn =
      judged-behind before (behind late (shown.withdrawn p) more) (behind late (tabled.withdrawn p) more)
      (drawn (shown.uploads p)) (drawn (tabled.uploads p))
      (λ none.
      ap (λ (withdrawn : Bool). judged (behind late withdrawn more) (drawn (shown.uploads p)))
      (same.withdrawn p (told-author by_author (drawn []) none.1.0))
      ∙ ap (λ (uploads : List Upload). judged (behind late (tabled.withdrawn p) more) (drawn uploads))
      (same.uploads p (not-false by_author.author none.1.0)))

  -- and so is whether they have responded
  respond-same : (late : Bool) (drawn : Drawn)
      → judged (respond_checks by_author (paper_named facts shown (Some p)) (is_some (shown.response p)) late) drawn
      ≡ judged (respond_checks by_author (paper_named facts tabled (Some p)) (is_some (tabled.response p)) late) drawn
  respond-same late drawn =
      judged-behind before (answers (shown.withdrawn p) (shown.response p))
      (answers (tabled.withdrawn p) (tabled.response p)) drawn drawn
      (λ none.
      ap (λ (withdrawn : Bool). judged (answers withdrawn (shown.response p)) drawn)
      (same.withdrawn p (told-author by_author drawn none.1.0))
      ∙ ap (λ (response : Option (List ℕ)). judged (answers (tabled.withdrawn p) response) drawn)
      (same.response p (not-false by_author.author none.1.0)))
    where
      answers : Bool → Option (List ℕ) → List Check
      answers withdrawn response =
          not (responses_are_written by_author.phase) breaks rules.WrongPhase ∷ late breaks rules.Late
          ∷ withdrawn breaks rules.Withdrawn
          ∷ is_some response breaks rules.AlreadyResponded ∷ []

-- what is judged of a conflict of this user's, if there is one, by what is shown
abbrev judged_of : Facts → Stamp → Option ℕ → Option ℕ → Bool → Shown → Result Drawn Rule
judged_of facts stamp paper target on source =
    judged
    (conflict_checks (facts.standing paper) (paper_named facts source paper)
    (target_named facts source (Some stamp.maker) paper target) on (is_late facts stamp.at))
    (alone stamp (Conflict (unwrap_or paper 0) (unwrap_or target 0) on))

-- and matters to a conflict's judgement no further
conflict-same : (facts : Facts) (shown tabled : Shown) (stamp : Stamp) (paper target : Option ℕ) (on : Bool)
    → Agree facts shown tabled
    → judged_of facts stamp paper target on shown ≡ judged_of facts stamp paper target on tabled
conflict-same facts shown tabled stamp None target on same = refl
conflict-same facts shown tabled stamp (Some p) target on same = by (role_among facts.accounts target)
  where
    standing : Standing
    standing = facts.standing (Some p)

    drawn : Drawn
    drawn = alone stamp (Conflict p (unwrap_or target 0) on)

    bidding : Bool
    bidding = authors_have_declared standing.phase

    final : Bool
    final = conflicts_are_final standing.phase

    late : Bool
    late = is_late facts stamp.at

    herself : Bool
    herself = is_number target stamp.maker

    wrote : Shown → Bool
    wrote source = list_any (is_number target) (source.authors p)

    clash : Shown → Bool
    clash source = wrote source || list_any (is_number target) (source.conflicts p)

    reviews : Shown → Bool
    reviews source = is_some (source.ordinal target p)

    outside : Shown → Role → Bool
    outside source role = not (is_member role) && source.invited target p

    judged_by : Shown → Option Role → Result Drawn Rule
    judged_by source role =
        judged
        (conflict_checks standing (paper_named facts source (Some p))
        (option_map (λ (r : Role). named r herself (wrote source) (clash source) (reviews source) (outside source r))
        role) on late)
        drawn

    by : (role : Option Role) → judged_by shown role ≡ judged_by tabled role
    by None = refl
    by (Some role) =
        ap (λ (row : Result Drawn Rule). cond (not (has_paper facts (Some p))) (Err rules.NoPaper) row)
        (case-withdrawn standing drawn on bidding final late
        (named role herself (wrote shown) (clash shown) (reviews shown) (outside shown role)) (shown.withdrawn p)
        (tabled.withdrawn p) refl (same.withdrawn p)
        ∙ case-author standing drawn on bidding final late (tabled.withdrawn p) herself role (wrote shown)
        (wrote tabled) (clash shown) (clash tabled)
        (reviews shown) (reviews tabled) (outside shown role) (outside tabled role) refl
        (λ told. ap (list_any (is_number target)) (same.authors p told))
        (λ told. ap (λ (b : Bool). not (is_member role) && b) (same.invited p told target)))

-- ---- bids, reviews, comments, tags and decisions

-- whether a paper is withdrawn is asked of these only behind the rules that let through members from the bidding on
module _ (facts : Facts) (shown tabled : Shown) (same : Agree facts shown tabled) (p : ℕ) where
  abbrev by_member : Standing
  by_member = facts.standing (Some p)

  abbrev for_members : List Check → List Check
  for_members more =
      not (has_paper facts (Some p)) breaks rules.NoPaper ∷ not (is_member by_member.role) breaks rules.NotMember
      ∷ by_member.conflicted breaks rules.Conflict ∷ more

  -- it is told from each of these phases on
  at_phase : (first : Phase) → nat_le 2 (phase_rank first) ≡ true → is_phase by_member.phase first ≡ true
      → is_from Bidding by_member.phase ≡ true
  at_phase first since is = begun (phase_rank by_member.phase) (phase_rank first) since is
    where
      begun : (n m : ℕ) → nat_le 2 m ≡ true → eqb n m ≡ true → nat_le 2 n ≡ true
      begun n m since is = grind (arith, nat_tests)

  withdrawn-same : (before : List Check) (drawn : Drawn)
      → (NoneBroken before → (not (is_member by_member.role) ≡ false) × (is_from Bidding by_member.phase ≡ true))
      → judged (before ++ (shown.withdrawn p breaks rules.Withdrawn ∷ [])) drawn
      ≡ judged (before ++ (tabled.withdrawn p breaks rules.Withdrawn ∷ [])) drawn
  withdrawn-same before drawn may =
      asked-behind before (shown.withdrawn p) (tabled.withdrawn p) rules.Withdrawn [] drawn
      (λ none. let is = may none in same.withdrawn p (told-member by_member drawn is.0 is.1))

  bid-same : (late : Bool) (drawn : Drawn)
      → judged (bid_checks by_member (paper_named facts shown (Some p)) late) drawn
      ≡ judged (bid_checks by_member (paper_named facts tabled (Some p)) late) drawn
  bid-same late drawn =
      withdrawn-same
      (for_members (not (bids_are_taken by_member.phase) breaks rules.WrongPhase ∷ late breaks rules.Late ∷ [])) drawn
      (λ none. (none.1.0, at_phase Bidding refl (not-false (bids_are_taken by_member.phase) none.1.1.1.0)))

  review-same : (late : Bool) (drawn : Drawn)
      → judged (review_checks by_member (paper_named facts shown (Some p)) late) drawn
      ≡ judged (review_checks by_member (paper_named facts tabled (Some p)) late) drawn
  review-same late drawn =
      asked-behind
      (not (has_paper facts (Some p)) breaks rules.NoPaper ∷ not (is_admitted by_member) breaks rules.NotMember
      ∷ by_member.conflicted breaks rules.Conflict ∷ not by_member.reviewer breaks rules.NotReviewer
      ∷ not (reviews_are_written by_member.phase) breaks rules.WrongPhase ∷ late breaks rules.Late ∷ [])
      (shown.withdrawn p) (tabled.withdrawn p) rules.Withdrawn [] drawn
      (λ none.
      same.withdrawn p
      (told-admitted by_member drawn none.1.0 none.1.1.0
      (begun (is_phase by_member.phase Reviewing) (is_phase by_member.phase Discussion) refl refl none.1.1.1.1.0)))
    where
      begun : (r d : Bool) → is_phase by_member.phase Reviewing ≡ r → is_phase by_member.phase Discussion ≡ d
          → not (r || d) ≡ false
          → is_from Bidding by_member.phase ≡ true
      begun true d hr hd h = at_phase Reviewing refl hr
      begun false true hr hd h = at_phase Discussion refl hd
      begun false false hr hd h = absurd (true≢false h)

  tag-same : (for_chairs : Bool) (drawn : Drawn)
      → judged (tag_checks by_member (paper_named facts shown (Some p)) for_chairs) drawn
      ≡ judged (tag_checks by_member (paper_named facts tabled (Some p)) for_chairs) drawn
  tag-same for_chairs drawn =
      withdrawn-same
      (not (has_paper facts (Some p)) breaks rules.NoPaper ∷ (for_chairs && not (is_chair by_member.role)) breaks
      rules.NotChair
      ∷ not (is_member by_member.role) breaks rules.NotMember ∷ by_member.conflicted breaks rules.Conflict
      ∷ not (committee_works by_member.phase) breaks rules.WrongPhase ∷ []) drawn
      (λ none. (none.1.1.0, in_committee by_member drawn none.1.1.1.1.0))

  -- and of a decision behind those that let through chairs in the discussion
  decide-same : (drawn : Drawn)
      → judged (decide_checks by_member (paper_named facts shown (Some p))) drawn
      ≡ judged (decide_checks by_member (paper_named facts tabled (Some p))) drawn
  decide-same drawn =
      asked-behind
      (not (has_paper facts (Some p)) breaks rules.NoPaper ∷ not (is_chair by_member.role) breaks rules.NotChair
      ∷ by_member.conflicted breaks rules.Conflict ∷ not (decisions_are_made by_member.phase) breaks rules.WrongPhase
      ∷ [])
      (shown.withdrawn p) (tabled.withdrawn p) rules.Withdrawn [] drawn
      (λ none.
      let begun = at_phase Discussion refl (not-false (decisions_are_made by_member.phase) none.1.1.1.0) in
      same.withdrawn p (told-chair by_member drawn none.1.0 begun))

  -- so it is of a comment, and how many there are is counted only behind those that let through members from the
  -- discussion on
  comment-same : (own : ℕ) (late : Bool) (drawn : ℕ → Drawn)
      → judged (comment_checks by_member (paper_named facts shown (Some p)) own late)
      (drawn (length (shown.comments p)))
      ≡ judged (comment_checks by_member (paper_named facts tabled (Some p)) own late)
      (drawn (length (tabled.comments p)))
  comment-same own late drawn =
      judged-behind
      (for_members (not (comments_are_written by_member.phase) breaks rules.WrongPhase ∷ late breaks rules.Late ∷ []))
      (behind (shown.withdrawn p)) (behind (tabled.withdrawn p))
      (drawn (length (shown.comments p))) (drawn (length (tabled.comments p)))
      (λ none.
      let now = not-false (comments_are_written by_member.phase) none.1.1.1.0 in
      ap (λ (withdrawn : Bool). judged (behind withdrawn) (drawn (length (shown.comments p))))
      (same.withdrawn p (told-member by_member (drawn 0) none.1.0 (at_phase Discussion refl now)))
      ∙ ap (λ (n : ℕ). judged (behind (tabled.withdrawn p)) (drawn n))
      (same.comments p (clear (is_member by_member.role) by_member.conflicted none.1.0 none.1.1.0)
      (discussed (phase_rank by_member.phase) now)))
    where
      behind : Bool → List Check
      behind withdrawn = withdrawn breaks rules.Withdrawn ∷ nat_le 1000 own breaks rules.QuotaComments ∷ []

      clear : (k c : Bool) → not k ≡ false → c ≡ false → (k && not c) ≡ true
      clear k c hk hc = grind arith

      discussed : (n : ℕ) → eqb n 5 ≡ true → nat_le 5 n ≡ true
      discussed n h = grind (arith, nat_tests)

-- ---- assignments

-- what the rules on reviewers and externals ask of the paper and of the user named, how many labels were given, which
-- is drawn from, whether a form is under hers, and whether she is invited
record Asked : Type 0 where
  withdrawn : Bool
  user : Option Target
  ordinal : Option ℕ
  labels : ℕ
  written : Bool
  invited : Bool

-- all of it is asked only behind the rules that let through a clear chair from the bidding on
module _ (facts : Facts) (shown tabled : Shown) (same : Agree facts shown tabled) (stamp : Stamp) (p : ℕ)
    (target : Option ℕ) where
  abbrev chair : Standing
  chair = facts.standing (Some p)

  abbrev asked_of : Shown → Option Role → Asked
  asked_of source role =
      let wrote : Bool = list_any (is_number target) (source.authors p) in
      let declared : Bool = list_any (is_number target) (source.conflicts p) in
      record {
        withdrawn = source.withdrawn p;
        user = option_map (λ (r : Role). named r (is_number target stamp.maker) wrote (wrote || declared)
            (is_some (source.ordinal target p)) (not (is_member r) && source.invited target p)) role;
        ordinal = source.ordinal target p;
        labels = source.labels p;
        written = at_some (source.written p) (source.ordinal target p);
        invited = source.invited target p;
      }

  asked-same : (drawn : Drawn) (role : Option Role) → not (is_chair chair.role) ≡ false → chair.conflicted ≡ false
      → not (committee_works chair.phase) ≡ false
      → asked_of shown role ≡ asked_of tabled role
  asked-same drawn role h clear in_time =
      let begun : is_from Bidding chair.phase ≡ true = in_committee chair drawn in_time in
      let told : gets_conflicts chair ≡ true = told-conflicts chair drawn h clear begun in
      let withdrawn = same.withdrawn p (told-chair chair drawn h begun) in
      let wrote = ap (list_any (is_number target)) (same.authors p (told-clear_chair chair drawn h clear begun)) in
      let declared = ap (list_any (is_number target)) (same.conflicts p told) in
      let ordinal = same.ordinal p told target in
      let labels = same.labels p told in
      let invited = same.invited p told target in
      λ i. record {
        withdrawn = withdrawn i;
        user = option_map (λ (r : Role). named r (is_number target stamp.maker) (wrote i) (wrote i || declared i)
            (is_some (ordinal i)) (not (is_member r) && invited i)) role;
        ordinal = ordinal i;
        labels = labels i;
        written = at_some (λ o. same.written p told o i) (ordinal i);
        invited = invited i;
      }

  -- what is judged of the user named, with further rules behind those on every reviewer
  abbrev reviewer_judged : (Asked → List Check) → (Asked → Drawn) → Shown → Option Role → Result Drawn Rule
  reviewer_judged more drawn source role =
      judged (reviewer_checks chair (paper_named facts source (Some p)) (asked_of source role).user
      ++ more (asked_of source role)) (drawn (asked_of source role))

  -- so are the checks on an assignment and on an invitation, and those on taking them back
  reviewer-same : (more : Asked → List Check) (drawn : Asked → Drawn)
      → reviewer_judged more drawn shown (role_among facts.accounts target)
      ≡ reviewer_judged more drawn tabled (role_among facts.accounts target)
  reviewer-same more drawn = by (role_among facts.accounts target)
    where
      behind : Asked → List Check
      behind asked = asked.withdrawn breaks rules.Withdrawn ∷ more asked

      by : (role : Option Role) → reviewer_judged more drawn shown role ≡ reviewer_judged more drawn tabled role
      by None = refl
      by (Some role) =
          judged-behind
          (not (has_paper facts (Some p)) breaks rules.NoPaper ∷ false breaks rules.NoUser ∷ not (is_chair chair.role)
          breaks rules.NotChair
          ∷ chair.conflicted breaks rules.Conflict ∷ not (committee_works chair.phase) breaks rules.WrongPhase ∷ [])
          (behind (asked_of shown (Some role))) (behind (asked_of tabled (Some role)))
          (drawn (asked_of shown (Some role)))
          (drawn (asked_of tabled (Some role)))
          (λ none. ap (λ (asked : Asked). judged (behind asked) (drawn asked))
          (asked-same (drawn (asked_of shown (Some role))) (Some role) none.1.1.0 none.1.1.1.0 none.1.1.1.1.0))

-- so what is shown makes no other judgement than what the tables hold
resolved-same : (facts : Facts) (shown tabled : Shown) (stamp : Stamp) (command : ResolvedCommand) → Agree facts shown tabled
    → judge_resolved facts shown stamp command
    ≡ judge_resolved facts tabled stamp command
resolved-same facts shown tabled stamp (resolved.Revise (Some p) title abstract) same =
    author-same facts shown tabled same p (is_late facts stamp.at) [] (λ _. alone stamp (Revised p title abstract))
resolved-same facts shown tabled stamp (resolved.Upload (Some p) content) same =
    author-same facts shown tabled same p (is_late facts stamp.at)
    (nat_lt 67108864 (facts.own_bytes + length content) breaks rules.QuotaBytes ∷ [])
    (λ uploads. alone stamp (Uploaded p (length uploads + 1) content))
resolved-same facts shown tabled stamp (resolved.Withdraw (Some p)) same =
    author-same facts shown tabled same p (is_late facts stamp.at) [] (λ _. alone stamp (Withdrawn p))
resolved-same facts shown tabled stamp (resolved.SetConflict paper target on) same =
    conflict-same facts shown tabled stamp paper target on same
resolved-same facts shown tabled stamp (resolved.Bid (Some p) value) same =
    bid-same facts shown tabled same p (is_late facts stamp.at) (alone stamp (entries.Bid p value))
resolved-same facts shown tabled stamp (resolved.Assign (Some p) target kind) same =
    reviewer-same facts shown tabled same stamp p target
    (λ asked. not (target_is is_of_paper asked.user) breaks rules.NotAMember
    ∷ target_is (λ (user : Target). user.conflicted) asked.user breaks rules.TargetConflict
    ∷ target_is (λ (user : Target). user.reviewer) asked.user breaks rules.AlreadyAssigned
    ∷ nat_le 26 asked.labels breaks rules.LabelsSpent ∷ [])
    (λ asked. alone stamp (Assigned p (unwrap_or target 0) kind (asked.labels + 1)))
resolved-same facts shown tabled stamp (resolved.Unassign (Some p) target) same =
    reviewer-same facts shown tabled same stamp p target
    (λ asked. not (target_is (λ (user : Target). user.reviewer) asked.user) breaks rules.NotAssigned
    ∷ asked.written breaks rules.HasReview ∷ [])
    (λ asked. alone stamp (Unassigned p (unwrap_or target 0) (unwrap_or asked.ordinal 0)))
resolved-same facts shown tabled stamp (resolved.Invite (Some p) target) same =
    reviewer-same facts shown tabled same stamp p target
    (λ asked. is_member (target_role asked.user) breaks rules.IsMember
    ∷ target_is (λ (user : Target). user.conflicted) asked.user breaks rules.TargetConflict
    ∷ asked.invited breaks rules.AlreadyInvited ∷ [])
    (λ asked. alone stamp (Invited p (unwrap_or target 0)))
resolved-same facts shown tabled stamp (resolved.Uninvite (Some p) target) same =
    reviewer-same facts shown tabled same stamp p target
    (λ asked. not asked.invited breaks rules.NotInvited
    ∷ target_is (λ (user : Target). user.reviewer) asked.user breaks rules.StillAssigned ∷ [])
    (λ asked. alone stamp (Uninvited p (unwrap_or target 0)))
resolved-same facts shown tabled stamp (resolved.Review (Some p) form) same =
    review-same facts shown tabled same p (is_late facts stamp.at)
    (alone stamp (Reviewed p (unwrap_or (facts.own_ordinal p) 0) (length (facts.own_forms p) + 1) form))
resolved-same facts shown tabled stamp (resolved.Respond (Some p) text) same =
    respond-same facts shown tabled same p (is_late facts stamp.at) (alone stamp (Responded p text))
resolved-same facts shown tabled stamp (resolved.Comment (Some p) text) same =
    comment-same facts shown tabled same p facts.own_comments (is_late facts stamp.at)
    (λ n. alone stamp (Commented p (n + 1) (facts.own_ordinal p) text))
resolved-same facts shown tabled stamp (resolved.Tag (Some p) tag on) same =
    tag-same facts shown tabled same p (is_for_chairs tag) (alone stamp (Tagged p tag on))
resolved-same facts shown tabled stamp (resolved.Decide (Some p) decision) same =
    decide-same facts shown tabled same p (alone stamp (Decided p decision))
resolved-same facts shown tabled stamp command same = refl

-- the judgement by any user's view is the one by the tables
pub judge-tables : (H : History) (call : Call) → Invariants H → AreTold H → AreFormsTold H
    → judge (view call.caller H) call ≡ judge_by_role (tables_of H) call
judge-tables H call kept told forms =
    let u : Option ℕ = call.caller in
    ap (λ (facts : Facts). judge_by facts (shown_in_view u (view u H)) (stamp_of call) call.command)
    (facts_in_view-tables u H told forms)
    ∙ resolved-same (facts_of_tables (tables_of H) u) (shown_in_view u (view u H)) (shown_in_tables (tables_of H))
    (stamp_of call) (resolve (facts_of_tables (tables_of H) u).accounts call.command) (record {
      withdrawn = λ p may. withdrawn-tables u H told p may;
      authors = λ p may.
          authors-tables u H told p (also_accepted (standing_at (tables_of H) u (Some p))
          (is_accepted_in (tables_of H) p) may);
      uploads = λ p may. own_uploads-tables u H told p may;
      conflicts = λ p may. conflicts-tables u H p kept.fits told (ap gets_conflicts (told.standing u (Some p)) ∙ may);
      ordinal = λ p may v. seat-tables u H told p may v;
      labels = λ p may. labels-tables u H told p may;
      invited = λ p may v. invited-tables u H told p may v;
      written = λ p may o. written-tables u H told p
          (and_parts (is_clear_chair (standing_at (tables_of H) u (Some p))) _ may).0 o;
      comments = λ p clear discussed. comment_count-tables u H told p kept.bounded clear discussed;
      response =
          λ p author. response-tables u H told p (or_left (standing_at (tables_of H) u (Some p)).author _ author);
    })
