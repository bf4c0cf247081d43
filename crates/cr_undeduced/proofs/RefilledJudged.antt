-- SPDX-License-Identifier: Apache-2.0 OR MIT
-- A command that is accepted is accepted with other texts, where the facts that its rules read are the same; and adds
-- the same but for these.
use Rattle.std.proofs.Common.{ℕ, Bool, true, false, cond, ◌≡◌, ◌≤◌, ◌+◌, suc, List, [], ◌∷◌, length, refl, sym}
use Rattle.std.proofs.Common.{ap, subst, ◌∙◌, arith, Option, Some, None, Result, Ok, eqb}
use Rattle.std.specs.Prelude.{not, is_some, unwrap_or, map, nat_lt}
use Rattle.std.proofs.lemmas.Bool.{and_parts, true≢false}
use Rattle.std.proofs.lemmas.Bool.Decides.{nat_tests}
use Rattle.cr_base.specs.declared.command.Command.{Command}
use Rattle.cr_base.specs.declared.command.Command.TheVariants.{Register, SetPhase, Submit, Revise, Upload, Withdraw}
use Rattle.cr_base.specs.declared.command.Command.TheVariants.{Name, SetMode, SetConflict, Bid, Assign, Unassign}
use Rattle.cr_base.specs.declared.command.Command.TheVariants.{Review, Comment, Tag, Decide, SetDeadline, Dismiss}
use Rattle.cr_base.specs.declared.command.Command.TheVariants.{Invite, Uninvite, Respond}
use Rattle.cr_base.specs.declared.entry.Entry.TheVariants as entries
use Rattle.cr_base.specs.declared.entry.Stamp.{Stamp}
use Rattle.cr_base.specs.declared.reply.Rule.{Rule}
use Rattle.cr_base.specs.declared.words.Phase.{Phase}
use Rattle.cr_base.specs.declared.words.Role.TheVariants.{Chair}
use Rattle.cr_base.specs.Accounts.{chair_count}
use Rattle.cr_base.specs.Checks.{Check, judged, register_checks, phase_checks, deadline_checks, submit_checks}
use Rattle.cr_base.specs.Checks.{revise_checks, upload_checks, name_checks, mode_checks, conflict_checks, bid_checks}
use Rattle.cr_base.specs.Checks.{assign_checks, unassign_checks, review_checks, respond_checks, comment_checks}
use Rattle.cr_base.specs.Checks.{tag_checks, decide_checks, dismiss_checks, invite_checks, uninvite_checks}
use Rattle.cr_base.specs.Deeds.{deed_at, drawn_by, is_missing, role_asked}
use Rattle.cr_base.specs.Drawn.{Drawn, besides, coauthor_entries, grouped, registration, stamped}
use Rattle.cr_base.specs.History.{History}
use Rattle.cr_base.specs.Judging.{judge_by}
use Rattle.cr_base.specs.Lists.{at_some}
use Rattle.cr_base.specs.Resolving.{all_found, resolve}
use Rattle.cr_base.specs.Sources.{Facts, Shown, number_in, user_among, users_among}
use Rattle.cr_base.specs.Sources.{paper_named, target_named, is_late}
use Rattle.cr_base.specs.TagTexts.{is_for_chairs}
use Rattle.cr_base.proofs.CheckLaws.{NoneBroken, judged-Ok, judged-none}
use Rattle.cr_bounds.specs.ShownTo.{is_committees, is_chairs}
use Rattle.cr_bounds.proofs.BoundsWords.{for-chairs}
use Rattle.cr_undeduced.specs.Payload.{Payload, own_if, agree, are_for_same}
use Rattle.cr_undeduced.proofs.Fill.{retold, refilled}

-- ---- what is filled into a command

abbrev pub fill_command : Payload → Command → Command
fill_command x (Register name digest) = Register name x.digest
fill_command x (Submit title abstract authors) = Submit x.title x.abstract_ authors
fill_command x (Revise paper title abstract) = Revise paper x.title x.abstract_
fill_command x (Upload paper content) = Upload paper x.content
fill_command x (Bid paper value) = Bid paper x.value
fill_command x (Assign paper name kind) = Assign paper name x.kind
fill_command x (Review paper form) = Review paper x.form
fill_command x (Respond paper text) = Respond paper x.text
fill_command x (Comment paper text) = Comment paper x.text
fill_command x (Tag paper tag on) = Tag paper (retold tag x.tag) x.on
fill_command x (Decide paper decision) = Decide paper x.decision
fill_command x command = command

-- it may be uploaded, if it is an upload
abbrev pub HasRoom : Facts → Payload → Command → Type 0
HasRoom facts x (Upload paper content) = facts.own_bytes + length x.content ≤ 67108864
HasRoom facts x command = Unit {0}

-- ---- the same for all that the rules of commands read

pub record SameRead (facts facts' : Facts) (shown shown' : Shown) : Type 0 where
  pub standing : (paper : Option ℕ) → facts.standing paper ≡ facts'.standing paper
  pub accounts : facts.accounts ≡ facts'.accounts
  pub papers : facts.papers ≡ facts'.papers
  pub own_papers : facts.own_papers ≡ facts'.own_papers
  pub own_ordinal : (p : ℕ) → facts.own_ordinal p ≡ facts'.own_ordinal p
  pub own_forms : (p : ℕ) → length (facts.own_forms p) ≡ length (facts'.own_forms p)
  pub own_comments : facts.own_comments ≡ facts'.own_comments
  pub deadline : (phase : Phase) → facts.deadline phase ≡ facts'.deadline phase
  pub withdrawn : (p : ℕ) → shown.withdrawn p ≡ shown'.withdrawn p
  pub authors : (p : ℕ) → shown.authors p ≡ shown'.authors p
  pub conflicts : (p : ℕ) → shown.conflicts p ≡ shown'.conflicts p
  pub uploads : (p : ℕ) → length (shown.uploads p) ≡ length (shown'.uploads p)
  pub ordinal : (v : Option ℕ) (p : ℕ) → shown.ordinal v p ≡ shown'.ordinal v p
  pub labels : (p : ℕ) → shown.labels p ≡ shown'.labels p
  pub invited : (v : Option ℕ) (p : ℕ) → shown.invited v p ≡ shown'.invited v p
  pub written : (p o : ℕ) → shown.written p o ≡ shown'.written p o
  pub comments : (p : ℕ) → length (shown.comments p) ≡ length (shown'.comments p)
  pub response : (p : ℕ) → is_some (shown.response p) ≡ is_some (shown'.response p)

-- accepted, and what is drawn is the same, filled in
pub record Filled (r : Result Drawn Rule) (xs : ℕ → Payload) (given : Drawn) : Type 0 where
  pub drawn : Drawn
  pub is : r ≡ Ok drawn
  pub group : drawn.group ≡ refilled xs given.group

fills : (xs : ℕ → Payload) (checks checks' : List Check) (draws draws' given : Drawn)
    → ◌≡◌ {A = Result Drawn Rule} (judged checks draws) (Ok given)
    → checks ≡ checks' → draws'.group ≡ refilled xs draws.group → Filled (judged checks' draws') xs given
fills xs checks checks' draws draws' given accepted path groups =
    let k = judged-Ok checks draws given accepted in
    record {
      drawn = draws';
      is = judged-none checks' draws' (subst NoneBroken path k.0);
      group = groups ∙ ap (λ (d : Drawn). refilled xs d.group) k.1;
    }

-- ---- tags

agree-is : (a b : Bool) → agree a b ≡ true → a ≡ b
agree-is true true h = refl
agree-is true false h = absurd (true≢false (sym h))
agree-is false true h = absurd (true≢false (sym h))
agree-is false false h = refl

-- the other tag is for the same
pub same-chairs : (tag other : List ℕ) → are_for_same tag other ≡ true → is_chairs tag ≡ is_chairs other
same-chairs tag other same =
    agree-is (is_chairs tag) (is_chairs other)
    (and_parts (agree (is_committees tag) (is_committees other)) (agree (is_chairs tag) (is_chairs other)) same).1

pub same-committees : (tag other : List ℕ) → are_for_same tag other ≡ true → is_committees tag ≡ is_committees other
same-committees tag other same =
    agree-is (is_committees tag) (is_committees other)
    (and_parts (agree (is_committees tag) (is_committees other)) (agree (is_chairs tag) (is_chairs other)) same).0

-- what is so of tags that are for the same is so of the one that stands in its place
pub retold-same : (f : List ℕ → Bool) → ((tag other : List ℕ) → are_for_same tag other ≡ true → f tag ≡ f other)
    → (tag other : List ℕ) → f tag ≡ f (retold tag other)
retold-same f each tag other = by (are_for_same tag other) refl
  where
    by : (b : Bool) → are_for_same tag other ≡ b → f tag ≡ f (own_if (not b) tag other)
    by true same = each tag other same
    by false same = refl

chairs-retold : (tag other : List ℕ) → is_for_chairs tag ≡ is_for_chairs (retold tag other)
chairs-retold tag other =
    for-chairs tag ∙ retold-same is_chairs same-chairs tag other ∙ sym (for-chairs (retold tag other))

-- ---- groups of several entries

coauthors-filled : (xs : ℕ → Payload) (stamp : Stamp) (p : ℕ) (users : List ℕ)
    → grouped stamp (map (λ (user : ℕ). entries.Coauthor p user) users)
    ≡ refilled xs (grouped stamp (map (λ (user : ℕ). entries.Coauthor p user) users))
coauthors-filled xs stamp p [] = refl
coauthors-filled xs stamp p (u ∷ []) = refl
coauthors-filled xs stamp p (u ∷ v ∷ users) =
    ap (λ (g : History). stamped stamp true (entries.Coauthor p u) ∷ g)
    (coauthors-filled (λ n. xs (suc n)) stamp p (v ∷ users))

submission-filled : (xs : ℕ → Payload) (stamp : Stamp) (p : ℕ) (title abstract : List ℕ) (users : List ℕ)
    → grouped stamp (entries.Submitted p (xs 0).title (xs 0).abstract_
    ∷ map (λ (user : ℕ). entries.Coauthor p user) users)
    ≡ refilled xs (grouped stamp (entries.Submitted p title abstract
    ∷ map (λ (user : ℕ). entries.Coauthor p user) users))
submission-filled xs stamp p title abstract [] = refl
submission-filled xs stamp p title abstract (u ∷ users) =
    ap (λ (g : History). stamped stamp true (entries.Submitted p (xs 0).title (xs 0).abstract_) ∷ g)
    (coauthors-filled (λ n. xs (suc n)) stamp p (u ∷ users))

registration-filled : (xs : ℕ → Payload) (stamp : Stamp) (n : ℕ) (name digest : List ℕ)
    → grouped stamp (registration n name (xs 0).digest) ≡ refilled xs (grouped stamp (registration n name digest))
registration-filled xs stamp n name digest = by (eqb n 1)
  where
    by : (b : Bool)
        → grouped stamp (entries.Registered n name (xs 0).digest ∷ cond b (entries.Named n Chair ∷ []) [])
        ≡ refilled xs (grouped stamp (entries.Registered n name digest ∷ cond b (entries.Named n Chair ∷ []) []))
    by true = refl
    by false = refl

-- what is no more than that isn't too much
enough : (n : ℕ) → n ≤ 67108864 → nat_lt 67108864 n ≡ false
enough n h = grind (arith, nat_tests)

-- ---- all commands

module _ (facts facts' : Facts) (shown shown' : Shown) (same : SameRead facts facts' shown shown') where
  abbrev like : Facts
  like = record facts' {
    own_bytes = facts.own_bytes;
    own_bid = facts.own_bid;
    own_forms = facts.own_forms;
    accepted = facts.accepted;
    had_response = facts.had_response;
  }

  abbrev alike : Shown
  alike = record shown' {
    title = shown.title;
    abstract_ = shown.abstract_;
    declared = shown.declared;
    uploads = shown.uploads;
    bids = shown.bids;
    reviewers = shown.reviewers;
    assigned = shown.assigned;
    last_form = shown.last_form;
    early_form = shown.early_form;
    forms_discussed = shown.forms_discussed;
    comments = shown.comments;
    response = shown.response;
    tags = shown.tags;
    decision = shown.decision;
  }

  F : facts ≡ like
  F = λ i. record {
    standing = λ paper. same.standing paper i;
    accounts = same.accounts i;
    papers = same.papers i;
    own_papers = same.own_papers i;
    own_bytes = facts.own_bytes;
    own_bid = facts.own_bid;
    own_ordinal = λ p. same.own_ordinal p i;
    own_forms = facts.own_forms;
    own_comments = same.own_comments i;
    accepted = facts.accepted;
    deadline = λ phase. same.deadline phase i;
    had_response = facts.had_response;
  }

  S : shown ≡ alike
  S = λ i. record {
    title = shown.title;
    abstract_ = shown.abstract_;
    authors = λ p. same.authors p i;
    conflicts = λ p. same.conflicts p i;
    declared = shown.declared;
    uploads = shown.uploads;
    withdrawn = λ p. same.withdrawn p i;
    bids = shown.bids;
    reviewers = shown.reviewers;
    ordinal = λ v p. same.ordinal v p i;
    labels = λ p. same.labels p i;
    assigned = shown.assigned;
    invited = λ v p. same.invited v p i;
    last_form = shown.last_form;
    early_form = shown.early_form;
    forms_discussed = shown.forms_discussed;
    written = λ p o. same.written p o i;
    comments = shown.comments;
    response = shown.response;
    tags = shown.tags;
    decision = shown.decision;
  }

  -- the user of a name that may be none
  abbrev target : Facts → Option (List ℕ) → Option ℕ
  target f name = user_among f.accounts name

  pub judged-filled : (stamp : Stamp) (xs : ℕ → Payload) (command : Command) (given : Drawn)
      → HasRoom facts' (xs 0) command → judge_by facts shown stamp command ≡ Ok given
      → Filled (judge_by facts' shown' stamp (fill_command (xs 0) command)) xs given
  judged-filled stamp xs (Register name digest) given room accepted =
      fills xs _ _ _ _ given accepted
      (λ i. register_checks (is_some (number_in (F i).accounts name)) (length (F i).accounts))
      ((λ i. (grouped (record stamp { maker = length (sym F i).accounts + 1 }) (registration (length (sym F i).accounts + 1) name (xs 0).digest)))
      ∙ registration-filled xs (record stamp { maker = length facts.accounts + 1 }) (length facts.accounts + 1) name
      digest)
  judged-filled stamp xs (SetPhase to) given room accepted =
      fills xs _ _ _ _ given accepted
      (λ i. phase_checks ((F i).standing None) ((F i).standing None).phase to) refl
  judged-filled stamp xs (Submit title abstract authors) given room accepted =
      fills xs _ _ _ _ given accepted
      (λ i. submit_checks (is_missing (F i).accounts (all_found (users_among (F i).accounts authors))) ((F i).standing None)
      (length (F i).papers) (F i).own_papers (is_late (F i) stamp.at))
      ((λ i. (grouped stamp (entries.Submitted (length (sym F i).papers + 1) (xs 0).title (xs 0).abstract_ ∷ coauthor_entries stamp.maker (length (sym F i).papers + 1) (unwrap_or (all_found (users_among (sym F i).accounts authors)) []))))
      ∙ submission-filled xs stamp (length facts.papers + 1) title abstract
      (besides (stamp.maker ∷ []) (unwrap_or (all_found (users_among facts.accounts authors)) [])))
  judged-filled stamp xs (Revise paper title abstract) given room accepted =
      fills xs _ _ _ _ given accepted
      (λ i. revise_checks ((F i).standing paper) (paper_named (F i) (S i) paper) (is_late (F i) stamp.at)) refl
  judged-filled stamp xs (Upload paper content) given room accepted =
      let p : ℕ = unwrap_or paper 0 in
      let k = judged-Ok
      (upload_checks (facts.standing paper) (paper_named facts shown paper) facts.own_bytes (length content)
      (is_late facts stamp.at)) _ given accepted in
      let none = subst NoneBroken
      (λ i. upload_checks ((F i).standing paper) (paper_named (F i) (S i) paper) facts.own_bytes (length content)
      (is_late (F i) stamp.at)) k.0 in
      record {
        drawn = drawn_by facts'.accounts stamp
            (deed_at facts' shown' stamp (resolve facts'.accounts (Upload paper (xs 0).content)));
        is = judged-none
            (upload_checks (facts'.standing paper) (paper_named facts' shown' paper) facts'.own_bytes
            (length (xs 0).content) (is_late facts' stamp.at)) _ (
              none.0,
              (
                none.1.0,
                (
                  none.1.1.0,
                  (
                    none.1.1.1.0,
                    (
                      none.1.1.1.1.0,
                      (enough (facts'.own_bytes + length (xs 0).content) room, tt),
                    ),
                  ),
                ),
              ),
            );
        group = (λ i. grouped stamp (entries.Uploaded p (sym (same.uploads p) i + 1) (xs 0).content ∷ []))
            ∙ ap (λ (d : Drawn). refilled xs d.group) k.1;
      }
  judged-filled stamp xs (Withdraw paper) given room accepted =
      fills xs _ _ _ _ given
      accepted
      (λ i. revise_checks ((F i).standing paper) (paper_named (F i) (S i) paper) (is_late (F i) stamp.at)) refl
  judged-filled stamp xs (Name name role) given room accepted =
      fills xs _ _ _ _ given accepted
      (λ i. name_checks ((F i).standing None)
      (role_asked (F i) (user_among (F i).accounts name)) role)
      (λ i. (grouped stamp (entries.Named (unwrap_or (target (sym F i) name) 0) role ∷ [])))
  judged-filled stamp xs (SetMode to) given room accepted =
      fills xs _ _ _ _ given accepted
      (λ i. mode_checks ((F i).standing None) ((F i).standing None).phase) refl
  judged-filled stamp xs (SetConflict paper name on) given room accepted =
      fills xs _ _ _ _ given accepted
      (λ i. conflict_checks ((F i).standing paper) (paper_named (F i) (S i) paper)
      (target_named (F i) (S i) (Some stamp.maker) paper (user_among (F i).accounts name)) on (is_late (F i) stamp.at))
      (λ i. (grouped stamp (entries.Conflict (unwrap_or paper 0) (unwrap_or (target (sym F i) name) 0) on ∷ [])))
  judged-filled stamp xs (Bid paper value) given room accepted =
      fills xs _ _ _ _ given
      accepted
      (λ i. bid_checks ((F i).standing paper) (paper_named (F i) (S i) paper) (is_late (F i) stamp.at)) refl
  judged-filled stamp xs (Assign paper name kind) given room accepted =
      let p : ℕ = unwrap_or paper 0 in
      fills xs _ _ _ _ given
      accepted
      (λ i. assign_checks ((F i).standing paper) (paper_named (F i) (S i) paper)
      (target_named (F i) (S i) (Some stamp.maker) paper (user_among (F i).accounts name)) ((S i).labels p))
      (λ i. (grouped stamp (entries.Assigned p (unwrap_or (target (sym F i) name) 0) (xs 0).kind ((sym S i).labels p + 1) ∷ [])))
  judged-filled stamp xs (Unassign paper name) given room accepted =
      let p : ℕ = unwrap_or paper 0 in
      fills xs _ _ _ _ given accepted
      (λ i. unassign_checks ((F i).standing paper) (paper_named (F i) (S i) paper)
      (target_named (F i) (S i) (Some stamp.maker) paper (user_among (F i).accounts name))
      (at_some ((S i).written p) ((S i).ordinal (user_among (F i).accounts name) p)))
      (λ i. (grouped stamp (entries.Unassigned p (unwrap_or (target (sym F i) name) 0)
      (unwrap_or ((sym S i).ordinal (target (sym F i) name) p) 0) ∷ [])))
  judged-filled stamp xs (Review paper form) given room accepted =
      let p : ℕ = unwrap_or paper 0 in
      fills xs _ _ _ _ given
      accepted
      (λ i. review_checks ((F i).standing paper) (paper_named (F i) (S i) paper) (is_late (F i) stamp.at))
      (λ i. (grouped stamp (entries.Reviewed p (unwrap_or ((sym F i).own_ordinal p) 0) (sym (same.own_forms p) i + 1)
      (xs 0).form ∷ [])))
  judged-filled stamp xs (Respond paper text) given room accepted =
      let p : ℕ = unwrap_or paper 0 in
      fills xs _ _ _ _ given accepted
      (λ i. respond_checks ((F i).standing paper) (paper_named (F i) (S i) paper) (same.response p i)
      (is_late (F i) stamp.at)) refl
  judged-filled stamp xs (Comment paper text) given room accepted =
      let p : ℕ = unwrap_or paper 0 in
      fills xs _ _ _ _ given accepted
      (λ i. comment_checks ((F i).standing paper) (paper_named (F i) (S i) paper) (F i).own_comments
      (is_late (F i) stamp.at))
      (λ i. (grouped stamp (entries.Commented p (sym (same.comments p) i + 1) ((sym F i).own_ordinal p) (xs 0).text ∷ [])))
  judged-filled stamp xs (Tag paper tag on) given room accepted =
      fills xs _ _ _ _ given accepted
      (λ i. tag_checks ((F i).standing paper) (paper_named (F i) (S i) paper) (chairs-retold tag (xs 0).tag i)) refl
  judged-filled stamp xs (Decide paper decision) given room accepted =
      fills xs _ _ _ _ given accepted
      (λ i. decide_checks ((F i).standing paper) (paper_named (F i) (S i) paper)) refl
  judged-filled stamp xs (SetDeadline phase until) given room accepted =
      fills xs _ _ _ _ given accepted
      (λ i. deadline_checks ((F i).standing None) ((F i).standing None).phase phase) refl
  judged-filled stamp xs (Dismiss name) given room accepted =
      fills xs _ _ _ _ given accepted
      (λ i. dismiss_checks ((F i).standing None)
      (role_asked (F i) (user_among (F i).accounts name))
      (chair_count (F i).accounts))
      (λ i. (grouped stamp (entries.Dismissed (unwrap_or (target (sym F i) name) 0) ∷ [])))
  judged-filled stamp xs (Invite paper name) given room accepted =
      fills xs _ _ _ _ given accepted
      (λ i. invite_checks ((F i).standing paper) (paper_named (F i) (S i) paper)
      (target_named (F i) (S i) (Some stamp.maker) paper (user_among (F i).accounts name))
      (at_some ((S i).invited (user_among (F i).accounts name)) paper))
      (λ i. (grouped stamp (entries.Invited (unwrap_or paper 0) (unwrap_or (target (sym F i) name) 0) ∷ [])))
  judged-filled stamp xs (Uninvite paper name) given room accepted =
      fills xs _ _ _ _ given accepted
      (λ i. uninvite_checks ((F i).standing paper) (paper_named (F i) (S i) paper)
      (target_named (F i) (S i) (Some stamp.maker) paper (user_among (F i).accounts name))
      (at_some ((S i).invited (user_among (F i).accounts name)) paper))
      (λ i. (grouped stamp (entries.Uninvited (unwrap_or paper 0) (unwrap_or (target (sym F i) name) 0) ∷ [])))
