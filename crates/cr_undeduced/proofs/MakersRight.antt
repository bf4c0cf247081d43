-- SPDX-License-Identifier: Apache-2.0 OR MIT
-- What a user was allowed to do, whoever has the right is allowed to do in her place, and it adds the same entry.
use Rattle.std.proofs.Common.{ℕ, Bool, true, false, ◌≡◌, List, [], ◌∷◌, ◌++◌, refl, sym, ◌∙◌, Option, Some, None}
use Rattle.std.proofs.Common.{◌||◌, ◌&&◌, arith, eqb}
use Rattle.std.specs.Prelude.{not, is_none, nat_lt, length}
use Rattle.std.specs.List.{flat_map}
use Rattle.std.specs.Option.{option_map}
use Rattle.std.proofs.lemmas.Bool.{true≢false}
use Rattle.cr_base.specs.declared.command.Command.{Command}
use Rattle.cr_base.specs.declared.command.Command.TheVariants as commands
use Rattle.cr_base.specs.declared.entry.Entry.{Entry}
use Rattle.cr_base.specs.declared.entry.Entry.TheVariants as entries
use Rattle.cr_base.specs.declared.words.Phase.{Phase}
use Rattle.cr_base.specs.declared.words.Phase.TheVariants.{Setup, Submission, Bidding, Reviewing, Response}
use Rattle.cr_base.specs.declared.words.Phase.TheVariants.{Discussion, Notification, Closed}
use Rattle.cr_base.specs.History.{History}
use Rattle.cr_base.specs.HistoryFacts.{phase_of, role_of, ordinal_of, seats_of, is_invited, response_of}
use Rattle.cr_base.specs.Lists.{listed}
use Rattle.cr_base.specs.Logins.{command_wants_login}
use Rattle.cr_policy.specs.Added.{added, for_label, next_label, next_form}
use Rattle.cr_policy.specs.Sentences.{is_it, before_bidding, committee_at_work, in_time, on_committee, chairs, is_live}
use Rattle.cr_policy.specs.Sentences.{wrote, is_eligible, administers, has_part, is_external_of, of_some, user_named}
use Rattle.cr_policy.specs.Sentences.{is_for_chairs_alone, comes_behind, lasts_or_comes, now, is_over, is_above}
use Rattle.cr_policy.specs.Sentences.{has_two_chairs, reviews, may_have_it, in_conflict}
use Rattle.cr_permissions.specs.MayDo.{may_do, may_declare, may_take_back, may_assign, may_unassign, may_invite}
use Rattle.cr_permissions.specs.MayDo.{may_uninvite, may_name, may_dismiss, has_written}
use Rattle.cr_undeduced.specs.Makers.{has_right}

-- ---- in a sentence's place

-- what is said of several, of which one takes another's place
and-more : (x y z : Bool) → (x ≡ true → y ≡ true) → (x && z) ≡ true → (y && z) ≡ true
and-more true y z h is = (λ i. h refl i && z) ∙ is
and-more false y z h is = absurd (true≢false (sym is))

first2 : (b b' c : Bool) → b' ≡ true → (b && c) ≡ true → (b' && c) ≡ true
first2 b b' c right = and-more b b' c (λ is. right)

first3 : (b b' c d : Bool) → b' ≡ true → (b && c && d) ≡ true → (b' && c && d) ≡ true
first3 b b' c d right = and-more (b && c) (b' && c) d (first2 b b' c right)

first4 : (b b' c d e : Bool) → b' ≡ true → (b && c && d && e) ≡ true → (b' && c && d && e) ≡ true
first4 b b' c d e right = and-more (b && c && d) (b' && c && d) e (first3 b b' c d right)

second2 : (a b b' : Bool) → b' ≡ true → (a && b) ≡ true → (a && b') ≡ true
second2 true b b' right is = right
second2 false b b' right is = is

second3 : (a b b' c : Bool) → b' ≡ true → (a && b && c) ≡ true → (a && b' && c) ≡ true
second3 a b b' c right = and-more (a && b) (a && b') c (second2 a b b' right)

second4 : (a b b' c d : Bool) → b' ≡ true → (a && b && c && d) ≡ true → (a && b' && c && d) ≡ true
second4 a b b' c d right = and-more (a && b && c) (a && b' && c) d (second3 a b b' c right)

second5 : (a b b' c d e : Bool) → b' ≡ true → (a && b && c && d && e) ≡ true → (a && b' && c && d && e) ≡ true
second5 a b b' c d e right = and-more (a && b && c && d) (a && b' && c && d) e (second4 a b b' c d right)

second6 : (a b b' c d e f : Bool) → b' ≡ true → (a && b && c && d && e && f) ≡ true
    → (a && b' && c && d && e && f) ≡ true
second6 a b b' c d e f right =
    and-more (a && b && c && d && e) (a && b' && c && d && e) f (second5 a b b' c d e right)

-- the committee isn't at work before the bidding
apart : (phase : Phase) → ((is_it Setup phase || is_it Submission phase)
    && (is_it Bidding phase || is_it Reviewing phase || is_it Response phase || is_it Discussion phase)) ≡ false
apart Setup = refl
apart Submission = refl
apart Bidding = refl
apart Reviewing = refl
apart Response = refl
apart Discussion = refl
apart Notification = refl
apart Closed = refl

declared-too : (s b t a m k own c x a' c' own' : Bool) → (b && k) ≡ false
    → (s && ((b && t && a && m) || (k && ((own && m) || (c && (m || x)))))) ≡ true
    → (not own' && ((b && a') || (not b && c'))) ≡ true
    → (s && ((b && t && a' && m) || (k && ((own' && m) || (c' && (m || x)))))) ≡ true
declared-too false b t a m k own c x a' c' own' none is right = absurd (true≢false (sym is))
declared-too true true t a m true own c x a' c' own' none is right = absurd (true≢false none)
declared-too true true t a m false own c x a' c' own' none is right = grind (arith, is, right)
declared-too true false t a m true own c x a' c' own' none is right = grind (arith, is, right)
declared-too true false t a m false own c x a' c' own' none is right = absurd (true≢false (sym is))

taken-back-too : (s b c k p n own' a' c' : Bool) → (b && k) ≡ false → (s && c && k && p && n) ≡ true
    → (not own' && ((b && a') || (not b && c'))) ≡ true → (s && c' && k && p && n) ≡ true
taken-back-too s b c k p n own' a' c' none is right = grind (arith, none, is, right)

tagged-too : (s e k c e' c' t : Bool) → (s && e && k && (c || t)) ≡ true → (e' && (c' || t)) ≡ true
    → (s && e' && k && (c' || t)) ≡ true
tagged-too s e k c e' c' t is right = grind (arith, is, right)

-- ---- the commands

module _ (H : History) (u w at : ℕ) where
  -- she has the right to make the first of these, if there is one
  abbrev pub right_first : List Entry → Bool
  right_first [] = false
  right_first (e ∷ es) = has_right w H e

  -- she may do it too, and it adds the same, one entry
  pub record Takes (command : Command) : Type 0 where
    pub login : command_wants_login command ≡ true
    pub may : may_do (Some w) at H command ≡ true
    pub entry : Entry
    pub one : added (Some u) H command ≡ entry ∷ []
    pub same : added (Some w) H command ≡ entry ∷ []

  -- of a user who is named
  record OfNamed (o : Option ℕ) (says : ℕ → Bool) (entry : ℕ → Entry) : Type 0 where
    may : of_some o says ≡ true
    entry_is : Entry
    one : listed (option_map entry o) ≡ entry_is ∷ []

  named : (o : Option ℕ) (says says' : ℕ → Bool) (entry : ℕ → Entry) → of_some o says ≡ true
      → right_first (listed (option_map entry o)) ≡ true
      → ((v : ℕ) → says v ≡ true → has_right w H (entry v) ≡ true → says' v ≡ true) → OfNamed o says' entry
  named None says says' entry is right each = absurd (true≢false (sym is))
  named (Some v) says says' entry is right each =
      record { may = each v is right; entry_is = entry v; one = refl }

  none-before : (before_bidding H && committee_at_work H) ≡ false
  none-before = apart (phase_of H)

  unassigned : (p : ℕ) (o : Option ℕ) → of_some o (may_unassign u H p) ≡ true
      → right_first (flat_map (λ v. for_label v p H (λ o. entries.Unassigned p v o)) (listed o)) ≡ true
      → (of_some o (may_unassign w H p) ≡ true)
      × (e : Entry) × (flat_map (λ v. for_label v p H (λ o. entries.Unassigned p v o)) (listed o) ≡ e ∷ [])
  unassigned p None is right = absurd (true≢false (sym is))
  unassigned p (Some v) is right = by (ordinal_of (Some v) p H) right
    where
      by : (seat : Option ℕ)
          → right_first (listed (option_map (λ o. entries.Unassigned p v o) seat) ++ []) ≡ true
          → (may_unassign w H p v ≡ true)
          × (e : Entry) × (listed (option_map (λ o. entries.Unassigned p v o) seat) ++ [] ≡ e ∷ [])
      by None right = absurd (true≢false (sym right))
      by (Some o) right = (
        second5 (is_live p H) (administers u p H) (administers w p H) (committee_at_work H) (reviews v p H)
            (not (has_written v p H)) right is,
        entries.Unassigned p v o,
        refl,
      )

  pub takes : (command : Command) → may_do (Some u) at H command ≡ true
      → right_first (added (Some u) H command) ≡ true → Takes command
  takes (commands.Register name digest) is right = absurd (true≢false (sym right))
  takes (commands.Submit title abstract names) is right = absurd (true≢false (sym right))
  takes (commands.Upload None content) is right = absurd (true≢false (sym is))
  takes (commands.Upload (Some p) content) is right = absurd (true≢false (sym right))
  takes (commands.Review None form) is right = absurd (true≢false (sym is))
  takes (commands.Review (Some p) form) is right = by (ordinal_of (Some u) p H) right
    where
      by : (seat : Option ℕ)
          → right_first (listed (option_map (λ o. entries.Reviewed p o (next_form p o H) form) seat)) ≡ true
          → Takes (commands.Review (Some p) form)
      by None right = absurd (true≢false (sym right))
      by (Some o) right = absurd (true≢false (sym right))
  takes (commands.Comment None text) is right = absurd (true≢false (sym is))
  takes (commands.Comment (Some p) text) is right = absurd (true≢false (sym right))
  takes (commands.SetPhase to) is right = record {
    login = refl;
    may = first2 (chairs u H) (chairs w H) (comes_behind (phase_of H) to) right is;
    entry = entries.PhaseSet to;
    one = refl;
    same = refl;
  }
  takes (commands.SetMode to) is right = record {
    login = refl;
    may = first2 (chairs u H) (chairs w H) (now Setup H) right is;
    entry = entries.ModeSet to;
    one = refl;
    same = refl;
  }
  takes (commands.SetDeadline phase until) is right = record {
    login = refl;
    may = first2 (chairs u H) (chairs w H) (lasts_or_comes phase H) right is;
    entry = entries.DeadlineSet phase until;
    one = refl;
    same = refl;
  }
  takes (commands.Name name role) is right =
      let k = named (user_named name H) (may_name u H role) (may_name w H role) (λ v. entries.Named v role) is right
      (λ v said right. first3 (chairs u H) (chairs w H) (not (is_over H)) (is_above role (role_of (Some v) H)) right
      said) in
      record { login = refl; may = k.may; entry = k.entry_is; one = k.one; same = k.one }
  takes (commands.Dismiss name) is right =
      let k = named (user_named name H) (may_dismiss u H) (may_dismiss w H) (λ v. entries.Dismissed v) is right
      (λ v said right. first4 (chairs u H) (chairs w H) (not (is_over H)) (on_committee v H)
      (not (chairs v H) || has_two_chairs H) right said) in
      record { login = refl; may = k.may; entry = k.entry_is; one = k.one; same = k.one }
  takes (commands.Revise None title abstract) is right = absurd (true≢false (sym is))
  takes (commands.Revise (Some p) title abstract) is right = record {
    login = refl;
    may = second4 (is_live p H) (wrote u p H) (wrote w p H) (now Submission H) (in_time at H) right is;
    entry = entries.Revised p title abstract;
    one = refl;
    same = refl;
  }
  takes (commands.Withdraw None) is right = absurd (true≢false (sym is))
  takes (commands.Withdraw (Some p)) is right = record {
    login = refl;
    may = second4 (is_live p H) (wrote u p H) (wrote w p H) (now Submission H) (in_time at H) right is;
    entry = entries.Withdrawn p;
    one = refl;
    same = refl;
  }
  takes (commands.Respond None text) is right = absurd (true≢false (sym is))
  takes (commands.Respond (Some p) text) is right = record {
    login = refl;
    may = second5 (is_live p H) (wrote u p H) (wrote w p H) (now Response H) (in_time at H) (is_none (response_of p H)) right
        is;
    entry = entries.Responded p text;
    one = refl;
    same = refl;
  }
  takes (commands.SetConflict None name true) is right = absurd (true≢false (sym is))
  takes (commands.SetConflict None name false) is right = absurd (true≢false (sym is))
  takes (commands.SetConflict (Some p) name true) is right =
      let k = named (user_named name H) (may_declare u at H p) (may_declare w at H p) (λ v. entries.Conflict p v true)
      is right
      (λ v said right. declared-too (is_live p H) (before_bidding H) (in_time at H) (wrote u p H) (on_committee v H)
      (committee_at_work H) (eqb v u) (administers u p H) (is_external_of v p H) (wrote w p H) (administers w p H)
      (eqb v w) none-before said right) in
      record { login = refl; may = k.may; entry = k.entry_is; one = k.one; same = k.one }
  takes (commands.SetConflict (Some p) name false) is right =
      let k = named (user_named name H) (may_take_back u H p) (may_take_back w H p) (λ v. entries.Conflict p v false)
      is right
      (λ v said right. taken-back-too (is_live p H) (before_bidding H) (administers u p H) (committee_at_work H)
      (has_part v p H) (not (wrote v p H)) (eqb v w) (wrote w p H) (administers w p H) none-before said right) in
      record { login = refl; may = k.may; entry = k.entry_is; one = k.one; same = k.one }
  takes (commands.Bid None value) is right = absurd (true≢false (sym is))
  takes (commands.Bid (Some p) value) is right = record {
    login = refl;
    may = second4 (is_live p H) (is_eligible u p H) (is_eligible w p H) (now Bidding H) (in_time at H) right is;
    entry = entries.Bid p value;
    one = refl;
    same = refl;
  }
  takes (commands.Assign None name kind) is right = absurd (true≢false (sym is))
  takes (commands.Assign (Some p) name kind) is right =
      let k = named (user_named name H) (may_assign u H p) (may_assign w H p)
      (λ v. entries.Assigned p v kind (next_label p H)) is right
      (λ v said right. second6 (is_live p H) (administers u p H) (administers w p H) (committee_at_work H)
      (may_have_it v p H) (not (reviews v p H)) (nat_lt (length (seats_of p H)) 26) right said) in
      record { login = refl; may = k.may; entry = k.entry_is; one = k.one; same = k.one }
  takes (commands.Unassign None name) is right = absurd (true≢false (sym is))
  takes (commands.Unassign (Some p) name) is right =
      let k = unassigned p (user_named name H) is right in
      record { login = refl; may = k.0; entry = k.1; one = k.2; same = k.2 }
  takes (commands.Invite None name) is right = absurd (true≢false (sym is))
  takes (commands.Invite (Some p) name) is right =
      let k = named (user_named name H) (may_invite u H p) (may_invite w H p) (λ v. entries.Invited p v) is right
      (λ v said right. second6 (is_live p H) (administers u p H) (administers w p H) (committee_at_work H)
      (not (on_committee v H)) (not (in_conflict v p H)) (not (is_invited (Some v) p H)) right said) in
      record { login = refl; may = k.may; entry = k.entry_is; one = k.one; same = k.one }
  takes (commands.Uninvite None name) is right = absurd (true≢false (sym is))
  takes (commands.Uninvite (Some p) name) is right =
      let k = named (user_named name H) (may_uninvite u H p) (may_uninvite w H p) (λ v. entries.Uninvited p v) is right
      (λ v said right. second5 (is_live p H) (administers u p H) (administers w p H) (committee_at_work H)
      (is_invited (Some v) p H) (not (reviews v p H)) right said) in
      record { login = refl; may = k.may; entry = k.entry_is; one = k.one; same = k.one }
  takes (commands.Tag None tag true) is right = absurd (true≢false (sym is))
  takes (commands.Tag None tag false) is right = absurd (true≢false (sym is))
  takes (commands.Tag (Some p) tag true) is right = record {
    login = refl;
    may = tagged-too (is_live p H) (is_eligible u p H) (committee_at_work H) (chairs u H) (is_eligible w p H)
        (chairs w H) (not (is_for_chairs_alone tag)) is right;
    entry = entries.Tagged p tag true;
    one = refl;
    same = refl;
  }
  takes (commands.Tag (Some p) tag false) is right = record {
    login = refl;
    may = tagged-too (is_live p H) (is_eligible u p H) (committee_at_work H) (chairs u H) (is_eligible w p H)
        (chairs w H) (not (is_for_chairs_alone tag)) is right;
    entry = entries.Tagged p tag false;
    one = refl;
    same = refl;
  }
  takes (commands.Decide None decision) is right = absurd (true≢false (sym is))
  takes (commands.Decide (Some p) decision) is right = record {
    login = refl;
    may = second3 (is_live p H) (administers u p H) (administers w p H) (now Discussion H) right is;
    entry = entries.Decided p decision;
    one = refl;
    same = refl;
  }

  -- a conflict that she has the right to declare isn't her own
  pub not_herself : (p : ℕ) (name : Option (List ℕ)) (on : Bool)
      → right_first (added (Some u) H (commands.SetConflict (Some p) name on)) ≡ true
      → of_some (user_named name H) (λ v. eqb v w) ≡ false
  not_herself p name on right = by (user_named name H) right
    where
      other : (b c : Bool) → (not b && c) ≡ true → b ≡ false
      other false c is = refl
      other true c is = absurd (true≢false (sym is))

      by : (o : Option ℕ) → right_first (listed (option_map (λ v. entries.Conflict p v on) o)) ≡ true
          → of_some o (λ v. eqb v w) ≡ false
      by None right = refl
      by (Some v) right = other (eqb v w) _ right
