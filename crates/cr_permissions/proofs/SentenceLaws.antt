-- SPDX-License-Identifier: Apache-2.0 OR MIT
-- The words of the sentences against those that the lists of checks read, and what is accepted and answered by them.
use Rattle.std.proofs.Common.{ℕ, Bool, true, false, cond, ◌≡◌, List, [], ◌∷◌, ◌++◌, eqb, refl, sym, ap, ◌∙◌, ◌||◌, ◌&&◌}
use Rattle.std.proofs.Common.{arith, Option, Some, None, Result, Err}
use Rattle.std.specs.Prelude.{not, map, nat_le, nat_lt, is_ok, is_some, is_none, find}
use Rattle.std.specs.List.{flat_map, list_any, list_all}
use Rattle.std.specs.Option.{option_map}
use Rattle.std.specs.Str.{bytes_eq}
use Rattle.std.proofs.lemmas.Bool.{eqb-true, eq-eqb, or_left, or_right, true≢false}
use Rattle.std.proofs.lemmas.Bool.Decides.{nat_tests}
use Rattle.cr_base.specs.declared.command.Command.{Command}
use Rattle.cr_base.specs.declared.command.Query.{Query}
use Rattle.cr_base.specs.declared.reply.AccountLine.{AccountLine}
use Rattle.cr_base.specs.declared.reply.Reply.{Reply}
use Rattle.cr_base.specs.declared.reply.Rule.{Rule}
use Rattle.cr_base.specs.declared.retry.RetryKey.{RetryKey}
use Rattle.cr_base.specs.declared.words.Phase.{Phase}
use Rattle.cr_base.specs.declared.words.Phase.TheVariants.{Setup, Submission, Bidding, Reviewing, Response}
use Rattle.cr_base.specs.declared.words.Phase.TheVariants.{Discussion, Notification, Closed}
use Rattle.cr_base.specs.declared.words.Role.{Role}
use Rattle.cr_base.specs.declared.words.Role.TheVariants.{Account, Member, Chair}
use Rattle.cr_base.specs.Answering.{query_checks, reply_or_rule, told_by, answer_by}
use Rattle.cr_base.specs.Calls.{call_of, stamp_of}
use Rattle.cr_base.specs.Checks.{Check, judged}
use Rattle.cr_base.specs.Deadlines.{is_past}
use Rattle.cr_base.specs.Deeds.{Deed, deed_at, drawn_by, is_missing}
use Rattle.cr_base.specs.Drawn.{Drawn}
use Rattle.cr_base.specs.Lists.{at_some, listed}
use Rattle.cr_base.specs.History.{History, Registration, all_told, registration_told}
use Rattle.cr_base.specs.HistoryFacts.{role_of, accounts_of, number_of}
use Rattle.cr_base.specs.Phases.{is_phase, is_from, is_next, committee_works}
use Rattle.cr_base.specs.Resolving.{all_found, resolve}
use Rattle.cr_base.specs.Sources.{is_there, number_in, user_among, users_among, role_among}
use Rattle.cr_base.specs.Words.{is_member, is_chair, role_number}
use Rattle.cr_history.proofs.RuleFacts.{facts_of}
use Rattle.cr_policy.specs.Judge.{judge}
use Rattle.cr_policy.specs.Legal.{Legal}
use Rattle.cr_policy.specs.View.{view}
use Rattle.cr_policy.specs.ViewFacts.{facts_in_view}
use Rattle.cr_policy.specs.Judge.{answer}
use Rattle.cr_policy.specs.Sentences.{is_it, comes_behind, meets, lasts_or_comes_in, is_members, is_chairs, is_above}
use Rattle.cr_policy.specs.Sentences.{of_some, user_named, is_somebody}
use Rattle.cr_policy.proofs.FactAgreement.{facts_in_view-tables}
use Rattle.cr_policy.proofs.LegalLaws.{Legal-answer}
use Rattle.cr_policy.proofs.JudgedByHistory.{shown_of, facts-same, shown-same, judge-history, number-same}
use Rattle.cr_policy.proofs.JudgedByHistory.{told, forms}
use Rattle.cr_permissions.specs.MayRead.{is_told}

-- ---- lists of checks

-- none of them is broken
abbrev pub none_broken : List Check → Bool
none_broken [] = true
none_broken (check ∷ checks) = not check.broken && none_broken checks

-- of two, each of which a word of the sentences says
pub both-said : (a a' b b' : Bool) → a ≡ a' → b ≡ b' → (not (not a) && (not (not b) && true)) ≡ (a' && b')
both-said a a' b b' ha hb = grind arith

-- a list of checks lets through exactly what breaks none of them
pub judged-none_broken : {A : Type 0} (checks : List Check) (drawn : A)
    → is_ok (judged checks drawn) ≡ none_broken checks
judged-none_broken [] drawn = refl
judged-none_broken {A} (check ∷ checks) drawn = by check.broken (judged-none_broken checks drawn)
  where
    by : (b : Bool) → is_ok (judged checks drawn) ≡ none_broken checks
        → is_ok {T = A} {E = Rule} (cond b (Err check.rule) (judged checks drawn)) ≡ (not b && none_broken checks)
    by true rest = refl
    by false rest = rest

-- and a query is answered exactly where none is broken
pub judged-told : (checks : List Check) (reply : Reply) → is_told reply ≡ true
    → is_told (reply_or_rule (judged checks reply)) ≡ none_broken checks
judged-told [] reply tells = tells
judged-told (check ∷ checks) reply tells = by check.broken (judged-told checks reply tells)
  where
    by : (b : Bool) → is_told (reply_or_rule (judged checks reply)) ≡ none_broken checks
        → is_told (reply_or_rule (cond b (Err check.rule) (judged checks reply))) ≡ (not b && none_broken checks)
    by true rest = refl
    by false rest = rest

-- and so is one whose reply may be a rule, where it isn't
pub judged-both : (checks : List Check) (reply : Reply)
    → is_told (reply_or_rule (judged checks reply)) ≡ (none_broken checks && is_told reply)
judged-both [] reply = refl
judged-both (check ∷ checks) reply = by check.broken (judged-both checks reply)
  where
    by : (b : Bool) → is_told (reply_or_rule (judged checks reply)) ≡ (none_broken checks && is_told reply)
        → is_told (reply_or_rule (cond b (Err check.rule) (judged checks reply)))
        ≡ ((not b && none_broken checks) && is_told reply)
    by true rest = refl
    by false rest = rest

-- ---- words

pub phase-same : (a b : Phase) → is_phase b a ≡ is_it a b
phase-same Setup Setup = refl
phase-same Submission Submission = refl
phase-same Bidding Bidding = refl
phase-same Reviewing Reviewing = refl
phase-same Response Response = refl
phase-same Discussion Discussion = refl
phase-same Notification Notification = refl
phase-same Closed Closed = refl
phase-same _ _ = refl

pub next-same : (a b : Phase) → is_next a b ≡ comes_behind a b
next-same Setup Submission = refl
next-same Submission Bidding = refl
next-same Bidding Reviewing = refl
next-same Reviewing Response = refl
next-same Reviewing Discussion = refl
next-same Response Discussion = refl
next-same Discussion Notification = refl
next-same Notification Closed = refl
next-same Closed Setup = refl
next-same _ _ = refl

pub ahead-same : (phase a : Phase) → is_from a phase ≡ lasts_or_comes_in phase a
ahead-same Setup Setup = refl
ahead-same Submission Submission = refl
ahead-same Bidding Bidding = refl
ahead-same Reviewing Reviewing = refl
ahead-same Response Response = refl
ahead-same Discussion Discussion = refl
ahead-same Notification Notification = refl
ahead-same Closed Closed = refl
ahead-same _ _ = refl

pub member-same : (r : Role) → is_member r ≡ is_members r
member-same Account = refl
member-same Member = refl
member-same Chair = refl

pub chair-same : (r : Role) → is_chair r ≡ is_chairs r
chair-same Account = refl
chair-same Member = refl
chair-same Chair = refl

pub in_committee-same : (a : Phase) → committee_works a
    ≡ (is_it Bidding a || is_it Reviewing a || is_it Response a || is_it Discussion a)
in_committee-same Setup = refl
in_committee-same Submission = refl
in_committee-same Bidding = refl
in_committee-same Reviewing = refl
in_committee-same Response = refl
in_committee-same Discussion = refl
in_committee-same Notification = refl
in_committee-same Closed = refl

pub above-same : (r s : Role) → not (nat_le (role_number r) (role_number s)) ≡ is_above r s
above-same Member Account = refl
above-same Chair Account = refl
above-same Chair Member = refl
above-same Account Account = refl
above-same _ _ = refl

pub over-same : (a : Phase) → is_from Notification a ≡ (is_it Notification a || is_it Closed a)
over-same Setup = refl
over-same Submission = refl
over-same Bidding = refl
over-same Reviewing = refl
over-same Response = refl
over-same Discussion = refl
over-same Notification = refl
over-same Closed = refl

pub discussed-same : (a : Phase) → is_from Discussion a
    ≡ (is_it Discussion a || (is_it Notification a || is_it Closed a))
discussed-same Setup = refl
discussed-same Submission = refl
discussed-same Bidding = refl
discussed-same Reviewing = refl
discussed-same Response = refl
discussed-same Discussion = refl
discussed-same Notification = refl
discussed-same Closed = refl

pub reviewed-same : (a : Phase) → is_from Reviewing a
    ≡ ((is_it Reviewing a || is_it Response a) || is_it Discussion a || (is_it Notification a || is_it Closed a))
reviewed-same Setup = refl
reviewed-same Submission = refl
reviewed-same Bidding = refl
reviewed-same Reviewing = refl
reviewed-same Response = refl
reviewed-same Discussion = refl
reviewed-same Notification = refl
reviewed-same Closed = refl

pub own-same : (a : Phase) → (is_from Reviewing a && not (is_from Discussion a))
    ≡ (is_it Reviewing a || is_it Response a)
own-same Setup = refl
own-same Submission = refl
own-same Bidding = refl
own-same Reviewing = refl
own-same Response = refl
own-same Discussion = refl
own-same Notification = refl
own-same Closed = refl

pub closed-same : (a : Phase) → is_from Closed a ≡ is_it Closed a
closed-same Setup = refl
closed-same Submission = refl
closed-same Bidding = refl
closed-same Reviewing = refl
closed-same Response = refl
closed-same Discussion = refl
closed-same Notification = refl
closed-same Closed = refl

pub begun-same : (a : Phase) → is_from Bidding a ≡ not (is_it Setup a || is_it Submission a)
begun-same Setup = refl
begun-same Submission = refl
begun-same Bidding = refl
begun-same Reviewing = refl
begun-same Response = refl
begun-same Discussion = refl
begun-same Notification = refl
begun-same Closed = refl

pub early-same : (a : Phase) → not (is_from Bidding a) ≡ (is_it Setup a || is_it Submission a)
early-same Setup = refl
early-same Submission = refl
early-same Bidding = refl
early-same Reviewing = refl
early-same Response = refl
early-same Discussion = refl
early-same Notification = refl
early-same Closed = refl

pub none-same : (o : Option ℕ) → not (is_some o) ≡ is_none o
none-same None = refl
none-same (Some v) = refl

pub at-same : (says : ℕ → Bool) (o : Option ℕ) → at_some says o ≡ of_some o says
at-same says None = refl
at-same says (Some v) = refl

-- not this many or more are fewer
pub fewer : (m n : ℕ) → not (nat_le m n) ≡ nat_lt n m
fewer m n = grind (arith, nat_tests)

pub up_to : (m n : ℕ) → not (nat_lt m n) ≡ nat_le n m
up_to m n = grind (arith, nat_tests)

-- what isn't past the deadline meets it
pub time-same : (deadline : Option ℕ) (at : ℕ) → not (is_past deadline at) ≡ meets at deadline
time-same None at = refl
time-same (Some deadline) at = up_to deadline at

-- ---- who registered a name

module _ (H : History) where
  abbrev line : Registration → AccountLine
  line r = record { user = r.user; name = r.name; role = role_of (Some r.user) H }

  there-by_name : (name : List ℕ) (v : ℕ) (rs : List Registration)
      → option_map (λ (a : AccountLine). a.user) (find (λ (a : AccountLine). bytes_eq a.name name) (map line rs))
      ≡ Some v
      → list_any (λ (r : Registration). eqb r.user v) rs ≡ true
  there-by_name name v [] found = cc
  there-by_name name v (r ∷ rs) found = by (bytes_eq r.name name) found (there-by_name name v rs)
    where
      rest : Option AccountLine
      rest = find (λ (a : AccountLine). bytes_eq a.name name) (map line rs)

      by : (b : Bool) → option_map (λ (a : AccountLine). a.user) (cond b (Some (line r)) rest) ≡ Some v
          → (option_map (λ (a : AccountLine). a.user) rest ≡ Some v → list_any (λ (r : Registration). eqb r.user v) rs
          ≡ true)
          → (eqb r.user v || list_any (λ (r : Registration). eqb r.user v) rs) ≡ true
      by true is later = let e : r.user ≡ v =
          cc in or_left (eqb r.user v) (list_any (λ (r : Registration). eqb r.user v) rs) (eq-eqb r.user v e)
      by false is later = or_right (eqb r.user v) (list_any (λ (r : Registration). eqb r.user v) rs) (later is)

  role-there : (v : ℕ) (rs : List Registration) → list_any (λ (r : Registration). eqb r.user v) rs ≡ true
      → option_map (λ (a : AccountLine). a.role) (find (λ (a : AccountLine). eqb a.user v) (map line rs))
      ≡ Some (role_of (Some v) H)
  role-there v [] h = cc
  role-there v (r ∷ rs) h = by (eqb r.user v) refl h (role-there v rs)
    where
      by : (b : Bool) → eqb r.user v ≡ b → (b || list_any (λ (r : Registration). eqb r.user v) rs) ≡ true
          → (list_any (λ (r : Registration). eqb r.user v) rs ≡ true
          → option_map (λ (a : AccountLine). a.role) (find (λ (a : AccountLine). eqb a.user v) (map line rs))
          ≡ Some (role_of (Some v) H))
          → option_map (λ (a : AccountLine). a.role)
          (cond b (Some (line r)) (find (λ (a : AccountLine). eqb a.user v) (map line rs)))
          ≡ Some (role_of (Some v) H)
      by true same h rest = ap (λ (n : ℕ). Some (role_of (Some n) H)) (eqb-true r.user v same)
      by false same h rest = rest h

  -- whoever registered a name is among the accounts, with her role
  pub role-by_name : (name : List ℕ) (v : ℕ) → number_in (accounts_of H) name ≡ Some v
      → role_among (accounts_of H) (Some v) ≡ Some (role_of (Some v) H)
  role-by_name name v found =
      role-there v (all_told registration_told H) (there-by_name name v (all_told registration_told H) found)

-- ---- judgement by the facts of the history

module _ (u : Option ℕ) (H : History) (legal : Legal H) where
  module _ (m : ℕ) (key : Option RetryKey) where
    -- a command is accepted exactly where its deed breaks no rule
    pub accepted-checks : (command : Command) → is_ok (judge (view u H) (call_of u m key command))
        ≡ none_broken (deed_at (facts_of u H) (shown_of H) (stamp_of (call_of u m key command))
        (resolve (facts_of u H).accounts command)).checks
    accepted-checks command =
        let d : Deed = deed_at (facts_of u H) (shown_of H) (stamp_of (call_of u m key command))
        (resolve (facts_of u H).accounts command) in
        ap (λ (r : Result Drawn Rule). is_ok r) (judge-history u H legal m key command)
        ∙ judged-none_broken d.checks (drawn_by (facts_of u H).accounts (stamp_of (call_of u m key command)) d)

  -- ---- those named

  -- what is tested of the user of a name
  pub by_name : (test : Option ℕ → Bool) (may : ℕ → Bool) (name : Option (List ℕ)) → test None ≡ false
      → ((v : ℕ) → role_among (accounts_of H) (Some v) ≡ Some (role_of (Some v) H) → test (Some v) ≡ may v)
      → test (user_among (accounts_of H) name) ≡ of_some (user_named name H) may
  by_name test may None none each = none
  by_name test may (Some name) none each = ap test (number-same u H legal name) ∙ by (number_of name H) refl
    where
      by : (found : Option ℕ) → number_of name H ≡ found → test found ≡ of_some found may
      by None is = none
      by (Some v) is = each v (role-by_name H name v (number-same u H legal name ∙ is))

  pub somebody : (name : Option (List ℕ)) → not (is_none (user_among (accounts_of H) name)) ≡ is_somebody name H
  somebody name = by_name (λ (o : Option ℕ). not (is_none o)) (λ v. true) name refl (λ v is. refl)

  pub all_somebody : (names : List (Option (List ℕ)))
      → not (list_any is_none (users_among (accounts_of H) names)) ≡ list_all (λ name. is_somebody name H) names
  all_somebody [] = refl
  all_somebody (name ∷ names) =
      said (is_none (user_among (accounts_of H) name)) (is_somebody name H)
      (list_any is_none (users_among (accounts_of H) names))
      (list_all (λ name. is_somebody name H) names) (somebody name) (all_somebody names)
    where
      said : (x x' y y' : Bool) → not x ≡ x' → not y ≡ y' → not (x || y) ≡ (x' && y')
      said x x' y y' hx hy = grind arith

  -- those found are there
  all-there : (names : List (Option (List ℕ))) → list_any is_none (users_among (accounts_of H) names) ≡ false
      → list_all (is_there (accounts_of H)) (flat_map listed (users_among (accounts_of H) names)) ≡ true
  all-there [] none = refl
  all-there (name ∷ names) none = by name (user_among (accounts_of H) name) refl none (all-there names)
    where
      by : (name : Option (List ℕ)) (found : Option ℕ) → user_among (accounts_of H) name ≡ found
          → (is_none found || list_any is_none (users_among (accounts_of H) names)) ≡ false
          → (list_any is_none (users_among (accounts_of H) names) ≡ false
          → list_all (is_there (accounts_of H)) (flat_map listed (users_among (accounts_of H) names)) ≡ true)
          → list_all (is_there (accounts_of H)) (listed found ++ flat_map listed (users_among (accounts_of H) names))
          ≡ true
      by name None is none rest = absurd (true≢false none)
      by None (Some v) is none rest = cc (is)
      by (Some n) (Some v) is none rest =
          ap (λ (b : Bool). b && list_all (is_there (accounts_of H))
          (flat_map listed (users_among (accounts_of H) names)))
          (ap (λ (r : Option Role). is_some r) (role-by_name H n v is)) ∙ rest none

  pub missing-same : (names : List (Option (List ℕ)))
      → not (is_missing (accounts_of H) (all_found (users_among (accounts_of H) names)))
      ≡ list_all (λ name. is_somebody name H) names
  missing-same names = by (list_any is_none found) refl
    where
      found : List (Option ℕ)
      found = users_among (accounts_of H) names

      by : (b : Bool) → list_any is_none found ≡ b
          → not (is_missing (accounts_of H) (cond b None (Some (flat_map listed found))))
          ≡ list_all (λ name. is_somebody name H) names
      by true is = ap not (sym is) ∙ all_somebody names
      by false is = ap (λ (b : Bool). not (not b)) (all-there names is) ∙ ap not (sym is) ∙ all_somebody names

  -- ---- queries

  -- the facts of the caller's view are those of the history
  pub facts-seen : facts_in_view u (view u H) ≡ facts_of u H
  facts-seen = facts_in_view-tables u H (told u H legal) (forms u H legal) ∙ sym (facts-same u H legal)

  pub answered-as : (query : Query) → is_told (answer u (view u H) query)
      ≡ is_told (answer_by (facts_of u H) (shown_of H) u query)
  answered-as query =
      ap is_told
      (Legal-answer u H query legal ∙ sym (λ i. answer_by (facts-same u H legal i) (shown-same u H legal i) u query))

  pub answered-checks : (query : Query) → is_told (told_by (facts_of u H) (shown_of H) u query) ≡ true
      → is_told (answer u (view u H) query) ≡ none_broken (query_checks (facts_of u H) (shown_of H) query)
  answered-checks query tells =
      answered-as query ∙ judged-told (query_checks (facts_of u H) (shown_of H) query)
      (told_by (facts_of u H) (shown_of H) u query) tells
