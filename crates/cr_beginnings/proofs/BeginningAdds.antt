-- SPDX-License-Identifier: Apache-2.0 OR MIT
-- Each beginning of which no other entry follows, but a bulk's of more than one row, is what some allowed command adds:
-- the one that its first entry tells, which names users where that tells their numbers.
use Rattle.std.proofs.Common.{ℕ, Bool, true, false, cond, ◌≡◌, ◌≤◌, ◌+◌, ◌&&◌, List, [], ◌∷◌, length, eqb, zero, suc}
use Rattle.std.proofs.Common.{refl, sym, ap, subst, ◌∙◌, arith, Option, Some, None, IfSome}
use Rattle.std.specs.Prelude.{is_none, nat_lt, nat_le, not}
use Rattle.std.specs.List.{AllByRecursion, list_all}
use Rattle.std.proofs.lemmas.Bool.{true≢false}
use Rattle.std.proofs.lemmas.Bool.Decides.{nat_tests}
use Rattle.std.proofs.lemmas.List.{length-map}
use Rattle.std.proofs.lemmas.Option.{same_Some}
use Rattle.cr_base.specs.declared.command.Call.{Call}
use Rattle.cr_base.specs.declared.command.Command.{Command}
use Rattle.cr_base.specs.declared.command.Command.TheVariants as commands
use Rattle.cr_base.specs.declared.entry.Entry.{Entry}
use Rattle.cr_base.specs.declared.entry.Entry.TheVariants as entries
use Rattle.cr_base.specs.declared.entry.Stamp.{Stamp}
use Rattle.cr_base.specs.declared.reply.AccountLine.{AccountLine}
use Rattle.cr_base.specs.declared.resolved.ResolvedCommand.{ResolvedCommand}
use Rattle.cr_base.specs.declared.resolved.ResolvedCommand.TheVariants as resolved
use Rattle.cr_base.specs.declared.retry.RetryKey.{RetryKey}
use Rattle.cr_base.specs.declared.words.Phase.{Phase}
use Rattle.cr_base.specs.declared.words.Phase.TheVariants.{Setup, Submission, Bidding, Reviewing, Response, Discussion}
use Rattle.cr_base.specs.declared.words.Phase.TheVariants.{Notification, Closed}
use Rattle.cr_base.specs.declared.words.Role.{Role}
use Rattle.cr_base.specs.declared.words.Role.TheVariants as roles
use Rattle.cr_base.specs.Accounts.{lines_of}
use Rattle.cr_base.specs.Bounds.{IsBoundedCommand}
use Rattle.cr_base.specs.Calls.{call_by, stamp_by}
use Rattle.cr_base.specs.Deadlines.{last_deadline, IsDeadline, IsDeadlineOrNone}
use Rattle.cr_base.specs.Deeds.{Deed, deed_at, drawn_by}
use Rattle.cr_base.specs.Drawn.{stamped, grouped}
use Rattle.cr_base.specs.History.{History}
use Rattle.cr_base.specs.Judging.{judge_resolved}
use Rattle.cr_base.specs.Logins.{command_wants_login}
use Rattle.cr_base.specs.Phases.{may_have_deadline}
use Rattle.cr_base.specs.Resolving.{command_of}
use Rattle.cr_base.specs.Rows.{until_number, IsBoundedEntry}
use Rattle.cr_base.specs.Shapes.{InRange, deadline_phase_range}
use Rattle.cr_base.specs.Sources.{facts_of_tables, is_late, is_there, name_in, shown_in_tables}
use Rattle.cr_base.specs.Tables.{Tables, tables_of}
use Rattle.cr_base.specs.Words.{is_member, phase_number, role_number}
use Rattle.cr_base.proofs.ByNames.{by_names, judged-by_names, names_told, resolves-back}
use Rattle.cr_base.proofs.CheckLaws.{NoneBroken, judged-none}
use Rattle.cr_base.proofs.ResolvingLaws.{AddsIt, IsLone, adds-it, lone-one}
use Rattle.cr_policy.specs.Legal.{CallsAs, IsAllowed, IsNewKey, Legal}
use Rattle.cr_policy.proofs.AcceptedLaws.{key-given}
use Rattle.cr_policy.proofs.LegalLaws.{Legal-judge}
use Rattle.cr_beginnings.specs.Beginnings.{is_known, is_first_user, lesser, IsDrawn, IsFirst}
use Rattle.cr_beginnings.proofs.BeginningAuthors.{coauthors, Told, behind-users}
use Rattle.cr_beginnings.proofs.BeginningCalls.{registered-there, named-once, deed_of, first_is, lone-giver, roles_behind}
use Rattle.cr_beginnings.proofs.BeginningLaws.{unfinished, AreBehind, IsBeginning, drawn-unbroken, drawn-judged, drawn-group}
use Rattle.cr_beginnings.proofs.BeginningUsers.{new-besides}
use Rattle.cr_beginnings.proofs.GroupLegal.{MayAdd}
use Rattle.cr_beginnings.proofs.GroupRows.{bounded-stamp}

-- ---- within the bounds

member_named : (role : Role) → 1 ≤ role_number role → is_member role ≡ true
member_named roles.Account h = absurd (omega (arith, h))
member_named roles.Member h = refl
member_named roles.Chair h = refl

-- a phase whose number a deadline's row may have is one that may have a deadline
phase_numbered-may : (phase : Phase) → InRange deadline_phase_range (phase_number phase)
    → may_have_deadline phase ≡ true
phase_numbered-may Setup within = let low = within.0.0 in absurd (omega (arith, low))
phase_numbered-may Submission within = refl
phase_numbered-may Bidding within = refl
phase_numbered-may Reviewing within = refl
phase_numbered-may Response within = refl
phase_numbered-may Discussion within = refl
phase_numbered-may Notification within = absurd (true≢false within.1)
phase_numbered-may Closed within = absurd (true≢false within.1)

-- and a deadline whose number it may have is within the bounds of one
until_numbered-within : (until : Option ℕ) → until_number until ≤ last_deadline → IsDeadlineOrNone until
until_numbered-within None high = tt
until_numbered-within (Some n) high = by (eqb n 0) refl high
  where
    by : (b : Bool) → eqb n 0 ≡ b → cond b 253402207201 n ≤ last_deadline → IsDeadline n
    by true none high = absurd (omega (arith, high))
    by false some high = let low : 1 ≤ n = grind (arith, nat_tests, some) in (low, high)

module _ (lines : List AccountLine) (stamp : Stamp) (more : Bool) where
  -- the command that an entry tells is within its bounds, where the entry is within its own
  bounded-told : (e : Entry) → IsLone e → IsBoundedEntry (stamped stamp more e)
      → IfSome (command_of e) (λ (c : ResolvedCommand). IsBoundedCommand (by_names lines c))
  bounded-told (entries.Registered user name digest) lone b = absurd lone
  bounded-told (entries.Submitted paper title abstract) lone b = absurd lone
  bounded-told (entries.Named user role) lone b = member_named role b.n2.0
  bounded-told (entries.Revised paper title abstract) lone b = (b.b1, b.b2)
  bounded-told (entries.Uploaded paper version content) lone b = b.b1
  bounded-told (entries.Bid paper value) lone b = b.n2.1
  bounded-told (entries.Reviewed paper ordinal version form) lone b =
      record { score = b.n4; confidence = b.n5; to_authors = b.b1; to_pc = b.b2 }
  bounded-told (entries.Responded paper text) lone b = b.b1
  bounded-told (entries.Commented paper n ordinal text) lone b = b.b1
  bounded-told (entries.Tagged paper tag on) lone b = b.b1
  bounded-told (entries.DeadlineSet phase until) lone b =
      (phase_numbered-may phase b.n1, until_numbered-within until b.n2.1)
  bounded-told e lone b = tt

  -- and wants a login
  login-told : (e : Entry) → IsLone e
      → IfSome (command_of e) (λ (c : ResolvedCommand). command_wants_login (by_names lines c) ≡ true)
  login-told (entries.Registered user name digest) lone = absurd lone
  login-told (entries.Submitted paper title abstract) lone = absurd lone
  login-told (entries.Coauthor paper user) lone = tt
  login-told (entries.Tagged paper tag true) lone = refl
  login-told (entries.Tagged paper tag false) lone = refl
  login-told e lone = refl

-- ---- commands

module _ (H : History) (legal : Legal H) where
  abbrev t : Tables
  t = tables_of H

  abbrev lines : List AccountLine
  lines = lines_of t.accounts

  -- a user's call is allowed, where her stamp and the command are within the bounds, and its number is new
  hers-allowed : (stamp : Stamp) (more : Bool) (e : Entry) → IsBoundedEntry (stamped stamp more e)
      → is_there lines stamp.maker ≡ true → IsNewKey H (Some stamp.maker) stamp.key
      → (command : Command) → command_wants_login command ≡ true → IsBoundedCommand command
      → IsAllowed H (call_by stamp command)
  hers-allowed stamp more e bounded there new command login within =
      let fits = bounded-stamp (stamped stamp more e) bounded in
      record {
        given = record {
          caller = subst (λ (b : Bool). CallsAs H b (Some stamp.maker)) (sym login)
              (registered-there H stamp.maker legal ∙ there);
          bounded = within;
          moment = fits.at;
          key = key-given stamp.maker stamp.key fits.key;
        };
        unused = new;
      }

  -- whoever gives it is there
  giver-there : (stamp : Stamp) (e : Entry) → IsLone e → IsFirst H (unfinished stamp e)
      → is_there lines stamp.maker ≡ true
  giver-there stamp e lone may =
      ap (λ (o : Option ℕ). is_known t o) (sym (lone-giver stamp.maker e lone)) ∙ may.giver

  -- an entry that stands alone
  pub alone-adds : (stamp : Stamp) (more : Bool) (e : Entry) → IsLone e → IsFirst H (unfinished stamp e)
      → IsBoundedEntry (stamped stamp more e) → MayAdd H (grouped stamp (e ∷ []))
  alone-adds stamp more e lone may bounded = record {
    call = call_by stamp command;
    allowed = hers-allowed stamp more e bounded (giver-there stamp e lone may) may.new command
        (subst (λ (o : Option ResolvedCommand). IfSome o
        (λ (c : ResolvedCommand). command_wants_login (by_names lines c) ≡ true)) d.told (login-told lines stamp more e lone))
        (subst (λ (o : Option ResolvedCommand). IfSome o
        (λ (c : ResolvedCommand). IsBoundedCommand (by_names lines c))) d.told
        (bounded-told lines stamp more e lone bounded));
    drawn = drawn_by lines stamp (deed_of H legal stamp d.command);
    accepted = Legal-judge H (call_by stamp command) legal
        ∙ ap (λ (c : ResolvedCommand). judge_resolved (facts_of_tables t (Some stamp.maker)) (shown_in_tables t) stamp c)
        (judged-by_names (facts_of_tables t (Some stamp.maker)) (shown_in_tables t) stamp.maker
        (is_late (facts_of_tables t (Some stamp.maker)) stamp.at) (named-once H legal) d.command
        (drawn-unbroken t stamp e d))
        ∙ drawn-judged t stamp e d;
    group_is = sym (drawn-group t stamp e d ∙ ap (λ (es : List Entry). grouped stamp (e ∷ es)) adds.alone);
  }
    where
      d : IsDrawn t stamp e
      d = may.drawn

      command : Command
      command = by_names lines d.command

      adds : AddsIt (facts_of_tables t (Some stamp.maker)) (shown_in_tables t) stamp.maker
          (is_late (facts_of_tables t (Some stamp.maker)) stamp.at) d.command
      adds = adds-it (facts_of_tables t (Some stamp.maker)) (shown_in_tables t) stamp.maker
          (is_late (facts_of_tables t (Some stamp.maker)) stamp.at) d.command (lone-one e d.command d.told lone)
          (drawn-unbroken t stamp e d)

  -- ---- what is known of a first entry that tells a command

  record Tells (stamp : Stamp) (command : ResolvedCommand) (e : Entry) : Type 0 where
    none : NoneBroken (deed_of H legal stamp command).checks
    maker : (deed_of H legal stamp command).maker ≡ stamp.maker
    first : (deed_of H legal stamp command).first ≡ e

  tells : (stamp : Stamp) (e : Entry) (command : ResolvedCommand) → command_of e ≡ Some command
      → (d : IsDrawn t stamp e) → Tells stamp command e
  tells stamp e command is d =
      subst (λ (c : ResolvedCommand). Tells stamp c e) (same_Some d.command command (sym d.told ∙ is))
      (record { none = drawn-unbroken t stamp e d; maker = d.maker; first = d.first })

  -- ---- a registration

  -- what stands behind it is what it has behind it
  registered-behind : (stamp : Stamp) (user : ℕ) (name digest : List ℕ) (behind : List Entry)
      → IsBeginning H stamp (entries.Registered user name digest) behind false
      → behind ≡ roles_behind H legal (is_first_user t) user
  registered-behind stamp user name digest behind begun = by (is_first_user t) refl behind begun.behind_are begun.room
      begun.count
    where
      no-two : (n : ℕ) → nat_lt (suc (suc n)) 2 ≡ true → ⊥
      no-two n h = grind (arith, nat_tests, h)

      no-one : (n : ℕ) → nat_lt (suc n) 1 ≡ true → ⊥
      no-one n h = grind (arith, nat_tests, h)

      by : (b : Bool) → is_first_user t ≡ b → (behind : List Entry)
          → AreBehind t stamp (entries.Registered user name digest) [] behind
          → (1 ≤ length behind → nat_lt (length behind) (cond (is_first_user t) 2 1) ≡ true)
          → nat_le (cond (is_first_user t) 2 1) (length behind + 1) ≡ true
          → behind ≡ roles_behind H legal b user
      by true is [] are room count =
          absurd (true≢false (sym count ∙ ap (λ (b : Bool). nat_le (cond b 2 1) 1) is))
      by true is (e ∷ []) are room count = ap (λ (x : Entry). x ∷ []) are.0
      by true is (e ∷ next ∷ es) are room count =
          absurd (no-two (length es)
          (sym (ap (λ (b : Bool). nat_lt (suc (suc (length es))) (cond b 2 1)) is) ∙ room (omega arith)))
      by false is [] are room count = refl
      by false is (e ∷ es) are room count =
          absurd (no-one (length es)
          (sym (ap (λ (b : Bool). nat_lt (suc (length es)) (cond b 2 1)) is) ∙ room (omega arith)))

  pub register-adds : (stamp : Stamp) (more : Bool) (user : ℕ) (name digest : List ℕ) (behind : List Entry)
      → IsBeginning H stamp (entries.Registered user name digest) behind false
      → IsBoundedEntry (stamped stamp more (entries.Registered user name digest))
      → MayAdd H (grouped stamp (entries.Registered user name digest ∷ behind))
  register-adds stamp more user name digest behind begun bounded =
      by stamp.key refl begun.may.key
    where
      is : Tells stamp (resolved.Register name digest) (entries.Registered user name digest)
      is = tells stamp (entries.Registered user name digest) (resolved.Register name digest) refl begun.may.drawn

      next_user : ℕ
      next_user = length lines + 1

      number : next_user ≡ user
      number = cc (is.first)

      d : Deed
      d = deed_at (facts_of_tables t None) (shown_in_tables t) (stamp_by 0 stamp.at None) (resolved.Register name digest)

      roles_are : behind ≡ roles_behind H legal (eqb next_user 1) next_user
      roles_are = registered-behind stamp user name digest behind begun
          ∙ (λ i. roles_behind H legal (sym (first_is H legal) i) (sym number i))

      by : (key : Option RetryKey) → stamp.key ≡ key → is_none key ≡ true
          → MayAdd H (grouped stamp (entries.Registered user name digest ∷ behind))
      by (Some key) keyed keyless = absurd (true≢false (sym keyless))
      by None keyed keyless =
          let call : Call = record { caller = None; at = stamp.at; key = None; command = commands.Register name digest }
          in
          record {
            call = call;
            allowed = record {
              given = record {
                caller = refl;
                bounded = (bounded.b1, bounded.b2);
                moment = (bounded-stamp (stamped stamp more (entries.Registered user name digest)) bounded).at;
                key = tt;
              };
              unused = tt;
            };
            drawn = drawn_by lines (stamp_by 0 stamp.at None) d;
            accepted = Legal-judge H call legal
                ∙ judged-none d.checks (drawn_by lines (stamp_by 0 stamp.at None) d) is.none;
            group_is = λ i. grouped
                (record { maker = sym is.maker i; at = stamp.at; key = keyed i })
                (entries.Registered (sym number i) name digest ∷ roles_are i);
          }

  -- ---- a submission

  pub submission-adds : (stamp : Stamp) (more : Bool) (paper : ℕ) (title abstract : List ℕ) (behind : List Entry)
      → IsBeginning H stamp (entries.Submitted paper title abstract) behind false
      → IsBoundedEntry (stamped stamp more (entries.Submitted paper title abstract))
      → MayAdd H (grouped stamp (entries.Submitted paper title abstract ∷ behind))
  submission-adds stamp more paper title abstract behind begun bounded = record {
    call = call_by stamp (by_names lines command);
    allowed = hers-allowed stamp more (entries.Submitted paper title abstract) bounded begun.may.giver begun.may.new
        (by_names lines command) refl (bounded.b1, bounded.b2, few);
    drawn = drawn_by lines stamp d;
    accepted = Legal-judge H (call_by stamp (by_names lines command)) legal
        ∙ ap (λ (c : ResolvedCommand). judge_resolved (facts_of_tables t (Some stamp.maker)) (shown_in_tables t) stamp c)
        (resolves-back lines (named-once H legal) command told.there)
        ∙ judged-none d.checks (drawn_by lines stamp d) (all-there told.users told.there, is.none.1);
    group_is = (λ i. grouped stamp (entries.Submitted (sym number i) title abstract ∷ told.behind_is i))
        ∙ (λ i. grouped stamp (entries.Submitted next_paper title abstract
        ∷ coauthors (sym number i) (sym (new-besides (stamp.maker ∷ []) told.users told.new) i)));
  }
    where
      told : Told t stamp paper title abstract [] behind
      told = behind-users t stamp paper title abstract [] behind begun.behind_are

      is : Tells stamp (resolved.Submit title abstract (Some [])) (entries.Submitted paper title abstract)
      is = tells stamp (entries.Submitted paper title abstract) (resolved.Submit title abstract (Some [])) refl
          begun.may.drawn

      command : ResolvedCommand
      command = resolved.Submit title abstract (Some told.users)

      d : Deed
      d = deed_of H legal stamp command

      next_paper : ℕ
      next_paper = length (facts_of_tables t (Some stamp.maker)).papers + 1

      number : next_paper ≡ paper
      number = cc (is.first)

      all-there : (users : List ℕ) → AllByRecursion (λ (user : ℕ). is_there lines user ≡ true) users
          → not (list_all (is_there lines) users) ≡ false
      all-there users there = ap not (each users there)
        where
          each : (users : List ℕ) → AllByRecursion (λ (user : ℕ). is_there lines user ≡ true) users
              → list_all (is_there lines) users ≡ true
          each [] there = refl
          each (u ∷ users) there = ap (λ (b : Bool). b && list_all (is_there lines) users) there.0 ∙ each users there.1

      few : length (names_told lines (Some told.users)) ≤ 19
      few =
          let n : length (names_told lines (Some told.users)) ≡ length told.users =
          length-map told.users (λ (user : ℕ). name_in lines user) in
          let m : length behind ≡ length told.users =
          ap length told.behind_is ∙ length-map told.users (λ (user : ℕ). entries.Coauthor paper user) in
          let l = enough (length behind) begun.room in
          omega (arith, n, m, l)
        where
          below : (n k : ℕ) → nat_lt n (lesser 20 k) ≡ true → n ≤ 19
          below n k h = by (nat_le 20 k) refl h
            where
              by : (b : Bool) → nat_le 20 k ≡ b → nat_lt n (cond b 20 k) ≡ true → n ≤ 19
              by true is h = grind (arith, nat_tests, h)
              by false is h = grind (arith, nat_tests, h, is)

          enough : (n : ℕ) → (1 ≤ n → nat_lt n (lesser 20 (length t.accounts)) ≡ true) → n ≤ 19
          enough zero room = omega arith
          enough (suc n) room = below (suc n) (length t.accounts) (room (omega arith))
