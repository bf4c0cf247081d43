-- SPDX-License-Identifier: Apache-2.0 OR MIT
-- Whole groups of commands: what an accepted one adds is a beginning of which no other follows, and each such beginning
-- but a bulk's is what some allowed command adds.
use Rattle.std.proofs.Common.{ℕ, Bool, true, false, cond, ◌≡◌, ◌≤◌, ◌<◌, ◌+◌, ◌||◌, List, [], ◌∷◌, ◌++◌, length, eqb}
use Rattle.std.proofs.Common.{zero, suc, refl, sym, ap, subst, ◌∙◌, arith, Option, Some, None, Result, Ok}
use Rattle.std.specs.Prelude.{is_some, is_none, map, nat_lt, nat_le}
use Rattle.std.specs.List.{AllByRecursion, list_all, list_any, find, flat_map}
use Rattle.std.proofs.lemmas.Bool.{and_parts, not-false, true≢false}
use Rattle.std.proofs.lemmas.Bool.Decides.{nat_tests}
use Rattle.std.proofs.lemmas.List.{length-map}
use Rattle.std.proofs.lemmas.Option.{none-some}
use Rattle.cr_base.specs.declared.command.Call.{Call}
use Rattle.cr_base.specs.declared.command.Command.{Command}
use Rattle.cr_base.specs.declared.command.Command.TheVariants as commands
use Rattle.cr_base.specs.declared.entry.Entry.{Entry}
use Rattle.cr_base.specs.declared.entry.Entry.TheVariants as entries
use Rattle.cr_base.specs.declared.entry.Stamp.{Stamp}
use Rattle.cr_base.specs.declared.reply.AccountLine.{AccountLine}
use Rattle.cr_base.specs.declared.reply.Rule.{Rule}
use Rattle.cr_base.specs.declared.resolved.ResolvedCommand.{ResolvedCommand}
use Rattle.cr_base.specs.declared.resolved.ResolvedCommand.TheVariants as resolved
use Rattle.cr_base.specs.declared.retry.RetryKey.{RetryKey}
use Rattle.cr_base.specs.declared.words.Role.TheVariants as roles
use Rattle.cr_base.specs.Accounts.{lines_of}
use Rattle.cr_base.specs.Bounds.{IsBoundedCommand}
use Rattle.cr_base.specs.Calls.{call_by, stamp_by}
use Rattle.cr_base.specs.Deeds.{Deed, deed_at, drawn_by}
use Rattle.cr_base.specs.Drawn.{Drawn, grouped, besides}
use Rattle.cr_base.specs.History.{History, Registration, all_told, registration_told}
use Rattle.cr_base.specs.HistoryFacts.{role_of}
use Rattle.cr_base.specs.Judging.{judge_by_role, judge_resolved}
use Rattle.cr_base.specs.Lists.{listed}
use Rattle.cr_base.specs.Logins.{command_wants_login}
use Rattle.cr_base.specs.Resolving.{resolve}
use Rattle.cr_base.specs.Sources.{facts_of_tables, is_late, is_there, shown_in_tables, user_among, users_among}
use Rattle.cr_base.specs.Tables.{Tables, tables_of}
use Rattle.cr_base.proofs.AccountLaws.{length-lines_of, number_in-lines_of}
use Rattle.cr_base.proofs.ByNames.{NamedOnce}
use Rattle.cr_base.proofs.CheckLaws.{NoneBroken, judged-Ok, judged-none}
use Rattle.cr_base.proofs.ListLaws.{name_in-lines_of}
use Rattle.cr_base.proofs.ResolvingLaws.{AddsOne, AddsIt, IsLone, adds-it, lone-told}
use Rattle.cr_base.proofs.Small.{is_some-option_map}
use Rattle.cr_history.specs.Invariants.{IsRegistered}
use Rattle.cr_history.proofs.LineAgreement.{accounts_of-tables}
use Rattle.cr_policy.specs.Judge.{judge}
use Rattle.cr_policy.specs.Legal.{CallsAs, IsCaller, IsAllowed, IsKeyOf, IsNewKey, Legal}
use Rattle.cr_policy.specs.View.{view}
use Rattle.cr_policy.proofs.AccountNames.{found_by_name}
use Rattle.cr_policy.proofs.LegalLaws.{Legal-fits, Legal-judge}
use Rattle.cr_beginnings.specs.Beginnings.{giver_told, is_known, may_have_key, fewest_entries, is_first_user, lesser}
use Rattle.cr_beginnings.specs.Beginnings.{IsDrawn, IsFirst}
use Rattle.cr_beginnings.proofs.BeginningAuthors.{coauthors, users-behind, users-few}
use Rattle.cr_beginnings.proofs.BeginningLaws.{unfinished, IsBeginning}
use Rattle.cr_beginnings.proofs.BeginningUsers.{AreNew, besides-all, besides-few, besides-new}

-- ---- who is there

any-found : {A : Type 0} (test : A → Bool) (xs : List A) → list_any test xs ≡ is_some (find test xs)
any-found test [] = refl
any-found test (x ∷ xs) = by (test x) (any-found test xs)
  where
    by : (b : Bool) → list_any test xs ≡ is_some (find test xs)
        → (b || list_any test xs) ≡ is_some (cond b (Some x) (find test xs))
    by true h = refl
    by false h = h

any-line : (H : History) (user : ℕ) (rs : List Registration) → list_any (λ (r : Registration). eqb r.user user) rs
    ≡ list_any (λ (a : AccountLine). eqb a.user user)
    (map (λ (r : Registration). record { user = r.user; name = r.name; role = role_of (Some r.user) H }) rs)
any-line H user [] = refl
any-line H user (r ∷ rs) = ap (λ b. eqb r.user user || b) (any-line H user rs)

-- a user has registered exactly where she is there by the tables
pub registered-there : (H : History) (user : ℕ) → Legal H
    → list_any (λ (r : Registration). eqb r.user user) (all_told registration_told H)
    ≡ is_there (lines_of (tables_of H).accounts) user
registered-there H user legal =
    let lines : List AccountLine = lines_of (tables_of H).accounts in
    any-line H user (all_told registration_told H)
    ∙ ap (list_any (λ (a : AccountLine). eqb a.user user)) (accounts_of-tables H (Legal-fits H legal))
    ∙ any-found (λ (a : AccountLine). eqb a.user user) lines
    ∙ sym (is_some-option_map (λ (a : AccountLine). a.role) (find (λ (a : AccountLine). eqb a.user user) lines))

-- and is found by the name that she has
pub named-once : (H : History) → Legal H → NamedOnce (lines_of (tables_of H).accounts)
named-once H legal user name is =
    number_in-lines_of (tables_of H).accounts name
    ∙ found_by_name H legal user name (sym (name_in-lines_of (tables_of H).accounts user) ∙ is)

-- ---- a group that is whole

-- the group is a beginning of which no other entry follows
pub record IsAdded (H group : History) : Type 0 where
  pub stamp : Stamp
  pub first : Entry
  pub behind : List Entry
  pub group_is : group ≡ grouped stamp (first ∷ behind)
  pub beginning : IsBeginning H stamp first behind false

-- a user's stamp is hers, and its number, if it has one, is new
pub record IsFromUser (H : History) (stamp : Stamp) : Type 0 where
  pub there : is_there (lines_of (tables_of H).accounts) stamp.maker ≡ true
  pub new : IsNewKey H (Some stamp.maker) stamp.key

-- an entry that stands alone is its maker's, and may stand alone
pub lone-giver : (maker : ℕ) (e : Entry) → IsLone e → giver_told maker e ≡ Some maker
lone-giver maker (entries.Registered user name digest) lone = absurd lone
lone-giver maker e lone = refl

pub lone-least : (t : Tables) (e : Entry) → IsLone e → fewest_entries t e ≡ 1
lone-least t (entries.Registered user name digest) lone = absurd lone
lone-least t e lone = refl

pub least : (n : ℕ) → nat_le 1 (n + 1) ≡ true
least n = grind (arith, nat_tests)

-- where the first of a user's entries may stand
pub hers-first : (H : History) (stamp : Stamp) (e : Entry) → IsLone e → IsFromUser H stamp → IsDrawn (tables_of H) stamp e
    → IsFirst H (unfinished stamp e)
hers-first H stamp e lone hers drawn =
    let giver = lone-giver stamp.maker e lone in
    record {
      giver = ap (λ (o : Option ℕ). is_known (tables_of H) o) giver ∙ hers.there;
      key = ap (λ (o : Option ℕ). may_have_key o stamp.key) giver;
      new = hers.new;
      drawn = drawn;
    }

-- ---- what is added is such

module _ (H : History) (legal : Legal H) where
  abbrev t : Tables
  t = tables_of H

  abbrev pub deed_of : Stamp → ResolvedCommand → Deed
  deed_of stamp command = deed_at (facts_of_tables t (Some stamp.maker)) (shown_in_tables t) stamp command

  abbrev drawn_of : Stamp → ResolvedCommand → Drawn
  drawn_of stamp command = drawn_by (lines_of t.accounts) stamp (deed_of stamp command)

  -- of a command that adds one entry
  pub one-begins : (stamp : Stamp) → IsFromUser H stamp → (command : ResolvedCommand) → AddsOne command → (drawn : Drawn)
      → ◌≡◌ {A = Result Drawn Rule}
      (judge_resolved (facts_of_tables t (Some stamp.maker)) (shown_in_tables t) stamp command) (Ok drawn)
      → IsAdded H drawn.group
  one-begins stamp hers command one drawn accepted = record {
    stamp = stamp;
    first = d.first;
    behind = [];
    group_is = sym (ap (λ (x : Drawn). x.group) k.1)
        ∙ (λ i. grouped (record stamp { maker = adds.maker_is i }) (d.first ∷ adds.alone i));
    beginning = record {
      may = hers-first H stamp d.first lone hers (record {
        command = command;
        told = adds.tells;
        accepted = judged-none d.checks tt k.0;
        maker = adds.maker_is;
        first = refl;
      });
      behind_are = tt;
      room = λ some. absurd (omega (arith, some));
      count = ap (λ (n : ℕ). nat_le n 1) (lone-least t d.first lone);
    };
  }
    where
      d : Deed
      d = deed_of stamp command

      k : NoneBroken d.checks × (drawn_of stamp command ≡ drawn)
      k = judged-Ok d.checks (drawn_of stamp command) drawn accepted

      adds : AddsIt (facts_of_tables t (Some stamp.maker)) (shown_in_tables t) stamp.maker
          (is_late (facts_of_tables t (Some stamp.maker)) stamp.at) command
      adds = adds-it (facts_of_tables t (Some stamp.maker)) (shown_in_tables t) stamp.maker
          (is_late (facts_of_tables t (Some stamp.maker)) stamp.at) command one k.0

      lone : IsLone d.first
      lone = lone-told d.first command adds.tells one

  -- ---- of a registration

  -- the number of the first user
  first-number : (n : ℕ) → eqb (n + 1) 1 ≡ eqb n 0
  first-number zero = refl
  first-number (suc n) = grind (arith, nat_tests)

  abbrev next_user : ℕ
  next_user = length (lines_of t.accounts) + 1

  pub first_is : eqb next_user 1 ≡ is_first_user t
  first_is = first-number (length (lines_of t.accounts)) ∙ ap (λ n. eqb n 0) (length-lines_of t.accounts)

  -- what a registration has behind it
  abbrev pub roles_behind : Bool → ℕ → List Entry
  roles_behind b user = cond b (entries.Named user roles.Chair ∷ []) []

  register-begins : (at : ℕ) (name digest : List ℕ) (drawn : Drawn)
      → judge_by_role t (record { caller = None; at = at; key = None; command = commands.Register name digest })
      ≡ Ok drawn
      → IsAdded H drawn.group
  register-begins at name digest drawn accepted = record {
    stamp = stamp;
    first = first;
    behind = roles_behind (is_first_user t) next_user;
    group_is = sym (ap (λ (x : Drawn). x.group) k.1)
        ∙ ap (λ (b : Bool). grouped stamp (first ∷ roles_behind b next_user)) first_is;
    beginning = begun (is_first_user t) refl;
  }
    where
      stamp : Stamp
      stamp = stamp_by next_user at None

      first : Entry
      first = entries.Registered next_user name digest

      d : Deed
      d = deed_at (facts_of_tables t None) (shown_in_tables t) (stamp_by 0 at None) (resolved.Register name digest)

      k : NoneBroken d.checks × (drawn_by (lines_of t.accounts) (stamp_by 0 at None) d ≡ drawn)
      k = judged-Ok d.checks (drawn_by (lines_of t.accounts) (stamp_by 0 at None) d) drawn accepted

      may : IsFirst H (unfinished stamp first)
      may = record {
        giver = refl;
        key = refl;
        new = tt;
        drawn = record {
          command = resolved.Register name digest;
          told = refl;
          accepted = judged-none d.checks tt k.0;
          maker = refl;
          first = refl;
        };
      }

      begun : (b : Bool) → is_first_user t ≡ b → IsBeginning H stamp first (roles_behind b next_user) false
      begun true is = record {
        may = may;
        behind_are = (refl, tt);
        room = λ some. ap (λ (b : Bool). nat_lt 1 (cond b 2 1)) is;
        count = ap (λ (b : Bool). nat_le (cond b 2 1) 2) is;
      }
      begun false is = record {
        may = may;
        behind_are = tt;
        room = λ some. absurd (omega (arith, some));
        count = ap (λ (b : Bool). nat_le (cond b 2 1) 1) is;
      }

  -- ---- of a submission

  -- co-authors who are found are no more than were told
  found-few : (names : List (Option (List ℕ)))
      → length (flat_map listed (users_among (lines_of t.accounts) names)) ≤ length names
  found-few [] = omega arith
  found-few (name ∷ names) = by (user_among (lines_of t.accounts) name) (found-few names)
    where
      by : (o : Option ℕ) → length (flat_map listed (users_among (lines_of t.accounts) names)) ≤ length names
          → length (listed o ++ flat_map listed (users_among (lines_of t.accounts) names)) ≤ length (name ∷ names)
      by None few = omega (arith, few)
      by (Some user) few = omega (arith, few)

  all-there : (users : List ℕ) → list_all (is_there (lines_of t.accounts)) users ≡ true
      → AllByRecursion (λ (user : ℕ). is_there (lines_of t.accounts) user ≡ true) users
  all-there [] all = tt
  all-there (u ∷ users) all =
      let both = and_parts (is_there (lines_of t.accounts) u) (list_all (is_there (lines_of t.accounts)) users) all in
      (both.0, all-there users both.1)

  below-lesser : (k m n : ℕ) → k < m → k < n → nat_lt k (lesser m n) ≡ true
  below-lesser k m n left right = by (nat_le m n)
    where
      below : (n : ℕ) → k < n → nat_lt k n ≡ true
      below n h = grind (arith, nat_tests, h)

      by : (b : Bool) → nat_lt k (cond b m n) ≡ true
      by true = below m left
      by false = below n right

  -- of these users, who are there
  users-begin : (stamp : Stamp) → IsFromUser H stamp → (title abstract : List ℕ) (users : List ℕ)
      → length users ≤ 19
      → NoneBroken (deed_of stamp (resolved.Submit title abstract (Some users))).checks
      → IsBeginning H stamp (deed_of stamp (resolved.Submit title abstract (Some users))).first
      (deed_of stamp (resolved.Submit title abstract (Some users))).behind false
  users-begin stamp hers title abstract users few none = record {
    may = record {
      giver = hers.there;
      key = refl;
      new = hers.new;
      drawn = record {
        command = resolved.Submit title abstract (Some []);
        told = refl;
        accepted = judged-none (deed_of stamp (resolved.Submit title abstract (Some []))).checks tt (refl, none.1);
        maker = refl;
        first = refl;
      };
    };
    behind_are = users-behind t stamp paper title abstract [] others there new;
    room = λ some.
        let n : length (coauthors paper others) ≡ length others
        = length-map others (λ (user : ℕ). entries.Coauthor paper user) in
        let l = besides-few (stamp.maker ∷ []) users in
        let m = users-few t stamp paper title abstract others hers.there there new in
        below-lesser (length (coauthors paper others)) 20 (length t.accounts) (omega (arith, n, l, few))
        (omega (arith, n, m));
    count = least (length (coauthors paper others));
  }
    where
      paper : ℕ
      paper = length (facts_of_tables t (Some stamp.maker)).papers + 1

      others : List ℕ
      others = besides (stamp.maker ∷ []) users

      new : AreNew (stamp.maker ∷ []) others
      new = besides-new (stamp.maker ∷ []) users

      there : AllByRecursion (λ (user : ℕ). is_there (lines_of t.accounts) user ≡ true) others
      there = besides-all (λ (user : ℕ). is_there (lines_of t.accounts) user ≡ true) (stamp.maker ∷ []) users
          (all-there users (not-false (list_all (is_there (lines_of t.accounts)) users) none.0))

  submission-begins : (stamp : Stamp) → IsFromUser H stamp → (title abstract : List ℕ) (names : List (Option (List ℕ)))
      → length names ≤ 19 → (drawn : Drawn)
      → judge_by_role t (call_by stamp (commands.Submit title abstract names)) ≡ Ok drawn → IsAdded H drawn.group
  submission-begins stamp hers title abstract names few drawn accepted =
      by (list_any is_none (users_among (lines_of t.accounts) names)) accepted
    where
      found : List ℕ
      found = flat_map listed (users_among (lines_of t.accounts) names)

      command : Bool → ResolvedCommand
      command missing = resolved.Submit title abstract (cond missing None (Some found))

      by : (missing : Bool)
          → ◌≡◌ {A = Result Drawn Rule}
          (judge_resolved (facts_of_tables t (Some stamp.maker)) (shown_in_tables t) stamp (command missing)) (Ok drawn)
          → IsAdded H drawn.group
      by true accepted =
          let k = judged-Ok (deed_of stamp (command true)).checks (drawn_of stamp (command true)) drawn accepted in
          absurd (true≢false k.0.0)
      by false accepted =
          let k = judged-Ok (deed_of stamp (command false)).checks (drawn_of stamp (command false)) drawn accepted in
          let enough = found-few names in
          record {
            stamp = stamp;
            first = (deed_of stamp (command false)).first;
            behind = (deed_of stamp (command false)).behind;
            group_is = sym (ap (λ (x : Drawn). x.group) k.1);
            beginning = users-begin stamp hers title abstract found (omega (arith, enough, few)) k.0;
          }

  -- ---- of any command

  -- a tag is turned on, and off, by whoever is logged in
  tags-login : (paper : Option ℕ) (tag : List ℕ) (on : Bool) → command_wants_login (commands.Tag paper tag on) ≡ true
  tags-login paper tag true = refl
  tags-login paper tag false = refl

  abbrev Accepts : ℕ → Drawn → Option ℕ → Option RetryKey → Command → Type 0
  Accepts at drawn caller key command =
      judge_by_role t (record { caller = caller; at = at; key = key; command = command }) ≡ Ok drawn

  pub call-begins : (call : Call) (drawn : Drawn) → IsAllowed H call → judge (view call.caller H) call ≡ Ok drawn
      → IsAdded H drawn.group
  call-begins call drawn allowed accepted =
      by call.caller call.command call.key allowed.given.caller allowed.given.bounded allowed.given.key allowed.unused
      (sym (Legal-judge H call legal) ∙ accepted)
    where
      hers : (user : ℕ) (key : Option RetryKey) → IsRegistered H user → IsNewKey H (Some user) key
          → IsFromUser H (stamp_by user call.at key)
      hers user key registered new = record { there = sym (registered-there H user legal) ∙ registered; new = new }

      registers : (caller : Option ℕ) (name digest : List ℕ) (key : Option RetryKey) → caller ≡ None
          → IsKeyOf caller key → Accepts call.at drawn caller key (commands.Register name digest) → IsAdded H drawn.group
      registers None name digest None is keyed accepted = register-begins call.at name digest drawn accepted
      registers None name digest (Some key) is keyed accepted = absurd keyed
      registers (Some user) name digest key is keyed accepted = absurd (none-some user (sym is))

      by : (caller : Option ℕ) (command : Command) (key : Option RetryKey) → IsCaller H caller command
          → IsBoundedCommand command → IsKeyOf caller key → IsNewKey H caller key → Accepts call.at drawn caller key command
          → IsAdded H drawn.group
      by caller (commands.Register name digest) key is bounded keyed new accepted =
          registers caller name digest key is keyed accepted
      by None (commands.Tag paper tag on) key is bounded keyed new accepted =
          absurd (subst (λ (login : Bool). CallsAs H login None) (tags-login paper tag on) is)
      by None command key is bounded keyed new accepted = absurd is
      by (Some user) (commands.Submit title abstract names) key is bounded keyed new accepted =
          submission-begins (stamp_by user call.at key) (hers user key is new) title abstract names bounded.2 drawn
          accepted
      by (Some user) (commands.Tag paper tag on) key is bounded keyed new accepted =
          one-begins (stamp_by user call.at key)
          (hers user key (subst (λ (login : Bool). CallsAs H login (Some user)) (tags-login paper tag on) is) new)
          (resolved.Tag paper tag on) tt drawn accepted
      by (Some user) command key is bounded keyed new accepted =
          one-begins (stamp_by user call.at key) (hers user key is new)
          (resolve (lines_of t.accounts) command) tt drawn accepted
