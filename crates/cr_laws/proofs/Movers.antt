-- SPDX-License-Identifier: Apache-2.0 OR MIT
-- Who gives a command or a bulk, by the entries that it adds; and each that is accepted can be wished, by the name of
-- whoever gives it and the digest of her secret.
use Rattle.std.proofs.Common.{ℕ, Bool, true, false, cond, ◌≡◌, List, [], ◌∷◌, ◌++◌, map, refl, sym, ap, subst, ◌∙◌}
use Rattle.std.proofs.Common.{Option, Some, None, Result, Ok, Err, append-nil}
use Rattle.std.specs.List.{AllByRecursion}
use Rattle.std.proofs.lemmas.Bool.{true≢false}
use Rattle.std.proofs.lemmas.List.{append_cancel_left}
use Rattle.cr_base.specs.declared.bulk.Broken.{Broken}
use Rattle.cr_base.specs.declared.bulk.BulkRow.{BulkRow}
use Rattle.cr_base.specs.declared.command.Call.{Call}
use Rattle.cr_base.specs.declared.command.Command.{Command}
use Rattle.cr_base.specs.declared.command.Command.TheVariants.{Register, Tag}
use Rattle.cr_base.specs.declared.entry.Entry.{Entry}
use Rattle.cr_base.specs.declared.entry.Entry.TheVariants.{Registered, Named}
use Rattle.cr_base.specs.declared.entry.Stamp.{Stamp}
use Rattle.cr_base.specs.declared.entry.Stamped.{Stamped}
use Rattle.cr_base.specs.declared.reply.Rule.{Rule}
use Rattle.cr_base.specs.declared.retry.RetryKey.{RetryKey}
use Rattle.cr_base.specs.declared.words.Role.TheVariants.{Chair}
use Rattle.cr_base.specs.Calls.{BulkCall, call_of, bulk_by, maker_of}
use Rattle.cr_base.specs.Drawn.{Drawn, stamped, grouped}
use Rattle.cr_base.specs.History.{History}
use Rattle.cr_base.specs.HistoryFacts.{accounts_of}
use Rattle.cr_base.specs.Lists.{given, is_nothing}
use Rattle.cr_base.specs.Logins.{command_wants_login}
use Rattle.cr_base.specs.Retries.{Judged}
use Rattle.cr_history.specs.Invariants.{IsRegistered}
use Rattle.cr_policy.specs.Added.{next_user, stamp_added}
use Rattle.cr_policy.specs.Judge.{judge, judge_bulk, decide_bulk}
use Rattle.cr_policy.specs.Legal.{Move, calls, bulks, CallsAs, IsCaller, IsKeyOf, IsAllowed, IsBulkAllowed}
use Rattle.cr_policy.specs.Legal.{IsMoveAllowed, moved, followed_by, Legal}
use Rattle.cr_policy.specs.View.{view}
use Rattle.cr_policy.proofs.AddedLaws.{adds_as_said}
use Rattle.cr_policy.proofs.NumberLaws.{IsGroup, accepted-group}
use Rattle.cr_bodies.specs.declared.credentials.Credentials.{Credentials}
use Rattle.cr_wire.specs.declared.what.What.{What}
use Rattle.cr_wire.specs.declared.what.What.TheVariants as whats
use Rattle.cr_wire.specs.declared.what.Wish.{Wish}
use Rattle.cr_wire.specs.Bounds.{IsKeyFor}
use Rattle.cr_wire.specs.Caller.{caller, wants_login, user_told}
use Rattle.cr_session.specs.Told.{drawn}
use Rattle.cr_session.specs.Turning.{IsBoundedWish}
use Rattle.cr_session.proofs.Accepting.{Accepts, by_command, by_bulk}
use Rattle.cr_session.proofs.TurnLaws.{MayWish}
use Rattle.cr_laws.specs.RunsEndSo.{registers}
use Rattle.cr_laws.proofs.AcceptedWishes.{command-accepted, bulk-accepted, command-draws, bulk-draws_it}
use Rattle.cr_laws.proofs.Cuts.{IsOneCommand, NextMove}
use Rattle.cr_laws.proofs.LogIns.{CallsBy, calls-by}
use Rattle.cr_laws.proofs.MadeBy.{user-made, bulk-made}

-- ---- a registration

-- it adds the new user's entry, and the first of all names her a chair
abbrev registration : History → Stamp → List ℕ → List ℕ → History
registration H stamp name digest =
    grouped stamp (Registered (next_user H) name digest ∷ given (is_nothing (accounts_of H)) (Named 1 Chair))

pub record IsRegistration (H : History) (g : History) : Type 0 where
  pub stamp : Stamp
  pub name : List ℕ
  pub digest : List ℕ
  pub maker : stamp.maker ≡ next_user H
  pub is : g ≡ registration H stamp name digest

abbrev first_of : History → Option Stamped
first_of [] = None
first_of (e ∷ g) = Some e

abbrev two : Stamp → Entry → Bool → History
two stamp e b = grouped stamp (e ∷ given b (Named 1 Chair))

first-two : (stamp : Stamp) (e : Entry) (b : Bool) → first_of (two stamp e b) ≡ Some (stamped stamp b e)
first-two stamp e true = refl
first-two stamp e false = refl

one-two : (stamp : Stamp) (e : Entry) (b : Bool) → IsOneCommand (two stamp e b)
one-two stamp e true = (refl, refl)
one-two stamp e false = refl

same-some : (e other : Stamped) → ◌≡◌ {A = Option Stamped} (Some e) (Some other) → e ≡ other
same-some e other is = cc

pub registration-one : (H g : History) → IsRegistration H g → IsOneCommand g
registration-one H g new =
    subst IsOneCommand (sym new.is)
    (one-two new.stamp (Registered (next_user H) new.name new.digest) (is_nothing (accounts_of H)))

first-is : (H : History) (e : Stamped) (g : History) (new : IsRegistration H (e ∷ g))
    → e ≡ stamped new.stamp (is_nothing (accounts_of H)) (Registered (next_user H) new.name new.digest)
first-is H e g new =
    same-some e (stamped new.stamp (is_nothing (accounts_of H)) (Registered (next_user H) new.name new.digest))
    (ap first_of new.is
    ∙ first-two new.stamp (Registered (next_user H) new.name new.digest) (is_nothing (accounts_of H)))

pub registration-maker : (H : History) (e : Stamped) (g : History) → IsRegistration H (e ∷ g)
    → e.stamp.maker ≡ next_user H
registration-maker H e g new = ap (λ (x : Stamped). x.stamp.maker) (first-is H e g new) ∙ new.maker

pub registration-registers : (H : History) (e : Stamped) (g : History) → IsRegistration H (e ∷ g)
    → registers e.entry ≡ true
registration-registers H e g new = ap (λ (x : Stamped). registers x.entry) (first-is H e g new)

-- two that begin alike, on histories that both have an account or both have none, are the same
pub registration-same : (H K : History) (e other : Stamped) (g h : History) → IsRegistration H (e ∷ g)
    → IsRegistration K (other ∷ h) → is_nothing (accounts_of H) ≡ is_nothing (accounts_of K) → e ≡ other
    → e ∷ g ≡ other ∷ h
registration-same H K e other g h new also nothing same =
    let first : stamped new.stamp (is_nothing (accounts_of H)) (Registered (next_user H) new.name new.digest)
    ≡ stamped also.stamp (is_nothing (accounts_of K)) (Registered (next_user K) also.name also.digest) =
    sym (first-is H e g new) ∙ same ∙ first-is K other h also in
    new.is ∙ (λ i. two (first i).stamp (first i).entry (nothing i)) ∙ sym also.is

-- ---- who gives it

-- a user who has registered made all of the group, or nobody registers by it
pub data GivenBy (H : History) (u : Option ℕ) (g : History) : Type 0 where
  by_user : (user : ℕ) → u ≡ Some user → IsRegistered H user
      → AllByRecursion (λ (e : Stamped). e.stamp.maker ≡ user) g → GivenBy H u g
  by_nobody : u ≡ None → IsRegistration H g → GivenBy H u g

entries-grouped : (stamp : Stamp) (es : List Entry) → map (λ (e : Stamped). e.entry) (grouped stamp es) ≡ es
entries-grouped stamp [] = refl
entries-grouped stamp (e ∷ []) = refl
entries-grouped stamp (e ∷ next ∷ es) = ap (λ (xs : List Entry). e ∷ xs) (entries-grouped stamp (next ∷ es))

module _ (H : History) (legal : Legal H) where
  -- a user gives a command that wants a login, and nobody another
  login-user : (user : ℕ) (login : Bool) → CallsAs H login (Some user) → (login ≡ true) × IsRegistered H user
  login-user user true given = (refl, given)
  login-user user false given = absurd (some user given)
    where
      some : (user : ℕ) → ◌≡◌ {A = Option ℕ} (Some user) None → ⊥
      some user is = cc

  login-nobody : (login : Bool) → CallsAs H login None → login ≡ false
  login-nobody true given = absurd given
  login-nobody false given = refl

  new-given : (at : ℕ) (key : Option RetryKey) (command : Command) (d : Drawn)
      → IsAllowed H (call_of None at key command) → IsCaller H None command
      → judge (view None H) (call_of None at key command) ≡ Ok d → IsRegistration H d.group
  new-given at key (Register name digest) d allowed asks accepted =
      let call : Call = call_of None at key (Register name digest) in
      let group : IsGroup (stamp_added H call) d.group = accepted-group H call d legal allowed accepted in
      record {
        stamp = stamp_added H call;
        name = name;
        digest = digest;
        maker = refl;
        is = group.is
            ∙ ap (grouped (stamp_added H call))
            (sym (entries-grouped (stamp_added H call) group.entries)
            ∙ ap (map (λ (e : Stamped). e.entry)) (sym group.is)
            ∙ (adds_as_said H call d legal asks accepted).entries);
      }
  new-given at key (Tag paper tag true) d allowed asks accepted = absurd asks
  new-given at key (Tag paper tag false) d allowed asks accepted = absurd asks
  new-given at key command d allowed asks accepted = absurd asks

  pub call-given : (u : Option ℕ) (at : ℕ) (key : Option RetryKey) (command : Command) (d : Drawn)
      → IsAllowed H (call_of u at key command) → judge (view u H) (call_of u at key command) ≡ Ok d
      → GivenBy H u d.group
  call-given (Some user) at key command d allowed accepted =
      by_user user refl (login-user user (command_wants_login command) allowed.given.caller).1
      (user-made H d user at key command legal allowed.given.caller accepted)
  call-given None at key command d allowed accepted =
      by_nobody refl (new-given at key command d allowed allowed.given.caller accepted)

  pub wish-given : (w : Wish) (d : Drawn) → IsBoundedWish w → Accepts H w (caller H w) d
      → GivenBy H (caller H w) d.group
  wish-given w d bounds (by_command key command may decided) =
      let accepted = command-accepted H w d bounds (caller H w) key command may decided in
      call-given (caller H w) w.at key command d accepted.0 accepted.1
  wish-given w d bounds (by_bulk key rows may decided) = by (caller H w) refl may decided
    where
      by : (u : Option ℕ) → caller H w ≡ u → MayWish H w u (whats.Bulk key rows)
          → decide_bulk (view u H) (bulk_by (maker_of u) w.at key rows) ≡ Judged (Ok d)
          → GivenBy H (caller H w) d.group
      by None is may decided = absurd (true≢false may.may)
      by (Some user) is may decided =
          let accepted = bulk-accepted H w d bounds user key rows may decided in
          by_user user is accepted.0.given.caller (bulk-made H d (bulk_by user w.at key rows) accepted.1)

  -- ---- it can be wished

  pub record Wished (g : History) : Type 0 where
    pub wish : Wish
    pub within : IsBoundedWish wish
    pub again : Drawn
    pub draws : drawn H wish ≡ Some again
    pub group : again.group ≡ g
    pub by : GivenBy H (caller H wish) g

  -- by these credentials, or none
  abbrev wish_by : Option Credentials → ℕ → What → Wish
  wish_by credentials at what =
      record { credentials = credentials; is_head = false; asks_close = false; at = at; what = what }

  abbrev credentials_of : (v : ℕ) → CallsBy H v → Option Credentials
  credentials_of v by = Some (record { name = by.name; digest = by.digest })

  nobody-calls : (b : Bool) → cond b (user_told None H) None ≡ None
  nobody-calls true = refl
  nobody-calls false = refl

  user-calls : (v : ℕ) (by : CallsBy H v) (at : ℕ) (what : What) → wants_login what ≡ true
      → caller H (wish_by (credentials_of v by) at what) ≡ Some v
  user-calls v by at what reads =
      ap (λ (b : Bool). cond b (user_told (credentials_of v by) H) None) reads ∙ by.is

  user-key : (v : ℕ) (key : Option RetryKey) → IsKeyOf (Some v) key → IsKeyFor true key
  user-key v None is = tt
  user-key v (Some key) is = is

  no-key : (key : Option RetryKey) → IsKeyOf None key → key ≡ None
  no-key None is = refl
  no-key (Some key) is = absurd is

  call-wished : (u : Option ℕ) (at : ℕ) (key : Option RetryKey) (command : Command) (d : Drawn)
      → IsAllowed H (call_of u at key command) → judge (view u H) (call_of u at key command) ≡ Ok d → Wished d.group
  call-wished None at key command d allowed accepted =
      let what : What = whats.Command key command in
      let wish : Wish = wish_by None at what in
      let whose : caller H wish ≡ None = nobody-calls (wants_login what) in
      record {
        wish = wish;
        within = record {
          what = (
            allowed.given.bounded,
            subst (λ (login : Bool). IsKeyFor login key)
                (sym (login-nobody (command_wants_login command) allowed.given.caller)) (no-key key allowed.given.key),
          );
          moment = allowed.given.moment;
        };
        again = d;
        draws = command-draws H wish d None key command refl (sym whose) allowed accepted;
        group = refl;
        by = subst (λ (u : Option ℕ). GivenBy H u d.group) (sym whose)
            (call-given None at key command d allowed accepted);
      }
  call-wished (Some v) at key command d allowed accepted =
      let what : What = whats.Command key command in
      let login = login-user v (command_wants_login command) allowed.given.caller in
      let by : CallsBy H v = calls-by H legal v login.1 in
      let wish : Wish = wish_by (credentials_of v by) at what in
      let whose : caller H wish ≡ Some v = user-calls v by at what login.0 in
      record {
        wish = wish;
        within = record {
          what = (
            allowed.given.bounded,
            subst (λ (login : Bool). IsKeyFor login key) (sym login.0) (user-key v key allowed.given.key),
          );
          moment = allowed.given.moment;
        };
        again = d;
        draws = command-draws H wish d (Some v) key command refl (sym whose) allowed accepted;
        group = refl;
        by = subst (λ (u : Option ℕ). GivenBy H u d.group) (sym whose)
            (call-given (Some v) at key command d allowed accepted);
      }

  bulk-wished : (v at : ℕ) (key : Option RetryKey) (rows : List BulkRow) (d : Drawn)
      → IsBulkAllowed H (bulk_by v at key rows) → judge_bulk (view (Some v) H) (bulk_by v at key rows) ≡ Ok d
      → Wished d.group
  bulk-wished v at key rows d allowed accepted =
      let what : What = whats.Bulk key rows in
      let by : CallsBy H v = calls-by H legal v allowed.given.caller in
      let wish : Wish = wish_by (credentials_of v by) at what in
      let whose : caller H wish ≡ Some v = user-calls v by at what refl in
      record {
        wish = wish;
        within = record { what = (allowed.given.bounded, allowed.given.key); moment = allowed.given.moment };
        again = d;
        draws = bulk-draws_it H wish d v key rows refl (sym whose) allowed.unused accepted;
        group = refl;
        by = subst (λ (u : Option ℕ). GivenBy H u d.group) (sym whose)
            (by_user v refl allowed.given.caller (bulk-made H d (bulk_by v at key rows) accepted));
      }

  -- ---- a move that adds something

  none-one : (g : History) → IsOneCommand g → [] ≡ g → ⊥
  none-one g one is = subst IsOneCommand (sym is) one

  added-so : (d : Drawn) (g : History) → Wished d.group → H ++ d.group ≡ H ++ g → Wished g
  added-so d g wished is = subst Wished (append_cancel_left H d.group g is) wished

  pub move-wished : (end : History) (next : NextMove H end) → Wished next.group
  move-wished end next = by next.move next.allowed next.grows
    where
      same-none : H ≡ H ++ next.group → ⊥
      same-none is = none-one next.group next.one (append_cancel_left H [] next.group (append-nil H ∙ is))

      called : (call : Call) → IsAllowed H call → (r : Result Drawn Rule) → judge (view call.caller H) call ≡ r
          → followed_by H r ≡ H ++ next.group → Wished next.group
      called call allowed (Err rule) is grows = absurd (same-none grows)
      called call allowed (Ok d) is grows =
          added-so d next.group (call-wished call.caller call.at call.key call.command d allowed is) grows

      bulked : (bulk : BulkCall) → IsBulkAllowed H bulk → (r : Result Drawn Broken)
          → judge_bulk (view (Some bulk.stamp.maker) H) bulk ≡ r → followed_by H r ≡ H ++ next.group
          → Wished next.group
      bulked bulk allowed (Err refusal) is grows = absurd (same-none grows)
      bulked bulk allowed (Ok d) is grows =
          added-so d next.group
          (bulk-wished bulk.stamp.maker bulk.stamp.at bulk.stamp.key bulk.rows d allowed is) grows

      by : (move : Move) → IsMoveAllowed H move → moved H move ≡ H ++ next.group → Wished next.group
      by (calls call) allowed grows = called call allowed (judge (view call.caller H) call) refl grows
      by (bulks bulk) allowed grows =
          bulked bulk allowed (judge_bulk (view (Some bulk.stamp.maker) H) bulk) refl grows
