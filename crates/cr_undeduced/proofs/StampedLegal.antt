-- SPDX-License-Identifier: Apache-2.0 OR MIT
-- A legal history is legal under other stamps, where these are such as its commands might have had.
use Rattle.std.proofs.Common.{ℕ, Bool, true, false, cond, ◌+◌, ◌≡◌, List, [], ◌∷◌, ◌++◌, length, refl, sym, ap, subst}
use Rattle.std.proofs.Common.{◌∙◌, Option, Some, None, Result, Ok, Err, append_assoc, append-nil}
use Rattle.std.specs.Prelude.{not, ◌==◌}
use Rattle.std.specs.List.{list_any}
use Rattle.std.proofs.lemmas.Bool.{true≢false}
use Rattle.cr_base.specs.Accounts.{lines_of}
use Rattle.cr_base.specs.declared.bulk.Broken.{Broken}
use Rattle.cr_base.specs.declared.command.Call.{Call}
use Rattle.cr_base.specs.declared.command.Command.{Command}
use Rattle.cr_base.specs.declared.command.Command.TheVariants as commands
use Rattle.cr_base.specs.declared.entry.Entry.{Entry}
use Rattle.cr_base.specs.declared.entry.Entry.TheVariants as entries
use Rattle.cr_base.specs.declared.entry.Stamp.{Stamp}
use Rattle.cr_base.specs.declared.entry.Stamped.{Stamped}
use Rattle.cr_base.specs.declared.reply.Rule.{Rule}
use Rattle.cr_base.specs.declared.retry.RetryKey.{RetryKey}
use Rattle.cr_base.specs.declared.words.Phase.{Phase}
use Rattle.cr_base.specs.declared.words.Role.TheVariants.{Chair}
use Rattle.cr_base.specs.Bulk.{bulk_by_role}
use Rattle.cr_base.specs.Calls.{BulkCall, maker_of, stamp_by, stamp_of, call_of}
use Rattle.cr_base.specs.Deadlines.{deadline_in}
use Rattle.cr_base.specs.Deeds.{deed, deed_at}
use Rattle.cr_base.specs.Drawn.{Drawn, stamped, grouped, registration}
use Rattle.cr_base.specs.History.{History, Registration, registration_told}
use Rattle.cr_base.specs.HistoryFacts.{phase_of, deadline_of}
use Rattle.cr_base.specs.Judging.{judge_by_role}
use Rattle.cr_base.specs.Keys.{IsKeyOrNone}
use Rattle.cr_base.specs.Logins.{command_wants_login}
use Rattle.cr_base.specs.Moments.{IsMoment}
use Rattle.cr_base.specs.Resolving.{resolve}
use Rattle.cr_base.specs.Sources.{Facts, Shown, facts_of_tables, is_late, shown_in_tables}
use Rattle.cr_base.specs.Stage.{is_late_in}
use Rattle.cr_base.specs.Tables.{Tables, no_tables, tables_of}
use Rattle.cr_history.specs.Invariants.{IsRegistered}
use Rattle.cr_policy.specs.Judge.{judge, judge_bulk}
use Rattle.cr_policy.specs.Legal.{CallsAs, IsCaller, IsKeyOf, IsNewKey, IsAllowed, IsBulkAllowed, Move, calls, bulks}
use Rattle.cr_policy.specs.Legal.{IsMoveAllowed, moved, LeadsTo, Legal, followed_by}
use Rattle.cr_policy.specs.Sentences.{meets, in_time}
use Rattle.cr_policy.specs.View.{view}
use Rattle.cr_policy.proofs.LegalLaws.{Legal-moved, Legal-accepted, Legal-bulk_accepted, Legal-judge, Legal-judge_bulk}
use Rattle.cr_policy.proofs.LegalLaws.{Legal-told, Legal-whole, given-bounded}
use Rattle.cr_permissions.proofs.SentenceLaws.{time-same}
use Rattle.cr_undeduced.specs.OtherStamps.{is_among, with_stamps, HasNewNumber, StampsFit}
use Rattle.cr_undeduced.specs.Payload.{Payload, IsBoundedPayload, own_if}
use Rattle.cr_undeduced.proofs.Fill.{behind}
use Rattle.cr_undeduced.proofs.RefilledLegal.{leads-grow}
use Rattle.cr_undeduced.proofs.RefilledSteps.{behind-bounded}
use Rattle.cr_undeduced.proofs.StampedGroups.{told-stamped, tables-stamped, behind-stamped, new_stamp, FirstFits}
use Rattle.cr_undeduced.proofs.StampedGroups.{first-fits}
use Rattle.cr_undeduced.proofs.StampedJudged.{IsNoLater, added_by, deed_of, call-redrawn, BulkRedrawn, bulk-redrawn}

-- ---- too late

not-same : (a b : Bool) → not a ≡ not b → a ≡ b
not-same true true h = refl
not-same true false h = absurd (true≢false (sym h))
not-same false true h = absurd (true≢false h)
not-same false false h = refl

-- as late by the sentence, as late by the tables
late-said : (H : History) → Legal H → (at : ℕ) → not (is_late_in (tables_of H).stage at) ≡ in_time at H
late-said H legal at =
    time-same (deadline_in (tables_of H).stage.deadlines (tables_of H).stage.phase) at
    ∙ ap (λ (deadline : Option ℕ). meets at deadline)
    (sym ((Legal-told H legal).deadline (tables_of H).stage.phase)
    ∙ ap (λ (phase : Phase). deadline_of phase H) (sym phase))
  where
    phase : phase_of H ≡ (tables_of H).stage.phase
    phase = ap (λ standing. standing.phase) ((Legal-told H legal).standing None None)

no-later : (H : History) → Legal H → (own at : ℕ) → (in_time own H ≡ true → in_time at H ≡ true)
    → IsNoLater (tables_of H).stage own at
no-later H legal own at fits early =
    not-same (is_late_in (tables_of H).stage at) false
    (late-said H legal at ∙ fits (sym (late-said H legal own) ∙ ap not early))

-- ---- whose a command is

-- nobody's registers; every other's maker is its caller
data Whose (caller : Option ℕ) (command : Command) : Type 0 where
  nobodys : (name digest : List ℕ) → command ≡ commands.Register name digest → caller ≡ None → Whose caller command
  users : (user : ℕ) → caller ≡ Some user
      → ((facts : Facts) (shown : Shown) (maker : ℕ) (late : Bool)
      → (deed facts shown maker late (resolve facts.accounts command)).maker ≡ maker)
      → Whose caller command

whose : (H : History) (caller : Option ℕ) (command : Command) → IsCaller H caller command → Whose caller command
whose H caller (commands.Register name digest) is = nobodys name digest refl is
whose H (Some user) (commands.Tag paper tag on) is = users user refl (λ facts shown maker late. refl)
whose H None (commands.Tag paper tag true) is = absurd is
whose H None (commands.Tag paper tag false) is = absurd is
whose H (Some user) command is = users user refl (λ facts shown maker late. refl)
whose H None command is = absurd is

-- ---- it may be given

either-of : {A : Type 0} (P : A → Type 0) (known : Bool) (own other : A) → P own → P other → P (own_if known own other)
either-of P true own other p q = p
either-of P false own other p q = q

new-key : (H : History) (stamp : Stamp) (e : Entry) → HasNewNumber H stamp e → IsNewKey H (Some stamp.maker) stamp.key
new-key H stamp (entries.Registered user name digest) new =
    subst (λ (key : Option RetryKey). IsNewKey H (Some stamp.maker) key) (sym new) tt
new-key H stamp e new = new

-- a registration's first entry is that, and has no number
first-numbered : (H : History) (stamp : Stamp) (user : ℕ) (name digest : List ℕ) (e : Entry) (es : List Entry)
    → registration user name digest ≡ e ∷ es → HasNewNumber H stamp e → stamp.key ≡ None
first-numbered H stamp user name digest e es is new = by (user == 1) is
  where
    same : (first : Entry) → first ≡ e → HasNewNumber H stamp first
    same first is = subst (λ (entry : Entry). HasNewNumber H stamp entry) (sym is) new

    by : (b : Bool)
        → entries.Registered user name digest ∷ cond b (entries.Named user Chair ∷ []) []
        ≡ e ∷ es
        → stamp.key ≡ None
    by true is = same (entries.Registered user name digest) cc
    by false is = same (entries.Registered user name digest) cc

users-key : (user : ℕ) (key : Option RetryKey) → IsKeyOf (Some user) key → IsKeyOrNone key
users-key user None is = tt
users-key user (Some key) is = is

key-users : (user : ℕ) (key : Option RetryKey) → IsKeyOrNone key → IsKeyOf (Some user) key
key-users user None is = tt
key-users user (Some key) is = is

module _ (group : List (Option ℕ)) (xs : ℕ → Payload) (bounded : (n : ℕ) → IsBoundedPayload (xs n)) where
  abbrev other : History → History
  other H = with_stamps group None xs H

  registered-stamped : (H : History) (user : ℕ) → IsRegistered H user → IsRegistered (other H) user
  registered-stamped H user is =
      ap (list_any (λ (r : Registration). r.user == user)) (told-stamped group (λ m e. registration_told e) None xs H)
      ∙ is

  caller-stamped : (H : History) (login : Bool) (caller : Option ℕ) → CallsAs H login caller
      → CallsAs (other H) login caller
  caller-stamped H false caller is = is
  caller-stamped H true None is = is
  caller-stamped H true (Some user) is = registered-stamped H user is

  moment-new : (H : History) (stamp : Stamp) → IsMoment stamp.at → IsMoment (new_stamp group xs H stamp).at
  moment-new H stamp is =
      either-of (λ n. IsMoment n) (is_among group stamp.maker) stamp.at (behind (length H) xs 0).at is
      (behind-bounded (length H) xs bounded 0).moment

  key-new : (H : History) (stamp : Stamp) → IsKeyOrNone stamp.key → IsKeyOrNone (new_stamp group xs H stamp).key
  key-new H stamp is =
      either-of (λ (key : Option RetryKey). IsKeyOrNone key) (is_among group stamp.maker) stamp.key
      (behind (length H) xs 0).key is (behind-bounded (length H) xs bounded 0).key

  tables-same : (H : History) → tables_of (other H) ≡ tables_of H
  tables-same H = tables-stamped group no_tables None xs H

  late-fits : (H : History) → Legal (other H) → (e : Stamped) → FirstFits group xs H e
      → IsNoLater (tables_of H).stage e.stamp.at (new_stamp group xs H e.stamp).at
  late-fits H legal' e fits =
      subst
      (λ (t : Tables). IsNoLater t.stage e.stamp.at (new_stamp group xs H e.stamp).at) (tables-same H)
      (no-later (other H) legal' e.stamp.at (new_stamp group xs H e.stamp).at fits.timed)

  -- ---- one group

  grouped-first : (stamp : Stamp) (e : Entry) (es : List Entry)
      → (more : Bool) × (g : History) × (grouped stamp (e ∷ es) ≡ stamped stamp more e ∷ g)
  grouped-first stamp e [] = (false, [], refl)
  grouped-first stamp e (next ∷ es) = (true, grouped stamp (next ∷ es), refl)

  -- what fits the group that stands behind
  group-fits : (H : History) (stamp : Stamp) (e : Entry) (es : List Entry) (later to : History) → Legal H
      → to ≡ (H ++ grouped stamp (e ∷ es)) ++ later → StampsFit (other to) to
      → (more : Bool) × FirstFits group xs H (stamped stamp more e)
  group-fits H stamp e es later to legal is fits =
      let first = grouped-first stamp e es in
      let split : to ≡ H ++ stamped stamp first.0 e ∷ (first.1 ++ later) =
      is ∙ append_assoc H (grouped stamp (e ∷ es)) later ∙ ap (λ (g : History). H ++ (g ++ later)) first.2 in (
        first.0,
        first-fits group xs H (stamped stamp first.0 e) (first.1 ++ later) (Legal-whole H legal)
            (subst (λ (G : History). StampsFit (other G) G) split fits),
      )

  -- ---- one move

  call-legal : (H : History) (call : Call) (to later : History) → Legal H → Legal (other H) → IsAllowed H call
      → StampsFit (other to) to → (r : Result Drawn Rule) → judge (view call.caller H) call ≡ r
      → to ≡ followed_by H r ++ later → Legal (other (followed_by H r))
  call-legal H call to later legal legal' allowed fits (Err rule) is there = legal'
  call-legal H call to later legal legal' allowed fits (Ok drawn) is there =
      by (added_by (deed_of t call)) refl (whose H call.caller call.command allowed.given.caller)
    where
      t : Tables
      t = tables_of H

      judged_by_tables : judge_by_role t call ≡ Ok drawn
      judged_by_tables = sym (Legal-judge H call legal) ∙ is

      own : Stamp
      own = stamp_by (deed_of t call).maker call.at call.key

      again : Stamp
      again = new_stamp group xs H own

      call' : Call
      call' = call_of call.caller again.at again.key call.command

      group_is : drawn.group ≡ grouped own (added_by (deed_of t call))
      group_is = (call-redrawn t call call.at call.key drawn (λ early. early) judged_by_tables).own

      -- where it is as late, and may be given by that number
      legal-again : IsNoLater t.stage call.at again.at → IsKeyOf call.caller again.key
          → IsNewKey (other H) call.caller again.key → Legal (other (H ++ drawn.group))
      legal-again same key new =
          let redrawn = call-redrawn t call again.at again.key drawn same judged_by_tables in
          subst (λ (G : History). Legal G)
          (sym (ap (λ (g : History). other (H ++ g)) group_is
          ∙ behind-stamped group xs H own (added_by (deed_of t call)) (Legal-whole H legal)))
          (Legal-accepted (other H) call' _ legal' (record {
            given = record {
              caller = caller-stamped H (command_wants_login call.command) call.caller allowed.given.caller;
              bounded = allowed.given.bounded;
              moment = moment-new H own allowed.given.moment;
              key = key;
            };
            unused = new;
          })
          (Legal-judge (other H) call' legal' ∙ ap (λ (t : Tables). judge_by_role t call') (tables-same H)
          ∙ redrawn.other))

      -- its first entry, where there is one, fits
      by : (es : List Entry) → (added_by (deed_of t call)) ≡ es → Whose call.caller call.command
          → Legal (other (H ++ drawn.group))
      by [] none whoever =
          subst (λ (G : History). Legal (other G))
          (sym (ap (λ (g : History). H ++ g) (group_is ∙ ap (grouped own) none) ∙ append-nil H)) legal'
      by (e ∷ es) entries whoever = of whoever
        where
          fitting : (more : Bool) × FirstFits group xs H (stamped own more e)
          fitting =
              group-fits H own e es later to legal
              (there ∙ ap (λ (g : History). (H ++ g) ++ later) (group_is ∙ ap (grouped own) entries)) fits

          same : IsNoLater t.stage call.at again.at
          same = late-fits H legal' (stamped own fitting.0 e) fitting.1

          of : Whose call.caller call.command → Legal (other (H ++ drawn.group))
          of (nobodys name digest registers nobody) =
              let none : again.key ≡ None =
              first-numbered (other H) again (length (facts_of_tables t call.caller).accounts + 1) name digest e es
              (ap
              (λ (c : Command). added_by (deed_at (facts_of_tables t call.caller) (shown_in_tables t) (stamp_of call)
              (resolve (lines_of t.accounts) c)))
              (sym registers) ∙ entries) fitting.1.numbered in
              legal-again same
              (subst (λ (caller : Option ℕ). IsKeyOf caller again.key) (sym nobody)
              (subst (λ (key : Option RetryKey). IsKeyOf None key) (sym none) tt))
              (subst (λ (caller : Option ℕ). IsNewKey (other H) caller again.key) (sym nobody)
              (subst (λ (key : Option RetryKey). IsNewKey (other H) None key) (sym none) tt))
          of (users user hers made) =
              let maker : own.maker ≡ user =
              made (facts_of_tables t call.caller) (shown_in_tables t) (stamp_of call).maker
              (is_late (facts_of_tables t call.caller) call.at)
              ∙ ap maker_of hers in
              legal-again same
              (subst (λ (caller : Option ℕ). IsKeyOf caller again.key) (sym hers)
              (key-users user again.key
              (key-new H own
              (users-key user call.key
              (subst (λ (caller : Option ℕ). IsKeyOf caller call.key) hers allowed.given.key)))))
              (subst (λ (caller : Option ℕ). IsNewKey (other H) caller again.key)
              (ap (λ (v : ℕ). Some v) maker ∙ sym hers)
              (new-key (other H) again e fitting.1.numbered))

  bulk-legal : (H : History) (bulk : BulkCall) (to later : History) → Legal H → Legal (other H) → IsBulkAllowed H bulk
      → StampsFit (other to) to → (r : Result Drawn Broken) → judge_bulk (view (Some bulk.stamp.maker) H) bulk ≡ r
      → to ≡ followed_by H r ++ later → Legal (other (followed_by H r))
  bulk-legal H bulk to later legal legal' allowed fits (Err refusal) is there = legal'
  bulk-legal H bulk to later legal legal' allowed fits (Ok drawn) is there = by own.entries refl
    where
      t : Tables
      t = tables_of H

      judged_by_tables : bulk_by_role t bulk ≡ Ok drawn
      judged_by_tables =
          sym (Legal-judge_bulk H bulk legal allowed.given.caller (given-bounded H bulk allowed.given)) ∙ is

      own : BulkRedrawn t bulk.stamp bulk.stamp.at bulk.stamp.key bulk.rows drawn
      own =
          bulk-redrawn t bulk.stamp bulk.stamp.at bulk.stamp.key bulk.rows drawn (λ early. early) judged_by_tables

      again : Stamp
      again = new_stamp group xs H bulk.stamp

      bulk' : BulkCall
      bulk' = record { stamp = again; rows = bulk.rows }

      by : (es : List Entry) → own.entries ≡ es → Legal (other (H ++ drawn.group))
      by [] none =
          subst (λ (G : History). Legal (other G))
          (sym (ap (λ (g : History). H ++ g) (own.own ∙ ap (grouped bulk.stamp) none) ∙ append-nil H)) legal'
      by (e ∷ es) entries =
          subst (λ (G : History). Legal G)
          (sym (ap (λ (g : History). other (H ++ g)) redrawn.own
          ∙ behind-stamped group xs H bulk.stamp redrawn.entries (Legal-whole H legal)))
          (Legal-bulk_accepted (other H) bulk' _ legal' given
          (Legal-judge_bulk (other H) bulk' legal' given.given.caller (given-bounded (other H) bulk' given.given)
          ∙ ap (λ (t : Tables). bulk_by_role t bulk') (tables-same H)
          ∙ redrawn.other))
        where
          fitting : (more : Bool) × FirstFits group xs H (stamped bulk.stamp more e)
          fitting =
              group-fits H bulk.stamp e es later to legal
              (there ∙ ap (λ (g : History). (H ++ g) ++ later) (own.own ∙ ap (grouped bulk.stamp) entries)) fits

          same : IsNoLater t.stage bulk.stamp.at again.at
          same = late-fits H legal' (stamped bulk.stamp fitting.0 e) fitting.1

          redrawn : BulkRedrawn t bulk.stamp again.at again.key bulk.rows drawn
          redrawn = bulk-redrawn t bulk.stamp again.at again.key bulk.rows drawn same judged_by_tables

          given : IsBulkAllowed (other H) bulk'
          given = record {
            given = record {
              caller = registered-stamped H bulk.stamp.maker allowed.given.caller;
              bounded = allowed.given.bounded;
              moment = moment-new H bulk.stamp allowed.given.moment;
              key = key-new H bulk.stamp allowed.given.key;
            };
            unused = new-key (other H) again e fitting.1.numbered;
          }

  -- ---- all of them

  leads-legal : (from to : History) (moves : List Move) → Legal from → Legal (other from) → LeadsTo from moves to
      → StampsFit (other to) to → Legal (other to)
  leads-legal from to [] legal legal' leads fits = subst (λ (G : History). Legal (other G)) leads legal'
  leads-legal from to (move ∷ moves) legal legal' leads fits =
      let rest = leads-grow (moved from move) to moves leads.1 in
      leads-legal (moved from move) to moves (Legal-moved from move legal leads.0) (one move leads.0 rest.0 rest.1)
      leads.1 fits
    where
      one : (move : Move) → IsMoveAllowed from move → (later : History) → to ≡ moved from move ++ later
          → Legal (other (moved from move))
      one (calls call) allowed later there =
          call-legal from call to later legal legal' allowed fits (judge (view call.caller from) call) refl there
      one (bulks bulk) allowed later there =
          bulk-legal from bulk to later legal legal' allowed fits (judge_bulk (view (Some bulk.stamp.maker) from) bulk)
          refl there

  pub stamped-legal : (H : History) → Legal H → StampsFit (other H) H → Legal (other H)
  stamped-legal H legal fits = leads-legal [] H legal.0 ([], refl) ([], refl) legal.1 fits
