-- SPDX-License-Identifier: Apache-2.0 OR MIT
-- A legal history is legal where whoever had the right made its entries.
use Rattle.std.proofs.Common.{ℕ, Bool, true, false, cond, ◌≡◌, suc, zero, List, [], ◌∷◌, ◌++◌, length, eqb, refl, sym}
use Rattle.std.proofs.Common.{ap, subst, ◌∙◌, ◌||◌, ◌&&◌, append_assoc, append-nil, Option, Some, None, Result, Ok, Err}
use Rattle.std.specs.Prelude.{not, ◌==◌}
use Rattle.std.specs.List.{list_any}
use Rattle.std.proofs.lemmas.Bool.{true≢false, eqb-true}
use Rattle.std.proofs.Math.Bool.{and-false}
use Rattle.cr_base.specs.declared.bulk.Broken.{Broken}
use Rattle.cr_base.specs.declared.bulk.BulkRow.{BulkRow}
use Rattle.cr_base.specs.declared.command.Call.{Call}
use Rattle.cr_base.specs.declared.command.Command.{Command}
use Rattle.cr_base.specs.declared.command.Command.TheVariants as commands
use Rattle.cr_base.specs.declared.entry.Entry.{Entry}
use Rattle.cr_base.specs.declared.entry.Stamp.{Stamp}
use Rattle.cr_base.specs.declared.entry.Stamped.{Stamped}
use Rattle.cr_base.specs.declared.reply.Rule.{Rule}
use Rattle.cr_base.specs.declared.retry.RetryKey.{RetryKey}
use Rattle.cr_base.specs.Bounds.{IsBoundedCommand}
use Rattle.cr_base.specs.Bulk.{bulk_drawn}
use Rattle.cr_base.specs.Calls.{BulkCall, stamp_by, call_of, call_by}
use Rattle.cr_base.specs.Drawn.{Drawn, stamped, grouped}
use Rattle.cr_base.specs.History.{History, Registration}
use Rattle.cr_base.specs.HistoryFacts.{role_of}
use Rattle.cr_base.specs.Keys.{kept_under, has_number, IsKeyOrNone}
use Rattle.cr_base.specs.Lists.{is_nothing}
use Rattle.cr_base.specs.Logins.{command_wants_login}
use Rattle.cr_base.specs.Moments.{IsMoment}
use Rattle.cr_base.specs.Words.{is_chair}
use Rattle.cr_history.specs.Invariants.{IsRegistered}
use Rattle.cr_policy.specs.Added.{added, stamp_added}
use Rattle.cr_policy.specs.Judge.{judge, judge_bulk}
use Rattle.cr_policy.specs.Legal.{Move, calls, bulks, IsMoveAllowed, CallsAs, IsCaller, IsAllowed, IsNewKey, moved}
use Rattle.cr_policy.specs.Legal.{IsBulkAllowed}
use Rattle.cr_policy.specs.Legal.{LeadsTo, Legal, followed_by, unnumbered}
use Rattle.cr_policy.specs.Sentences.{chairs}
use Rattle.cr_policy.specs.View.{view}
use Rattle.cr_policy.proofs.BulkLaws.{seen, IsReady, row-calls, RowCalls, rows-accepted, BulkDraws, bulk-draws}
use Rattle.cr_policy.proofs.LegalLaws.{Legal-moved, Legal-accepted, Legal-bulk_accepted, legal_invariants, given-bounded}
use Rattle.cr_permissions.specs.MayDo.{may_do}
use Rattle.cr_permissions.proofs.KeptStamps.{ready-unnumbered, seen-unnumbered}
use Rattle.cr_permissions.proofs.SentenceLaws.{chair-same}
use Rattle.cr_undeduced.specs.Makers.{has_right, has_account, may_have_made, is_one_command, MayHaveMade, stamp_of}
use Rattle.cr_undeduced.specs.Makers.{made_by, OtherMakersLegal}
use Rattle.cr_undeduced.proofs.MakersFacts.{right-anyones, right-there, Alike, alike-append, alike-itself}
use Rattle.cr_undeduced.proofs.MakersFacts.{alike-one, made_by-alike, stamp-same, stamp-other}
use Rattle.cr_undeduced.proofs.MakersSaid.{registered-also, right-also, phase-also, role-also}
use Rattle.cr_undeduced.proofs.MakersRight.{right_first, Takes, takes}
use Rattle.cr_undeduced.proofs.MakersCalls.{call-also, call-other, may-accepted, group-accepted, user-calls}
use Rattle.cr_undeduced.proofs.MakersBulks.{Both, AllMay, rows-taken, taking-herself, all-same, taking-right, Right}
use Rattle.cr_undeduced.proofs.MakersBulks.{Same, hers, bulk-taken, adds-one, entry-same}
use Rattle.cr_undeduced.proofs.RefilledLegal.{leads-grow}

-- ---- one history behind another

-- the makers behind so many places
abbrev pub behind : ℕ → (ℕ → ℕ) → ℕ → ℕ
behind zero ws = ws
behind (suc k) ws = behind k (λ n. ws (suc n))

pub made_by-append : (ws : ℕ → ℕ) (H g : History) → made_by ws (H ++ g) ≡ made_by ws H ++ made_by (behind (length H) ws) g
made_by-append ws [] g = refl
made_by-append ws (e ∷ H) g =
    ap (λ (rest : History). stamped (stamp_of (ws 0) e.stamp) e.more e.entry ∷ rest)
    (made_by-append (λ n. ws (suc n)) H g)

pub may-before : (ws : ℕ → ℕ) (before H g : History) → MayHaveMade ws before (H ++ g) → MayHaveMade ws before H
may-before ws before [] g may = tt
may-before ws before (e ∷ H) g may =
    (may.0, may.1, may-before (λ n. ws (suc n)) (before ++ e ∷ []) H g may.2)

may-behind : (ws : ℕ → ℕ) (before H g : History) → MayHaveMade ws before (H ++ g)
    → MayHaveMade (behind (length H) ws) (before ++ H) g
may-behind ws before [] g may = subst (λ (G : History). MayHaveMade ws G g) (sym (append-nil before)) may
may-behind ws before (e ∷ H) g may =
    subst (λ (G : History). MayHaveMade (behind (length H) (λ n. ws (suc n))) G g) (append_assoc before (e ∷ []) H)
    (may-behind (λ n. ws (suc n)) (before ++ e ∷ []) H g may.2)

-- ---- the entries of one command or bulk

and-left : (a b c : Bool) → (not true || (a && (b || c))) ≡ true → (a ≡ true) × ((b || c) ≡ true)
and-left true true c h = (refl, refl)
and-left true false true h = (refl, refl)
and-left true false false h = absurd (true≢false (sym h))
and-left false b c h = absurd (true≢false (sym h))

next-maker : (ws : ℕ → ℕ) (H : History) (stamp : Stamp) (e : Entry)
    → is_one_command (ws 0) (ws 1) H (stamped stamp true e) ≡ true → ws 1 ≡ ws 0
next-maker ws H stamp e is =
    eqb-true (ws 1) (ws 0) (and-left (eqb (ws 1) (ws 0)) (eqb (ws 0) stamp.maker) (chairs (ws 0) H) is).0

-- they all have the first's maker
made-group : (ws : ℕ → ℕ) (H : History) (stamp : Stamp) (es : List Entry) → MayHaveMade ws H (grouped stamp es)
    → made_by ws (grouped stamp es) ≡ grouped (stamp_of (ws 0) stamp) es
made-group ws H stamp [] may = refl
made-group ws H stamp (e ∷ []) may = refl
made-group ws H stamp (e ∷ next ∷ es) may =
    ap (λ (g : History). stamped (stamp_of (ws 0) stamp) true e ∷ g)
    (made-group (λ n. ws (suc n)) (H ++ stamped stamp true e ∷ []) stamp (next ∷ es) may.2
    ∙ ap (λ w. grouped (stamp_of w stamp) (next ∷ es)) (next-maker ws H stamp e may.1))

-- who is another has the right to make each of them in its turn
has-right : (w : ℕ) (stamp : Stamp) (H A : History) (e : Entry) (more : Bool) → eqb w stamp.maker ≡ false → Alike H A
    → may_have_made w H (stamped stamp more e) ≡ true → has_right w A e ≡ true
has-right w stamp H A e more other alike may =
    sym (right-also H A alike w e) ∙ (right-there w H (stamped stamp more e) may other).1

all-right : (u w : ℕ) (ws : ℕ → ℕ) (stamp : Stamp) (H A : History) (es : List Entry) → ws 0 ≡ w
    → eqb w stamp.maker ≡ false → Alike H A → MayHaveMade ws H (grouped stamp es)
    → AllMay u w stamp.at (Right u w stamp.at) A es
all-right u w ws stamp H A [] first other alike may = tt
all-right u w ws stamp H A (e ∷ []) first other alike may = (
  has-right w stamp H A e false other alike
      (ap (λ w. may_have_made w H (stamped stamp false e)) (sym first) ∙ may.0),
  tt,
)
all-right u w ws stamp H A (e ∷ next ∷ es) first other alike may =
    let right : has_right w A e ≡ true = has-right w stamp H A e true other alike
    (ap (λ w. may_have_made w H (stamped stamp true e)) (sym first) ∙ may.0) in (
      right,
      all-right u w (λ n. ws (suc n)) stamp (H ++ stamped stamp true e ∷ [])
          (A ++ stamped (hers u w stamp.at) false e ∷ []) (next ∷ es) (next-maker ws H stamp e may.1 ∙ first) other
          (alike-append H A (stamped stamp true e ∷ []) (stamped (hers u w stamp.at) false e ∷ []) alike
          (alike-one stamp (hers u w stamp.at) true false e (right-anyones w A e right))) may.2,
    )

-- of the first of them
first-right : (u w at : ℕ) (stamp : Stamp) (ws : ℕ → ℕ) (H : History) (es : List Entry) → ws 0 ≡ w
    → eqb w stamp.maker ≡ false → MayHaveMade ws H (grouped stamp es) → is_nothing es ≡ false
    → (has_account w H ≡ true) × (right_first H u w at es ≡ true)
first-right u w at stamp ws H [] first other may some = absurd (true≢false some)
first-right u w at stamp ws H (e ∷ []) first other may some =
    right-there w H (stamped stamp false e)
    (ap (λ w. may_have_made w H (stamped stamp false e)) (sym first) ∙ may.0) other
first-right u w at stamp ws H (e ∷ next ∷ es) first other may some =
    right-there w H (stamped stamp true e)
    (ap (λ w. may_have_made w H (stamped stamp true e)) (sym first) ∙ may.0) other

-- ---- numbers

module _ (user number : ℕ) where
  abbrev pub counts : Stamp → Bool
  counts stamp = eqb stamp.maker user && has_number number stamp.key

  pub counts-made : (w : ℕ) (stamp : Stamp) → counts stamp ≡ false → counts (stamp_of w stamp) ≡ false
  counts-made w stamp none = by (eqb w stamp.maker)
    where
      by : (b : Bool) → counts (cond b stamp (stamp_by w stamp.at None)) ≡ false
      by true = none
      by false = and-false (eqb w user)

  pub head-free : (b : Bool) (e : Stamped) (H : History) → cond b (e ∷ H) H ≡ [] → (b ≡ false) × (H ≡ [])
  head-free true e H is = cc
  head-free false e H is = (refl, is)

  unused-made : (ws : ℕ → ℕ) (H : History) → kept_under user number H ≡ [] → kept_under user number (made_by ws H) ≡ []
  unused-made ws [] none = refl
  unused-made ws (e ∷ H) none =
      let k = head-free (counts e.stamp) e (kept_under user number H) none in
      let rest : History = kept_under user number (made_by (λ n. ws (suc n)) H) in
      ap (λ b. cond b (stamped (stamp_of (ws 0) e.stamp) e.more e.entry ∷ rest) rest)
      (counts-made (ws 0) e.stamp k.0)
      ∙ unused-made (λ n. ws (suc n)) H k.1

-- ---- one command or bulk

abbrev pub bulk_of : Stamp → List BulkRow → BulkCall
bulk_of stamp rows = record { stamp = stamp; rows = rows }

pub first-same : (a e : Entry) (more : List Entry) → e ∷ [] ≡ a ∷ more → a ≡ e
first-same a e more is = cc

none-right : (H : History) (u w at : ℕ) (command : Command) → right_first H u w at (added None H command) ≡ true → ⊥
none-right H u w at (commands.Register name digest) right = true≢false (sym right)
none-right H u w at command right = true≢false (sym right)

module _ (ws : ℕ → ℕ) (H : History) (legal : Legal H) (legal' : Legal (made_by ws H)) (may : MayHaveMade ws [] H) where
  abbrev B : History
  B = made_by ws H

  -- who makes the next entry
  abbrev vs : ℕ → ℕ
  vs = behind (length H) ws

  abbrev w : ℕ
  w = vs 0

  alike : Alike H B
  alike = made_by-alike ws [] H may

  registered-there : (user : ℕ) → IsRegistered H user → IsRegistered B user
  registered-there user is =
      ap (list_any (λ (r : Registration). r.user == user)) (sym (registered-also H B alike)) ∙ is

  caller-there : (login : Bool) (caller : Option ℕ) → CallsAs H login caller → CallsAs B login caller
  caller-there false caller is = is
  caller-there true None is = is
  caller-there true (Some user) is = registered-there user is

  key-there : (caller : Option ℕ) (key : Option RetryKey) → IsNewKey H caller key → IsNewKey B caller key
  key-there caller None is = tt
  key-there None (Some key) is = absurd is
  key-there (Some user) (Some key) is = unused-made user key.number ws H is

  -- a group of these behind the history
  abbrev Placed : Stamp → List Entry → Type 0
  Placed stamp es = Legal (B ++ grouped (stamp_of w stamp) es)

  placed : (stamp : Stamp) (es : List Entry) → MayHaveMade vs H (grouped stamp es) → Placed stamp es
      → Legal (made_by ws (H ++ grouped stamp es))
  placed stamp es may is =
      subst (λ (G : History). Legal G)
      (sym (made_by-append ws H (grouped stamp es)
      ∙ ap (λ (g : History). B ++ g) (made-group vs H stamp es may))) is

  -- none are placed
  placed-none : (stamp : Stamp) → Placed stamp []
  placed-none stamp = subst (λ (G : History). Legal G) (sym (append-nil B)) legal'

  -- one is, where another had the right to make it by this command
  placed-one : (u : ℕ) (stamp : Stamp) (command : Command) (e : Entry) → IsCaller H (Some u) command
      → IsBoundedCommand command → IsMoment stamp.at → may_do (Some u) stamp.at H command ≡ true
      → added (Some u) H command ≡ e ∷ [] → eqb w stamp.maker ≡ false → has_account w H ≡ true
      → has_right w H e ≡ true → Placed stamp (e ∷ [])
  placed-one u stamp command e caller bounded moment can one other account right =
      let taken : Takes H u w stamp.at command =
      takes H u w stamp.at command can (ap (right_first H u w stamp.at) one ∙ right) in
      let caller' : IsCaller B (Some w) command =
      user-calls H B u w command caller (registered-there w account) in
      let k = call-other H B legal legal' alike u w stamp.at command can taken caller' in
      let same : taken.entry ≡ e = entry-same taken.entry e (added (Some u) H command) taken.one one in
      subst (λ (g : History). Legal (B ++ g))
      (k.group ∙ (λ i. grouped (sym (stamp-other w stamp other) i) (same i ∷ [])))
      (Legal-accepted B (call_of (Some w) stamp.at None command) k.drawn legal' (record {
        given = record { caller = caller'; bounded = bounded; moment = moment; key = tt };
        unused = tt;
      }) k.is)

  -- ---- a command

  call-placed : (caller : Option ℕ) (at : ℕ) (key : Option RetryKey) (command : Command) (drawn : Drawn)
      → IsAllowed H (call_of caller at key command)
      → judge (view caller H) (call_of caller at key command) ≡ Ok drawn
      → MayHaveMade vs H (grouped (stamp_added H (call_of caller at key command)) (added caller H command))
      → Placed (stamp_added H (call_of caller at key command)) (added caller H command)
  call-placed caller at key command drawn allowed accepted may = by (eqb w stamp.maker) refl
    where
      call : Call
      call = call_of caller at key command

      stamp : Stamp
      stamp = stamp_added H call

      es : List Entry
      es = added caller H command

      others_do : (caller : Option ℕ) → IsAllowed H (call_of caller at key command)
          → judge (view caller H) (call_of caller at key command) ≡ Ok drawn
          → MayHaveMade vs H (grouped (stamp_added H (call_of caller at key command)) (added caller H command))
          → eqb w (stamp_added H (call_of caller at key command)).maker ≡ false
          → is_nothing (added caller H command) ≡ false
          → Placed (stamp_added H (call_of caller at key command)) (added caller H command)
      others_do None allowed accepted may other some =
          absurd (none-right H 0 w at command
          (first-right 0 w at (stamp_added H (call_of None at key command)) vs H (added None H command) refl other may
          some).1)
      others_do (Some u) allowed accepted may other some =
          let theirs : Stamp = stamp_added H (call_of (Some u) at key command) in
          let right = first-right u w at theirs vs H (added (Some u) H command) refl other may some in
          let can = may-accepted H (call_of (Some u) at key command) drawn legal allowed.given.caller accepted in
          let taken : Takes H u w at command = takes H u w at command can right.1 in
          subst (Placed theirs) (sym taken.one)
          (placed-one u theirs command taken.entry allowed.given.caller allowed.given.bounded allowed.given.moment can
          taken.one other right.0 (ap (right_first H u w at) (sym taken.one) ∙ right.1))

      nothing : (es : List Entry) → is_nothing es ≡ true → [] ≡ es
      nothing [] none = refl
      nothing (e ∷ es) none = cc

      by : (b : Bool) → eqb w (stamp_added H (call_of caller at key command)).maker ≡ b
          → Placed (stamp_added H (call_of caller at key command)) (added caller H command)
      by true same =
          let k = call-also H B legal legal' alike call drawn allowed.given.caller
          (caller-there (command_wants_login command) caller allowed.given.caller) accepted in
          subst (λ (g : History). Legal (B ++ g))
          (k.group ∙ group-accepted H call drawn legal allowed.given.caller accepted
          ∙ (λ i. grouped (sym (stamp-same w stamp same) i) (added caller H command)))
          (Legal-accepted B call k.drawn legal' (record {
            given = record {
              caller = caller-there (command_wants_login command) caller allowed.given.caller;
              bounded = allowed.given.bounded;
              moment = allowed.given.moment;
              key = allowed.given.key;
            };
            unused = key-there caller key allowed.unused;
          }) k.is)
      by false other = some (is_nothing (added caller H command)) refl
        where
          some : (b : Bool) → is_nothing (added caller H command) ≡ b
              → Placed (stamp_added H (call_of caller at key command)) (added caller H command)
          some true none = subst (Placed (stamp_added H (call_of caller at key command)))
              (nothing (added caller H command) none) (placed-none (stamp_added H (call_of caller at key command)))
          some false there = others_do caller allowed accepted may other there

  -- ---- a bulk

  module _ (stamp : Stamp) (rows : List BulkRow) (drawn : Drawn) (allowed : IsBulkAllowed H (bulk_of stamp rows))
      (accepted : judge_bulk (view (Some stamp.maker) H) (bulk_of stamp rows) ≡ Ok drawn) where
    ready : IsReady stamp H
    ready = record {
      kept = legal_invariants H legal;
      registered = allowed.given.caller;
      bounds = given-bounded H (bulk_of stamp rows) allowed.given;
    }

    ready-there : (user : ℕ) (key : Option RetryKey) → IsRegistered H user → IsKeyOrNone key
        → IsReady (stamp_by user stamp.at key) B
    ready-there user key registered bounded = record {
      kept = legal_invariants B legal';
      registered = registered-there user registered;
      bounds = record { moment = allowed.given.moment; key = bounded };
    }

    unnumbered-seen : (es : List Entry) → seen stamp H 1 rows ≡ Ok es → seen (unnumbered stamp) H 1 rows ≡ Ok es
    unnumbered-seen es is = seen-unnumbered stamp H ready 1 rows ∙ is

    -- it draws the same of the same user
    bulk-herself : (es : List Entry) → seen stamp H 1 rows ≡ Ok es → Legal (B ++ grouped stamp es)
    bulk-herself es is =
        let there : IsReady stamp B = ready-there stamp.maker stamp.key allowed.given.caller allowed.given.key in
        let both : Both stamp.maker stamp.maker stamp.at H B = record {
          legal = legal;
          legal' = legal';
          alike = alike;
          ready = ready-unnumbered stamp H ready;
          ready' = ready-unnumbered stamp B there;
        } in
        let taken = rows-taken stamp.maker stamp.maker stamp.at (Same stamp.maker stamp.at)
        (taking-herself stamp.maker stamp.at) rows 1 H B es both (all-same stamp.maker stamp.at H es)
        (unnumbered-seen es is) in
        Legal-bulk_accepted B (bulk_of stamp rows) (bulk_drawn stamp (length rows) es) legal' (record {
          given = record {
            caller = registered-there stamp.maker allowed.given.caller;
            bounded = allowed.given.bounded;
            moment = allowed.given.moment;
            key = allowed.given.key;
          };
          unused = key-there (Some stamp.maker) stamp.key allowed.unused;
        }) (bulk-taken H B (sym (phase-also H B alike)) stamp rows drawn accepted stamp.maker stamp.key rows es
        (λ h. ap is_chair (sym (role-also H B alike (Some stamp.maker))) ∙ h)
        (sym (seen-unnumbered stamp B there 1 rows) ∙ taken))

    -- and of another chair who has the right to make each
    bulk-another : (es : List Entry) → seen stamp H 1 rows ≡ Ok es → has_account w H ≡ true
        → chairs w H ≡ true → AllMay stamp.maker w stamp.at (Right stamp.maker w stamp.at) H es
        → Legal (B ++ grouped (stamp_by w stamp.at None) es)
    bulk-another es is account chair right =
        let theirs : Stamp = stamp_by w stamp.at None in
        let both : Both stamp.maker w stamp.at H B = record {
          legal = legal;
          legal' = legal';
          alike = alike;
          ready = ready-unnumbered stamp H ready;
          ready' = ready-there w None account tt;
        } in
        let taken = rows-taken stamp.maker w stamp.at (Right stamp.maker w stamp.at)
        (taking-right stamp.maker w stamp.at) rows 1 H B es both right (unnumbered-seen es is) in
        Legal-bulk_accepted B (bulk_of theirs rows) (bulk_drawn theirs (length rows) es) legal' (record {
          given = record {
            caller = registered-there w account;
            bounded = allowed.given.bounded;
            moment = allowed.given.moment;
            key = tt;
          };
          unused = tt;
        }) (bulk-taken H B (sym (phase-also H B alike)) stamp rows drawn accepted w None rows es
        (λ h. ap is_chair (sym (role-also H B alike (Some w))) ∙ chair-same (role_of (Some w) H) ∙ chair) taken)

    -- one row is its command
    row-alone : (rows : List BulkRow) (e : Entry) → seen stamp H 1 rows ≡ Ok (e ∷ []) → eqb w stamp.maker ≡ false
        → has_account w H ≡ true → has_right w H e ≡ true → Placed stamp (e ∷ [])
    row-alone [] e is other account right = cc
    row-alone (row ∷ rows) e is other account right =
        let all = rows-accepted stamp H 1 row rows (e ∷ []) ready is in
        let asked : RowCalls stamp H row all.drawn = row-calls stamp H row all.drawn ready all.judged in
        let same : all.first.entry ≡ e = first-same all.first.entry e all.more all.all in
        placed-one stamp.maker stamp asked.command e asked.caller asked.told.bounded allowed.given.moment
        (may-accepted H (call_by stamp asked.command) all.drawn legal asked.caller asked.accepted)
        (adds-one stamp H row all.drawn all.first legal asked ∙ ap (λ (e : Entry). e ∷ []) same) other account right

    bulk-placed : (es : List Entry) → seen stamp H 1 rows ≡ Ok es → MayHaveMade vs H (grouped stamp es)
        → Placed stamp es
    bulk-placed es is may = by (eqb w stamp.maker) refl
      where
        others_do : (es : List Entry) → seen stamp H 1 rows ≡ Ok es → MayHaveMade vs H (grouped stamp es)
            → eqb w stamp.maker ≡ false → Placed stamp es
        others_do [] is may other = placed-none stamp
        others_do (e ∷ []) is may other =
            let right = right-there w H (stamped stamp false e) may.0 other in
            row-alone rows e is other right.0 right.1
        others_do (e ∷ next ∷ es) is may other =
            let right = right-there w H (stamped stamp true e) may.0 other in
            let chair : chairs w H ≡ true =
            ap (λ b. b || chairs w H) (sym other)
            ∙ (and-left (eqb (vs 1) w) (eqb w stamp.maker) (chairs w H) may.1).1 in
            subst (λ (stamp : Stamp). Legal (B ++ grouped stamp (e ∷ next ∷ es))) (sym (stamp-other w stamp other))
            (bulk-another (e ∷ next ∷ es) is right.0 chair
            (all-right stamp.maker w vs stamp H H (e ∷ next ∷ es) refl other (alike-itself H) may))

        by : (b : Bool) → eqb w stamp.maker ≡ b → Placed stamp es
        by true same =
            subst (λ (stamp : Stamp). Legal (B ++ grouped stamp es)) (sym (stamp-same w stamp same))
            (bulk-herself es is)
        by false other = others_do es is may other

-- ---- all of them

module _ (ws : ℕ → ℕ) where
  call-made : (H : History) (call : Call) → Legal H → Legal (made_by ws H) → IsAllowed H call
      → (r : Result Drawn Rule) → judge (view call.caller H) call ≡ r → MayHaveMade ws [] (followed_by H r)
      → Legal (made_by ws (followed_by H r))
  call-made H call legal legal' allowed (Err rule) is may = legal'
  call-made H call legal legal' allowed (Ok drawn) is may =
      let group = group-accepted H call drawn legal allowed.given.caller is in
      let there = subst (λ (g : History). MayHaveMade (behind (length H) ws) H g) group
      (may-behind ws [] H drawn.group may) in
      let before = may-before ws [] H drawn.group may in
      subst (λ (g : History). Legal (made_by ws (H ++ g))) (sym group)
      (placed ws H legal legal' before (stamp_added H call) (added call.caller H call.command) there
      (call-placed ws H legal legal' before call.caller call.at call.key call.command drawn allowed is there))

  bulk-made : (H : History) (bulk : BulkCall) → Legal H → Legal (made_by ws H) → IsBulkAllowed H bulk
      → (r : Result Drawn Broken) → judge_bulk (view (Some bulk.stamp.maker) H) bulk ≡ r
      → MayHaveMade ws [] (followed_by H r) → Legal (made_by ws (followed_by H r))
  bulk-made H bulk legal legal' allowed (Err refusal) is may = legal'
  bulk-made H bulk legal legal' allowed (Ok drawn) is may =
      let draws : BulkDraws bulk.stamp H bulk.rows drawn = bulk-draws bulk.stamp H bulk.rows drawn is in
      let group : drawn.group ≡ grouped bulk.stamp draws.entries =
      ap (λ (d : Drawn). d.group) (sym draws.drawn_is) in
      let there = subst (λ (g : History). MayHaveMade (behind (length H) ws) H g) group
      (may-behind ws [] H drawn.group may) in
      let before = may-before ws [] H drawn.group may in
      subst (λ (g : History). Legal (made_by ws (H ++ g))) (sym group)
      (placed ws H legal legal' before bulk.stamp draws.entries there
      (bulk-placed ws H legal legal' before bulk.stamp bulk.rows drawn allowed is draws.entries draws.accepted there))

  move-made : (H : History) (move : Move) → Legal H → Legal (made_by ws H) → IsMoveAllowed H move
      → MayHaveMade ws [] (moved H move) → Legal (made_by ws (moved H move))
  move-made H (calls call) legal legal' allowed may =
      call-made H call legal legal' allowed (judge (view call.caller H) call) refl may
  move-made H (bulks bulk) legal legal' allowed may =
      bulk-made H bulk legal legal' allowed (judge_bulk (view (Some bulk.stamp.maker) H) bulk) refl may

  leads-made : (from to : History) (moves : List Move) → Legal from → Legal (made_by ws from)
      → LeadsTo from moves to → MayHaveMade ws [] to → Legal (made_by ws to)
  leads-made from to [] legal legal' leads may = subst (λ (H : History). Legal (made_by ws H)) leads legal'
  leads-made from to (move ∷ moves) legal legal' leads may =
      let rest = leads-grow (moved from move) to moves leads.1 in
      let first = may-before ws [] (moved from move) rest.0 (subst (MayHaveMade ws []) rest.1 may) in
      leads-made (moved from move) to moves (Legal-moved from move legal leads.0)
      (move-made from move legal legal' leads.0 first) leads.1 may

pub other_makers_legal : OtherMakersLegal
other_makers_legal ws H legal may = leads-made ws [] H legal.0 ([], refl) ([], refl) legal.1 may
