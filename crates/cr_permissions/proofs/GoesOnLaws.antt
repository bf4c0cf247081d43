-- SPDX-License-Identifier: Apache-2.0 OR MIT
-- The first command of all registers the first user and makes her a chair; and where a chair is dismissed another one
-- stays.
use Rattle.std.proofs.Common.{ℕ, Bool, true, false, cond, ◌&&◌, ◌||◌, ◌≡◌, ◌≤◌, ◌<◌, ◌+◌, suc, List, [], ◌∷◌, ◌++◌}
use Rattle.std.proofs.Common.{append-nil, append_assoc, eqb, refl, sym, ap, subst, ◌∙◌, arith, Option, Some, None}
use Rattle.std.proofs.Common.{Result, Ok, Err, le_refl}
use Rattle.std.specs.Prelude.{map, nat_le}
use Rattle.std.specs.Cmp.Derive.{both_true}
use Rattle.std.specs.List.{list_any}
use Rattle.std.proofs.lemmas.Bool.{true≢false, or_left, or_right, eqb-true, eq-eqb, leb-false, ne_eqb}
use Rattle.std.proofs.lemmas.List.Concat.{flat_map-append}
use Rattle.std.proofs.lemmas.List.Sums.{sum_by-cons}
use Rattle.cr_base.specs.declared.command.Command.{Command}
use Rattle.cr_base.specs.declared.command.Command.TheVariants as commands
use Rattle.cr_base.specs.declared.entry.Account.{Account as AccountKept}
use Rattle.cr_base.specs.declared.entry.Entry.{Entry}
use Rattle.cr_base.specs.declared.entry.Entry.TheVariants.{Registered, Named, Dismissed}
use Rattle.cr_base.specs.declared.entry.Stamp.{Stamp}
use Rattle.cr_base.specs.declared.entry.Stamped.{Stamped}
use Rattle.cr_base.specs.declared.retry.RetryKey.{RetryKey}
use Rattle.cr_base.specs.declared.words.Role.{Role}
use Rattle.cr_base.specs.declared.words.Role.TheVariants.{Account, Member, Chair}
use Rattle.cr_base.specs.declared.reply.AccountLine.{AccountLine}
use Rattle.cr_base.specs.Accounts.{lines_from, chair_count}
use Rattle.cr_base.specs.Drawn.{Drawn, stamped}
use Rattle.cr_base.specs.Calls.{call_of}
use Rattle.cr_base.specs.History.{History, Registration, all_told, role_told, registration_told}
use Rattle.cr_base.specs.HistoryFacts.{role_of, accounts_of}
use Rattle.cr_base.specs.Lists.{last_or, given}
use Rattle.cr_base.specs.Tables.{Tables, no_tables, tables_after, tables_of, FitInTurn}
use Rattle.cr_base.specs.Words.{role_number, is_chair}
use Rattle.cr_base.specs.declared.words.Phase.{Phase}
use Rattle.cr_base.specs.declared.words.Phase.TheVariants.{Setup, Submission, Bidding, Reviewing, Response}
use Rattle.cr_base.specs.declared.words.Phase.TheVariants.{Discussion}
use Rattle.cr_base.specs.declared.words.Phase.TheVariants.{Notification, Closed}
use Rattle.cr_base.specs.HistoryFacts.{phase_of}
use Rattle.cr_history.specs.Invariants.{IsRegistered, InTurn, IsInOrder, RaisesRole}
use Rattle.cr_history.proofs.Folds.{last_or-append}
use Rattle.cr_history.proofs.LineAgreement.{accounts_of-tables}
use Rattle.cr_history.proofs.SubmissionLaws.{registered-append}
use Rattle.cr_policy.specs.Sentences.{is_it, comes_behind, now, is_chairs, chairs}
use Rattle.cr_policy.specs.Judge.{judge, judge_bulk}
use Rattle.cr_policy.specs.Legal.{Legal, IsCaller, followed_by, Move, calls, bulks, IsMoveAllowed, moved, LeadsTo}
use Rattle.cr_policy.specs.View.{view}
use Rattle.cr_policy.proofs.LegalLaws.{Legal-fits, legal_invariants}
use Rattle.cr_permissions.specs.GoesOn.{CanGoOn, HasChair, GoesOn}
use Rattle.cr_permissions.proofs.MayDoLaws.{permissions_as_said}

-- the entry registers the first user
abbrev IsFirst : Entry → Type 0
IsFirst (Registered user name digest) = user ≡ 1
IsFirst _ = ⊥

-- nothing, or her registration and behind it that she is a chair
abbrev Begins : History → Type 0
Begins [] = Unit {0}
Begins (e ∷ []) = ⊥
Begins (e ∷ f ∷ rest) = IsFirst e.entry × (f.entry ≡ Named 1 Chair)

-- the first command of all
begun : (caller : Option ℕ) (at : ℕ) (key : Option RetryKey) (command : Command) → IsCaller [] caller command
    → Begins (followed_by [] (judge (view caller []) (call_of caller at key command)))
begun None at key (commands.Register name digest) is = (refl, refl)
begun (Some u) at key (commands.Register name digest) is = cc
begun None at key (commands.Tag paper tag true) is = absurd is
begun None at key (commands.Tag paper tag false) is = absurd is
begun None at key command is = absurd is
begun (Some u) at key (commands.Tag paper tag true) is = absurd (true≢false (sym is))
begun (Some u) at key (commands.Tag paper tag false) is = absurd (true≢false (sym is))
begun (Some u) at key command is = absurd (true≢false (sym is))

stays : {E : Type 0} (e f : Stamped) (rest : History) (r : Result Drawn E) → Begins (e ∷ f ∷ rest)
    → Begins (followed_by (e ∷ f ∷ rest) r)
stays e f rest (Ok drawn) begins = begins
stays e f rest (Err refusal) begins = begins

moved-begins : (H : History) (move : Move) → Begins H → IsMoveAllowed H move → Begins (moved H move)
moved-begins [] (calls call) begins allowed = begun call.caller call.at call.key call.command allowed.given.caller
moved-begins [] (bulks bulk) begins allowed = absurd (true≢false (sym allowed.given.caller))
moved-begins (e ∷ []) move begins allowed = absurd begins
moved-begins (e ∷ f ∷ rest) (calls call) begins allowed =
    stays e f rest (judge (view call.caller (e ∷ f ∷ rest)) call) begins
moved-begins (e ∷ f ∷ rest) (bulks bulk) begins allowed =
    stays e f rest (judge_bulk (view (Some bulk.stamp.maker) (e ∷ f ∷ rest)) bulk) begins

leads-begins : (from to : History) (moves : List Move) → Begins from → LeadsTo from moves to → Begins to
leads-begins from to [] begins leads = subst (λ (H : History). Begins H) leads begins
leads-begins from to (move ∷ moves) begins leads =
    leads-begins (moved from move) to moves (moved-begins from move begins leads.0) leads.1

-- ---- chairs among accounts

-- the line of this user, who is a chair
abbrev is_line : ℕ → AccountLine → Bool
is_line user line = eqb line.user user && is_chair line.role

-- one of these is a chair's, of whom this holds
abbrev Finds : (ℕ → Type 0) → List AccountLine → Type 0
Finds Holds lines = (user : ℕ) × Holds user × (list_any (is_line user) lines ≡ true)

module _ (Holds : ℕ → Type 0) (line : AccountLine) (lines : List AccountLine) where
  here : is_chair line.role ≡ true → Holds line.user → Finds Holds (line ∷ lines)
  here chair holds = (
    line.user,
    holds,
    or_left (is_line line.user line) (list_any (is_line line.user) lines)
        (both_true (eq-eqb line.user line.user refl) chair),
  )

  later : (Held : ℕ → Type 0) → ((user : ℕ) → Held user → Holds user) → Finds Held lines → Finds Holds (line ∷ lines)
  later Held so found =
      (found.0, so found.0 found.1, or_right (is_line found.0 line) (list_any (is_line found.0) lines) found.2)

from-next : (n v : ℕ) → n + 1 ≤ v → n ≤ v
from-next n v from = omega (arith, from)

apart-next : (n user v : ℕ) → n ≡ user → n + 1 ≤ v → v ≡ user → ⊥
apart-next n user v hers from same = omega (arith, hers, from, same)

left-one : (n : ℕ) → 2 ≤ 1 + n → 1 ≤ n
left-one n few = omega (arith, few)

left-all : (few n : ℕ) → few ≤ 0 + n → few ≤ n
left-all few n h = omega (arith, h)

none-left : (few : ℕ) → suc few ≤ 0 → ⊥
none-left few h = omega (arith, h)

-- accounts, of which the first has number n
module _ (n : ℕ) (a : AccountKept) (accounts : List AccountKept) where
  abbrev line : AccountLine
  line = record { user = n; name = a.name; role = a.role }

  abbrev lines_behind : List AccountLine
  lines_behind = lines_from (n + 1) accounts

  counted : (b : Bool) → is_chair a.role ≡ b → chair_count (line ∷ lines_behind) ≡ cond b 1 0 + chair_count lines_behind
  counted b is = sum_by-cons (λ (l : AccountLine). cond (is_chair l.role) 1 0) line lines_behind
      ∙ ap (λ (c : Bool). cond c 1 0 + chair_count lines_behind) is

  -- a chair among those from n on
  some-step : (b : Bool) → is_chair a.role ≡ b → 1 ≤ chair_count (line ∷ lines_behind)
      → (1 ≤ chair_count lines_behind → Finds (λ v. n + 1 ≤ v) lines_behind)
      → Finds (λ v. n ≤ v) (line ∷ lines_behind)
  some-step true is few found = here (λ v. n ≤ v) line lines_behind is (le_refl n)
  some-step false is few found =
      later (λ v. n ≤ v) line lines_behind (λ v. n + 1 ≤ v) (λ v from. from-next n v from)
      (found (left-all 1 (chair_count lines_behind) (subst (λ (m : ℕ). 1 ≤ m) (counted false is) few)))

  -- and one beside this user, where there are two
  other-step : (user : ℕ) (b : Bool) → is_chair a.role ≡ b → (same : Bool) → eqb n user ≡ same
      → 2 ≤ chair_count (line ∷ lines_behind)
      → (1 ≤ chair_count lines_behind → Finds (λ v. n + 1 ≤ v) lines_behind)
      → (2 ≤ chair_count lines_behind → Finds (λ v. v ≡ user → ⊥) lines_behind)
      → Finds (λ v. v ≡ user → ⊥) (line ∷ lines_behind)
  other-step user true is true same few found other =
      later (λ v. v ≡ user → ⊥) line lines_behind (λ v. n + 1 ≤ v)
      (λ v from. apart-next n user v (eqb-true n user same) from)
      (found (left-one (chair_count lines_behind) (subst (λ (m : ℕ). 2 ≤ m) (counted true is) few)))
  other-step user true is false same few found other =
      here (λ v. v ≡ user → ⊥) line lines_behind is (λ e. true≢false (sym (eq-eqb n user e) ∙ same))
  other-step user false is b same few found other =
      later (λ v. v ≡ user → ⊥) line lines_behind (λ v. v ≡ user → ⊥) (λ v apart. apart)
      (other (left-all 2 (chair_count lines_behind) (subst (λ (m : ℕ). 2 ≤ m) (counted false is) few)))

some-chair : (n : ℕ) (accounts : List AccountKept) → 1 ≤ chair_count (lines_from n accounts)
    → Finds (λ v. n ≤ v) (lines_from n accounts)
some-chair n [] few = absurd (none-left 0 few)
some-chair n (a ∷ accounts) few = some-step n a accounts (is_chair a.role) refl few (some-chair (n + 1) accounts)

other-chair : (n user : ℕ) (accounts : List AccountKept) → 2 ≤ chair_count (lines_from n accounts)
    → Finds (λ v. v ≡ user → ⊥) (lines_from n accounts)
other-chair n user [] few = absurd (none-left 1 few)
other-chair n user (a ∷ accounts) few =
    other-step n a accounts user (is_chair a.role) refl (eqb n user) refl few (some-chair (n + 1) accounts)
    (other-chair (n + 1) user accounts)

-- whose line it is has registered, and has the role that is said of her
abbrev line_with : (ℕ → Role) → Registration → AccountLine
line_with role r = record { user = r.user; name = r.name; role = role r.user }

lines-told : (role : ℕ → Role) (user : ℕ) (rs : List Registration)
    → list_any (is_line user) (map (line_with role) rs) ≡ true
    → (list_any (λ (r : Registration). eqb r.user user) rs ≡ true) × (is_chair (role user) ≡ true)
lines-told role user [] h = absurd (true≢false (sym h))
lines-told role user (r ∷ rs) h = by (eqb r.user user) refl (is_chair (role r.user)) refl (lines-told role user rs) h
  where
    others : Bool
    others = list_any (λ (r : Registration). eqb r.user user) rs

    by : (same : Bool) → eqb r.user user ≡ same → (chair : Bool) → is_chair (role r.user) ≡ chair
        → (list_any (is_line user) (map (line_with role) rs) ≡ true → (others ≡ true) × (is_chair (role user) ≡ true))
        → ((same && chair) || list_any (is_line user) (map (line_with role) rs)) ≡ true
        → ((eqb r.user user || others) ≡ true) × (is_chair (role user) ≡ true)
    by true same true chair more h = (
      or_left (eqb r.user user) others same,
      ap (λ (v : ℕ). is_chair (role v)) (sym (eqb-true r.user user same))
          ∙ chair,
    )
    by true same false chair more h = (or_left (eqb r.user user) others same, (more h).1)
    by false same b chair more h = (or_right (eqb r.user user) others (more h).0, (more h).1)

-- ---- while the history goes on there is a chair

record HasSome (H : History) : Type 0 where
  user : ℕ
  registered : IsRegistered H user
  role : role_of (Some user) H ≡ Chair

chair-role : (role : Role) → is_chair role ≡ true → role ≡ Chair
chair-role Account h = absurd (true≢false (sym h))
chair-role Member h = absurd (true≢false (sym h))
chair-role Chair h = refl

-- where there are two chairs one is another than this user
another : (H : History) → FitInTurn no_tables H → (user : ℕ) → nat_le (chair_count (accounts_of H)) 1 ≡ false
    → (v : ℕ) × (v ≡ user → ⊥) × IsRegistered H v × (role_of (Some v) H ≡ Chair)
another H fits user two =
    let accounts : List AccountKept = (tables_of H).accounts in
    let lines : accounts_of H ≡ lines_from 1 accounts = accounts_of-tables H fits in
    let found =
    other-chair 1 user accounts (subst (λ (ls : List AccountLine). 2 ≤ chair_count ls) lines
    (leb-false (chair_count (accounts_of H)) 1 two)) in
    let told = lines-told (λ v. role_of (Some v) H) found.0 (all_told registration_told H)
    (ap (list_any (is_line found.0)) lines ∙ found.2) in
    (found.0, found.1, told.0, chair-role (role_of (Some found.0) H) told.1)

role-behind : (v : ℕ) (H : History) (e : Stamped)
    → role_of (Some v) (H ++ e ∷ []) ≡ last_or (role_of (Some v) H) (role_told (Some v) e.entry ++ [])
role-behind v H e =
    ap (last_or Account) (flat_map-append (λ (x : Stamped). role_told (Some v) x.entry) H (e ∷ []))
    ∙ last_or-append Account (all_told (role_told (Some v)) H) (role_told (Some v) e.entry ++ [])

highest : (role : Role) → role_number Chair < role_number role → ⊥
highest Account h = omega (arith, h)
highest Member h = omega (arith, h)
highest Chair h = omega (arith, h)

-- one stays a chair where an entry doesn't tell of her role
stays_chair : (H : History) (e : Stamped) (v : ℕ) → IsRegistered H v → role_of (Some v) H ≡ Chair
    → last_or (role_of (Some v) H) (role_told (Some v) e.entry ++ []) ≡ role_of (Some v) H → HasSome (H ++ e ∷ [])
stays_chair H e v registered chair same =
    record { user = v; registered = registered-append H (e ∷ []) v registered; role = role-behind v H e ∙ same ∙ chair }

module _ (H : History) (fits : FitInTurn no_tables H) (some : HasSome H) (stamp : Stamp) (more : Bool) where
  -- that of a user isn't told by what names another
  untold : (v user : ℕ) (role : Role) → eqb v user ≡ false
      → last_or (role_of (Some v) H) (given (eqb v user) role ++ []) ≡ role_of (Some v) H
  untold v user role apart = ap (λ (b : Bool). last_or (role_of (Some v) H) (given b role ++ [])) apart

  hers : (user : ℕ) → eqb some.user user ≡ true → role_of (Some user) H ≡ Chair
  hers user same = ap (λ (v : ℕ). role_of (Some v) H) (sym (eqb-true some.user user same)) ∙ some.role

  named : (user : ℕ) (role : Role) → role_number (role_of (Some user) H) < role_number role → (b : Bool)
      → eqb some.user user ≡ b
      → HasSome (H ++ stamped stamp more (Named user role) ∷ [])
  named user role rises true same =
      absurd (highest role (subst (λ (r : Role). role_number r < role_number role) (hers user same) rises))
  named user role rises false apart =
      stays_chair H (stamped stamp more (Named user role)) some.user some.registered some.role
      (untold some.user user role apart)

  dismissed : (user : ℕ) → (is_chair (role_of (Some user) H) && nat_le (chair_count (accounts_of H)) 1) ≡ false
      → (b : Bool) → eqb some.user user ≡ b
      → HasSome (H ++ stamped stamp more (Dismissed user) ∷ [])
  dismissed user rule true same =
      let two : nat_le (chair_count (accounts_of H)) 1 ≡ false =
      ap (λ (r : Role). is_chair r && nat_le (chair_count (accounts_of H)) 1) (sym (hers user same)) ∙ rule in
      let other = another H fits user two in
      stays_chair H (stamped stamp more (Dismissed user)) other.0 other.2 other.3
      (untold other.0 user Account (ne_eqb other.0 user other.1))
  dismissed user rule false apart =
      stays_chair H (stamped stamp more (Dismissed user)) some.user some.registered some.role
      (untold some.user user Account apart)

  behind : (e : Entry) → RaisesRole H e → HasSome (H ++ stamped stamp more e ∷ [])
  behind (Named user role) raises = named user role raises (eqb some.user user) refl
  behind (Dismissed user) raises = dismissed user raises.1 (eqb some.user user) refl
  behind e raises = stays_chair H (stamped stamp more e) some.user some.registered some.role refl

fits-before : (t : Tables) (H g : History) → FitInTurn t (H ++ g) → FitInTurn t H
fits-before t [] g fits = tt
fits-before t (e ∷ H) g fits = (fits.0, fits-before (tables_after t e) H g fits.1)

has_some : (before rest : History) → FitInTurn no_tables (before ++ rest) → HasSome before
    → InTurn IsInOrder before rest → HasSome (before ++ rest)
has_some before [] fits some turn = subst HasSome (sym (append-nil before)) some
has_some before (e ∷ rest) fits some turn =
    let along = append_assoc before (e ∷ []) rest in
    subst HasSome along
    (has_some (before ++ e ∷ []) rest (subst (λ (H : History). FitInTurn no_tables H) (sym along) fits)
    (behind before (fits-before no_tables before (e ∷ rest) fits) some e.stamp e.more e.entry turn.0.role) turn.1)

-- ---- the law

first-role : (a b : Entry) → IsFirst a → b ≡ Named 1 Chair
    → last_or Account (role_told (Some 1) a ++ (role_told (Some 1) b ++ [])) ≡ Chair
first-role (Registered user name digest) b first is =
    ap (λ (x : Entry). last_or Account (role_told (Some 1) x ++ [])) is
first-role _ b first is = absurd first

first-registered : (a : Entry) (rest : List Registration) → IsFirst a
    → list_any (λ (r : Registration). eqb r.user 1) (registration_told a ++ rest) ≡ true
first-registered (Registered user name digest) rest first =
    or_left (eqb user 1) (list_any (λ (r : Registration). eqb r.user 1) rest) (eq-eqb user 1 first)
first-registered _ rest first = absurd first

-- before the end there is a next phase
next-phase : (a : Phase) → is_it Closed a ≡ false → (to : Phase) × (comes_behind a to ≡ true)
next-phase Setup before = (Submission, refl)
next-phase Submission before = (Bidding, refl)
next-phase Bidding before = (Reviewing, refl)
next-phase Reviewing before = (Discussion, refl)
next-phase Response before = (Discussion, refl)
next-phase Discussion before = (Notification, refl)
next-phase Notification before = (Closed, refl)
next-phase Closed before = absurd (true≢false before)

-- which a chair opens
opens-next : (H : History) → Legal H → now Closed H ≡ false → (u : ℕ) → chairs u H ≡ true → CanGoOn H u
opens-next H legal before u chair =
    let next = next-phase (phase_of H) before in
    record {
      next = next.0;
      comes = next.1;
      accepted = λ at key. permissions_as_said H (call_of (Some u) at key (commands.SetPhase next.0)) legal
          ∙ (λ i. chair i && next.1 i);
    }

has-chair : (H : History) (u : ℕ) → Legal H → Begins H → InTurn IsInOrder [] H → IsRegistered H u → HasChair H
has-chair [] u legal begins turn is = absurd (true≢false (sym is))
has-chair (e ∷ []) u legal begins turn is = absurd begins
has-chair (e ∷ f ∷ rest) u legal begins turn is =
    let first : HasSome (e ∷ f ∷ []) = record {
      user = 1;
      registered = first-registered e.entry (all_told registration_told (f ∷ [])) begins.0;
      role = first-role e.entry f.entry begins.0 begins.1;
    } in
    let some : HasSome (e ∷ f ∷ rest) = has_some (e ∷ f ∷ []) rest (Legal-fits (e ∷ f ∷ rest) legal) first turn.1.1 in
    record {
      user = some.user;
      registered = some.registered;
      chair = ap is_chairs some.role;
      goes_on = opens-next (e ∷ f ∷ rest) legal;
    }

pub goes_on : GoesOn
goes_on H u legal is = has-chair H u legal (leads-begins [] H legal.0 tt legal.1) (legal_invariants H legal).in_order is
