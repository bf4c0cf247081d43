-- SPDX-License-Identifier: Apache-2.0 OR MIT
-- What follows of an entry from fitting the tables: its number and its name are the next and a new one, whom and what
-- it is about is there; and where the rules let a command add it, it is within its bounds, so that it has a row.
use Rattle.std.proofs.Common.{ℕ, Bool, true, false, cond, ◌≡◌, ◌≤◌, ◌<◌, ◌+◌, ◌-◌, List, [], ◌∷◌, ◌++◌, length, eqb}
use Rattle.std.proofs.Common.{refl, sym, ap, subst, ◌∙◌, arith, ◌||◌, ◌&&◌, Option, Some, None}
use Rattle.std.specs.Prelude.{nat_le, map}
use Rattle.std.specs.List.{All, AllByRecursion, list_any}
use Rattle.std.proofs.lemmas.Bool.{eqb-true, true≢false}
use Rattle.std.proofs.lemmas.Bool.Decides.{nat_tests}
use Rattle.std.proofs.lemmas.List.{length-map}
use Rattle.std.proofs.lemmas.List.Elements.{All-from_recursion}
use Rattle.cr_base.specs.declared.entry.Account.{Account}
use Rattle.cr_base.specs.declared.entry.Entry.{Entry}
use Rattle.cr_base.specs.declared.entry.Entry.TheVariants.{Registered, Named, PhaseSet, ModeSet, Submitted, Coauthor}
use Rattle.cr_base.specs.declared.entry.Entry.TheVariants.{Revised, Uploaded, Withdrawn, Conflict, Bid, Assigned}
use Rattle.cr_base.specs.declared.entry.Entry.TheVariants.{Unassigned, Reviewed, Commented, Tagged, Decided}
use Rattle.cr_base.specs.declared.entry.Entry.TheVariants.{DeadlineSet, Dismissed, Invited, Uninvited, Responded}
use Rattle.cr_base.specs.declared.entry.Stamp.{Stamp}
use Rattle.cr_base.specs.declared.entry.Stamped.{Stamped}
use Rattle.cr_base.specs.declared.reply.AccountLine.{AccountLine}
use Rattle.cr_base.specs.declared.retry.RetryKey.{RetryKey}
use Rattle.cr_base.specs.declared.words.Phase.{Phase}
use Rattle.cr_base.specs.declared.words.Phase.TheVariants.{Setup, Submission, Bidding, Reviewing, Response}
use Rattle.cr_base.specs.declared.words.Phase.TheVariants.{Discussion, Notification, Closed}
use Rattle.cr_base.specs.declared.words.Mode.{Mode}
use Rattle.cr_base.specs.declared.words.Mode.TheVariants.{Overt, Blind, Anonymous}
use Rattle.cr_base.specs.declared.words.Role.{Role}
use Rattle.cr_base.specs.declared.words.Decision.{Decision}
use Rattle.cr_base.specs.declared.words.Decision.TheVariants.{Accept, Reject}
use Rattle.cr_base.specs.declared.words.Kind.{Kind}
use Rattle.cr_base.specs.declared.words.Kind.TheVariants as kind
use Rattle.cr_base.specs.declared.words.Role.TheVariants as role
use Rattle.cr_base.specs.Accounts.{IsAccount, lines_from}
use Rattle.cr_base.specs.Deadlines.{IsDeadlineOrNone, last_deadline}
use Rattle.cr_base.specs.Drawn.{stamped, grouped, submission}
use Rattle.cr_base.specs.HistoryFacts.{role_of, accounts_of, ordinal_of}
use Rattle.cr_base.specs.History.{History, Registration, all_told, registration_told, paper_about, user_about}
use Rattle.cr_base.specs.Keys.{IsRetryKey, IsKeyOrNone, last_command_number}
use Rattle.cr_base.specs.Lists.{AtSome, numbers_from}
use Rattle.cr_base.specs.Papers.{IsPaper}
use Rattle.cr_base.specs.Phases.{may_have_deadline}
use Rattle.cr_base.specs.Reviews.{forms_in, written_told}
use Rattle.cr_base.specs.Rows.{fields_of, shape_of, kind_of, key_number, key_mark, label_number, until_number}
use Rattle.cr_base.specs.Rows.{IsBoundedEntry, Fields, fields}
use Rattle.cr_base.specs.declared.shape.Shape.{Shape}
use Rattle.cr_base.specs.declared.shape.Range.{Range}
use Rattle.cr_base.specs.declared.shape.TextKind.{TextKind}
use Rattle.cr_base.specs.declared.shape.TextKind.TheVariants.{Nothing}
use Rattle.cr_base.specs.Shapes.{shape, InRange, HasText, key_in, user_range, paper_range, role_range}
use Rattle.cr_base.specs.Shapes.{review_kind_range, decision_range, ordinal_range, some_ordinal_range}
use Rattle.cr_base.specs.Shapes.{deadline_phase_range, some_deadline_range, unused}
use Rattle.cr_base.specs.Tables.{no_tables, tables_of, Fits, FitInTurn}
use Rattle.cr_base.specs.Talk.{comments_in, comment_as_told}
use Rattle.cr_base.specs.Words.{phase_number, mode_number, role_number, review_kind_number, decision_number}
use Rattle.cr_base.proofs.AccountLaws.{length-lines_of}
use Rattle.cr_base.proofs.ListLaws.{length-numbers_from, list_any-numbers_from}
use Rattle.cr_history.specs.Groups.{IsRuled, IsBoundedStamp, Adds, single, submitted, first_user, Grows, adds}
use Rattle.cr_history.specs.Groups.{goes_on}
use Rattle.cr_history.specs.Invariants.{AreThere, IsRegistered, IsMadeByUser, HasNextNumber, HasNewName, IsAboutThose}
use Rattle.cr_history.specs.Invariants.{IsSubmitted, InTurn}
use Rattle.cr_history.proofs.CallerLaws.{registered-from}
use Rattle.cr_history.proofs.SizeAgreement.{IsSized, sized-tables}
use Rattle.cr_history.proofs.LineAgreement.{accounts_of-tables}
use Rattle.cr_history.proofs.NumberAgreement.{number_of-tables}
use Rattle.cr_history.proofs.PaperAgreement.{papers_of-tables, uploads_of-tables}
use Rattle.cr_history.proofs.ReviewAgreement.{forms_of-tables}
use Rattle.cr_history.proofs.SeatAgreement.{labels-tables, ordinal_of-tables, seat-drawn}
use Rattle.cr_history.proofs.SubmissionLaws.{submission-in_turn}
use Rattle.cr_history.proofs.TalkAgreement.{comments_of-tables}

-- ---- numbers, names, and what is named

-- a number within the bounds is among those from 1
within : {A : Type 0} (p : ℕ) (xs : List A) → 1 ≤ p → p ≤ length xs → list_any (λ q. eqb q p) (numbers_from 1 xs) ≡ true
within p xs low high = list_any-numbers_from 1 p xs (omega arith) ∙ between p (length xs) low high
  where
    between : (p n : ℕ) → 1 ≤ p → p ≤ n → (nat_le 1 p && nat_le p (1 + n - 1)) ≡ true
    between p n low high = grind (arith, nat_tests)

any-lines : (user n : ℕ) (accounts : List Account)
    → list_any (λ (a : AccountLine). eqb a.user user) (lines_from n accounts)
    ≡ list_any (λ q. eqb q user) (numbers_from n accounts)
any-lines user n [] = refl
any-lines user n (a ∷ accounts) = ap (λ b. eqb n user || b) (any-lines user (n + 1) accounts)

module _ (H : History) (fits : FitInTurn no_tables H) where
  any-registered : (user : ℕ) (rs : List Registration) → list_any (λ (r : Registration). eqb r.user user) rs
      ≡ list_any (λ (a : AccountLine). eqb a.user user)
      (map (λ (r : Registration). record { user = r.user; name = r.name; role = role_of (Some r.user) H }) rs)
  any-registered user [] = refl
  any-registered user (r ∷ rs) = ap (λ b. eqb r.user user || b) (any-registered user rs)

  registered-within : (user : ℕ) → 1 ≤ user → user ≤ length (tables_of H).accounts → IsRegistered H user
  registered-within user low high =
      any-registered user (all_told registration_told H)
      ∙ ap (list_any (λ (a : AccountLine). eqb a.user user)) (accounts_of-tables H fits)
      ∙ any-lines user 1 (tables_of H).accounts
      ∙ within user (tables_of H).accounts low high

  submitted-within : (paper : ℕ) → 1 ≤ paper → paper ≤ length (tables_of H).papers.papers → IsSubmitted H paper
  submitted-within paper low high =
      ap (list_any (λ q. eqb q paper)) (papers_of-tables H fits) ∙ within paper (tables_of H).papers.papers low high

  pub accounts-counted : length (tables_of H).accounts ≡ length (accounts_of H)
  accounts-counted = sym (ap length (accounts_of-tables H fits) ∙ length-lines_of (tables_of H).accounts)

  pub fits-number : (stamp : Stamp) (more : Bool) (e : Entry) → Fits (tables_of H) (stamped stamp more e)
      → HasNextNumber H e
  fits-number stamp more (Registered user name digest) fit = fit.accounts.0 ∙ ap (λ n. n + 1) accounts-counted
  fits-number stamp more (Submitted paper title abstract) fit = fit.papers.0
      ∙ ap (λ n. n + 1) (sym (ap length (papers_of-tables H fits) ∙ length-numbers_from 1 (tables_of H).papers.papers))
  fits-number stamp more (Uploaded paper version content) fit =
      fit.papers.1 ∙ ap (λ n. n + 1) (sym (ap length (uploads_of-tables paper H)))
  fits-number stamp more (Assigned paper user kind ordinal) fit =
      fit.seats.0 ∙ ap (λ n. n + 1) (sym (labels-tables paper H))
  fits-number stamp more (Reviewed paper ordinal version form) fit =
      fit.reviews
      ∙ ap (λ n. n + 1)
      (sym (ap length (forms_of-tables paper ordinal H) ∙ length-map (forms_in (tables_of H).reviews paper ordinal)
      written_told))
  fits-number stamp more (Commented paper n ordinal text) fit =
      fit.talk.0
      ∙ ap (λ n. n + 1)
      (sym (ap length (comments_of-tables paper H) ∙ length-map (comments_in (tables_of H).talk paper)
      comment_as_told))
  fits-number stamp more e fit = tt

  pub fits-name : (stamp : Stamp) (more : Bool) (e : Entry) → Fits (tables_of H) (stamped stamp more e) → HasNewName H e
  fits-name stamp more (Registered user name digest) fit = number_of-tables name H fits ∙ fit.accounts.2
  fits-name stamp more e fit = tt

  are-there : (paper user : Option ℕ) → AtSome (IsPaper (tables_of H).papers) paper
      → AtSome (IsAccount (tables_of H).accounts) user → AreThere H paper user
  are-there None None there by = tt
  are-there None (Some user) there by = registered-within user by.0 by.1
  are-there (Some paper) None there by = submitted-within paper there.0 there.1
  are-there (Some paper) (Some user) there by =
      (submitted-within paper there.0 there.1, registered-within user by.0 by.1)

  pub fits-about : (stamp : Stamp) (more : Bool) (e : Entry) → Fits (tables_of H) (stamped stamp more e)
      → IsAboutThose H e
  fits-about stamp more (Registered user name digest) fit = tt
  fits-about stamp more (Submitted paper title abstract) fit = tt
  fits-about stamp more (Coauthor paper user) fit = (
    submitted-within paper fit.papers.0 (let last = fit.papers.1 in omega (arith, last)),
    registered-within user fit.accounts.0 fit.accounts.1,
  )
  fits-about stamp more (Uploaded paper version content) fit = submitted-within paper fit.papers.0.0 fit.papers.0.1
  fits-about stamp more e fit = are-there (paper_about e) (user_about e) fit.papers fit.accounts

-- ---- numbers of fields

-- a field that a kind doesn't use
zero_in : InRange unused 0
zero_in = (omega arith, omega arith)

bit_few : (b : Bool) → cond b 1 0 ≤ 1
bit_few true = omega arith
bit_few false = omega arith

phase_number-few : (phase : Phase) → phase_number phase ≤ 7
phase_number-few Setup = omega arith
phase_number-few Submission = omega arith
phase_number-few Bidding = omega arith
phase_number-few Reviewing = omega arith
phase_number-few Response = omega arith
phase_number-few Discussion = omega arith
phase_number-few Notification = omega arith
phase_number-few Closed = omega arith

mode_number-few : (mode : Mode) → mode_number mode ≤ 2
mode_number-few Overt = omega arith
mode_number-few Blind = omega arith
mode_number-few Anonymous = omega arith

review_kind_number-few : (kind : Kind) → InRange review_kind_range (review_kind_number kind)
review_kind_number-few kind.Primary = (omega arith, omega arith)
review_kind_number-few kind.Secondary = (omega arith, omega arith)
review_kind_number-few kind.Pc = (omega arith, omega arith)

decision_number-few : (decision : Decision) → InRange decision_range (decision_number decision)
decision_number-few Accept = (omega arith, omega arith)
decision_number-few Reject = (omega arith, omega arith)

-- the role to which a user rises is a member's or a chair's
raised_number : (before to : Role) → role_number before < role_number to → InRange role_range (role_number to)
raised_number before role.Account h = (omega (arith, h), omega (arith, h))
raised_number before role.Member h = (omega arith, omega arith)
raised_number before role.Chair h = (omega arith, omega arith)

-- a label that may be none, where each that is there is a letter's
label-few : (ordinal : Option ℕ) → ((o : ℕ) → ordinal ≡ Some o → InRange ordinal_range o)
    → InRange some_ordinal_range (label_number ordinal)
label-few None drawn = (omega arith, omega arith)
label-few (Some o) drawn = let there = drawn o refl in by (eqb o 0) refl there.0 there.1
  where
    by : (b : Bool) → eqb o 0 ≡ b → 1 ≤ o → o ≤ 26 → InRange some_ordinal_range (cond b 27 o)
    by true none low high = let e = eqb-true o 0 none in absurd (omega (arith, e, low))
    by false some low high = (omega arith, high)

-- the phase of a deadline
deadline_phase-few : (phase : Phase) → may_have_deadline phase ≡ true
    → InRange deadline_phase_range (phase_number phase)
deadline_phase-few Submission h = ((omega arith, omega arith), refl)
deadline_phase-few Bidding h = ((omega arith, omega arith), refl)
deadline_phase-few Reviewing h = ((omega arith, omega arith), refl)
deadline_phase-few Response h = ((omega arith, omega arith), refl)
deadline_phase-few Discussion h = ((omega arith, omega arith), refl)
deadline_phase-few phase h = absurd (true≢false (sym h))

-- a deadline that may be none
until-few : (until : Option ℕ) → IsDeadlineOrNone until → InRange some_deadline_range (until_number until)
until-few None bounded = (omega arith, omega arith)
until-few (Some n) bounded = by (eqb n 0) refl bounded.0 bounded.1
  where
    by : (b : Bool) → eqb n 0 ≡ b → 1 ≤ n → n ≤ last_deadline → InRange some_deadline_range (cond b 253402207201 n)
    by true none low high = let e = eqb-true n 0 none in absurd (omega (arith, e, low))
    by false some low high = (omega arith, high)

-- a key has a number, which isn't 0
no-zero : (key : RetryKey) → IsRetryKey key → eqb key.number 0 ≡ true → ⊥
no-zero key bounded is = let none = eqb-true key.number 0 is in let low = bounded.low in omega (arith, none, low)

-- so that its fields spell it
key-back : (key : Option RetryKey) → IsKeyOrNone key → key_in (key_number key) (key_mark key) ≡ key
key-back None bounded = refl
key-back (Some key) bounded = by (eqb key.number 0) refl
  where
    by : (b : Bool) → eqb key.number 0 ≡ b → key_in (cond b (last_command_number + 1) key.number) key.mark ≡ Some key
    by true is = absurd (no-zero key bounded is)
    by false is = ap (λ (c : Bool). cond c None (Some key)) is

-- and there is no mark without a number
key-unmarked : (key : Option RetryKey) → IsKeyOrNone key → key_number key ≡ 0 → key_mark key ≡ []
key-unmarked None bounded none = refl
key-unmarked (Some key) bounded none = by (eqb key.number 0) refl none
  where
    by : (b : Bool) → eqb key.number 0 ≡ b → cond b (last_command_number + 1) key.number ≡ 0 → key.mark ≡ []
    by true is none = absurd (no-zero key bounded is)
    by false is none = let low = bounded.low in absurd (omega (arith, none, low))

-- ---- bounds

-- these fields are within the bounds of a shape
record IsToldFor (s : Shape) (f : Fields) : Type 0 where
  pub n1 : InRange s.n1 f.n1
  pub n2 : InRange s.n2 f.n2
  pub n3 : InRange s.n3 f.n3
  pub n4 : InRange s.n4 f.n4
  pub n5 : InRange s.n5 f.n5
  pub b1 : HasText s.b1 f.b1
  pub b2 : HasText s.b2 f.b2

-- what an entry tells beside its stamp and its mark is within the bounds of its kind
abbrev IsToldIn : Entry → Type 0
IsToldIn e = IsToldFor (shape_of (kind_of e)) (fields_of e)

-- fields of three numbers and two texts are, where each is; and those of two numbers, and of one
told : {n1 n2 n3 : Range} {b1 b2 : TextKind} {a b c : ℕ} {x y : List ℕ} → InRange n1 a → InRange n2 b → InRange n3 c
    → HasText b1 x → HasText b2 y → IsToldFor (shape n1 n2 n3 b1 b2) (fields a b c x y)
told ha hb hc hx hy = record { n1 = ha; n2 = hb; n3 = hc; n4 = zero_in; n5 = zero_in; b1 = hx; b2 = hy }

told_two : {n1 n2 : Range} {a b : ℕ} → InRange n1 a → InRange n2 b
    → IsToldFor (shape n1 n2 unused Nothing Nothing) (fields a b 0 [] [])
told_two ha hb = told ha hb zero_in refl refl

told_one : {n1 : Range} {a : ℕ} → InRange n1 a → IsToldFor (shape n1 unused unused Nothing Nothing) (fields a 0 0 [] [])
told_one ha = told_two ha zero_in

-- and then its row is, where its stamp's maker and what a request brings are
told-bounded : (stamp : Stamp) (more : Bool) (e : Entry) → InRange user_range stamp.maker → IsBoundedStamp stamp
    → IsToldIn e
    → IsBoundedEntry (stamped stamp more e)
told-bounded stamp more e maker bounds told = record {
  stamp =
      record {
        maker = maker;
        at = bounds.moment;
        key = subst IsKeyOrNone (sym (key-back stamp.key bounds.key)) bounds.key;
      };
  unmarked = key-unmarked stamp.key bounds.key;
  more = bit_few more;
  n1 = told.n1;
  n2 = told.n2;
  n3 = told.n3;
  n4 = told.n4;
  n5 = told.n5;
  b1 = told.b1;
  b2 = told.b2;
}

module _ (H : History) (fits : FitInTurn no_tables H) where
  sized : IsSized (tables_of H)
  sized = sized-tables H fits

  -- who has registered has a number that a row can hold
  numbered : (user : ℕ) → IsRegistered H user → InRange user_range user
  numbered user registered = registered-from no_tables H user fits registered

  -- and so has one of the accounts, and a paper that is there
  account_numbered : (user : ℕ) → (1 ≤ user) × (user ≤ length (tables_of H).accounts) → InRange user_range user
  account_numbered user there = let high = there.1 in let few = sized.accounts in (there.0, omega (arith, high, few))

  paper_numbered : (paper : ℕ) → IsPaper (tables_of H).papers paper → InRange paper_range paper
  paper_numbered paper there = let high = there.1 in let few = sized.papers in (there.0, omega (arith, high, few))

  -- the ordinal under which a user reviews a paper, too
  label_drawn : (user paper ordinal : ℕ) → ordinal_of (Some user) paper H ≡ Some ordinal → InRange ordinal_range ordinal
  label_drawn user paper ordinal is =
      seat-drawn H fits user paper ordinal (sym (ordinal_of-tables (Some user) paper H fits) ∙ is)

  coauthor-told : (stamp : Stamp) (more : Bool) (paper user : ℕ)
      → Fits (tables_of H) (stamped stamp more (Coauthor paper user)) → IsToldIn (Coauthor paper user)
  coauthor-told stamp more paper user fit =
      let last = fit.papers.1 in
      told_two (paper_numbered paper (fit.papers.0, omega (arith, last))) (account_numbered user fit.accounts)

  told-in : (stamp : Stamp) (more : Bool) (e : Entry) → IsRuled H stamp.maker e
      → Fits (tables_of H) (stamped stamp more e) → IsToldIn e
  told-in stamp more (Registered user name digest) ruled fit =
      let next = fit.accounts.0 in
      told (omega (arith, next), fit.accounts.1) zero_in zero_in ruled.texts.0 ruled.texts.1
  told-in stamp more (Named user to) ruled fit =
      told_two (account_numbered user fit.accounts) (raised_number _ to ruled.role)
  told-in stamp more (PhaseSet phase) ruled fit =
      told_one (omega arith, phase_number-few phase)
  told-in stamp more (ModeSet mode) ruled fit =
      told_one (omega arith, mode_number-few mode)
  told-in stamp more (Submitted paper title abstract) ruled fit =
      let next = fit.papers.0 in
      told (omega (arith, next), fit.papers.1) zero_in zero_in ruled.texts.0 ruled.texts.1
  told-in stamp more (Coauthor paper user) ruled fit = coauthor-told stamp more paper user fit
  told-in stamp more (Revised paper title abstract) ruled fit =
      told (paper_numbered paper fit.papers) zero_in zero_in ruled.texts.0 ruled.texts.1
  told-in stamp more (Uploaded paper version content) ruled fit =
      let next = fit.papers.1 in
      told (paper_numbered paper fit.papers.0) (omega (arith, next), tt) zero_in ruled.texts refl
  told-in stamp more (Withdrawn paper) ruled fit =
      told_one (paper_numbered paper fit.papers)
  told-in stamp more (Conflict paper user on) ruled fit =
      told (paper_numbered paper fit.papers) (account_numbered user fit.accounts) (omega arith, bit_few on) refl refl
  told-in stamp more (Bid paper value) ruled fit =
      told_two (paper_numbered paper fit.papers) (omega arith, ruled.texts)
  told-in stamp more (Assigned paper user kind' ordinal) ruled fit =
      let next = fit.seats.0 in
      record {
        n1 = paper_numbered paper fit.papers;
        n2 = account_numbered user fit.accounts;
        n3 = review_kind_number-few kind';
        n4 = (omega (arith, next), fit.seats.1);
        n5 = zero_in;
        b1 = refl;
        b2 = refl;
      }
  told-in stamp more (Unassigned paper user ordinal) ruled fit =
      let drawn = seat-drawn H fits user paper ordinal fit.seats in
      told (paper_numbered paper fit.papers) (account_numbered user fit.accounts) drawn refl refl
  told-in stamp more (Reviewed paper ordinal version form) ruled fit =
      let next = fit.reviews in
      record {
        n1 = paper_numbered paper fit.papers;
        n2 = label_drawn stamp.maker paper ordinal ruled.seat;
        n3 = (omega (arith, next), tt);
        n4 = ruled.texts.score;
        n5 = ruled.texts.confidence;
        b1 = ruled.texts.to_authors;
        b2 = ruled.texts.to_pc;
      }
  told-in stamp more (Commented paper n ordinal text) ruled fit =
      let next = fit.talk.0 in
      told (paper_numbered paper fit.papers) (omega (arith, next), tt) (label-few ordinal (λ o is. label_drawn stamp.maker paper o (ruled.seat ∙ is))) ruled.texts refl
  told-in stamp more (Tagged paper tag on) ruled fit =
      told (paper_numbered paper fit.papers) (omega arith, bit_few on) zero_in ruled.texts refl
  told-in stamp more (Decided paper decision) ruled fit =
      told_two (paper_numbered paper fit.papers) (decision_number-few decision)
  told-in stamp more (DeadlineSet phase until) ruled fit =
      told_two (deadline_phase-few phase ruled.phase.1) (until-few until ruled.texts)
  told-in stamp more (Dismissed user) ruled fit =
      told_one (account_numbered user fit.accounts)
  told-in stamp more (Invited paper user) ruled fit =
      told_two (paper_numbered paper fit.papers) (account_numbered user fit.accounts)
  told-in stamp more (Uninvited paper user) ruled fit =
      told_two (paper_numbered paper fit.papers) (account_numbered user fit.accounts)
  told-in stamp more (Responded paper text) ruled fit =
      told (paper_numbered paper fit.papers) zero_in zero_in ruled.texts refl

  -- who makes it has a number that a row can hold, the new user too
  made-in : (stamp : Stamp) (more : Bool) (e : Entry) → IsMadeByUser H stamp.maker e
      → Fits (tables_of H) (stamped stamp more e) → InRange user_range stamp.maker
  made-in stamp more (Registered user name digest) made fit = let next = fit.accounts.0 in let few =
      fit.accounts.1 in (omega (arith, made, next), omega (arith, made, few))
  made-in stamp more e made fit = numbered stamp.maker made

  bounded-entry : (stamp : Stamp) (more : Bool) (e : Entry) → IsBoundedStamp stamp → IsMadeByUser H stamp.maker e
      → IsRuled H stamp.maker e → Fits (tables_of H) (stamped stamp more e)
      → IsBoundedEntry (stamped stamp more e)
  bounded-entry stamp more e bounds made ruled fit =
      told-bounded stamp more e (made-in stamp more e made fit) bounds (told-in stamp more e ruled fit)

  bounded-coauthor : (stamp : Stamp) (more : Bool) (paper user : ℕ) → IsBoundedStamp stamp → IsRegistered H stamp.maker
      → Fits (tables_of H) (stamped stamp more (Coauthor paper user))
      → IsBoundedEntry (stamped stamp more (Coauthor paper user))
  bounded-coauthor stamp more paper user bounds registered fit =
      told-bounded stamp more (Coauthor paper user) (numbered stamp.maker registered) bounds
      (coauthor-told stamp more paper user fit)

  bounded_chair : (stamp : Stamp) → IsBoundedStamp stamp → stamp.maker ≡ 1
      → IsBoundedEntry (stamped stamp false (Named stamp.maker role.Chair))
  bounded_chair stamp bounds is =
      let first : InRange user_range stamp.maker = (omega (arith, is), omega (arith, is)) in
      told-bounded stamp false (Named stamp.maker role.Chair) first bounds
      (record {
        n1 = first;
        n2 = (omega arith, omega arith);
        n3 = zero_in;
        n4 = zero_in;
        n5 = zero_in;
        b1 = refl;
        b2 = refl;
      })

-- ---- groups

in_turn-all : (Q : Stamped → Type 0) (before g : History) → InTurn (λ _ e. Q e) before g → AllByRecursion Q g
in_turn-all Q before [] all = tt
in_turn-all Q before (e ∷ g) all = (all.0, in_turn-all Q (before ++ e ∷ []) g all.1)

added-bounded : (H : History) → FitInTurn no_tables H → (g : History) → Adds H g → FitInTurn (tables_of H) g
    → All IsBoundedEntry g
added-bounded H fits g (single stamp e bounds made alone ruled) fit = All-from_recursion IsBoundedEntry
    (grouped stamp (e ∷ [])) (bounded-entry H fits stamp false e bounds made ruled fit.0, tt)
added-bounded H fits g (submitted stamp paper title abstract users bounds made ruled registered) fit =
    All-from_recursion IsBoundedEntry (grouped stamp (submission stamp.maker paper title abstract users))
    (in_turn-all IsBoundedEntry H _
    (submission-in_turn stamp paper (λ _ e. IsBoundedEntry e)
    (λ G more user before fit. bounded-coauthor G before.fits stamp more paper user bounds before.registered fit)
    H title abstract users fits made ruled.phase
    (λ more fit. bounded-entry H fits stamp more (Submitted paper title abstract) bounds made ruled fit) fit))
added-bounded H fits g (first_user stamp name digest bounds is texts) fit =
    let user : ℕ = stamp.maker in
    let ruled : IsRuled H user (Registered user name digest) =
    record { phase = tt; chair = tt; role = tt; member = tt; right = tt; seat = tt; texts = texts } in
    All-from_recursion IsBoundedEntry (grouped stamp (Registered user name digest ∷ Named user role.Chair ∷ [])) (
      bounded-entry H fits stamp true (Registered user name digest) bounds refl ruled fit.0,
      (bounded_chair H fits stamp bounds is, tt),
    )

pub grown-bounded : (H : History) → FitInTurn no_tables H → (g : History) → Grows H g → FitInTurn (tables_of H) g
    → All IsBoundedEntry g
grown-bounded H fits g (adds same added) fit = added-bounded H fits g added fit
grown-bounded H fits g (goes_on stamp e bounds made goes ruled) fit =
    All-from_recursion IsBoundedEntry (stamped stamp true e ∷ [])
    (bounded-entry H fits stamp true e bounds made ruled fit.0, tt)
