-- SPDX-License-Identifier: Apache-2.0 OR MIT
-- Where each entry fits in its turn, the accounts that a history tells are those of the tables.
use Rattle.std.proofs.Common.{ℕ, Bool, ◌≡◌, ◌≤◌, ◌<◌, ◌+◌, ◌-◌, List, [], ◌∷◌, ◌++◌, length, refl, sym, ap, ◌∙◌, arith}
use Rattle.std.proofs.Common.{zero, suc, append_assoc, append-nil, length-append, Some}
use Rattle.std.specs.Prelude.{map}
use Rattle.std.specs.List.{AllByRecursion}
use Rattle.std.proofs.lemmas.Bool.{eq-eqb, ne_eqb}
use Rattle.std.proofs.lemmas.List.{map-append}
use Rattle.cr_base.specs.declared.entry.Account.{Account}
use Rattle.cr_base.specs.declared.entry.Entry.{Entry}
use Rattle.cr_base.specs.declared.entry.Entry.TheVariants.{Registered, Named, Dismissed}
use Rattle.cr_base.specs.declared.entry.Stamp.{Stamp}
use Rattle.cr_base.specs.declared.entry.Stamped.{Stamped}
use Rattle.cr_base.specs.declared.words.Role.{Role}
use Rattle.cr_base.specs.declared.words.Role.TheVariants as role
use Rattle.cr_base.specs.declared.reply.AccountLine.{AccountLine}
use Rattle.cr_base.specs.Lists.{given, is_number, last_or}
use Rattle.cr_base.specs.Drawn.{stamped}
use Rattle.cr_base.specs.History.{History, Registration, all_told, registration_told, role_told}
use Rattle.cr_base.specs.HistoryFacts.{accounts_of, role_of}
use Rattle.cr_base.specs.Accounts.{with_role, accounts_after, lines_from, lines_of, AccountsFit}
use Rattle.cr_base.specs.Tables.{Tables, no_tables, tables_after, tables_from, tables_of, FitInTurn}
use Rattle.cr_base.proofs.AccountLaws.{length-with_role, with_role-suc}
use Rattle.cr_base.proofs.LastLaws.{last_or-cons}

-- ---- accounts as they stand after more entries

-- the line with the last role to which the entries name its user, or else its own
abbrev after : History → AccountLine → AccountLine
after H line =
    record { user = line.user; name = line.name; role = last_or line.role (all_told (role_told (Some line.user)) H) }

abbrev new_line : Registration → AccountLine
new_line r = record { user = r.user; name = r.name; role = role.Account }

after-none : (lines : List AccountLine) → map (after []) lines ≡ lines
after-none [] = refl
after-none (line ∷ lines) = ap (λ ls. line ∷ ls) (after-none lines)

after-new : (H : History) (rs : List Registration)
    → map (after H) (map new_line rs)
    ≡ map (λ (r : Registration). record { user = r.user; name = r.name; role = role_of (Some r.user) H }) rs
after-new H [] = refl
after-new H (r ∷ rs) = ap (λ ls. after H (new_line r) ∷ ls) (after-new H rs)

lines_from-push : (n user : ℕ) (accounts : List Account) (a : Account) → user ≡ n + length accounts
    → lines_from n (accounts ++ a ∷ []) ≡ lines_from n accounts ++ record { user = user; name = a.name; role = a.role }
    ∷ []
lines_from-push n user [] a is =
    let line : ℕ → List AccountLine = λ v. record { user = v; name = a.name; role = a.role } ∷ [] in
    let e : n ≡ user = omega (arith, is) in
    ap line e
lines_from-push n user (x ∷ accounts) a is =
    let line : AccountLine = record { user = n; name = x.name; role = x.role } in
    ap (λ ls. line ∷ ls) (lines_from-push (n + 1) user accounts a (omega (arith, is)))

-- ---- an entry that gives a user a role

module _ (H : History) (stamp : Stamp) (more : Bool) (e : Entry) (user : ℕ) (role' : Role)
    (gives : (u : ℕ) → role_told (Some u) e ≡ given (is_number (Some u) user) role') where
  abbrev turn : Stamped
  turn = stamped stamp more e

  -- a user's line after it
  after-turn : (line : AccountLine) → after (turn ∷ H) line
      ≡ record {
        user = line.user;
        name = line.name;
        role = last_or line.role (given (is_number (Some line.user) user) role' ++ all_told (role_told (Some line.user))
            H);
      }
  after-turn line =
      let told : List Role → AccountLine =
      λ rs. record {
        user = line.user;
        name = line.name;
        role = last_or line.role (rs ++ all_told (role_told (Some line.user)) H);
      } in
      ap told (gives line.user)

  -- the line of another user
  after-other : (line : AccountLine) → (line.user ≡ user → ⊥) → after (turn ∷ H) line ≡ after H line
  after-other line h =
      let told : Bool → AccountLine =
      λ b. record {
        user = line.user;
        name = line.name;
        role = last_or line.role (given b role' ++ all_told (role_told (Some line.user)) H);
      } in
      after-turn line ∙ ap told (ne_eqb line.user user h)

  after-others : (lines : List AccountLine) → AllByRecursion (λ (l : AccountLine). l.user ≡ user → ⊥) lines
      → map (after (turn ∷ H)) lines ≡ map (after H) lines
  after-others [] h = refl
  after-others (line ∷ lines) h = ap (λ l. l ∷ map (after (turn ∷ H)) lines) (after-other line h.0)
      ∙ ap (λ ls. after H line ∷ ls) (after-others lines h.1)

  later_lines : (n : ℕ) (accounts : List Account) → user < n
      → AllByRecursion (λ (l : AccountLine). l.user ≡ user → ⊥) (lines_from n accounts)
  later_lines n [] h = tt
  later_lines n (a ∷ accounts) h = ((λ e. omega (arith, e, h)), later_lines (n + 1) accounts (omega (arith, h)))

  new_lines : (n : ℕ) (rs : List Registration) → user ≤ n → AllByRecursion (λ (r : Registration). n < r.user) rs
      → AllByRecursion (λ (l : AccountLine). l.user ≡ user → ⊥) (map new_line rs)
  new_lines n [] h later = tt
  new_lines n (r ∷ rs) h later = ((λ e. let first = later.0 in omega (arith, e, h, first)), new_lines n rs h later.1)

  -- the user's own line: that role is the last, or comes before the later ones
  after-named : (n : ℕ) (a : Account) → user ≡ n
      → after H (record { user = n; name = a.name; role = role' })
      ≡ after (turn ∷ H) (record { user = n; name = a.name; role = a.role })
  after-named n a is =
      let roles : List Role = all_told (role_told (Some n)) H in
      let line : Role → AccountLine = λ r. record { user = n; name = a.name; role = r } in
      let own : AccountLine = record { user = n; name = a.name; role = a.role } in
      ap line (sym (last_or-cons a.role role' roles) ∙ ap (λ b. last_or a.role (given b role' ++ roles))
      (sym (eq-eqb n user (sym is))))
      ∙ sym (after-turn own)

  lines-named : (n k : ℕ) (accounts : List Account) → user ≡ n + k
      → map (after H) (lines_from n (with_role accounts k role')) ≡ map (after (turn ∷ H)) (lines_from n accounts)
  lines-named n k [] is = refl
  lines-named n zero (a ∷ accounts) is =
      ap (λ l. l ∷ map (after H) (lines_from (n + 1) accounts)) (after-named n a (omega (arith, is)))
      ∙ ap (λ ls. after (turn ∷ H) (record { user = n; name = a.name; role = a.role }) ∷ ls)
      (sym (after-others (lines_from (n + 1) accounts) (later_lines (n + 1) accounts (omega (arith, is)))))
  lines-named n (suc k) (a ∷ accounts) is =
      let line : AccountLine = record { user = n; name = a.name; role = a.role } in
      ap (λ xs. map (after H) (lines_from n xs)) (with_role-suc a accounts k role')
      ∙ ap (λ l. l ∷ map (after H) (lines_from (n + 1) (with_role accounts k role')))
      (sym (after-other line (λ e. omega (arith, e, is))))
      ∙ ap (λ ls. after (turn ∷ H) line ∷ ls) (lines-named (n + 1) k accounts (omega (arith, is)))

  -- all lines, those of users who register later behind them
  lines-given : (accounts : List Account) (rs : List Registration) → 1 ≤ user → user ≤ length accounts
      → AllByRecursion (λ (r : Registration). length accounts < r.user) rs
      → map (after H) (lines_of (with_role accounts (user - 1) role') ++ map new_line rs) ≡ map (after (turn ∷ H))
      (lines_of accounts ++ map new_line rs)
  lines-given accounts rs first fits later =
      let is : user ≡ 1 + (user - 1) = omega (arith, first) in
      map-append (after H) (lines_of (with_role accounts (user - 1) role')) (map new_line rs)
      ∙ ap (λ ls. ls ++ map (after H) (map new_line rs)) (lines-named 1 (user - 1) accounts is)
      ∙ ap (λ ls. map (after (turn ∷ H)) (lines_of accounts) ++ ls)
      (sym (after-others (map new_line rs) (new_lines (length accounts) rs fits later)))
      ∙ sym (map-append (after (turn ∷ H)) (lines_of accounts) (map new_line rs))

-- ---- one entry, and then all

-- what an entry does to the accounts is what it tells of them
lines-entry : (accounts : List Account) (stamp : Stamp) (more : Bool) (e : Entry) (H : History) (rs : List Registration)
    → AccountsFit accounts e → AllByRecursion (λ (r : Registration). length accounts < r.user) rs
    → map (after H) (lines_of (accounts_after accounts e) ++ map new_line rs) ≡ map (after (stamped stamp more e ∷ H))
    (lines_of accounts ++ map new_line (registration_told e ++ rs))
lines-entry accounts stamp more (Registered user name digest) H rs fits later =
    let a : Account = record { name = name; digest = digest; role = role.Account } in
    let r : Registration = record { user = user; name = name } in
    let is : user ≡ 1 + length accounts = let n = fits.0 in omega (arith, n) in
    ap (λ ls. map (after H) (ls ++ map new_line rs)) (lines_from-push 1 user accounts a is)
    ∙ ap (map (after H)) (append_assoc (lines_of accounts) (new_line r ∷ []) (map new_line rs))
lines-entry accounts stamp more (Named user role') H rs fits later =
    lines-given H stamp more (Named user role') user role' (λ u. refl) accounts rs fits.0 fits.1 later
lines-entry accounts stamp more (Dismissed user) H rs fits later =
    lines-given H stamp more (Dismissed user) user role.Account (λ u. refl) accounts rs fits.0 fits.1 later
lines-entry accounts stamp more e H rs fits later = refl

-- there are never fewer accounts than before
pub length-after : (accounts : List Account) (e : Entry) → length accounts ≤ length (accounts_after accounts e)
length-after accounts (Registered user name digest) =
    let a : Account = record { name = name; digest = digest; role = role.Account } in
    let n = length-append accounts (a ∷ []) in omega (arith, n)
length-after accounts (Named user role') = let n = length-with_role accounts (user - 1) role' in omega (arith, n)
length-after accounts (Dismissed user) = let n = length-with_role accounts (user - 1) role.Account in omega (arith, n)
length-after accounts e = omega arith

later-entry : (n : ℕ) (accounts : List Account) (e : Entry) (rs : List Registration) → AccountsFit accounts e
    → n ≤ length accounts → AllByRecursion (λ (r : Registration). n < r.user) rs
    → AllByRecursion (λ (r : Registration). n < r.user) (registration_told e ++ rs)
later-entry n accounts (Registered user name digest) rs fits h later = (let is = fits.0 in omega (arith, is, h), later)
later-entry n accounts e rs fits h later = later

-- users who register later have greater numbers
later_users : (n : ℕ) (t : Tables) (H : History) → FitInTurn t H → n ≤ length t.accounts
    → AllByRecursion (λ (r : Registration). n < r.user) (all_told registration_told H)
later_users n t [] fits h = tt
later_users n t (s ∷ H) fits h =
    let grown = length-after t.accounts s.entry in
    later-entry n t.accounts s.entry (all_told registration_told H) fits.0.accounts h
    (later_users n (tables_after t s) H fits.1 (omega (arith, grown, h)))

lines-tables : (t : Tables) (H : History) → FitInTurn t H
    → lines_of (tables_from t H).accounts ≡ map (after H)
    (lines_of t.accounts ++ map new_line (all_told registration_told H))
lines-tables t [] fits = sym (after-none _ ∙ append-nil (lines_of t.accounts))
lines-tables t (s ∷ H) fits =
    let grown = length-after t.accounts s.entry in
    let later = later_users (length t.accounts) (tables_after t s) H fits.1 (omega (arith, grown)) in
    lines-tables (tables_after t s) H fits.1
    ∙ lines-entry t.accounts s.stamp s.more s.entry H (all_told registration_told H) fits.0.accounts later

-- the accounts that a history tells are those of its tables
pub accounts_of-tables : (H : History) → FitInTurn no_tables H → accounts_of H ≡ lines_of (tables_of H).accounts
accounts_of-tables H fits = sym (lines-tables no_tables H fits ∙ after-new H (all_told registration_told H))
