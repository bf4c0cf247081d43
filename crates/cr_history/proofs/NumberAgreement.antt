-- SPDX-License-Identifier: Apache-2.0 OR MIT
-- Where each entry fits in its turn, the users of names, and of names with digests, are those of the accounts.
use Rattle.std.proofs.Common.{ℕ, Bool, true, false, cond, ◌≡◌, ◌≤◌, ◌+◌, ◌-◌, ◌&&◌, List, [], ◌∷◌, ◌++◌, length, refl}
use Rattle.std.proofs.Common.{sym, ap, subst, ◌∙◌, arith, Option, Some, None}
use Rattle.std.specs.Option.{option_and_then}
use Rattle.std.specs.Str.{bytes_eq}
use Rattle.std.proofs.lemmas.Bool.{eq-eqb, ne_eqb}
use Rattle.std.proofs.lemmas.Slice.Eq.{bytes_eq-Decides}
use Rattle.cr_base.specs.declared.entry.Account.{Account}
use Rattle.cr_base.specs.declared.entry.Entry.{Entry}
use Rattle.cr_base.specs.declared.entry.Entry.TheVariants.{Registered, Named, Dismissed}
use Rattle.cr_base.specs.declared.entry.Stamped.{Stamped}
use Rattle.cr_base.specs.declared.words.Role.TheVariants as role
use Rattle.cr_base.specs.Lists.{last_from}
use Rattle.cr_base.specs.History.{History, number_told, caller_told}
use Rattle.cr_base.specs.HistoryFacts.{number_of, caller_of}
use Rattle.cr_base.specs.Accounts.{with_role, accounts_after, number_at, has_digest, caller_at, AccountsFit}
use Rattle.cr_base.specs.Tables.{Tables, no_tables, tables_of, FitInTurn}
use Rattle.cr_base.proofs.AccountLaws.{number_at-push, number_at-with_role}
use Rattle.cr_base.proofs.CoauthorLaws.{number-within}
use Rattle.cr_base.proofs.LastLaws.{last_from-given}
use Rattle.cr_base.proofs.RoleLaws.{has_digest-push, has_digest-with_role}
use Rattle.cr_history.proofs.Folds.{told-fitting}

-- ---- numbers

-- the accounts after an entry have the number that it tells, or else the one from before
number-entry : (name : List ℕ) (accounts : List Account) (e : Entry) → AccountsFit accounts e → (rest : List ℕ)
    → last_from (number_at accounts name) (number_told name e ++ rest)
    ≡ last_from (number_at (accounts_after accounts e) name) rest
number-entry name accounts (Registered user name' digest) fits rest =
    let a : Account = record { name = name'; digest = digest; role = role.Account } in
    last_from-given (bytes_eq name' name) user (number_at accounts name) rest
    ∙ ap (λ o. last_from o rest) (sym (number_at-push accounts a user fits.0 fits.2 name))
number-entry name accounts (Named user role') fits rest =
    ap (λ o. last_from o rest) (sym (number_at-with_role accounts (user - 1) role' name))
number-entry name accounts (Dismissed user) fits rest =
    ap (λ o. last_from o rest) (sym (number_at-with_role accounts (user - 1) role.Account name))
number-entry name accounts e fits rest = refl

-- the user of a name is the one among the accounts
pub number_of-tables : (name : List ℕ) (H : History) → FitInTurn no_tables H
    → number_of name H ≡ number_at (tables_of H).accounts name
number_of-tables name H fits = told-fitting last_from (λ _. refl) (λ (t : Tables). number_at t.accounts name)
    (λ (s : Stamped). number_told name s.entry) (λ t s fit. number-entry name t.accounts s.entry fit.accounts) no_tables
    H fits

-- ---- digests

has_digest-front : (accounts : List Account) (a : Account) (digest : List ℕ) (user : ℕ) → user ≤ length accounts
    → has_digest (accounts ++ a ∷ []) digest user ≡ has_digest accounts digest user
has_digest-front accounts a digest user h =
    has_digest-push accounts a digest user
    ∙ ap (λ b. cond b (bytes_eq a.digest digest) (has_digest accounts digest user))
    (ne_eqb user (length accounts + 1) (λ e. omega (arith, e, h)))

has_digest-end : (accounts : List Account) (a : Account) (digest : List ℕ) (user : ℕ) → user ≡ length accounts + 1
    → has_digest (accounts ++ a ∷ []) digest user ≡ bytes_eq a.digest digest
has_digest-end accounts a digest user h =
    has_digest-push accounts a digest user
    ∙ ap (λ b. cond b (bytes_eq a.digest digest) (has_digest accounts digest user))
    (eq-eqb user (length accounts + 1) h)

-- ---- callers

-- the user, where she passes
abbrev passed : (ℕ → Bool) → Option ℕ → Option ℕ
passed test o = option_and_then (λ user. cond (test user) (Some user) None) o

passed-same : (f g : ℕ → Bool) (o : Option ℕ) → ((user : ℕ) → o ≡ Some user → f user ≡ g user) → passed f o ≡ passed g o
passed-same f g None same = refl
passed-same f g (Some user) same = ap (λ b. cond b (Some user) None) (same user refl)

caller-push : (accounts : List Account) (a : Account) (digest : List ℕ) (user : ℕ) (old : Option ℕ) (b : Bool)
    → user ≡ length accounts + 1 → (b ≡ true → old ≡ None) → ((v : ℕ) → old ≡ Some v → v ≤ length accounts)
    → cond (b && bytes_eq a.digest digest) (Some user) (passed (has_digest accounts digest) old)
    ≡ passed (has_digest (accounts ++ a ∷ []) digest) (cond b (Some user) old)
caller-push accounts a digest user old true is new within =
    ap (λ o. cond (bytes_eq a.digest digest) (Some user) (passed (has_digest accounts digest) o)) (new refl)
    ∙ ap (λ b. cond b (Some user) None) (sym (has_digest-end accounts a digest user is))
caller-push accounts a digest user old false is new within =
    passed-same (has_digest accounts digest) (has_digest (accounts ++ a ∷ []) digest) old
    (λ v found. sym (has_digest-front accounts a digest v (within v found)))

caller-entry : (name digest : List ℕ) (accounts : List Account) (e : Entry) → AccountsFit accounts e → (rest : List ℕ)
    → last_from (caller_at accounts name digest) (caller_told name digest e ++ rest)
    ≡ last_from (caller_at (accounts_after accounts e) name digest) rest
caller-entry name digest accounts (Registered user name' digest') fits rest =
    let a : Account = record { name = name'; digest = digest'; role = role.Account } in
    let new : bytes_eq name' name ≡ true → number_at accounts name ≡ None =
    λ h. subst (λ n. number_at accounts n ≡ None) ((bytes_eq-Decides name' name).0 h) fits.2 in
    last_from-given (bytes_eq name' name && bytes_eq digest' digest) user (caller_at accounts name digest) rest
    ∙ ap (λ o. last_from o rest)
    (caller-push accounts a digest user (number_at accounts name) (bytes_eq name' name) fits.0 new
    (λ v found. (number-within accounts name v found).1)
    ∙ ap (passed (has_digest (accounts ++ a ∷ []) digest)) (sym (number_at-push accounts a user fits.0 fits.2 name)))
caller-entry name digest accounts (Named user role') fits rest =
    let now : List Account = with_role accounts (user - 1) role' in
    ap (λ o. last_from o rest)
    (passed-same (has_digest accounts digest) (has_digest now digest) (number_at accounts name)
    (λ v _. sym (has_digest-with_role accounts digest user v role' fits.0))
    ∙ ap (passed (has_digest now digest)) (sym (number_at-with_role accounts (user - 1) role' name)))
caller-entry name digest accounts (Dismissed user) fits rest =
    let now : List Account = with_role accounts (user - 1) role.Account in
    ap (λ o. last_from o rest)
    (passed-same (has_digest accounts digest) (has_digest now digest) (number_at accounts name)
    (λ v _. sym (has_digest-with_role accounts digest user v role.Account fits.0))
    ∙ ap (passed (has_digest now digest)) (sym (number_at-with_role accounts (user - 1) role.Account name)))
caller-entry name digest accounts e fits rest = refl

-- the user of a name and a digest is the one among the accounts
pub caller_of-tables : (name digest : List ℕ) (H : History) → FitInTurn no_tables H
    → caller_of name digest H ≡ caller_at (tables_of H).accounts name digest
caller_of-tables name digest H fits = told-fitting last_from (λ _. refl)
    (λ (t : Tables). caller_at t.accounts name digest) (λ (s : Stamped). caller_told name digest s.entry)
    (λ t s fit. caller-entry name digest t.accounts s.entry fit.accounts) no_tables H fits
