-- SPDX-License-Identifier: Apache-2.0 OR MIT
-- Users and their names, by the tables of a legal history: a user is found by the name that she has, which is one
-- that a row can tell.
use Rattle.std.proofs.Common.{ℕ, Bool, true, false, cond, ◌≡◌, ◌≤◌, ◌+◌, ◌-◌, List, [], ◌∷◌, ◌++◌, length, eqb, zero}
use Rattle.std.proofs.Common.{suc, refl, sym, ap, ◌∙◌, arith, Option, Some, None}
use Rattle.std.specs.Prelude.{nat_le, ◌&&◌}
use Rattle.std.specs.List.{AllByRecursion, list_all}
use Rattle.std.specs.Option.{option_map}
use Rattle.std.specs.Str.{bytes_eq}
use Rattle.std.proofs.lemmas.Bool.{eqb-true}
use Rattle.std.proofs.lemmas.Bool.Decides.{nat_tests}
use Rattle.std.proofs.lemmas.List.Elements.{recursion_from_All}
use Rattle.std.proofs.lemmas.Slice.Eq.{bytes_eq-Decides}
use Rattle.std.proofs.lemmas.Option.{none-some, same_Some}
use Rattle.cr_base.specs.declared.entry.Account.{Account}
use Rattle.cr_base.specs.declared.entry.Entry.{Entry}
use Rattle.cr_base.specs.declared.entry.Entry.TheVariants.{Registered, Named, Dismissed}
use Rattle.cr_base.specs.declared.entry.Stamp.{Stamp}
use Rattle.cr_base.specs.declared.words.Role.{Role}
use Rattle.cr_base.specs.declared.words.Role.TheVariants as roles
use Rattle.cr_base.specs.Accounts.{number_at, account_at, accounts_after, with_role, AccountsFit}
use Rattle.cr_base.specs.Drawn.{stamped}
use Rattle.cr_base.specs.History.{History}
use Rattle.cr_base.specs.Rows.{IsBoundedEntry}
use Rattle.cr_base.specs.Tables.{Tables, no_tables, tables_after, tables_from, tables_of, FitInTurn}
use Rattle.cr_base.specs.Texts.{IsName, is_name, is_name_byte}
use Rattle.cr_base.proofs.AccountLaws.{number_at-push, number_at-with_role}
use Rattle.cr_base.proofs.ChangeLaws.{where_changed, numbered-changed_at}
use Rattle.cr_base.proofs.ListLaws.{numbered-push}
use Rattle.cr_policy.specs.Legal.{Legal}
use Rattle.cr_policy.proofs.LegalLaws.{Legal-fits, legal_invariants}

-- ---- the user of a name that somebody has

-- the name of an account by its user's number
abbrev pub name_at : List Account → ℕ → Option (List ℕ)
name_at accounts user = option_map (λ (a : Account). a.name) (account_at accounts user)

-- no two accounts have one name: who has it is found by it
abbrev pub AreNamedOnce : List Account → Type 0
AreNamedOnce accounts =
    (user : ℕ) (name : List ℕ) → name_at accounts user ≡ Some name → number_at accounts name ≡ Some user

-- one account more, whose name is new
once-push : (accounts : List Account) (a : Account) (user : ℕ) → user ≡ length accounts + 1
    → number_at accounts a.name ≡ None → AreNamedOnce accounts → AreNamedOnce (accounts ++ a ∷ [])
once-push accounts a user next new once v name told = number_at-push accounts a user next new name
    ∙ by (eqb v (length accounts + 1)) refl
    (sym (ap (option_map (λ (x : Account). x.name)) (numbered-push accounts a v)) ∙ told)
  where
    other : (b : Bool) → bytes_eq a.name name ≡ b → number_at accounts name ≡ Some v
        → cond b (Some user) (number_at accounts name) ≡ Some v
    other true same is =
        absurd (none-some v (sym new ∙ ap (number_at accounts) ((bytes_eq-Decides a.name name).0 same) ∙ is))
    other false same is = is

    by : (b : Bool) → eqb v (length accounts + 1) ≡ b
        → option_map (λ (x : Account). x.name) (cond b (Some a) (account_at accounts v)) ≡ Some name
        → cond (bytes_eq a.name name) (Some user) (number_at accounts name) ≡ Some v
    by true is h =
        let here : v ≡ user = eqb-true v (length accounts + 1) is ∙ sym next in
        ap (λ b. cond b (Some user) (number_at accounts name))
        ((bytes_eq-Decides a.name name).1 (same_Some a.name name h)) ∙ ap Some (sym here)
    by false is h = other (bytes_eq a.name name) refl (once v name h)

-- another role leaves the names
name-changed : (role : Role) (b : Bool) (o : Option Account)
    → option_map (λ (a : Account). a.name) (where_changed (λ (a : Account). record a { role = role }) b o)
    ≡ option_map (λ (a : Account). a.name) o
name-changed role true None = refl
name-changed role true (Some a) = refl
name-changed role false o = refl

name_at-with_role : (accounts : List Account) (user : ℕ) (role : Role) (v : ℕ) → 1 ≤ user
    → name_at (with_role accounts (user - 1) role) v ≡ name_at accounts v
name_at-with_role accounts user role v low =
    ap (option_map (λ (a : Account). a.name))
    (numbered-changed_at (λ (a : Account). record a { role = role }) accounts user v low)
    ∙ name-changed role (eqb user v) (account_at accounts v)

once-after : (accounts : List Account) (e : Entry) → AccountsFit accounts e → AreNamedOnce accounts
    → AreNamedOnce (accounts_after accounts e)
once-after accounts (Registered user name digest) fits once = once-push accounts _ user fits.0 fits.2 once
once-after accounts (Named user role) fits once = λ v name told. number_at-with_role accounts (user - 1) role name
    ∙ once v name (sym (name_at-with_role accounts user role v fits.0) ∙ told)
once-after accounts (Dismissed user) fits once =
    λ v name told. number_at-with_role accounts (user - 1) roles.Account name
    ∙ once v name (sym (name_at-with_role accounts user roles.Account v fits.0) ∙ told)
once-after accounts e fits once = once

once-from : (t : Tables) (H : History) → FitInTurn t H → AreNamedOnce t.accounts
    → AreNamedOnce (tables_from t H).accounts
once-from t [] fits once = once
once-from t (s ∷ H) fits once =
    once-from (tables_after t s) H fits.1 (once-after t.accounts s.entry fits.0.accounts once)

none-once : AreNamedOnce []
none-once zero name told = absurd (none-some name told)
none-once (suc i) name told = absurd (none-some name told)

-- by the tables of a legal history, who has a name is found by it
pub found_by_name : (H : History) → Legal H → AreNamedOnce (tables_of H).accounts
found_by_name H legal = once-from no_tables H (Legal-fits H legal) none-once

-- ---- names that rows can tell

-- each user's name is one that a row can tell
abbrev pub AreNames : List Account → Type 0
AreNames accounts = (user : ℕ) (name : List ℕ)
    → option_map (λ (a : Account). a.name) (account_at accounts user) ≡ Some name → is_name name ≡ true

name-tested : (name : List ℕ) → IsName name → is_name name ≡ true
name-tested name is = ap (λ (b : Bool). b && list_all is_name_byte name) (between (length name) is.some is.few)
    ∙ is.bytes
  where
    between : (n : ℕ) → 1 ≤ n → n ≤ 32 → (nat_le 1 n && nat_le n 32) ≡ true
    between n low high = grind (arith, nat_tests)

names-push : (accounts : List Account) (a : Account) → is_name a.name ≡ true → AreNames accounts
    → AreNames (accounts ++ a ∷ [])
names-push accounts a one names v name told = by (eqb v (length accounts + 1))
    (sym (ap (option_map (λ (x : Account). x.name)) (numbered-push accounts a v)) ∙ told)
  where
    by : (b : Bool) → option_map (λ (x : Account). x.name) (cond b (Some a) (account_at accounts v)) ≡ Some name
        → is_name name ≡ true
    by true h = ap is_name (sym (same_Some a.name name h)) ∙ one
    by false h = names v name h

names-after : (accounts : List Account) (stamp : Stamp) (more : Bool) (e : Entry)
    → IsBoundedEntry (stamped stamp more e) → AreNames accounts
    → AreNames (accounts_after accounts e)
names-after accounts stamp more (Registered user name digest) bounded names =
    names-push accounts _ (name-tested name bounded.b1) names
names-after accounts stamp more (Named user role) bounded names =
    λ v name told. names v name (sym (name_at-with_role accounts user role v bounded.n1.0) ∙ told)
names-after accounts stamp more (Dismissed user) bounded names =
    λ v name told. names v name (sym (name_at-with_role accounts user roles.Account v bounded.n1.0) ∙ told)
names-after accounts stamp more e bounded names = names

names-from : (t : Tables) (H : History) → AllByRecursion IsBoundedEntry H → AreNames t.accounts
    → AreNames (tables_from t H).accounts
names-from t [] bounded names = names
names-from t (s ∷ H) bounded names =
    names-from (tables_after t s) H bounded.1 (names-after t.accounts s.stamp s.more s.entry bounded.0 names)

none-names : AreNames []
none-names zero name told = absurd (none-some name told)
none-names (suc i) name told = absurd (none-some name told)

-- by the tables of a legal history, each user has a name that a row can tell
pub row_names : (H : History) → Legal H → AreNames (tables_of H).accounts
row_names H legal =
    names-from no_tables H (recursion_from_All IsBoundedEntry H (legal_invariants H legal).bounded) none-names
