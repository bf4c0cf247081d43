-- SPDX-License-Identifier: Apache-2.0 OR MIT
-- Where each entry fits in its turn, the role that a history tells of any user is that of the accounts.
use Rattle.std.proofs.Common.{ℕ, ◌≡◌, List, [], ◌++◌, eqb, refl, sym, ap, ◌∙◌, Option, Some, None}
use Rattle.std.specs.Prelude.{unwrap_or}
use Rattle.std.specs.Option.{option_map}
use Rattle.cr_base.specs.declared.entry.Account.{Account}
use Rattle.cr_base.specs.declared.entry.Entry.{Entry}
use Rattle.cr_base.specs.declared.entry.Entry.TheVariants.{Registered, Named, Dismissed}
use Rattle.cr_base.specs.declared.entry.Stamped.{Stamped}
use Rattle.cr_base.specs.declared.words.Role.{Role}
use Rattle.cr_base.specs.declared.words.Role.TheVariants as role
use Rattle.cr_base.specs.Lists.{last_or}
use Rattle.cr_base.specs.History.{History, all_told, role_told}
use Rattle.cr_base.specs.HistoryFacts.{role_of}
use Rattle.cr_base.specs.Accounts.{accounts_after, role_in, AccountsFit}
use Rattle.cr_base.specs.Tables.{Tables, no_tables, tables_of, FitInTurn}
use Rattle.cr_base.proofs.LastLaws.{last_or-given}
use Rattle.cr_base.proofs.ListLaws.{numbered-nil}
use Rattle.cr_base.proofs.RoleLaws.{role_in-push, role_in-with_role}
use Rattle.cr_history.proofs.Folds.{told-fitting}

-- the accounts after an entry have the role that it tells, or else the one from before; nobody has none
role-entry : (u : Option ℕ) (accounts : List Account) (e : Entry) → AccountsFit accounts e → (rest : List Role)
    → last_or (role_in accounts u) (role_told u e ++ rest) ≡ last_or (role_in (accounts_after accounts e) u) rest
role-entry None accounts (Registered user name digest) fits rest = refl
role-entry None accounts (Named user role') fits rest = refl
role-entry None accounts (Dismissed user) fits rest = refl
role-entry (Some n) accounts (Registered user name digest) fits rest =
    let a : Account = record { name = name; digest = digest; role = role.Account } in
    ap (λ r. last_or r rest) (sym (role_in-push accounts a n refl))
role-entry (Some n) accounts (Named user role') fits rest =
    last_or-given (eqb n user) (role_in accounts (Some n)) role' rest
    ∙ ap (λ r. last_or r rest) (sym (role_in-with_role accounts user n role' fits.0 fits.1))
role-entry (Some n) accounts (Dismissed user) fits rest =
    last_or-given (eqb n user) (role_in accounts (Some n)) role.Account rest
    ∙ ap (λ r. last_or r rest) (sym (role_in-with_role accounts user n role.Account fits.0 fits.1))
role-entry u accounts e fits rest = refl

role-first : (u : Option ℕ) → role_in [] u ≡ role.Account
role-first None = refl
role-first (Some n) =
    ap (λ (o : Option Account). unwrap_or (option_map (λ (a : Account). a.role) o) role.Account) (numbered-nil n)

-- the role of a user is the one in her account
pub role_of-tables : (u : Option ℕ) (H : History) → FitInTurn no_tables H
    → role_of u H ≡ role_in (tables_of H).accounts u
role_of-tables u H fits = ap (λ r. last_or r (all_told (role_told u) H)) (sym (role-first u))
    ∙ told-fitting last_or (λ _. refl) (λ (t : Tables). role_in t.accounts u) (λ (s : Stamped). role_told u s.entry)
    (λ t s fit. role-entry u t.accounts s.entry fit.accounts) no_tables H fits
