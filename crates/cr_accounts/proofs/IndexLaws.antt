-- SPDX-License-Identifier: Apache-2.0 OR MIT
-- What the index of names and the roles are after one more entry.
use Rattle.std.proofs.Common.{ℕ, cond, ◌≡◌, ◌≤◌, ◌<◌, ◌+◌, ◌-◌, List, [], ◌∷◌, ◌++◌, length, length-append, refl, sym}
use Rattle.std.proofs.Common.{ap, subst, ◌∙◌, arith, get_or, Some, None}
use Rattle.std.specs.Prelude.{slice_set}
use Rattle.std.specs.Str.{bytes_eq}
use Rattle.std.proofs.lemmas.Option.{slice_get_read}
use Rattle.std.specs.declared.hash.FoldHasher.{FoldHasher}
use Rattle.std.specs.declared.hash.BuildHasherDefault.{BuildHasherDefault}
use Rattle.indexmap.specs.IndexMap.{IndexMap, get}
use Rattle.cr_base.specs.declared.words.Role.{Role}
use Rattle.cr_base.specs.declared.entry.Account.{Account}
use Rattle.cr_base.specs.declared.entry.Entry.{Entry}
use Rattle.cr_base.specs.declared.entry.Entry.TheVariants.{Named, Dismissed}
use Rattle.cr_base.specs.declared.words.Role.TheVariants as roles
use Rattle.cr_base.specs.Accounts.{number_at, with_role, accounts_after, AccountsFit}
use Rattle.cr_base.proofs.AccountLaws.{number_at-push}
use Rattle.cr_accounts.specs.Index.{IsNameIndex}

-- the map stays an index where an account is pushed and its name inserted
pub indexed-push : (accounts pushed : List Account) (old new : IndexMap (List ℕ) ℕ (BuildHasherDefault FoldHasher))
    (a : Account) (user : ℕ)
    → IsNameIndex accounts old → (user ≡ length accounts + 1) × (user ≤ 9999) × (number_at accounts a.name ≡ None)
    → pushed ≡ accounts ++ a ∷ []
    → ((name : List ℕ) → get bytes_eq new name ≡ cond (bytes_eq a.name name) (Some user) (get bytes_eq old name))
    → IsNameIndex pushed new
indexed-push accounts pushed old new a user was fits items puts =
    record {
      few = let n = ap length items ∙ length-append accounts (a ∷ []) in omega (arith, n, fits.0, fits.1);
      numbers = λ name. puts name ∙ ap (cond (bytes_eq a.name name) (Some user)) (was.numbers name)
          ∙ sym (number_at-push accounts a user fits.0 fits.2 name) ∙ ap (λ xs. number_at xs name) (sym items);
    }

-- a role that is written at an index of the list
pub with_role-at : (accounts : List Account) (at : ℕ) (a : Account) (role : Role) → at < length accounts
    → a ≡ get_or accounts at a → slice_set accounts at (record a { role = role }) ≡ with_role accounts at role
with_role-at accounts at a role h e = rw (slice_get_read accounts (length accounts) at a refl h e) refl

-- fitting goes along equations
pub fits-along : (seen accounts : List Account) (e f : Entry) → AccountsFit seen e → accounts ≡ seen → e ≡ f
    → AccountsFit accounts f
fits-along seen accounts e f h same is =
    subst (λ (x : Entry). AccountsFit accounts x) is (subst (λ (xs : List Account). AccountsFit xs e) (sym same) h)

pub after-named : (accounts seen : List Account) (e : Entry) (user : ℕ) (role : Role) → accounts ≡ seen
    → e ≡ Named user role → with_role accounts (user - 1) role ≡ accounts_after seen e
after-named accounts seen e user role same is =
    ap (λ (xs : List Account). with_role xs (user - 1) role) same ∙ sym (ap (accounts_after seen) is)

pub after-dismissed : (accounts seen : List Account) (e : Entry) (user : ℕ) → accounts ≡ seen → e ≡ Dismissed user
    → with_role accounts (user - 1) roles.Account ≡ accounts_after seen e
after-dismissed accounts seen e user same is =
    ap (λ (xs : List Account). with_role xs (user - 1) roles.Account) same ∙ sym (ap (accounts_after seen) is)
