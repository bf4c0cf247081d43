-- SPDX-License-Identifier: Apache-2.0 OR MIT
-- A user has the name by which she is found.
use Rattle.std.proofs.Common.{ℕ, Bool, true, false, cond, ◌≡◌, ◌+◌, List, [], ◌∷◌, suc, refl, sym, ap, subst, ◌∙◌}
use Rattle.std.proofs.Common.{arith, Option, Some, None}
use Rattle.std.specs.List.{slice_get, position_from}
use Rattle.std.specs.Option.{option_map}
use Rattle.std.specs.Str.{bytes_eq}
use Rattle.std.proofs.lemmas.Slice.Eq.{bytes_eq-Decides}
use Rattle.std.proofs.lemmas.Option.{none-some}
use Rattle.cr_base.specs.declared.entry.Account.{Account}
use Rattle.cr_base.specs.Accounts.{number_at, account_at}
use Rattle.cr_base.proofs.AccountLaws.{number_at-from}

named-from : (accounts : List Account) (name : List ℕ) (i k : ℕ)
    → position_from (λ (a : Account). bytes_eq a.name name) i accounts ≡ Some k
    → (d : ℕ) × (k ≡ i + d) × (option_map (λ (a : Account). a.name) (slice_get accounts d) ≡ Some name)
named-from [] name i k h = absurd (none-some k h)
named-from (a ∷ accounts) name i k h = by (bytes_eq a.name name) refl h (λ h. named-from accounts name (i + 1) k h)
  where
    by : (b : Bool) → bytes_eq a.name name ≡ b
        → cond b (Some i) (position_from (λ (a : Account). bytes_eq a.name name) (i + 1) accounts) ≡ Some k
        → (position_from (λ (a : Account). bytes_eq a.name name) (i + 1) accounts ≡ Some k → (d : ℕ) × (k ≡ (i + 1) + d)
        × (option_map (λ (a : Account). a.name) (slice_get accounts d) ≡ Some name))
        → (d : ℕ) × (k ≡ i + d) × (option_map (λ (a : Account). a.name) (slice_get (a ∷ accounts) d) ≡ Some name)
    by true same h rest =
        (0, (let e : i ≡ k = cc (h) in omega (arith, e)), ap Some ((bytes_eq-Decides a.name name).0 same))
    by false same h rest = let r = rest h in let e = r.1 in (suc r.0, omega (arith, e), r.2)

pub name-found : (accounts : List Account) (name : List ℕ) (user : ℕ) → number_at accounts name ≡ Some user
    → option_map (λ (a : Account). a.name) (account_at accounts user) ≡ Some name
name-found accounts name user h =
    by (position_from (λ (a : Account). bytes_eq a.name name) 0 accounts) refl (sym (number_at-from accounts name) ∙ h)
  where
    by : (o : Option ℕ) → position_from (λ (a : Account). bytes_eq a.name name) 0 accounts ≡ o
        → option_map (λ i. i + 1) o ≡ Some user
        → option_map (λ (a : Account). a.name) (account_at accounts user) ≡ Some name
    by None is h = cc
    by (Some k) is h =
        let found = named-from accounts name 0 k is in
        let e : k + 1 ≡ user = cc (h) in
        let at = found.1 in
        let next : suc found.0 ≡ user = omega (arith, e, at) in
        subst (λ (n : ℕ). option_map (λ (a : Account). a.name) (account_at accounts n) ≡ Some name) next found.2
