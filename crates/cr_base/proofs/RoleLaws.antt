-- SPDX-License-Identifier: Apache-2.0 OR MIT
-- An account by its number, where a role changes or one account more is there.
use Rattle.std.proofs.Common.{ℕ, Bool, true, false, cond, ◌≡◌, ◌≤◌, ◌+◌, ◌-◌, List, [], ◌∷◌, ◌++◌, length, eqb, refl}
use Rattle.std.proofs.Common.{sym, ap, ◌∙◌, arith, Option, Some, None}
use Rattle.std.specs.Prelude.{unwrap_or}
use Rattle.std.specs.Option.{option_map, option_map_or}
use Rattle.std.specs.Str.{bytes_eq}
use Rattle.std.proofs.lemmas.Bool.{eqb-true}
use Rattle.cr_base.specs.declared.entry.Account.{Account}
use Rattle.cr_base.specs.declared.words.Role.{Role}
use Rattle.cr_base.specs.declared.words.Role.TheVariants as role
use Rattle.cr_base.specs.Accounts.{with_role, role_in, has_digest}
use Rattle.cr_base.specs.Lists.{numbered}
use Rattle.cr_base.proofs.ChangeLaws.{where_changed, numbered-changed_at}
use Rattle.cr_base.proofs.ListLaws.{numbered-none, numbered-some, numbered-push}
use Rattle.cr_base.proofs.Small.{eqb-swap}

-- ---- another role

-- the account with another role
abbrev given_role : Role → Account → Account
given_role role' a = record a { role = role' }

-- one user's account has another role, and every other account is as it was
numbered-with_role : (accounts : List Account) (user n : ℕ) (role' : Role) → 1 ≤ user
    → numbered (with_role accounts (user - 1) role') n ≡ where_changed (given_role role') (eqb user n)
    (numbered accounts n)
numbered-with_role accounts user n role' h = numbered-changed_at (given_role role') accounts user n h

-- ---- roles

-- the role of an account that may not be there
abbrev role_or : Option Account → Role
role_or o = unwrap_or (option_map (λ (a : Account). a.role) o) role.Account

role_or-given : (o : Option Account) (b : Bool) (role' : Role) → (b ≡ true → (a : Account) × (o ≡ Some a))
    → role_or (where_changed (given_role role') b o) ≡ cond b role' (role_or o)
role_or-given None true role' there = let k = (there refl).1 in cc
role_or-given (Some a) true role' there = refl
role_or-given o false role' there = refl

-- the role of the user who is named changes, and no other
pub role_in-with_role : (accounts : List Account) (user n : ℕ) (role' : Role) → 1 ≤ user → user ≤ length accounts
    → role_in (with_role accounts (user - 1) role') (Some n) ≡ cond (eqb n user) role' (role_in accounts (Some n))
role_in-with_role accounts user n role' low high =
    ap role_or (numbered-with_role accounts user n role' low)
    ∙ role_or-given (numbered accounts n) (eqb user n) role'
    (λ same. let e : user ≡ n = eqb-true user n same in numbered-some accounts n (omega (arith, e, low))
    (omega (arith, e, high)))
    ∙ ap (λ b. cond b role' (role_in accounts (Some n))) (eqb-swap user n)

role_or-push : (o : Option Account) (b : Bool) (a : Account) → a.role ≡ role.Account → (b ≡ true → o ≡ None)
    → role_or (cond b (Some a) o) ≡ role_or o
role_or-push o true a new none = new ∙ sym (ap role_or (none refl))
role_or-push o false a new none = refl

-- an account more whose user has no role yet changes no role
pub role_in-push : (accounts : List Account) (a : Account) (n : ℕ) → a.role ≡ role.Account
    → role_in (accounts ++ a ∷ []) (Some n) ≡ role_in accounts (Some n)
role_in-push accounts a n new =
    ap role_or (numbered-push accounts a n)
    ∙ role_or-push (numbered accounts n) (eqb n (length accounts + 1)) a new
    (λ same. let e : n ≡ length accounts + 1 = eqb-true n (length accounts + 1) same in numbered-none accounts n
    (omega (arith, e)))

-- ---- digests

-- whether an account, if it is there, has this digest
abbrev digest_is : List ℕ → Option Account → Bool
digest_is digest o = option_map_or (λ (a : Account). bytes_eq a.digest digest) o false

digest_is-given : (digest : List ℕ) (o : Option Account) (b : Bool) (role' : Role)
    → digest_is digest (where_changed (given_role role') b o) ≡ digest_is digest o
digest_is-given digest None true role' = refl
digest_is-given digest (Some a) true role' = refl
digest_is-given digest o false role' = refl

-- a digest stays when a role changes
pub has_digest-with_role : (accounts : List Account) (digest : List ℕ) (user n : ℕ) (role' : Role) → 1 ≤ user
    → has_digest (with_role accounts (user - 1) role') digest n ≡ has_digest accounts digest n
has_digest-with_role accounts digest user n role' low =
    ap (digest_is digest) (numbered-with_role accounts user n role' low)
    ∙ digest_is-given digest (numbered accounts n) (eqb user n) role'

-- the new user has the digest of her account, and every other user the one that she had
pub has_digest-push : (accounts : List Account) (a : Account) (digest : List ℕ) (n : ℕ)
    → has_digest (accounts ++ a ∷ []) digest n ≡ cond (eqb n (length accounts + 1)) (bytes_eq a.digest digest)
    (has_digest accounts digest n)
has_digest-push accounts a digest n =
    ap (digest_is digest) (numbered-push accounts a n) ∙ by (eqb n (length accounts + 1)) (numbered accounts n)
  where
    by : (b : Bool) (o : Option Account) → digest_is digest (cond b (Some a) o) ≡ cond b (bytes_eq a.digest digest)
        (digest_is digest o)
    by true o = refl
    by false o = refl
