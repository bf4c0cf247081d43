-- SPDX-License-Identifier: Apache-2.0 OR MIT
-- Callers have registered, and who has registered has a number that a row can hold.
use Rattle.std.proofs.Common.{ℕ, Bool, true, false, cond, ◌≡◌, List, [], ◌∷◌, ◌++◌, eqb, refl, sym, ◌∙◌, arith}
use Rattle.std.proofs.Common.{◌||◌, ◌&&◌, Option, Some, None}
use Rattle.std.specs.List.{list_any}
use Rattle.std.specs.Str.{bytes_eq}
use Rattle.std.proofs.lemmas.Bool.{eqb-true, eq-eqb, or_left, or_right}
use Rattle.cr_base.specs.declared.entry.Account.{Account}
use Rattle.cr_base.specs.declared.entry.Entry.{Entry}
use Rattle.cr_base.specs.declared.entry.Entry.TheVariants.{Registered}
use Rattle.cr_base.specs.Accounts.{AccountsFit}
use Rattle.cr_base.specs.HistoryFacts.{caller_of}
use Rattle.cr_base.specs.History.{History, Registration, all_told, registration_told, caller_told}
use Rattle.cr_base.specs.Lists.{last_from}
use Rattle.cr_base.specs.Shapes.{InRange, user_range}
use Rattle.cr_base.specs.Tables.{Tables, tables_after, FitInTurn}
use Rattle.cr_base.proofs.LastLaws.{last_from-given}
use Rattle.cr_history.specs.Invariants.{IsRegistered}

-- the registration is this user's
abbrev is_of : ℕ → Registration → Bool
is_of user r = eqb r.user user

-- ---- numbers of users

numbered-entry : (accounts : List Account) (e : Entry) (user : ℕ) (rest : List Registration) → AccountsFit accounts e
    → (list_any (is_of user) rest ≡ true → InRange user_range user)
    → list_any (is_of user) (registration_told e ++ rest) ≡ true → InRange user_range user
numbered-entry accounts (Registered v name digest) user rest fits later h = by (eqb v user) refl h
  where
    by : (b : Bool) → eqb v user ≡ b → (b || list_any (is_of user) rest) ≡ true → InRange user_range user
    by true same h = let e : v ≡ user = eqb-true v user same in let next = fits.0 in let few =
        fits.1 in (omega (arith, e, next), omega (arith, e, few))
    by false same h = later h
numbered-entry accounts e user rest fits later h = later h

-- who has registered has a number that a row can hold
pub registered-from : (t : Tables) (H : History) (user : ℕ) → FitInTurn t H
    → list_any (is_of user) (all_told registration_told H) ≡ true → InRange user_range user
registered-from t [] user fits h = cc
registered-from t (s ∷ H) user fits h = numbered-entry t.accounts s.entry user (all_told registration_told H)
    fits.0.accounts (registered-from (tables_after t s) H user fits.1) h

-- ---- callers

or_assoc : (a b c : Bool) → ((a || b) || c) ≡ true → (a || (b || c)) ≡ true
or_assoc true b c h = refl
or_assoc false b c h = h

-- an entry, where the user is found in what is told so far only if she is seen so far
caller-entry : (name digest : List ℕ) (user : ℕ) (e : Entry) (later : List ℕ) (rest : List Registration)
    (found : Option ℕ) (seen : Bool)
    → ((o : Option ℕ) (b : Bool) → (o ≡ Some user → b ≡ true) → last_from o later ≡ Some user
    → (b || list_any (is_of user) rest) ≡ true)
    → (found ≡ Some user → seen ≡ true) → last_from found (caller_told name digest e ++ later) ≡ Some user
    → (seen || list_any (is_of user) (registration_told e ++ rest)) ≡ true
caller-entry name digest user (Registered v name' digest') later rest found seen go known h =
    let right : Bool = bytes_eq name' name && bytes_eq digest' digest in
    or_assoc seen (eqb v user) (list_any (is_of user) rest)
    (go (cond right (Some v) found) (seen || eqb v user) (by right) (sym (last_from-given right v found later) ∙ h))
  where
    by : (right : Bool) → cond right (Some v) found ≡ Some user → (seen || eqb v user) ≡ true
    by true is = let e : v ≡ user = cc in or_right seen (eqb v user) (eq-eqb v user e)
    by false is = or_left seen (eqb v user) (known is)
caller-entry name digest user e later rest found seen go known h = go found seen known h

caller-from : (name digest : List ℕ) (user : ℕ) (found : Option ℕ) (seen : Bool) (H : History)
    → (found ≡ Some user → seen ≡ true) → last_from found (all_told (caller_told name digest) H) ≡ Some user
    → (seen || list_any (is_of user) (all_told registration_told H)) ≡ true
caller-from name digest user found seen [] known h = or_left seen false (known h)
caller-from name digest user found seen (s ∷ H) known h =
    caller-entry name digest user s.entry (all_told (caller_told name digest) H) (all_told registration_told H) found
    seen (λ o b known h. caller-from name digest user o b H known h) known h

-- the user of a name and a digest has registered, whatever the history
pub caller-registered : (name digest : List ℕ) (H : History) (user : ℕ) → caller_of name digest H ≡ Some user
    → IsRegistered H user
caller-registered name digest H user h = caller-from name digest user None false H (λ none. cc) h
