-- SPDX-License-Identifier: Apache-2.0 OR MIT
-- Whoever has registered can call: by her name and the digest of her secret. And nobody has the number that is given
-- next.
use Rattle.std.proofs.Common.{ℕ, Bool, true, false, cond, ◌≡◌, ◌+◌, ◌||◌, suc, List, [], ◌∷◌, length, eqb, refl}
use Rattle.std.proofs.Common.{sym, ap, ◌∙◌, arith, Option, Some, None, add-one}
use Rattle.std.specs.Prelude.{map, find}
use Rattle.std.specs.List.{list_any}
use Rattle.std.specs.Option.{option_map, option_map_or, option_and_then}
use Rattle.std.specs.Str.{bytes_eq}
use Rattle.std.proofs.lemmas.Bool.{true≢false}
use Rattle.std.proofs.lemmas.Option.{slice_get_past}
use Rattle.std.proofs.lemmas.Slice.Eq.{bytes_eq-Decides}
use Rattle.cr_base.specs.declared.entry.Account.{Account}
use Rattle.cr_base.specs.declared.reply.AccountLine.{AccountLine}
use Rattle.cr_base.specs.Accounts.{account_at, lines_of}
use Rattle.cr_base.specs.History.{History, Registration, all_told, registration_told}
use Rattle.cr_base.specs.HistoryFacts.{caller_of, role_of}
use Rattle.cr_base.specs.Tables.{tables_of}
use Rattle.cr_base.proofs.AccountLaws.{length-lines_of}
use Rattle.cr_base.proofs.ListLaws.{name_in-lines_of}
use Rattle.cr_history.specs.Invariants.{IsRegistered}
use Rattle.cr_policy.specs.Added.{next_user}
use Rattle.cr_policy.specs.Legal.{Legal}
use Rattle.cr_policy.proofs.AccountNames.{name_at, found_by_name}
use Rattle.cr_policy.proofs.LegalLaws.{Legal-told, Legal-caller_of}

-- a line that is there is found
found-line : (v : ℕ) (lines : List AccountLine) → list_any (λ (a : AccountLine). eqb a.user v) lines ≡ true
    → (a : AccountLine) × (find (λ (a : AccountLine). eqb a.user v) lines ≡ Some a)
found-line v [] is = absurd (true≢false (sym is))
found-line v (a ∷ lines) is = by (eqb a.user v) is (found-line v lines)
  where
    by : (b : Bool) → (b || list_any (λ (a : AccountLine). eqb a.user v) lines) ≡ true
        → (list_any (λ (a : AccountLine). eqb a.user v) lines ≡ true
        → (a : AccountLine) × (find (λ (a : AccountLine). eqb a.user v) lines ≡ Some a))
        → (x : AccountLine) × (cond b (Some a) (find (λ (a : AccountLine). eqb a.user v) lines) ≡ Some x)
    by true is rest = (a, refl)
    by false is rest = rest is

-- a name and a digest by which the user is the caller
pub record CallsBy (H : History) (v : ℕ) : Type 0 where
  pub name : List ℕ
  pub digest : List ℕ
  pub is : caller_of name digest H ≡ Some v

module _ (H : History) (legal : Legal H) where
  abbrev accounts : List Account
  accounts = (tables_of H).accounts

  lined : (v : ℕ) (rs : List Registration)
      → list_any (λ (a : AccountLine). eqb a.user v)
      (map (λ (r : Registration). record { user = r.user; name = r.name; role = role_of (Some r.user) H }) rs)
      ≡ list_any (λ (r : Registration). eqb r.user v) rs
  lined v [] = refl
  lined v (r ∷ rs) = ap (λ b. eqb r.user v || b) (lined v rs)

  named : (v : ℕ) → IsRegistered H v → (name : List ℕ) × (name_at accounts v ≡ Some name)
  named v registered =
      let line = found-line v (lines_of accounts)
      (ap (list_any (λ (a : AccountLine). eqb a.user v)) (sym (Legal-told H legal).accounts)
      ∙ lined v (all_told registration_told H) ∙ registered) in
      (line.0.name, sym (name_in-lines_of accounts v) ∙ ap (option_map (λ (a : AccountLine). a.name)) line.1)

  -- so she has an account
  account : (v : ℕ) → IsRegistered H v → (a : Account) × (account_at accounts v ≡ Some a)
  account v registered = by (account_at accounts v) refl (named v registered)
    where
      by : (o : Option Account) → account_at accounts v ≡ o
          → (name : List ℕ) × (name_at accounts v ≡ Some name) → (a : Account) × (account_at accounts v ≡ Some a)
      by (Some a) is told = (a, is)
      by None is told =
          absurd (none (sym (ap (option_map (λ (a : Account). a.name)) is) ∙ told.1))
        where
          none : ◌≡◌ {A = Option (List ℕ)} None (Some told.0) → ⊥
          none is = cc

  pub calls-by : (v : ℕ) → IsRegistered H v → CallsBy H v
  calls-by v registered =
      let told = account v registered in
      let a : Account = told.0 in
      record {
        name = a.name;
        digest = a.digest;
        is = Legal-caller_of a.name a.digest H legal
            ∙ ap (option_and_then (λ user. cond (has a.digest user) (Some user) None))
            (found_by_name H legal v a.name (ap (option_map (λ (a : Account). a.name)) told.1))
            ∙ ap (λ (o : Option Account). cond (option_map_or (λ (x : Account). bytes_eq x.digest a.digest) o false)
            (Some v) None) told.1
            ∙ ap (λ (b : Bool). cond b (Some v) None) ((bytes_eq-Decides a.digest a.digest).1 refl);
      }
    where
      has : List ℕ → ℕ → Bool
      has digest user =
          option_map_or (λ (x : Account). bytes_eq x.digest digest) (account_at accounts user) false

  -- the next number is nobody's
  pub not-next : (v : ℕ) → IsRegistered H v → v ≡ next_user H → ⊥
  not-next v registered is =
      none (account v registered).0
      (sym past ∙ ap (account_at accounts) (sym number)
      ∙ (account v registered).1)
    where
      number : v ≡ suc (length accounts)
      number = is ∙ ap (λ n. n + 1) (ap length (Legal-told H legal).accounts ∙ length-lines_of accounts)
          ∙ add-one (length accounts)

      past : account_at accounts (suc (length accounts)) ≡ None
      past = slice_get_past accounts (length accounts) (omega arith)

      none : (a : Account) → ◌≡◌ {A = Option Account} None (Some a) → ⊥
      none a is = cc
