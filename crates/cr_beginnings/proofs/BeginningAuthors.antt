-- SPDX-License-Identifier: Apache-2.0 OR MIT
-- Co-authors behind a submission's entry: each is a user who is there and is told once. So whoever may stand behind it
-- are the co-authors of some submission, where more is to come another user is free, and what a submission adds are such.
use Rattle.std.proofs.Common.{ℕ, Bool, true, false, ◌≡◌, ◌<◌, ◌+◌, ◌||◌, List, [], ◌∷◌, ◌++◌, length, eqb, suc, refl}
use Rattle.std.proofs.Common.{sym, ap, subst, ◌∙◌, arith, Some, is_some, cond}
use Rattle.std.specs.Prelude.{map, find}
use Rattle.std.specs.List.{AllByRecursion, list_any}
use Rattle.std.specs.Option.{option_map}
use Rattle.std.proofs.lemmas.Bool.Decides.{nat_tests}
use Rattle.cr_base.specs.declared.entry.Account.{Account}
use Rattle.cr_base.specs.declared.entry.Entry.{Entry}
use Rattle.cr_base.specs.declared.entry.Entry.TheVariants.{Submitted, Coauthor}
use Rattle.cr_base.specs.declared.entry.Stamp.{Stamp}
use Rattle.cr_base.specs.declared.reply.AccountLine.{AccountLine}
use Rattle.cr_base.specs.Accounts.{lines_from, lines_of}
use Rattle.cr_base.specs.History.{all_told}
use Rattle.cr_base.specs.Sources.{is_there}
use Rattle.cr_base.specs.Tables.{Tables}
use Rattle.cr_beginnings.specs.Beginnings.{IsCoauthor, coauthor_told}
use Rattle.cr_beginnings.proofs.BeginningLaws.{unfinished, AreBehind, behind-next}
use Rattle.cr_beginnings.proofs.BeginningUsers.{AreNew, IsAmong, free-user, new-few}

-- ---- users who are there

-- the numbers of these accounts, of which the first has this one
abbrev numbers_from : ℕ → List Account → List ℕ
numbers_from n [] = []
numbers_from n (a ∷ accounts) = n ∷ numbers_from (n + 1) accounts

length-numbers : (n : ℕ) (accounts : List Account) → length (numbers_from n accounts) ≡ length accounts
length-numbers n [] = refl
length-numbers n (a ∷ accounts) = ap suc (length-numbers (n + 1) accounts)

-- a user is there whose number is among them
numbers-there : (n user : ℕ) (accounts : List Account)
    → list_any (λ v. eqb v user) (numbers_from n accounts) ≡ is_there (lines_from n accounts) user
numbers-there n user [] = refl
numbers-there n user (a ∷ accounts) = by (eqb n user) (numbers-there (n + 1) user accounts)
  where
    line : AccountLine
    line = record { user = n; name = a.name; role = a.role }

    by : (b : Bool)
        → list_any (λ v. eqb v user) (numbers_from (n + 1) accounts) ≡ is_there (lines_from (n + 1) accounts) user
        → (b || list_any (λ v. eqb v user) (numbers_from (n + 1) accounts))
        ≡ is_some (option_map (λ (a : AccountLine). a.role)
        (cond b (Some line) (find (λ (a : AccountLine). eqb a.user user) (lines_from (n + 1) accounts))))
    by true rest = refl
    by false rest = rest

-- and each is told once, behind lower ones
numbers-new : (these : List ℕ) (n : ℕ) (accounts : List Account) → AllByRecursion (λ (u : ℕ). u < n) these
    → AreNew these (numbers_from n accounts)
numbers-new these n [] low = tt
numbers-new these n (a ∷ accounts) low =
    (none these low, numbers-new (these ++ n ∷ []) (n + 1) accounts (higher these low))
  where
    none : (these : List ℕ) → AllByRecursion (λ (u : ℕ). u < n) these → list_any (λ v. eqb v n) these ≡ false
    none [] low = refl
    none (u ∷ these) low = ap (λ b. b || list_any (λ v. eqb v n) these) (differ u low.0) ∙ none these low.1
      where
        differ : (u : ℕ) → u < n → eqb u n ≡ false
        differ u h = grind (arith, nat_tests, h)

    higher : (these : List ℕ) → AllByRecursion (λ (u : ℕ). u < n) these
        → AllByRecursion (λ (u : ℕ). u < n + 1) (these ++ n ∷ [])
    higher [] low = (omega arith, tt)
    higher (u ∷ these) low = let l = low.0 in (omega (arith, l), higher these low.1)

-- ---- the entries of co-authors

abbrev pub coauthors : ℕ → List ℕ → List Entry
coauthors paper users = map (λ (user : ℕ). Coauthor paper user) users

told-back : (stamp : Stamp) (paper : ℕ) (users : List ℕ)
    → all_told coauthor_told (map (unfinished stamp) (coauthors paper users)) ≡ users
told-back stamp paper [] = refl
told-back stamp paper (u ∷ users) = ap (λ (us : List ℕ). u ∷ us) (told-back stamp paper users)

more-coauthors : (paper : ℕ) (users : List ℕ) (user : ℕ)
    → coauthors paper users ++ Coauthor paper user ∷ [] ≡ coauthors paper (users ++ user ∷ [])
more-coauthors paper [] user = refl
more-coauthors paper (u ∷ users) user = ap (λ (es : List Entry). Coauthor paper u ∷ es) (more-coauthors paper users user)

module _ (t : Tables) (stamp : Stamp) (paper : ℕ) (title abstract : List ℕ) where
  abbrev first : Entry
  first = Submitted paper title abstract

  abbrev IsThere : ℕ → Type 0
  IsThere user = is_there (lines_of t.accounts) user ≡ true

  -- a co-author who may stand behind such
  coauthor-is : (before : List ℕ) (user : ℕ) → IsThere user → list_any (λ v. eqb v user) (stamp.maker ∷ before) ≡ false
      → IsCoauthor t stamp.maker paper (map (unfinished stamp) (coauthors paper before)) (Coauthor paper user)
  coauthor-is before user there new = record {
    user = user;
    is = refl;
    there = there;
    new = ap (λ (us : List ℕ). list_any (λ v. eqb v user) (stamp.maker ∷ us)) (told-back stamp paper before) ∙ new;
  }

  pub users-behind : (before users : List ℕ) → AllByRecursion IsThere users → AreNew (stamp.maker ∷ before) users
      → AreBehind t stamp first (coauthors paper before) (coauthors paper users)
  users-behind before [] there new = tt
  users-behind before (u ∷ users) there new = (
    coauthor-is before u there.0 new.0,
    subst (λ (es : List Entry). AreBehind t stamp first es (coauthors paper users))
        (sym (more-coauthors paper before u)) (users-behind (before ++ u ∷ []) users there.1 new.1),
  )

  -- whoever stand behind a submission's entry are co-authors
  pub record Told (before : List ℕ) (behind : List Entry) : Type 0 where
    pub users : List ℕ
    pub behind_is : behind ≡ coauthors paper users
    pub there : AllByRecursion IsThere users
    pub new : AreNew (stamp.maker ∷ before) users

  pub behind-users : (before : List ℕ) (behind : List Entry) → AreBehind t stamp first (coauthors paper before) behind
      → Told before behind
  behind-users before [] are = record { users = []; behind_is = refl; there = tt; new = tt }
  behind-users before (e ∷ behind) are =
      let rest = behind-users (before ++ are.0.user ∷ []) behind
      (subst (λ (es : List Entry). AreBehind t stamp first es behind)
      (ap (λ (x : Entry). coauthors paper before ++ x ∷ []) are.0.is ∙ more-coauthors paper before are.0.user) are.1) in
      record {
        users = are.0.user ∷ rest.users;
        behind_is = ap (λ (x : Entry). x ∷ behind) are.0.is
            ∙ ap (λ (es : List Entry). Coauthor paper are.0.user ∷ es) rest.behind_is;
        there = (are.0.there, rest.there);
        new = (
          ap (λ (us : List ℕ). list_any (λ v. eqb v are.0.user) (stamp.maker ∷ us)) (sym (told-back stamp paper before))
              ∙ are.0.new,
          rest.new,
        );
      }

  -- ---- how many

  abbrev numbers : List ℕ
  numbers = numbers_from 1 t.accounts

  all-among : (users : List ℕ) → AllByRecursion IsThere users → AllByRecursion (IsAmong numbers) users
  all-among [] there = tt
  all-among (u ∷ users) there = (numbers-there 1 u t.accounts ∙ there.0, all-among users there.1)

  -- with their maker, who is there, they are no more than there are users
  pub users-few : (users : List ℕ) → IsThere stamp.maker → AllByRecursion IsThere users
      → AreNew (stamp.maker ∷ []) users → length users < length t.accounts
  users-few users maker there new =
      let few = new-few (stamp.maker ∷ users) numbers (refl, new) (all-among (stamp.maker ∷ users) (maker, there)) in
      let n = length-numbers 1 t.accounts in
      omega (arith, few, n)

  -- where they are fewer, somebody else is there
  pub record Another (users : List ℕ) : Type 0 where
    pub user : ℕ
    pub there : IsThere user
    pub new : list_any (λ v. eqb v user) (stamp.maker ∷ users) ≡ false

  pub another : (users : List ℕ) → length users + 1 < length t.accounts → Another users
  another users few =
      let n = length-numbers 1 t.accounts in
      let f = free-user numbers (stamp.maker ∷ users) (numbers-new [] 1 t.accounts tt) (omega (arith, few, n)) in
      record { user = f.user; there = sym (numbers-there 1 f.user t.accounts) ∙ f.among; new = f.free }

  -- and stands behind them
  pub one-more : (users : List ℕ) (more : Another users) → AreBehind t stamp first [] (coauthors paper users)
      → AreBehind t stamp first [] (coauthors paper users ++ Coauthor paper more.user ∷ [])
  one-more users more are =
      behind-next t stamp first [] (coauthors paper users) (Coauthor paper more.user) are
      (coauthor-is users more.user more.there more.new)
