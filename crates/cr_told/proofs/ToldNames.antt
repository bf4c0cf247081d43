-- SPDX-License-Identifier: Apache-2.0 OR MIT
-- Whoever has registered stands among the accounts that are answered, and her name is known.
use Rattle.std.proofs.Common.{◌≡◌, ℕ, Bool, true, false, List, [], ◌∷◌, ◌++◌, refl, sym, ap, ◌∙◌, ◌||◌, Option, Some}
use Rattle.std.proofs.Common.{None, eqb, arith}
use Rattle.std.specs.Prelude.{map, is_some, find, ◌==◌, if◌then◌else◌}
use Rattle.std.specs.Option.{option_map}
use Rattle.std.specs.List.{list_any}
use Rattle.std.specs.Str.{bytes_eq}
use Rattle.std.specs.Cmp.Lexicographic.{bytes_decides}
use Rattle.std.proofs.lemmas.Bool.{true≢false, eqb-true, or_right}
use Rattle.std.proofs.lemmas.Bool.Decides.{nat_tests}
use Rattle.cr_base.specs.declared.reply.AccountLine.{AccountLine}
use Rattle.cr_base.specs.declared.entry.Stamped.{Stamped}
use Rattle.cr_base.specs.declared.words.Role.TheVariants.{Account}
use Rattle.cr_base.specs.History.{History, Registration, all_told, registration_told, role_told}
use Rattle.cr_base.specs.HistoryFacts.{role_of}
use Rattle.cr_base.specs.Lists.{listed, last_or}
use Rattle.cr_base.specs.Sources.{name_in, names_in}
use Rattle.cr_history.specs.Invariants.{IsRegistered}
use Rattle.cr_policy.specs.Triggers.{reader}
use Rattle.cr_policy.specs.View.{view}
use Rattle.cr_policy.specs.ViewFacts.{accounts_in_view, role_in_view, role_seen}
use Rattle.cr_policy.proofs.StandingLaws.{accounts-seen}
use Rattle.cr_policy.proofs.Tells.{role_tells}
use Rattle.cr_policy.proofs.Walk.{sights-all}
use Rattle.cr_told.specs.ToldPages.{some_names}
use Rattle.cr_told.specs.ToldParts.{agree, lists, accounts_given, is_name_of}

pub same-bytes : (xs : List ℕ) → bytes_eq xs xs ≡ true
same-bytes xs = (bytes_decides xs xs).1 refl

-- the role of any user can be read off what anyone sees
pub role-seen : (u v : Option ℕ) (H : History) → role_in_view v (view u H) ≡ role_of v H
role-seen u v H =
    ap (last_or Account) (sights-all (reader u H) (role_seen v) (λ (e : Stamped). role_told v e.entry)
    (role_tells (reader u H) v) [] H)

pub swap : (x y : ℕ) → eqb y x ≡ eqb x y
swap x y = grind (arith, nat_tests)

module _ (H : History) where
  abbrev pub line : Registration → AccountLine
  line r = record { user = r.user; name = r.name; role = role_of (Some r.user) H }

  -- what is so of a user's number is so of her line
  has-line : (v : ℕ) (test : AccountLine → Bool) (holds : Bool)
      → ((r : Registration) → eqb r.user v ≡ true → test (line r) ≡ holds) → (rs : List Registration)
      → list_any (λ (r : Registration). r.user == v) rs ≡ true → holds ≡ true → list_any test (map line rs) ≡ true
  has-line v test holds same [] is true' = absurd (true≢false (sym is))
  has-line v test holds same (r ∷ rs) is true' = by (eqb r.user v) refl is (λ h. has-line v test holds same rs h true')
    where
      by : (b : Bool) → eqb r.user v ≡ b → (b || list_any (λ (r : Registration). r.user == v) rs) ≡ true
          → (list_any (λ (r : Registration). r.user == v) rs ≡ true → list_any test (map line rs) ≡ true)
          → (test (line r) || list_any test (map line rs)) ≡ true
      by true here h rest = ap (λ b. b || list_any test (map line rs)) (same r here ∙ true')
      by false here h rest = or_right (test (line r)) (list_any test (map line rs)) (rest h)

  -- the name of one who has registered
  has-name : (v : ℕ) (rs : List Registration) → list_any (λ (r : Registration). r.user == v) rs ≡ true
      → is_some (name_in (map line rs) v) ≡ true
  has-name v [] is = absurd (true≢false (sym is))
  has-name v (r ∷ rs) is = by (eqb r.user v) is (has-name v rs)
    where
      by : (b : Bool) → (b || list_any (λ (r : Registration). r.user == v) rs) ≡ true
          → (list_any (λ (r : Registration). r.user == v) rs ≡ true → is_some (name_in (map line rs) v) ≡ true)
          → is_some (option_map (λ (a : AccountLine). a.name)
          (if b then Some (line r) else find (λ (a : AccountLine). a.user == v) (map line rs))) ≡ true
      by true h rest = refl
      by false h rest = rest h

-- a name stands among those of users, where its user is one of them
any-name : (accounts : List AccountLine) (v : ℕ) (test : List ℕ → Bool) (name : List ℕ) → name_in accounts v ≡ Some name
    → test name ≡ true
    → (xs : List ℕ) → list_any (eqb v) xs ≡ true → list_any test (names_in accounts xs) ≡ true
any-name accounts v test name is passes [] h = absurd (true≢false (sym h))
any-name accounts v test name is passes (x ∷ xs) h = by (eqb v x) refl h (any-name accounts v test name is passes xs)
  where
    rest : Bool
    rest = list_any test (names_in accounts xs)

    here : (o : Option (List ℕ)) → o ≡ Some name → list_any test (listed o ++ names_in accounts xs) ≡ true
    here o e = ap (λ o. list_any test (listed o ++ names_in accounts xs)) e
        ∙ ap (λ b. b || list_any test (names_in accounts xs)) passes

    later : (o : Option (List ℕ)) → list_any test (names_in accounts xs) ≡ true
        → list_any test (listed o ++ names_in accounts xs) ≡ true
    later None e = e
    later (Some other) e = or_right (test other) (list_any test (names_in accounts xs)) e

    by : (b : Bool) → eqb v x ≡ b → (b || list_any (eqb v) xs) ≡ true
        → (list_any (eqb v) xs ≡ true → list_any test (names_in accounts xs) ≡ true)
        → list_any test (listed (name_in accounts x) ++ names_in accounts xs) ≡ true
    by true same h rest = here (name_in accounts x) (ap (name_in accounts) (sym (eqb-true v x same)) ∙ is)
    by false same h rest = later (name_in accounts x) (rest h)

module _ (u : Option ℕ) (H : History) (v : ℕ) (is : IsRegistered H v) where
  -- her line, where it passes by its number and her role
  pub account-listed : (test : AccountLine → Bool) (holds : Bool)
      → ((r : Registration) → eqb r.user v ≡ true → test (line H r) ≡ holds) → holds ≡ true
      → lists (accounts_given u H) test ≡ true
  account-listed test holds same h =
      ap (λ (accounts : List AccountLine). list_any test accounts) (accounts-seen u H)
      ∙ has-line H v test holds same (all_told registration_told H) is h

  name-known : is_some (name_in (accounts_in_view (view u H)) v) ≡ true
  name-known = ap (λ (accounts : List AccountLine). is_some (name_in accounts v)) (accounts-seen u H)
      ∙ has-name H v (all_told registration_told H) is

  -- her name, among those of users of whom she is one
  pub named : (xs : List ℕ) → list_any (eqb v) xs ≡ true
      → list_any (is_name_of (Some v) u H) (names_in (accounts_in_view (view u H)) xs) ≡ true
  named xs h = by (name_in (accounts_in_view (view u H)) v) refl name-known
    where
      by : (o : Option (List ℕ)) → name_in (accounts_in_view (view u H)) v ≡ o → is_some o ≡ true
          → list_any (is_name_of (Some v) u H) (names_in (accounts_in_view (view u H)) xs) ≡ true
      by None e s = absurd (true≢false (sym s))
      by (Some name) e s =
          any-name (accounts_in_view (view u H)) v (is_name_of (Some v) u H) name e
          (ap (λ o. agree bytes_eq o (Some name)) e ∙ same-bytes name) xs h

  pub some-named : (xs : List ℕ) → list_any (eqb v) xs ≡ true
      → lists (some_names xs (view u H)) (is_name_of (Some v) u H) ≡ true
  some-named [] h = absurd (true≢false (sym h))
  some-named (x ∷ xs) h = named (x ∷ xs) h

  -- her name is the same wherever it is looked up
  pub name-is : agree bytes_eq (name_in (accounts_in_view (view u H)) v) (name_in (accounts_in_view (view u H)) v)
      ≡ true
  name-is = by (name_in (accounts_in_view (view u H)) v) name-known
    where
      by : (o : Option (List ℕ)) → is_some o ≡ true → agree bytes_eq o o ≡ true
      by None s = absurd (true≢false (sym s))
      by (Some name) s = same-bytes name
