-- SPDX-License-Identifier: Apache-2.0 OR MIT
-- Commands by names of commands by number: where each user told by number has registered, and names are told once, the
-- command that names them resolves to it.
use Rattle.std.proofs.Common.{ℕ, Bool, true, false, ◌≡◌, List, [], ◌∷◌, cond, eqb, refl, sym, ap, ◌∙◌, Option, Some, None}
use Rattle.std.proofs.Common.{is_some}
use Rattle.std.specs.Prelude.{find, is_none, map}
use Rattle.std.specs.List.{flat_map, list_all, list_any, AllByRecursion}
use Rattle.std.specs.Option.{option_map, option_and_then}
use Rattle.std.proofs.lemmas.Bool.{and_parts, not-false, true≢false}
use Rattle.cr_base.specs.declared.command.Command.{Command}
use Rattle.cr_base.specs.declared.command.Command.TheVariants as commands
use Rattle.cr_base.specs.declared.reply.AccountLine.{AccountLine}
use Rattle.cr_base.specs.declared.resolved.ResolvedCommand.{ResolvedCommand}
use Rattle.cr_base.specs.declared.resolved.ResolvedCommand.TheVariants as resolved
use Rattle.cr_base.specs.declared.target.Target.{Target}
use Rattle.cr_base.specs.declared.words.Role.{Role}
use Rattle.cr_base.specs.Deeds.{deed, is_missing}
use Rattle.cr_base.specs.Lists.{listed}
use Rattle.cr_base.specs.Resolving.{all_found, resolve}
use Rattle.cr_base.specs.Sources.{Facts, Shown, number_in, name_in, user_among, users_among, role_among, is_there}
use Rattle.cr_base.proofs.CheckLaws.{NoneBroken}

-- a name finds the one user who has it
abbrev pub NamedOnce : List AccountLine → Type 0
NamedOnce lines = (user : ℕ) (name : List ℕ) → name_in lines user ≡ Some name → number_in lines name ≡ Some user

-- the user, if one is named, is there
abbrev pub IsThere : List AccountLine → Option ℕ → Type 0
IsThere lines None = Unit {0}
IsThere lines (Some user) = is_there lines user ≡ true

abbrev pub AreThere : List AccountLine → Option (List ℕ) → Type 0
AreThere lines None = Unit {0}
AreThere lines (Some users) = AllByRecursion (λ user. is_there lines user ≡ true) users

-- all users whom the command names are
abbrev pub NamesThere : List AccountLine → ResolvedCommand → Type 0
NamesThere lines (resolved.Submit title abstract authors) = AreThere lines authors
NamesThere lines (resolved.Name user role) = IsThere lines user
NamesThere lines (resolved.SetConflict paper user on) = IsThere lines user
NamesThere lines (resolved.Assign paper user kind) = IsThere lines user
NamesThere lines (resolved.Unassign paper user) = IsThere lines user
NamesThere lines (resolved.Dismiss user) = IsThere lines user
NamesThere lines (resolved.Invite paper user) = IsThere lines user
NamesThere lines (resolved.Uninvite paper user) = IsThere lines user
NamesThere lines command = Unit {0}

-- the names of such users; where a co-author isn't there, a name that is none
abbrev pub name_told : List AccountLine → Option ℕ → Option (List ℕ)
name_told lines user = option_and_then (name_in lines) user

abbrev pub names_told : List AccountLine → Option (List ℕ) → List (Option (List ℕ))
names_told lines None = None ∷ []
names_told lines (Some users) = map (λ (user : ℕ). name_in lines user) users

-- the command that names them
abbrev pub by_names : List AccountLine → ResolvedCommand → Command
by_names lines (resolved.Register name digest) = commands.Register name digest
by_names lines (resolved.SetPhase phase) = commands.SetPhase phase
by_names lines (resolved.Submit title abstract authors) = commands.Submit title abstract (names_told lines authors)
by_names lines (resolved.Revise paper title abstract) = commands.Revise paper title abstract
by_names lines (resolved.Upload paper content) = commands.Upload paper content
by_names lines (resolved.Withdraw paper) = commands.Withdraw paper
by_names lines (resolved.Name user role) = commands.Name (name_told lines user) role
by_names lines (resolved.SetMode mode) = commands.SetMode mode
by_names lines (resolved.SetConflict paper user on) = commands.SetConflict paper (name_told lines user) on
by_names lines (resolved.Bid paper value) = commands.Bid paper value
by_names lines (resolved.Assign paper user kind) = commands.Assign paper (name_told lines user) kind
by_names lines (resolved.Unassign paper user) = commands.Unassign paper (name_told lines user)
by_names lines (resolved.Review paper form) = commands.Review paper form
by_names lines (resolved.Respond paper text) = commands.Respond paper text
by_names lines (resolved.Comment paper text) = commands.Comment paper text
by_names lines (resolved.Tag paper tag on) = commands.Tag paper tag on
by_names lines (resolved.Decide paper decision) = commands.Decide paper decision
by_names lines (resolved.SetDeadline phase until) = commands.SetDeadline phase until
by_names lines (resolved.Dismiss user) = commands.Dismiss (name_told lines user)
by_names lines (resolved.Invite paper user) = commands.Invite paper (name_told lines user)
by_names lines (resolved.Uninvite paper user) = commands.Uninvite paper (name_told lines user)

module _ (lines : List AccountLine) (once : NamedOnce lines) where
  -- whoever is there has a name, which finds her
  one-back : (user : ℕ) → is_there lines user ≡ true → user_among lines (name_in lines user) ≡ Some user
  one-back user there = by (find (λ (a : AccountLine). eqb a.user user) lines) refl there
    where
      by : (line : Option AccountLine) → find (λ (a : AccountLine). eqb a.user user) lines ≡ line
          → is_some (option_map (λ (a : AccountLine). a.role) line) ≡ true
          → user_among lines (name_in lines user) ≡ Some user
      by None is h = absurd (true≢false (sym h))
      by (Some line) is h =
          let name : name_in lines user ≡ Some line.name = ap (option_map (λ (a : AccountLine). a.name)) is in
          ap (user_among lines) name ∙ once user line.name name

  user-back : (user : Option ℕ) → IsThere lines user → user_among lines (name_told lines user) ≡ user
  user-back None there = refl
  user-back (Some user) there = one-back user there

  each-back : (users : List ℕ) → AllByRecursion (λ user. is_there lines user ≡ true) users
      → users_among lines (map (λ (user : ℕ). name_in lines user) users) ≡ map (λ (user : ℕ). Some user) users
  each-back [] there = refl
  each-back (u ∷ users) there =
      ap (λ (o : Option ℕ). o ∷ users_among lines (map (λ (user : ℕ). name_in lines user) users)) (one-back u there.0)
      ∙ ap (λ (os : List (Option ℕ)). Some u ∷ os) (each-back users there.1)

  all-some : (users : List ℕ) → all_found (map (λ (user : ℕ). Some user) users) ≡ Some users
  all-some users =
      ap (λ (b : Bool). cond b None (Some (flat_map listed (map (λ (user : ℕ). Some user) users)))) (none users)
      ∙ ap (λ (us : List ℕ). Some us) (whole users)
    where
      none : (users : List ℕ) → list_any is_none (map (λ (user : ℕ). Some user) users) ≡ false
      none [] = refl
      none (u ∷ users) = none users

      whole : (users : List ℕ) → flat_map listed (map (λ (user : ℕ). Some user) users) ≡ users
      whole [] = refl
      whole (u ∷ users) = ap (λ (us : List ℕ). u ∷ us) (whole users)

  users-back : (users : Option (List ℕ)) → AreThere lines users
      → all_found (users_among lines (names_told lines users)) ≡ users
  users-back None there = refl
  users-back (Some users) there = ap all_found (each-back users there) ∙ all-some users

  pub resolves-back : (command : ResolvedCommand) → NamesThere lines command
      → resolve lines (by_names lines command) ≡ command
  resolves-back (resolved.Register name digest) there = refl
  resolves-back (resolved.SetPhase phase) there = refl
  resolves-back (resolved.Submit title abstract authors) there =
      ap (resolved.Submit title abstract) (users-back authors there)
  resolves-back (resolved.Revise paper title abstract) there = refl
  resolves-back (resolved.Upload paper content) there = refl
  resolves-back (resolved.Withdraw paper) there = refl
  resolves-back (resolved.Name user role) there =
      ap (λ (u : Option ℕ). resolved.Name u role) (user-back user there)
  resolves-back (resolved.SetMode mode) there = refl
  resolves-back (resolved.SetConflict paper user on) there =
      ap (λ (u : Option ℕ). resolved.SetConflict paper u on) (user-back user there)
  resolves-back (resolved.Bid paper value) there = refl
  resolves-back (resolved.Assign paper user kind) there =
      ap (λ (u : Option ℕ). resolved.Assign paper u kind) (user-back user there)
  resolves-back (resolved.Unassign paper user) there = ap (resolved.Unassign paper) (user-back user there)
  resolves-back (resolved.Review paper form) there = refl
  resolves-back (resolved.Respond paper text) there = refl
  resolves-back (resolved.Comment paper text) there = refl
  resolves-back (resolved.Tag paper tag on) there = refl
  resolves-back (resolved.Decide paper decision) there = refl
  resolves-back (resolved.SetDeadline phase until) there = refl
  resolves-back (resolved.Dismiss user) there = ap resolved.Dismiss (user-back user there)
  resolves-back (resolved.Invite paper user) there = ap (resolved.Invite paper) (user-back user there)
  resolves-back (resolved.Uninvite paper user) there = ap (resolved.Uninvite paper) (user-back user there)

-- ---- what no rule refuses

-- whoever is asked of is there
user-there : (lines : List AccountLine) (asked : Role → Target) (user : Option ℕ)
    → is_none (option_map asked (role_among lines user)) ≡ false → IsThere lines user
user-there lines asked None h = tt
user-there lines asked (Some user) h = by (role_among lines (Some user)) h
  where
    by : (role : Option Role) → is_none (option_map asked role) ≡ false → is_some role ≡ true
    by None h = absurd (true≢false h)
    by (Some role) h = refl

users-there : (lines : List AccountLine) (users : Option (List ℕ)) → is_missing lines users ≡ false
    → AreThere lines users
users-there lines None h = tt
users-there lines (Some users) h = each users (not-false (list_all (is_there lines) users) h)
  where
    each : (users : List ℕ) → list_all (is_there lines) users ≡ true
        → AllByRecursion (λ user. is_there lines user ≡ true) users
    each [] all = tt
    each (u ∷ users) all = let both = and_parts (is_there lines u) (list_all (is_there lines) users) all in
        (both.0, each users both.1)

-- all users are there whom a resolved command names of which no rule is broken
module _ (facts : Facts) (shown : Shown) (maker : ℕ) (late : Bool) where
  pub names-there : (command : ResolvedCommand) → NoneBroken (deed facts shown maker late command).checks
      → NamesThere facts.accounts command
  names-there (resolved.Register name digest) none = tt
  names-there (resolved.SetPhase phase) none = tt
  names-there (resolved.Submit title abstract authors) none = users-there facts.accounts authors none.0
  names-there (resolved.Revise paper title abstract) none = tt
  names-there (resolved.Upload paper content) none = tt
  names-there (resolved.Withdraw paper) none = tt
  names-there (resolved.Name user role) none = user-there facts.accounts _ user none.0
  names-there (resolved.SetMode mode) none = tt
  names-there (resolved.SetConflict paper user on) none = user-there facts.accounts _ user none.1.0
  names-there (resolved.Bid paper value) none = tt
  names-there (resolved.Assign paper user kind) none = user-there facts.accounts _ user none.1.0
  names-there (resolved.Unassign paper user) none = user-there facts.accounts _ user none.1.0
  names-there (resolved.Review paper form) none = tt
  names-there (resolved.Respond paper text) none = tt
  names-there (resolved.Comment paper text) none = tt
  names-there (resolved.Tag paper tag on) none = tt
  names-there (resolved.Decide paper decision) none = tt
  names-there (resolved.SetDeadline phase until) none = tt
  names-there (resolved.Dismiss user) none = user-there facts.accounts _ user none.0
  names-there (resolved.Invite paper user) none = user-there facts.accounts _ user none.1.0
  names-there (resolved.Uninvite paper user) none = user-there facts.accounts _ user none.1.0

  -- so the command that names them is judged as the one by number
  pub judged-by_names : NamedOnce facts.accounts → (command : ResolvedCommand)
      → NoneBroken (deed facts shown maker late command).checks
      → resolve facts.accounts (by_names facts.accounts command) ≡ command
  judged-by_names once command none = resolves-back facts.accounts once command (names-there command none)
