-- SPDX-License-Identifier: Apache-2.0 OR MIT
-- Who made the entries that a command or a bulk adds, and under which number.
use Rattle.std.proofs.Common.{ℕ, Bool, true, false, ◌≡◌, List, [], ◌∷◌, map, refl, sym, ap, subst, ◌∙◌, Option}
use Rattle.std.proofs.Common.{Some, None, Ok}
use Rattle.std.specs.List.{AllByRecursion}
use Rattle.cr_base.specs.declared.command.Command.{Command}
use Rattle.cr_base.specs.declared.command.Command.TheVariants.{Register, Tag}
use Rattle.cr_base.specs.declared.entry.Entry.{Entry}
use Rattle.cr_base.specs.declared.entry.Entry.TheVariants.{Registered, Named}
use Rattle.cr_base.specs.declared.entry.Stamp.{Stamp}
use Rattle.cr_base.specs.declared.entry.Stamped.{Stamped}
use Rattle.cr_base.specs.declared.retry.RetryKey.{RetryKey}
use Rattle.cr_base.specs.declared.words.Role.TheVariants.{Chair}
use Rattle.cr_base.specs.Calls.{BulkCall, call_of}
use Rattle.cr_base.specs.Drawn.{Drawn, grouped}
use Rattle.cr_base.specs.History.{History}
use Rattle.cr_base.specs.HistoryFacts.{accounts_of}
use Rattle.cr_base.specs.Lists.{given, is_nothing}
use Rattle.cr_history.proofs.ListCuts.{AllByRecursion-map}
use Rattle.cr_policy.specs.Added.{added, made_by, stamp_added}
use Rattle.cr_policy.specs.Judge.{judge, judge_bulk}
use Rattle.cr_policy.specs.Legal.{IsCaller, IsKeyOf, Legal}
use Rattle.cr_policy.specs.View.{view}
use Rattle.cr_policy.proofs.AddedLaws.{adds_as_said}
use Rattle.cr_policy.proofs.BulkLaws.{BulkDraws, bulk-draws}

-- an entry that a registration may add
abbrev pub Registers : Entry → Type 0
Registers (Registered user name digest) = Unit {0}
Registers (Named user role) = Unit {0}
Registers e = ⊥

module _ (H : History) (d : Drawn) where
  -- a user's command is made by her: a registration is nobody's
  maker-of : (user : ℕ) (command : Command) → IsCaller H (Some user) command → made_by (Some user) H command ≡ user
  maker-of user (Register name digest) calls = absurd (cc (calls))
  maker-of user command calls = refl

  pub user-made : (user at : ℕ) (key : Option RetryKey) (command : Command) → Legal H
      → IsCaller H (Some user) command → judge (view (Some user) H) (call_of (Some user) at key command) ≡ Ok d
      → AllByRecursion (λ (e : Stamped). e.stamp.maker ≡ user) d.group
  user-made user at key command legal calls accepted =
      AllByRecursion-map (λ (e : Stamped). e.stamp ≡ stamp_added H (call_of (Some user) at key command))
      (λ (e : Stamped). e.stamp.maker ≡ user)
      (λ e same. ap (λ (s : Stamp). s.maker) same ∙ maker-of user command calls) d.group
      (adds_as_said H (call_of (Some user) at key command) d legal calls accepted).stamps

  -- and what nobody gives is a registration
  added-registers : (command : Command) → IsCaller H None command → AllByRecursion Registers (added None H command)
  added-registers (Register name digest) calls = (tt, by (is_nothing (accounts_of H)))
    where
      by : (b : Bool) → AllByRecursion Registers (given b (Named 1 Chair))
      by true = (tt, tt)
      by false = tt
  added-registers (Tag paper tag true) calls = absurd calls
  added-registers (Tag paper tag false) calls = absurd calls
  added-registers command calls = absurd calls

  all-mapped : (P : Entry → Type 0) (g : History) → AllByRecursion P (map (λ (e : Stamped). e.entry) g)
      → AllByRecursion (λ (e : Stamped). P e.entry) g
  all-mapped P [] all = tt
  all-mapped P (e ∷ g) all = (all.0, all-mapped P g all.1)

  pub nobody-registers : (at : ℕ) (key : Option RetryKey) (command : Command) → Legal H → IsCaller H None command
      → judge (view None H) (call_of None at key command) ≡ Ok d
      → AllByRecursion (λ (e : Stamped). Registers e.entry) d.group
  nobody-registers at key command legal calls accepted =
      all-mapped Registers d.group
      (subst (AllByRecursion Registers)
      (sym (adds_as_said H (call_of None at key command) d legal calls accepted).entries)
      (added-registers command calls))

  -- nobody gives any number
  no-key : (key : Option RetryKey) → IsKeyOf None key → key ≡ None
  no-key None given = refl
  no-key (Some key) given = absurd given

  pub nobody-numbered : (at : ℕ) (key : Option RetryKey) (command : Command) → Legal H → IsCaller H None command
      → IsKeyOf None key → judge (view None H) (call_of None at key command) ≡ Ok d
      → AllByRecursion (λ (e : Stamped). e.stamp.key ≡ None) d.group
  nobody-numbered at key command legal calls given accepted =
      AllByRecursion-map (λ (e : Stamped). e.stamp ≡ stamp_added H (call_of None at key command))
      (λ (e : Stamped). e.stamp.key ≡ None)
      (λ e same. ap (λ (s : Stamp). s.key) same ∙ no-key key given) d.group
      (adds_as_said H (call_of None at key command) d legal calls accepted).stamps

  -- a bulk's are its caller's
  grouped-made : (stamp : Stamp) (es : List Entry)
      → AllByRecursion (λ (e : Stamped). e.stamp.maker ≡ stamp.maker) (grouped stamp es)
  grouped-made stamp [] = tt
  grouped-made stamp (e ∷ []) = (refl, tt)
  grouped-made stamp (e ∷ next ∷ es) = (refl, grouped-made stamp (next ∷ es))

  pub bulk-made : (bulk : BulkCall) → judge_bulk (view (Some bulk.stamp.maker) H) bulk ≡ Ok d
      → AllByRecursion (λ (e : Stamped). e.stamp.maker ≡ bulk.stamp.maker) d.group
  bulk-made bulk accepted =
      let draws : BulkDraws bulk.stamp H bulk.rows d = bulk-draws bulk.stamp H bulk.rows d accepted in
      subst (λ (x : Drawn). AllByRecursion (λ (e : Stamped). e.stamp.maker ≡ bulk.stamp.maker) x.group) draws.drawn_is
      (grouped-made bulk.stamp draws.entries)
