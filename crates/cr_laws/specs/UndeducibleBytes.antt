-- SPDX-License-Identifier: Apache-2.0 OR MIT
-- UndeducibleBytes: whatever a group of users ask, all that they are answered could have come of a conference in which
-- all values that they weren't shown were others. What they were shown is said by the bounds, as in law_undeducible;
-- the runs are those of law_group_runs.
use Rattle.std.specs.Prelude.{ℕ, ◌≡◌, suc, List, [], ◌∷◌, map, Option, IsTrue}
use Rattle.std.specs.Prelude.{if◌then◌else◌}
use Rattle.cr_base.specs.declared.entry.Entry.{Entry}
use Rattle.cr_base.specs.declared.entry.Entry.TheVariants.{Registered}
use Rattle.cr_base.specs.declared.entry.Stamped.{Stamped}
use Rattle.cr_base.specs.Drawn.{stamped}
use Rattle.cr_base.specs.History.{History}
use Rattle.cr_policy.specs.Legal.{Legal, unnumbered}
use Rattle.cr_undeduced.specs.Payload.{Payload, IsBoundedPayload, Known, with_other, NoneLonger}
use Rattle.cr_undeduced.specs.Undeducible.{with_values, IsWithinQuota}
use Rattle.cr_session.specs.TwoRuns.{Run}
use Rattle.cr_session.specs.Retries.{AreBounded}
use Rattle.cr_laws.specs.AnotherRun.{looks_of, end_of, is_made_by, AnotherRun}

-- ---- what they were shown

-- the history in which the run ends, with these other values, one for each place, of all that none of the group was
-- shown whenever they asked: of all of it at once, part by part
abbrev pub end_otherwise : List (Option ℕ) → (ℕ → Payload) → Run → History
end_otherwise group xs one = with_values (looks_of group one.opening one.wishes) xs (end_of one)

-- ---- what stays

-- the payload is the entry's own: with it the entry is itself, whatever is known of it
abbrev pub IsOwn : Payload → Entry → Type 0
IsOwn x e = (known : Known) → with_other known x e ≡ e

-- the payload has the entry's own digest of a secret: else a guess at a secret that failed could succeed in the other
-- run
abbrev pub KeepsDigest : Payload → Entry → Type 0
KeepsDigest x (Registered user name digest) = x.digest ≡ digest
KeepsDigest x e = Unit {0}

-- the payload leaves an entry that one of the group made, and every digest, unchanged
pub record IsLeft (group : List (Option ℕ)) (x : Payload) (e : Stamped) : Type 0 where
  pub own : IsTrue (is_made_by group e) → IsOwn x e.entry
  pub digest : KeepsDigest x e.entry

-- the payload at each place leaves its entry as `IsLeft` says
abbrev pub AreLeft : List (Option ℕ) → (ℕ → Payload) → History → Type 0
AreLeft group xs [] = Unit {0}
AreLeft group xs (e ∷ H) = IsLeft group (xs 0) e × AreLeft group (λ n. xs (suc n)) H

-- ---- others' numbers

-- the entry without its command's number, if no user of the group made it: the number's mark is the digest of a
-- request, which would be another
abbrev pub unnumbered_entry : List (Option ℕ) → Stamped → Stamped
unnumbered_entry group e = if is_made_by group e then e else stamped (unnumbered e.stamp) e.more e.entry

-- the history without the numbers of commands of others than the group
abbrev pub without_numbers : List (Option ℕ) → History → History
without_numbers group H = map (unnumbered_entry group) H

-- ---- the clauses

-- the other values are within the bounds of commands, and leave what the group made and every digest unchanged
pub record AreOthers (group : List (Option ℕ)) (xs : ℕ → Payload) (one : Run) : Type 0 where
  pub bounded : (n : ℕ) → IsBoundedPayload (xs n)
  pub left : AreLeft group xs (end_of one)

-- OthersHeard: of each run that a legal history opens, each group and all such values there is another run that ends in
-- the other history, without others' numbers, and in which the group is answered the same, if no user has uploaded more
-- than 64 MiB by these values
abbrev pub OthersHeard : Type 0
OthersHeard = (group : List (Option ℕ)) (xs : ℕ → Payload) (one : Run) → Legal one.opening → AreBounded one.wishes
    → AreOthers group xs one → IsWithinQuota (end_otherwise group xs one)
    → AnotherRun group one (without_numbers group (end_otherwise group xs one))

-- ShorterHeard: there is such another run, if no content is longer than the one whose place it takes
abbrev pub ShorterHeard : Type 0
ShorterHeard = (group : List (Option ℕ)) (xs : ℕ → Payload) (one : Run) → Legal one.opening → AreBounded one.wishes
    → AreOthers group xs one → NoneLonger xs (end_of one)
    → AnotherRun group one (without_numbers group (end_otherwise group xs one))
