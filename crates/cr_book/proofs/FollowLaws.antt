-- SPDX-License-Identifier: Apache-2.0 OR MIT
-- Which groups may be put behind a log: those of calls and bulks that are allowed, whose numbers are new.
use Rattle.std.proofs.Common.{ℕ, ◌≡◌, List, [], ◌∷◌, refl, sym, ap, subst, ◌∙◌, Option, Some, None, IfSome, Ok, inl}
use Rattle.std.proofs.Common.{inr}
use Rattle.std.specs.List.{AllByRecursion}
use Rattle.std.specs.Option.{option_map}
use Rattle.cr_base.specs.declared.command.Call.{Call}
use Rattle.cr_base.specs.declared.entry.Entry.{Entry}
use Rattle.cr_base.specs.declared.entry.Stamp.{Stamp}
use Rattle.cr_base.specs.declared.entry.Stamped.{Stamped}
use Rattle.cr_base.specs.declared.retry.RetryKey.{RetryKey}
use Rattle.cr_base.specs.Drawn.{Drawn, grouped}
use Rattle.cr_base.specs.History.{History}
use Rattle.cr_base.specs.Keys.{IsUnused}
use Rattle.cr_log.specs.Given.{number_by, MayFollow}
use Rattle.cr_policy.specs.Added.{stamp_added}
use Rattle.cr_policy.specs.Judge.{judge, view_basis}
use Rattle.cr_policy.specs.Legal.{IsAllowed, IsNewKey, Legal}
use Rattle.cr_policy.specs.View.{view}
use Rattle.cr_policy.proofs.NumberLaws.{accepted-group, accepted-new}
use Rattle.cr_beginnings.proofs.BulkParts.{bulk-parts}
use Rattle.cr_beginnings.proofs.GroupLegal.{MayAdd, MayAddRows, MayMove}

-- ---- a group under one stamp

unused-number : (H : History) (user : ℕ) (key : Option RetryKey) → IsNewKey H (Some user) key
    → IfSome (option_map (number_by user) key) (λ n. IsUnused H n.user n.number)
unused-number H user None new = tt
unused-number H user (Some key) new = new

grouped-under : (stamp : Stamp) (entries : List Entry)
    → AllByRecursion (λ (s : Stamped). s.stamp ≡ stamp) (grouped stamp entries)
grouped-under stamp [] = tt
grouped-under stamp (e ∷ []) = (refl, tt)
grouped-under stamp (e ∷ next ∷ entries) = (refl, grouped-under stamp (next ∷ entries))

-- where its number is new
pub grouped-follow : (H : History) (stamp : Stamp) (entries : List Entry) → IsNewKey H (Some stamp.maker) stamp.key
    → MayFollow H (grouped stamp entries)
grouped-follow H stamp [] new = record { one = tt; new = tt }
grouped-follow H stamp (e ∷ []) new = record { one = tt; new = unused-number H stamp.maker stamp.key new }
grouped-follow H stamp (e ∷ next ∷ entries) new =
    record { one = grouped-under stamp (next ∷ entries); new = unused-number H stamp.maker stamp.key new }

-- ---- what is allowed

pub call-follows : (H : History) (call : Call) (drawn : Drawn) → Legal H → IsAllowed H call
    → judge (view call.caller H) call ≡ Ok drawn → MayFollow H drawn.group
call-follows H call drawn legal allowed accepted =
    let group = accepted-group H call drawn legal allowed accepted in
    subst (λ (g : History). MayFollow H g) (sym group.is)
    (grouped-follow H (stamp_added H call) group.entries (accepted-new H call allowed))

pub added-follows : (H group : History) → Legal H → MayAdd H group → MayFollow H group
added-follows H group legal add =
    subst (λ (g : History). MayFollow H g) (sym add.group_is)
    (call-follows H add.call add.drawn legal add.allowed add.accepted)

rows-follow : (H group : History) → MayAddRows H group → MayFollow H group
rows-follow H group add =
    let bulk = add.bulk in
    let parts = bulk-parts (view_basis bulk.stamp.maker) (view (Some bulk.stamp.maker) H) bulk add.drawn add.accepted in
    subst (λ (g : History). MayFollow H g) (ap (λ (d : Drawn). d.group) parts.drawn_is ∙ sym add.group_is)
    (grouped-follow H bulk.stamp parts.entries add.allowed.unused)

-- and a move's
pub move-follows : (H group : History) → Legal H → MayMove H group → MayFollow H group
move-follows H group legal (inl add) = added-follows H group legal add
move-follows H group legal (inr rows) = rows-follow H group rows
