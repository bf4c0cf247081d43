-- SPDX-License-Identifier: Apache-2.0 OR MIT
-- OtherStamps: the timestamps, numbers and marks of commands, which only the users who gave them are shown; and a
-- history in which others gave theirs at other timestamps and by other numbers, or by none.
use Rattle.std.specs.Prelude.{ℕ, Bool, ◌≡◌, false, not, suc, List, [], ◌∷◌, map, Option, Some, None, unwrap_or, IsTrue}
use Rattle.std.specs.Prelude.{if◌then◌else◌}
use Rattle.std.specs.List.{list_any}
use Rattle.cr_base.specs.declared.entry.Entry.{Entry}
use Rattle.cr_base.specs.declared.entry.Entry.TheVariants.{Registered}
use Rattle.cr_base.specs.declared.entry.Stamp.{Stamp}
use Rattle.cr_base.specs.declared.entry.Stamped.{Stamped}
use Rattle.cr_base.specs.Calls.{stamp_by}
use Rattle.cr_base.specs.Drawn.{stamped}
use Rattle.cr_base.specs.History.{History}
use Rattle.cr_base.specs.Lists.{is_number, last_or}
use Rattle.cr_history.specs.Invariants.{InTurn}
use Rattle.cr_policy.specs.HiddenPayload.{PlaceByPlace}
use Rattle.cr_policy.specs.Legal.{IsNewKey}
use Rattle.cr_policy.specs.Sentences.{in_time}
use Rattle.cr_undeduced.specs.Payload.{Payload, own_if}

-- the user is one of these
abbrev pub is_among : List (Option ℕ) → ℕ → Bool
is_among group user = list_any (λ (u : Option ℕ). is_number u user) group

-- the stamp with the payload's timestamp, number and mark, unless they are known
abbrev pub stamp_with_other : Bool → Payload → Stamp → Stamp
stamp_with_other known x own = stamp_by own.maker (own_if known own.at x.at) (own_if known own.key x.key)

-- the payload, if another entry of the same command follows, which has its timestamp, number and mark too
abbrev pub going_on : Bool → Payload → Option Payload
going_on more x = if more then Some x else None

-- the history with these payloads' timestamps, numbers and marks for all entries that no user of the group made. All
-- entries of a command have those of the payload at the place of its first; `begun` is that payload, if the first entry
-- here goes on a command.
abbrev pub with_stamps : List (Option ℕ) → Option Payload → (ℕ → Payload) → History → History
with_stamps group begun xs [] = []
with_stamps group begun xs (e ∷ later) =
    let x = unwrap_or begun (xs 0) in
    stamped (stamp_with_other (is_among group e.stamp.maker) x e.stamp) e.more e.entry
    ∷ with_stamps group (going_on e.more x) (λ n. xs (suc n)) later

-- ---- which stamps a legal history may have

-- after the history's last entry another one of the same command follows
abbrev pub goes_on : History → Bool
goes_on H = last_or false (map (λ (e : Stamped). e.more) H)

-- the entry's command has no number, or one that its user gave no other command before; a registration has none
abbrev pub HasNewNumber : History → Stamp → Entry → Type 0
HasNewNumber before stamp (Registered user name digest) = stamp.key ≡ None
HasNewNumber before stamp e = IsNewKey before (Some stamp.maker) stamp.key

-- the other history has stamps that this one's commands might have had: none of its timestamps is too late for what the
-- phase opens unless the one in whose place it is was, and each command's number is new
pub record StampsFit (other H : History) : Type 0 where
  pub timed :
      PlaceByPlace (λ at e own. IsTrue (in_time own.stamp.at at.before) → IsTrue (in_time e.stamp.at at.before)) []
      other H
  pub numbered : InTurn (λ before e. IsTrue (not (goes_on before)) → HasNewNumber before e.stamp e.entry) [] other
