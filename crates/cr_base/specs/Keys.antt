-- SPDX-License-Identifier: Apache-2.0 OR MIT
-- Keys: the number that a client gives a command, with the mark of its request. A later command of the same user with
-- the same number isn't judged again (Retries).
use Rattle.std.specs.Prelude.{ℕ, Bool, false, ◌≡◌, ◌≤◌, ◌==◌, ◌&&◌, nat_le, List, [], length, filter}
use Rattle.std.specs.Prelude.{Option, Some, None, if◌then◌else◌}
use Rattle.cr_base.specs.declared.entry.Stamped.{Stamped}
use Rattle.cr_base.specs.declared.retry.RetryKey.{RetryKey}

-- the greatest number of a command: 18 digits
abbrev pub last_command_number : ℕ
last_command_number = 999999999999999999

-- the command number that is this number; `None` if it is no command's
abbrev pub command_number_of : ℕ → Option ℕ
command_number_of number = if nat_le 1 number && nat_le number last_command_number then Some number else None

-- a key has the number of a command, and its mark is a digest
pub record IsRetryKey (key : RetryKey) : Type 0 where
  pub low : 1 ≤ key.number
  pub high : key.number ≤ last_command_number
  pub mark : length key.mark ≡ 32

-- the key, if there is one, is within its bounds
abbrev pub IsKeyOrNone : Option RetryKey → Type 0
IsKeyOrNone None = Unit {0}
IsKeyOrNone (Some key) = IsRetryKey key

-- there is a key, and it has this number
abbrev pub has_number : ℕ → Option RetryKey → Bool
has_number number None = false
has_number number (Some key) = key.number == number

-- the entries that this user made by a command of this number
abbrev pub kept_under : ℕ → ℕ → List Stamped → List Stamped
kept_under user number H = filter (λ (e : Stamped). e.stamp.maker == user && has_number number e.stamp.key) H

-- the user made none of these entries by a command of this number
abbrev pub IsUnused : List Stamped → ℕ → ℕ → Type 0
IsUnused H user number = kept_under user number H ≡ []
