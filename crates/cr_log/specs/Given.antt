-- SPDX-License-Identifier: Apache-2.0 OR MIT
-- Numbers that users gave commands: of which command entries are, and which entries may be added.
use Rattle.std.specs.Prelude.{ℕ, Bool, ◌≡◌, ◌==◌, ◌&&◌, [], ◌∷◌, Option, None, IfSome}
use Rattle.std.specs.List.{AllByRecursion}
use Rattle.std.specs.Option.{option_map}
use Rattle.cr_base.specs.declared.entry.Stamp.{Stamp}
use Rattle.cr_base.specs.declared.entry.Stamped.{Stamped}
use Rattle.cr_base.specs.declared.retry.RetryKey.{RetryKey}
use Rattle.cr_base.specs.History.{History}
use Rattle.cr_base.specs.Keys.{IsUnused}
use Rattle.cr_log.specs.declared.given.GivenNumber.{GivenNumber}

-- the same user's same number
abbrev pub is_same : GivenNumber → GivenNumber → Bool
is_same a b = (a.user == b.user) && (a.number == b.number)

-- the number of a user's key
abbrev pub number_by : ℕ → RetryKey → GivenNumber
number_by user key = record { user = user; number = key.number }

-- the number that the maker of entries under this stamp gave her command, if any
abbrev pub number_in : Stamp → Option GivenNumber
number_in stamp = option_map (number_by stamp.maker) stamp.key

-- the number of the entries of one command, by the first
abbrev pub number_given : History → Option GivenNumber
number_given [] = None
number_given (e ∷ es) = number_in e.stamp

-- they have one stamp
abbrev pub HaveOneStamp : History → Type 0
HaveOneStamp [] = Unit {0}
HaveOneStamp (e ∷ es) = AllByRecursion (λ (s : Stamped). s.stamp ≡ e.stamp) es

-- These entries may be added behind the history: they have one stamp, and where it has a number, their maker has made
-- no entry under it.
pub record MayFollow (H group : History) : Type 0 where
  pub one : HaveOneStamp group
  pub new : IfSome (number_given group) (λ n. IsUnused H n.user n.number)
