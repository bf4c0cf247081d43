-- SPDX-License-Identifier: Apache-2.0 OR MIT
-- The user whom a command names, as the rules ask of her.
use Rattle.std.specs.Prelude.{ℕ, Bool, false, ◌==◌, Option, Some}
use Rattle.std.specs.Option.{option_map}
use Rattle.cr_base.specs.declared.target.Target.{Target}
use Rattle.cr_base.specs.declared.words.Role.{Role}
use Rattle.cr_base.specs.Lists.{at_some}
use Rattle.cr_base.specs.Ties.{TiesState, is_author_in, is_conflicted_in}

-- a user of this role, who is an external of the paper named or isn't, where `maker` calls and this paper is named; no
-- rule about conflicts asks whether she reviews it
abbrev pub target_in : TiesState → ℕ → Option ℕ → Bool → ℕ → Role → Target
target_in ties maker paper external user role = record {
  role = role;
  herself = user == maker;
  author = at_some (is_author_in ties (Some user)) paper;
  conflicted = at_some (is_conflicted_in ties (Some user)) paper;
  reviewer = false;
  external = external;
}

-- the same, where there may be no such user
abbrev pub target_of : TiesState → ℕ → Option ℕ → Option (ℕ × Role) → Bool → Option Target
target_of ties maker paper target external =
    option_map (λ (t : ℕ × Role). target_in ties maker paper external t.0 t.1) target
