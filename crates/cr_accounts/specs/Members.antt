-- SPDX-License-Identifier: Apache-2.0 OR MIT
-- How many accounts are members'.
use Rattle.std.specs.Prelude.{ℕ, ◌+◌, if◌then◌else◌}
use Rattle.cr_base.specs.declared.words.Role.{Role}
use Rattle.cr_base.specs.Words.{is_member}

-- one more account is counted, if its role is a member's
abbrev pub counted_by : Role → ℕ → ℕ
counted_by role count = if is_member role then count + 1 else count
