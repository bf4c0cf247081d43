-- SPDX-License-Identifier: Apache-2.0 OR MIT
-- The letters that stand for reviewers.
use Rattle.std.specs.Prelude.{ℕ, ◌+◌}

-- the byte of the letter of an ordinal: A is 65 and comes first
abbrev pub letter_of : ℕ → ℕ
letter_of ordinal = 64 + ordinal
