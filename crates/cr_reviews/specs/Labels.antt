-- SPDX-License-Identifier: Apache-2.0 OR MIT
-- Which labels of a paper a set holds.
use Rattle.std.specs.Prelude.{ℕ, Bool, false, List, slice_index_or}

-- of flags by ordinal, that of this one; there is none behind the last
abbrev pub has_label : List Bool → ℕ → Bool
has_label flags ordinal = slice_index_or flags ordinal false
