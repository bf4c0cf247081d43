-- SPDX-License-Identifier: Apache-2.0 OR MIT
use Rattle.std.proofs.Common.{◌≡◌, ◌++◌, [], ◌∷◌, take}
use Rattle.cr_journal.specs.Grammar.{FitsGroup, payload}
use Rattle.cr_journal.proofs.writing.payload_behind.Given as goal

abbrev pub invariant-loop-row : goal.invariant-loop-row
invariant-loop-row l =
    (l.bytes.items ≡ (0 ∷ 0 ∷ 0 ∷ 0 ∷ 0 ∷ 0 ∷ 0 ∷ 0 ∷ []) ++ payload (take l.row-index l.rows))
    × FitsGroup (take l.row-index l.rows)
