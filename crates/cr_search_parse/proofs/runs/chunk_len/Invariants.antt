-- SPDX-License-Identifier: Apache-2.0 OR MIT
-- The bytes passed and those that follow are all.
use Rattle.std.proofs.Common.{◌≡◌, ◌+◌, drop, false}
use Rattle.cr_search_parse.specs.Cutting.{chunk_length}
use Rattle.cr_search_parse.proofs.runs.chunk_len.Given as goal

abbrev pub invariant-loop-i : goal.invariant-loop-i
invariant-loop-i l = l.i + chunk_length l.quoted (drop l.i l.text) ≡ chunk_length false l.text
