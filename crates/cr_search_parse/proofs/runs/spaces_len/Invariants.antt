-- SPDX-License-Identifier: Apache-2.0 OR MIT
-- The spaces passed and those that follow are all.
use Rattle.std.proofs.Common.{◌≡◌, ◌+◌, drop}
use Rattle.cr_search_parse.specs.Cutting.{spaces_length}
use Rattle.cr_search_parse.proofs.runs.spaces_len.Given as goal

abbrev pub invariant-loop-i : goal.invariant-loop-i
invariant-loop-i l = l.i + spaces_length (drop l.i l.text) ≡ spaces_length l.text
