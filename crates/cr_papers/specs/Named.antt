-- SPDX-License-Identifier: Apache-2.0 OR MIT
-- The paper that a command names, as the rules ask of it.
use Rattle.std.specs.Prelude.{ℕ, ◌==◌, Option}
use Rattle.std.specs.List.{list_any}
use Rattle.cr_base.specs.Checks.{NamedPaper}
use Rattle.cr_base.specs.Lists.{at_some}
use Rattle.cr_base.specs.Papers.{PapersState, paper_numbers, is_withdrawn_at}

-- whether a paper of the number that was told is there, and withdrawn
abbrev pub named_in : PapersState → Option ℕ → NamedPaper
named_in state paper = record {
  there = at_some (λ p. list_any (λ q. q == p) (paper_numbers state)) paper;
  withdrawn = at_some (is_withdrawn_at state) paper;
}
