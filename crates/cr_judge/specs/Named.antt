-- SPDX-License-Identifier: Apache-2.0 OR MIT
-- What a command names, and what the rules read of it, by reads of the tables; the caller is `maker`.
use Rattle.std.specs.Prelude.{ℕ, Bool, ◌==◌, List, Option, Some, None, if◌then◌else◌}
use Rattle.std.specs.List.{list_any}
use Rattle.std.specs.Option.{option_map, option_and_then}
use Rattle.cr_base.specs.declared.entry.Account.{Account}
use Rattle.cr_base.specs.declared.target.Target.{Target}
use Rattle.cr_base.specs.declared.words.Role.{Role}
use Rattle.cr_base.specs.Accounts.{role_at}
use Rattle.cr_base.specs.Checks.{NamedPaper}
use Rattle.cr_base.specs.Lists.{at_some}
use Rattle.cr_base.specs.Papers.{PapersState, paper_numbers, is_withdrawn_at}
use Rattle.cr_base.specs.Reviews.{is_written_in}
use Rattle.cr_base.specs.Seats.{ordinal_in}
use Rattle.cr_base.specs.Sources.{standing_at, facts_of_tables, shown_in_tables, paper_named, target_named}
use Rattle.cr_base.specs.Tables.{Tables}
use Rattle.cr_judge.specs.declared.named.Named.{Named}

-- the number of a paper, if there is one
abbrev pub there_in : PapersState → Option ℕ → Option ℕ
there_in papers paper =
    option_and_then (λ p. if list_any (λ q. q == p) (paper_numbers papers) then Some p else None) paper

-- the paper of this number, with the standing of `maker` at it
abbrev pub named_at : Tables → ℕ → Option ℕ → Named
named_at t maker paper = record {
  by = standing_at t (Some maker) paper;
  paper = paper;
  withdrawn = at_some (is_withdrawn_at t.papers) paper;
}

-- this user, with their role; `None` if there is none
abbrev pub target_with : List Account → Option ℕ → Option (ℕ × Role)
target_with accounts user =
    option_and_then (λ (v : ℕ). option_map (λ (role : Role). (v, role)) (role_at accounts v)) user

-- a form is written under this user's label at the paper
abbrev pub written_at : Tables → Option ℕ → Option ℕ → Bool
written_at t user paper = at_some (λ p. at_some (is_written_in t.reviews p) (ordinal_in t.seats user p)) paper

-- what the rules ask of the paper
abbrev pub asked_of : Tables → Option ℕ → NamedPaper
asked_of t paper = paper_named (facts_of_tables t None) (shown_in_tables t) paper

-- what the rules ask of the user named, if there is one
abbrev pub asked_at : Tables → ℕ → Option ℕ → Option ℕ → Option Target
asked_at t maker paper user = target_named (facts_of_tables t (Some maker)) (shown_in_tables t) (Some maker) paper user
