-- SPDX-License-Identifier: Apache-2.0 OR MIT
-- Which papers are planned, by the tables.
use Rattle.std.specs.Prelude.{ℕ, Bool, not, ◌&&◌, Option, if◌then◌else◌}
use Rattle.cr_base.specs.Papers.{is_withdrawn_at}
use Rattle.cr_base.specs.Plans.{has_labels_for}
use Rattle.cr_base.specs.Sources.{shown_in_tables}
use Rattle.cr_base.specs.Tables.{Tables}
use Rattle.cr_base.specs.Ties.{is_conflicted_in}

-- so many more reviewers of the paper are planned, for a user or an unauthenticated caller
abbrev pub is_planned_in : Tables → Option ℕ → ℕ → ℕ → Bool
is_planned_in t user per_paper p =
    not (is_conflicted_in t.ties user p) && not (is_withdrawn_at t.papers p)
    && has_labels_for (shown_in_tables t) per_paper p

-- 1 if this holds, else 0
abbrev pub one : Bool → ℕ
one b = if b then 1 else 0
