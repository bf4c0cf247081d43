-- SPDX-License-Identifier: Apache-2.0 OR MIT
-- What reports read of a paper, by the tables.
use Rattle.std.specs.Prelude.{ℕ, List, Option, length, map}
use Rattle.cr_base.specs.History.{FormTold}
use Rattle.cr_base.specs.Lists.{last, listed, total}
use Rattle.cr_base.specs.Reviews.{forms_discussed_in}
use Rattle.cr_base.specs.Tables.{Tables}
use Rattle.cr_view.specs.declared.reports.ScoreSum.{ScoreSum}

-- the last form under the paper's label that the committee discusses
abbrev pub last_discussed : Tables → ℕ → ℕ → Option FormTold
last_discussed t p o = last (forms_discussed_in t.reviews p o)

-- the score of that form, as a list of at most one
abbrev pub score_under : Tables → ℕ → ℕ → List ℕ
score_under t p o = map (λ (form : FormTold). form.score) (listed (last_discussed t p o))

-- how many scores there are, and their sum
abbrev pub score_sum : List ℕ → ScoreSum
score_sum scores = record { count = length scores; sum = total scores }
