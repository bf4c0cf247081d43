-- SPDX-License-Identifier: Apache-2.0 OR MIT
-- The papers that a search finds, by the tables.
use Rattle.std.specs.Prelude.{ℕ, List, [], Some, filter, unwrap_or}
use Rattle.cr_base.specs.declared.found.FoundPaper.{FoundPaper}
use Rattle.cr_base.specs.declared.search.Node.{Node}
use Rattle.cr_base.specs.Answering.{told_of_paper}
use Rattle.cr_base.specs.Papers.{paper_numbers, title_at}
use Rattle.cr_base.specs.Searching.{PaperTold, is_found}
use Rattle.cr_base.specs.Sources.{facts_of_tables, shown_in_tables}
use Rattle.cr_base.specs.Tables.{Tables}

-- what the user is told of the paper
abbrev pub told_to : Tables → ℕ → ℕ → PaperTold
told_to t user p = told_of_paper (facts_of_tables t (Some user)) (shown_in_tables t) (Some user) p

-- those of these papers that the search finds for her
abbrev pub found_of : Tables → ℕ → List Node → List ℕ → List ℕ
found_of t user search papers = filter (λ (p : ℕ). is_found (told_to t user p) search) papers

-- those that it finds, by number
abbrev pub papers_found : Tables → ℕ → List Node → List ℕ
papers_found t user search = found_of t user search (paper_numbers t.papers)

-- a paper with its last title
abbrev pub titled : Tables → ℕ → FoundPaper
titled t p = record { paper = p; title = unwrap_or (title_at t.papers p) [] }
