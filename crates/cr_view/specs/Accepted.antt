-- SPDX-License-Identifier: Apache-2.0 OR MIT
-- What everyone is told of papers, by the tables.
use Rattle.std.specs.Prelude.{ℕ, List, None, map, filter}
use Rattle.cr_base.specs.declared.accepted.AcceptedPaper.{AcceptedPaper}
use Rattle.cr_base.specs.Answering.{accepted_paper}
use Rattle.cr_base.specs.Sources.{facts_of_tables, shown_in_tables, is_accepted_in}
use Rattle.cr_base.specs.Tables.{Tables}

-- what everyone is told of those of these papers that are accepted
abbrev pub accepted_of : Tables → List ℕ → List AcceptedPaper
accepted_of t papers =
    map (accepted_paper (facts_of_tables t None) (shown_in_tables t)) (filter (is_accepted_in t) papers)
