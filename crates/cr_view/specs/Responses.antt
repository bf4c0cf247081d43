-- SPDX-License-Identifier: Apache-2.0 OR MIT
-- What a caller is told of an authors' response, by the tables.
use Rattle.std.specs.Prelude.{ℕ, List, Option, is_some, Result}
use Rattle.std.specs.Option.{option_and_then}
use Rattle.cr_base.specs.declared.reply.Rule.{Rule}
use Rattle.cr_base.specs.Answering.{response_by}
use Rattle.cr_base.specs.Checks.{judged, of_there, response_checks}
use Rattle.cr_base.specs.Sources.{facts_of_tables, has_paper, shown_in_tables, standing_at}
use Rattle.cr_base.specs.Tables.{Tables}
use Rattle.cr_base.specs.Talk.{response_in}

-- the response that is due to a user, or the first broken rule
abbrev pub response_due : Tables → Option ℕ → Option ℕ → Result (List ℕ) Rule
response_due t user paper =
    judged
    (response_checks (standing_at t user paper) (of_there (has_paper (facts_of_tables t user) paper))
    (is_some (option_and_then (response_in t.talk) paper)))
    (response_by (shown_in_tables t) paper)
