-- SPDX-License-Identifier: Apache-2.0 OR MIT
-- What the rows of the trigger table for a form ask: the form's position, and the reader's standing at the paper.
use Rattle.std.specs.Prelude.{Bool, ◌&&◌, ◌||◌}
use Rattle.cr_base.specs.declared.standing.Standing.{Standing}
use Rattle.cr_base.specs.Page.{is_clear_chair, is_clear_member}
use Rattle.cr_base.specs.Phases.{members_read_reviews, authors_read_reviews, authors_read_early_reviews}
use Rattle.cr_policy.specs.Triggers.{Position}

-- the mark that there is a form is shown: of the first form under a label, to a chair in no conflict
abbrev pub is_done_for : Position → Standing → Bool
is_done_for position by = position.first && is_clear_chair by

-- a clear member once members read reviews, of the last before the discussion and of all later ones
abbrev pub is_discussed_by : Position → Standing → Bool
is_discussed_by position by =
    (position.last_before_discussion || position.from_discussion)
    && (is_clear_member by && members_read_reviews by.phase)

-- an author from the response on, where it was opened, of the last before it
abbrev pub is_early_for : Position → Bool → Standing → Bool
is_early_for position opened by =
    position.last_before_response && opened && by.author && authors_read_early_reviews by.phase

-- an author once authors read reviews, of the last
abbrev pub is_for_author : Position → Standing → Bool
is_for_author position by = position.last && by.author && authors_read_reviews by.phase
