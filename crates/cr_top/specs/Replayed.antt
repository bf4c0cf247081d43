-- SPDX-License-Identifier: Apache-2.0 OR MIT
-- What a list of wishes is answered, and where it leads, if nothing is lost: each wish is answered on the history to
-- which the wishes before it lead.
use Rattle.std.specs.Prelude.{ℕ, ◌+◌, List, [], ◌∷◌}
use Rattle.cr_base.specs.History.{History}
use Rattle.cr_http.specs.Requests.{End, ended_clean, ended_cut, asked, closed}
use Rattle.cr_wire.specs.declared.what.Wish.{Wish}
use Rattle.cr_session.specs.Answering.{Answer}
use Rattle.cr_session.specs.Serving.{refusal_at}
use Rattle.cr_session.specs.Told.{told, after_wish}
use Rattle.cr_wire.specs.Wishes.{closes}
use Rattle.cr_top.specs.declared.exit.Exit.{Exit}
use Rattle.cr_top.specs.declared.exit.Exit.TheVariants as exits

-- the answers to the wishes, each at its wish's timestamp; the first wish is request number n and is answered on this
-- history
abbrev pub told_along : ℕ → History → List Wish → List Answer
told_along n H [] = []
told_along n H (w ∷ ws) =
    record { text = told H w (closes n w); at = w.at } ∷ told_along (n + 1) (after_wish H w) ws

-- the history that the wishes lead to
abbrev pub steps_along : History → List Wish → History
steps_along H [] = H
steps_along H (w ∷ ws) = steps_along (after_wish H w) ws

-- what is answered after the last wish, by the end of the text: a refusal at this timestamp, if the text ends by one
abbrev pub last_words : End → ℕ → List Answer
last_words ended_clean at = []
last_words ended_cut at = []
last_words asked at = []
last_words (closed why head) at = refusal_at why head at ∷ []

-- the exit by the end of the text
abbrev pub exit_at : End → Exit
exit_at ended_clean = exits.Done
exit_at ended_cut = exits.Cut
exit_at asked = exits.Done
exit_at (closed why head) = exits.Done
