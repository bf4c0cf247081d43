-- SPDX-License-Identifier: Apache-2.0 OR MIT
-- What a stop of the machine may leave of what one connection's wishes added: CrashKeepsGroups, by the wishes.
use Rattle.std.specs.Prelude.{◌≡◌, ◌⊎◌, ℕ, List, [], ◌∷◌, ◌++◌, true, Some, IsTrue}
use Rattle.cr_base.specs.declared.row.Row.{Row}
use Rattle.cr_base.specs.Drawn.{Drawn}
use Rattle.cr_base.specs.History.{History}
use Rattle.cr_base.specs.Rows.{rows_of}
use Rattle.cr_ports.specs.Stopping.{IsAmong, OpensTo}
use Rattle.cr_book.specs.Stopping.{Keepers}
use Rattle.cr_session.specs.Replay.{JudgedWish, history_after}
use Rattle.cr_session.specs.Told.{drawn}

-- the history after these wishes, of which the first was judged on this one
abbrev pub history_behind : History → List JudgedWish → History
history_behind H [] = H
history_behind H (j ∷ js) = history_behind (history_after j) js

-- One of these wishes drew the group on this history, and was answered that it wasn't kept.
pub record IsLostGroup (judged : List JudgedWish) (H group : History) : Type 0 where
  pub wish : JudgedWish
  pub among : IsAmong judged wish
  pub lost : wish.lost ≡ true
  pub seen : wish.seen ≡ H
  pub draws : Drawn
  pub drew : drawn H wish.wish ≡ Some draws
  pub group_is : group ≡ draws.group

-- What was left opens to the rows of the history that some first of these wishes lead to from the opening one, or to
-- these and then whole the group of one of the wishes that was lost on that history.
pub record OpensBehind (opens : List ℕ → List Row → Type 0) (opening : History) (judged : List JudgedWish)
    (image : List ℕ) : Type 0 where
  pub first : List JudgedWish
  pub others : List JudgedWish
  pub parts : judged ≡ first ++ others
  pub opens_to : opens image (rows_of (history_behind opening first))
      ⊎ ((group : History) × IsLostGroup judged (history_behind opening first) group
      × opens image (rows_of (history_behind opening first ++ group)))

-- What a stop at some moment since these wishes came, on this history, may have left; and the groups of which one may
-- be found after the rows of the last history: those of wishes that were lost on it.
pub record KeepsWishes {K : Type 0} (keepers : Keepers K) (old new : K) (opening last : History)
    (judged : List JudgedWish) : Type 0 where
  pub since : (image : List ℕ) → keepers.left_since new (keepers.moment old) image
      → OpensBehind keepers.opens opening judged image
  pub lost : (added : List Row) → IsAmong (keepers.tried new) added
      → (group : History) × IsLostGroup judged last group × (added ≡ rows_of group)

-- The same of a keeper that tells what a stop leaves, with which nothing had been tried in vain when these wishes came.
abbrev pub KeepsWishesTold : {K : Type 0} → Keepers K → K → K → History → History → List JudgedWish → Type 0
KeepsWishesTold keepers old new opening last judged =
    IsTrue (keepers.tells_stops old) → keepers.tried old ≡ []
    → ((image : List ℕ) → keepers.left_since old (keepers.moment old) image
    → OpensTo keepers.opens (rows_of opening) (keepers.tried old) image)
    → KeepsWishes keepers old new opening last judged
