-- SPDX-License-Identifier: Apache-2.0 OR MIT
-- What one turn does with the keeper of a book's rows, and what turns do with it one after another.
use Rattle.std.specs.Prelude.{◌≡◌, List, [], ◌∷◌, Bool, true, false, Option, Some, None, Ok, Err, IsTrue, ⊤}
use Rattle.cr_base.specs.Drawn.{Drawn}
use Rattle.cr_base.specs.History.{History}
use Rattle.cr_book.specs.Stopping.{Adding, Keepers}
use Rattle.cr_session.specs.Told.{drawn}
use Rattle.cr_session.specs.Replay.{JudgedWish}

-- what became of what a turn's wish draws: it draws nothing, and so nothing was put into the keeper; or the keeper kept
-- it; or it was lost, since the keeper failed
pub data Fate : Type 0 where
  Nothing : Fate
  Kept : Drawn → Fate
  Lost : Drawn → Fate

-- the fate of what a wish draws, which was lost or wasn't
abbrev pub fate_of : Bool → Option Drawn → Fate
fate_of lost None = Nothing
fate_of true (Some d) = Lost d
fate_of false (Some d) = Kept d

-- the fate of what a wish draws if the keeper kept it
abbrev pub kept_of : Option Drawn → Fate
kept_of d = fate_of false d

-- the fate of what a wish draws if it was lost
abbrev pub lost_of : Option Drawn → Fate
lost_of d = fate_of true d

-- Of a turn on a history: the history, the fate of what its wish draws, and the keeper as the turn found it and as it
-- left it.
abbrev pub Tries : Type 0 → Type 1
Tries K = History → Fate → K → K → Type 0

-- If the keeper tells what a stop of the machine may leave: it is as it was if nothing is drawn. Else a stop while the
-- group was being added leaves the rows of the history, or these and then whole this group or one that had been tried.
abbrev pub tries_of : {K : Type 0} → Keepers K → Tries K
tries_of keepers H Nothing old new = IsTrue (keepers.tells_stops old) → new ≡ old
tries_of keepers H (Kept d) old new =
    IsTrue (keepers.tells_stops old) → Adding keepers {T = ⊤} {E = ⊤} (Ok tt) H d.group old new
tries_of keepers H (Lost d) old new =
    IsTrue (keepers.tells_stops old) → Adding keepers {T = ⊤} {E = ⊤} (Err tt) H d.group old new

module _ {K : Type 0} (tries : Tries K) where
  -- a wish was judged over a keeper, which is this one then
  abbrev pub TriesWish : JudgedWish → K → K → Type 0
  TriesWish j old new = tries j.seen (fate_of j.lost (drawn j.seen j.wish)) old new

  -- these wishes were judged, each over the keeper as the wish before left it
  abbrev pub TriesAlong : List JudgedWish → K → K → Type 0
  TriesAlong [] old new = new ≡ old
  TriesAlong (j ∷ js) old new = (next : K) × TriesWish j old next × TriesAlong js next new
