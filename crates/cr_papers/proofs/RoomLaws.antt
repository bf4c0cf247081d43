-- SPDX-License-Identifier: Apache-2.0 OR MIT
-- Room for a group of entries in the table of papers.
use Rattle.std.proofs.Common.{ℕ, Bool, true, false, cond, ◌≡◌, ◌≤◌, ◌+◌, List, ◌∷◌, length, Some, refl, sym, arith}
use Rattle.std.specs.Prelude.{nat_le}
use Rattle.std.proofs.lemmas.Bool.{true≢false}
use Rattle.cr_base.specs.declared.entry.Stamped.{Stamped}
use Rattle.cr_base.specs.History.{History}
use Rattle.cr_base.proofs.Small.{nat_le-trans}
use Rattle.cr_rooms.specs.Rooms.{IsNoLess, IsOneLess}
use Rattle.cr_rooms.proofs.GroupRooms.{room-for-behind, room-for-kept, room-for-rest}
use Rattle.cr_kept.specs.Beside.{rooms_beside}
use Rattle.cr_kept.proofs.BesideLaws.{no-less-beside, one-less-beside}
use Rattle.cr_papers.specs.Room.{rooms_of, paper_uploaded, PapersHaveRoom}
use Rattle.cr_papers.specs.Seen.{PapersRooms}

-- room for a group is room for the rest of it
pub room-behind : (s : Stamped) (rest : History) (rooms : PapersRooms) → PapersHaveRoom (s ∷ rest) rooms
    → PapersHaveRoom rest rooms
room-behind s rest rooms has =
    let papers = has.papers in
    record { papers = omega (arith, papers); uploads = room-for-behind paper_uploaded s rest rooms.uploads has.uploads }

-- a count that is one less where it is counted at all
counted : (old_sums new_sums old new more : ℕ) → old_sums ≤ new_sums → old ≤ new + more
    → cond (nat_le 10000 old_sums) old 0 ≤ cond (nat_le 10000 new_sums) new 0 + more
counted old_sums new_sums old new more le few =
    by (nat_le 10000 old_sums) (nat_le 10000 new_sums) (nat_le-trans 10000 old_sums new_sums le)
  where
    by : (a b : Bool) → (a ≡ true → b ≡ true) → cond a old 0 ≤ cond b new 0 + more
    by true true on = few
    by true false on = absurd (true≢false (sym (on refl)))
    by false b on = omega arith

module _ (submitted papers uploaded : ℕ) (uploads : List ℕ) (submitted' papers' uploaded' : ℕ) (uploads' : List ℕ)
    (more_submitted : submitted ≤ submitted') (more_uploaded : uploaded ≤ uploaded') where
  abbrev old : PapersRooms
  old = rooms_of submitted papers uploaded uploads

  abbrev new : PapersRooms
  new = rooms_of submitted' papers' uploaded' uploads'

  -- where nothing has less room, there still is room
  pub room-kept : (group : History) → papers ≤ papers' → IsNoLess uploads uploads' → PapersHaveRoom group old
      → PapersHaveRoom group new
  room-kept group le keeps has =
      let few = counted submitted submitted' papers papers' 0 more_submitted (omega (arith, le)) in
      let enough = has.papers in
      record {
        papers = omega (arith, few, enough);
        uploads = room-for-kept paper_uploaded group (rooms_beside uploaded uploads) (rooms_beside uploaded' uploads')
            (no-less-beside uploaded uploaded' uploads uploads' more_uploaded keeps) has.uploads;
      }

  module _ (s : Stamped) (rest : History) (le : papers ≤ papers' + 1) where
    fewer : PapersHaveRoom (s ∷ rest) old → length rest ≤ new.papers
    fewer has =
        let few = counted submitted submitted' papers papers' 1 more_submitted le in
        let enough = has.papers in
        omega (arith, few, enough)

    -- where an upload has come in, there is room for the rest
    pub room-uploaded : (paper : ℕ) → paper_uploaded s ≡ Some paper → IsOneLess paper uploads uploads'
        → PapersHaveRoom (s ∷ rest) old → PapersHaveRoom rest new
    room-uploaded paper is less has =
        record {
          papers = fewer has;
          uploads = room-for-rest paper_uploaded s rest (rooms_beside uploaded uploads)
              (rooms_beside uploaded' uploads') paper is
              (one-less-beside paper uploaded uploaded' uploads uploads' more_uploaded less) has.uploads;
        }
