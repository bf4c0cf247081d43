-- SPDX-License-Identifier: Apache-2.0 OR MIT
-- What is at the gate at which a journal ends, in what a read gives and in what a stop may leave.
use Rattle.std.specs.Prelude.{◌≡◌, ◌≢◌, ◌⊎◌, ℕ, ◌+◌, ◌<◌, ◌≤◌, List, [], ◌∷◌, ◌++◌, length, take, drop}
use Rattle.cr_ports.specs.Stopping.{IsAmong}
use Rattle.cr_journal.specs.Grammar.{AreSized, IsJournal, field, front}

-- new has the first n bytes of old
pub record SameTo (n : ℕ) (old new : List ℕ) : Type 0 where
  pub front : take n new ≡ take n old
  pub long : n ≤ length new

-- new is old but for the byte at this offset
pub record SameBut (at : ℕ) (old new : List ℕ) : Type 0 where
  pub front : take at new ≡ take at old
  pub back : drop (at + 1) new ≡ drop (at + 1) old
  pub long : length new ≡ length old

-- the gate after these payloads is closed, and synced
pub record IsShut (file : List ℕ) (images : List ℕ → Type 0) (gate : ℕ) (kept : List (List ℕ)) : Type 0 where
  pub value : ℕ
  pub shut : value ≢ 1
  pub sized : AreSized kept
  pub size : gate ≡ length (front kept)
  pub long : gate + 1 ≤ length file
  pub closed : take (gate + 1) file ≡ front kept ++ value ∷ []
  pub synced : (image : List ℕ) → images image → SameTo (gate + 1) file image

-- the gate may hold anything; a whole payload and a closed gate are synced after it
pub record MayBeOpen (file : List ℕ) (images : List ℕ → Type 0) (gate : ℕ) (kept : List (List ℕ)) (p : List ℕ) : Type
    0 where
  pub sized : AreSized (kept ++ p ∷ [])
  pub sized_before : AreSized kept
  pub size : gate ≡ length (front kept)
  pub long : gate < length file
  pub before : take gate file ≡ front kept
  pub rest : List ℕ
  pub behind : drop (gate + 1) file ≡ field p ++ 0 ∷ rest
  pub synced : (image : List ℕ) → images image → SameBut gate file image

-- the file is a journal of the payloads kept, or of those and one of these
abbrev pub IsKeptOrOneMore : List (List ℕ) → List (List ℕ) → List ℕ → Type 0
IsKeptOrOneMore kept tried file =
    IsJournal kept file ⊎ ((p : List ℕ) × IsAmong tried p × IsJournal (kept ++ p ∷ []) file)
