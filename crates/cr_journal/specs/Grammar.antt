-- SPDX-License-Identifier: Apache-2.0 OR MIT
-- The file of a journal, from its first byte to its last.
use Rattle.std.specs.Prelude.{◌≡◌, ◌≢◌, ℕ, ◌<◌, ◌^◌, List, [], ◌∷◌, ◌++◌, length, map}
use Rattle.std.specs.List.{AllByRecursion, flat_map}
use Rattle.std.specs.Int.{w64, to_be_bytes}
use Rattle.cr_base.specs.declared.row.Row.{Row}

-- A journal begins with these 8 bytes: CONFDJ01.
abbrev pub magic : List ℕ
magic = 67 ∷ 79 ∷ 78 ∷ 70 ∷ 68 ∷ 74 ∷ 48 ∷ 49 ∷ []

-- A number, and a length, has 8 bytes, the most significant first.
unfoldable pub number : ℕ → List ℕ
number n = to_be_bytes w64 n

-- Bytes follow their length.
abbrev pub field : List ℕ → List ℕ
field bytes = number (length bytes) ++ bytes

-- the numbers of a row, in their order
abbrev pub numbers_of : Row → List ℕ
numbers_of r = r.kind ∷ r.maker ∷ r.more ∷ r.at ∷ r.num ∷ r.n1 ∷ r.n2 ∷ r.n3 ∷ r.n4 ∷ r.n5 ∷ []

-- A row is these ten numbers, then its mark and its two texts.
abbrev pub row_text : Row → List ℕ
row_text r = flat_map number (numbers_of r) ++ (field r.mark ++ (field r.b1 ++ field r.b2))

-- A payload is the rows of a group, one after the other.
abbrev pub payload : List Row → List ℕ
payload group = flat_map row_text group

-- A gate that is 1 is open: after it come the length of a payload, the payload, and the next gate.
abbrev pub frames : List (List ℕ) → List ℕ
frames [] = []
frames (p ∷ payloads) = (1 ∷ field p) ++ frames payloads

-- all that comes before the closed gate
abbrev pub front : List (List ℕ) → List ℕ
front payloads = magic ++ frames payloads

-- the lengths of the payloads have 8 bytes
abbrev pub AreSized : List (List ℕ) → Type 0
AreSized payloads = AllByRecursion (λ p. length p < 2 ^ 64) payloads

-- From some place on the file is the open gates of these payloads and then a closed gate, one that isn't 1, which
-- ends it, whatever follows.
pub record IsTail (payloads : List (List ℕ)) (bytes : List ℕ) : Type 0 where
  pub gate : ℕ
  pub rest : List ℕ
  pub sized : AreSized payloads
  pub shut : gate ≢ 1
  pub is : bytes ≡ frames payloads ++ gate ∷ rest

-- the file is a journal of these payloads
pub record IsJournal (payloads : List (List ℕ)) (file : List ℕ) : Type 0 where
  pub gate : ℕ
  pub rest : List ℕ
  pub sized : AreSized payloads
  pub shut : gate ≢ 1
  pub is : file ≡ front payloads ++ gate ∷ rest

-- each of these numbers fits 8 bytes
abbrev pub AreNumbers : List ℕ → Type 0
AreNumbers numbers = AllByRecursion (λ n. n < 2 ^ 64) numbers

-- the numbers of a row, and the lengths of its texts, have 8 bytes
pub record FitsRow (r : Row) : Type 0 where
  pub numbers : AreNumbers (numbers_of r)
  pub mark : length r.mark < 2 ^ 64
  pub b1 : length r.b1 < 2 ^ 64
  pub b2 : length r.b2 < 2 ^ 64

-- each row of the group can be written
abbrev pub FitsGroup : List Row → Type 0
FitsGroup group = AllByRecursion FitsRow group

-- each row of each group can be written
abbrev pub FitGroups : List (List Row) → Type 0
FitGroups groups = AllByRecursion FitsGroup groups

-- the file is a journal of these groups
pub record IsJournalOf (groups : List (List Row)) (file : List ℕ) : Type 0 where
  pub fit : FitGroups groups
  pub journal : IsJournal (map payload groups) file

-- a journal of no groups
abbrev pub empty_journal : List ℕ
empty_journal = magic ++ 0 ∷ []
