-- SPDX-License-Identifier: Apache-2.0 OR MIT
-- The table of seats: who is assigned to which paper, as what (the HotCRP manual's kinds of review), under which
-- label, and who has left.
use Rattle.std.specs.Prelude.{ℕ, Bool, true, false, not, ◌≡◌, ◌≤◌, ◌+◌, ◌==◌, ◌&&◌, nat_le, List, [], ◌∷◌, ◌++◌}
use Rattle.std.specs.Prelude.{length, map, filter, find, fold, Option, Some, None, IsFalse, if◌then◌else◌}
use Rattle.std.specs.List.{list_any}
use Rattle.std.specs.Option.{option_map}
use Rattle.cr_base.specs.declared.entry.Entry.{Entry}
use Rattle.cr_base.specs.declared.entry.Entry.TheVariants.{Assigned, Unassigned}
use Rattle.cr_base.specs.declared.entry.Stamped.{Stamped}
use Rattle.cr_base.specs.declared.pairs.Order.TheVariants.{ByPaper}
use Rattle.cr_base.specs.declared.pairs.Tie.{Tie}
use Rattle.cr_base.specs.declared.seat.Seat.{Seat}
use Rattle.cr_base.specs.declared.words.Kind.{Kind}
use Rattle.cr_base.specs.History.{History, SeatTold}
use Rattle.cr_base.specs.Lists.{is_number, numbers_from}
use Rattle.cr_base.specs.Pairs.{ties_of}
use Rattle.cr_base.specs.Ties.{pair_of}

-- ---- the state

-- papers and the users who were assigned to them: paper by paper, and those of a paper in the order of assignment, so
-- by label
abbrev pub SeatsState : Type 0
SeatsState = List (Tie Seat)

-- no assignments
abbrev pub no_seats : SeatsState
no_seats = []

-- a user who takes a seat at a paper
abbrev pub seat_tie : ℕ → ℕ → Kind → ℕ → Tie Seat
seat_tie paper user kind ordinal =
    record { pair = pair_of paper user; value = record { kind = kind; ordinal = ordinal; vacated = false } }

-- the seats with one more, after those of its paper and of papers with lower numbers
abbrev pub with_seat : Tie Seat → SeatsState → SeatsState
with_seat s seats =
    filter (λ (t : Tie Seat). nat_le t.pair.paper s.pair.paper) seats ++ s
    ∷ filter (λ (t : Tie Seat). not (nat_le t.pair.paper s.pair.paper)) seats

-- a seat that its user has left
abbrev pub vacated : Tie Seat → Tie Seat
vacated t = record { pair = t.pair; value = record { kind = t.value.kind; ordinal = t.value.ordinal; vacated = true } }

-- it is the seat of this ordinal at the paper
abbrev pub is_seat : ℕ → ℕ → Tie Seat → Bool
is_seat paper ordinal t = paper == t.pair.paper && ordinal == t.value.ordinal

-- the seats, with that of the user at the paper left
abbrev pub without_seat : ℕ → ℕ → SeatsState → SeatsState
without_seat paper ordinal seats = map (λ (t : Tie Seat). if is_seat paper ordinal t then vacated t else t) seats

-- the seats after one more entry
abbrev pub seats_after : SeatsState → Entry → SeatsState
seats_after seats (Assigned paper user kind ordinal) = with_seat (seat_tie paper user kind ordinal) seats
seats_after seats (Unassigned paper user ordinal) = without_seat paper ordinal seats
seats_after seats _ = seats

-- the seats after these entries
abbrev pub seats_from : SeatsState → History → SeatsState
seats_from seats entries = fold (λ (t : SeatsState) (e : Stamped). seats_after t e.entry) seats entries

-- ---- what is read

-- how many labels the paper's reviewers were given
abbrev pub labels_in : SeatsState → ℕ → ℕ
labels_in seats p = length (ties_of ByPaper p seats)

-- a seat as it is told
abbrev pub told_seat : Tie Seat → SeatTold
told_seat t = record { ordinal = t.value.ordinal; kind = Some t.value.kind; user = Some t.pair.user }

-- the users who were assigned to the paper, by label
abbrev pub seats_in : SeatsState → ℕ → List SeatTold
seats_in seats p = map told_seat (ties_of ByPaper p seats)

-- the paper's seats that aren't left, by label
abbrev pub seats_taken : SeatsState → ℕ → List (Tie Seat)
seats_taken seats p = filter (λ (t : Tie Seat). not t.value.vacated) (ties_of ByPaper p seats)

-- the paper's reviewers, by label
abbrev pub reviewers_in : SeatsState → ℕ → List SeatTold
reviewers_in seats p = map told_seat (seats_taken seats p)

-- the ordinal under which the user reviews the paper; `None` if they don't
abbrev pub ordinal_in : SeatsState → Option ℕ → ℕ → Option ℕ
ordinal_in seats u p =
    option_map (λ (t : Tie Seat). t.value.ordinal)
    (find (λ (t : Tie Seat). is_number u t.pair.user) (seats_taken seats p))

-- ---- which entry may come next

-- an entry fits: the ordinal drawn is the next one and a letter's, and the user assigned doesn't review the paper; the
-- user unassigned reviews it under this ordinal
abbrev pub SeatsFit : SeatsState → Entry → Type 0
SeatsFit seats (Assigned paper user kind ordinal) =
    (ordinal ≡ labels_in seats paper + 1) × (ordinal ≤ 26) × (ordinal_in seats (Some user) paper ≡ None)
SeatsFit seats (Unassigned paper user ordinal) = ordinal_in seats (Some user) paper ≡ Some ordinal
SeatsFit seats _ = Unit {0}

-- no two of these seats are one user's
abbrev pub AreOfDifferentUsers : List (Tie Seat) → Type 0
AreOfDifferentUsers [] = Unit {0}
AreOfDifferentUsers (t ∷ ts) =
    IsFalse (list_any (λ (s : Tie Seat). s.pair.user == t.pair.user) ts) × AreOfDifferentUsers ts

-- the seats come of entries that fit: each paper's labels are numbered from 1, and of its seats that aren't left no two
-- are one user's
pub record SeatsInOrder (seats : SeatsState) : Type 0 where
  pub numbered : (p : ℕ)
      → map (λ (t : Tie Seat). t.value.ordinal) (ties_of ByPaper p seats) ≡ numbers_from 1 (ties_of ByPaper p seats)
  pub single : (p : ℕ) → AreOfDifferentUsers (seats_taken seats p)

-- each of these entries fits in its turn
abbrev pub SeatsFitInTurn : SeatsState → History → Type 0
SeatsFitInTurn seats [] = Unit {0}
SeatsFitInTurn seats (e ∷ entries) = SeatsFit seats e.entry × SeatsFitInTurn (seats_after seats e.entry) entries
