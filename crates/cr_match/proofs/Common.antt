-- SPDX-License-Identifier: Apache-2.0 OR MIT
-- What most proofs of this crate cite: words of std and of the specs.
pub use Rattle.std.proofs.Common.{All, Bool, Global, IfNone, List, None, Option, Some, Vec, [], ap, arith, cond}
pub use Rattle.std.proofs.Common.{count_by, drop, eq-eqb, eqb, eqb-true, false, get_or, get_or-set_other}
pub use Rattle.std.proofs.Common.{get_or-set_same, inl, inr, is_some, length, length-set, ltb, map, min, negsuc, pos}
pub use Rattle.std.proofs.Common.{refl, replicate, set, subst, suc, sum, sum_by, sym, take, true, w64, zero, ℕ, ℤ, ◌%◌}
pub use Rattle.std.proofs.Common.{◌&&◌, ◌*ℤ◌, ◌*◌, ◌++◌, ◌+ℤ◌, ◌+◌, ◌-ℤ◌, ◌-◌, ◌/◌, ◌<◌, ◌==◌, ◌^◌, ◌||◌, ◌↔◌, ◌∙◌, ◌∷◌}
pub use Rattle.std.proofs.Common.{◌≡◌, ◌≢◌, ◌≤ℤ◌, ◌≤◌, ◌⊎◌}
pub use Rattle.std.proofs.Math.Nat.{mul-le-mul_left, mul-le-mul_right}
pub use Rattle.std.proofs.lemmas.Bool.{cases_eq, cases_lt}
pub use Rattle.std.proofs.lemmas.Bool.Decides.{nat_tests}
pub use Rattle.std.proofs.lemmas.Int.{ints}
pub use Rattle.std.proofs.lemmas.List.{get_or-replicate, get_or_default, get_or_past, length-replicate}
pub use Rattle.std.proofs.lemmas.List.Sums.{sum_by-append, sum_by-cons}
pub use Rattle.std.proofs.lemmas.Nat.{mul-add-lt, same_from_place}
pub use Rattle.std.proofs.lemmas.Nat.Bits.{bit_at-lt, bit_at-zero, bit_at_set_other, bit_at_set_same, shr_and_one}
pub use Rattle.std.specs.Int.{bit_at, bit_not}
pub use Rattle.std.specs.Prelude.{bit_and, bit_or}
pub use Rattle.std.proofs.lemmas.List.Elements.{All-cons, All-from_get_or, All-get_or, All-head, All-nil, All-tail}
pub use Rattle.cr_match.specs.Answer.{AreDistinct, AreInside, HasNoPlan, IsApart, IsAscending, IsProblem}
pub use Rattle.cr_match.specs.Board.{AreSmall, IsBoard, IsTight, Suits, far, low, price_of, worth}
pub use Rattle.cr_match.specs.Draft.{Fits, Holds, IsCounted, IsDraft, IsFree, Turns, at, cell}
pub use Rattle.cr_match.specs.Plan.{DistinctBelow, IsPlan, IsTooMuch, MembersBelow, above, among, bound, excess, joins}
pub use Rattle.cr_match.specs.Plan.{kept, of_member, of_paper, sum_z, total_below, total_weight}
pub use Rattle.cr_match.specs.Raise.{Clears, IsBegun, IsFitting, IsGap, IsStuck, Meets, placed}
pub use Rattle.cr_match.specs.Rows.{Covers, Has, OthersStay, RowHas, gone}
pub use Rattle.cr_match.specs.Search.{AreMoves, AreSteps, Drops, Goes, GoesOn, IsDone, IsExpanded, IsLong, IsReached}
pub use Rattle.cr_match.specs.Search.{IsRoomy, IsSearched, IsSized, IsSpread, NoneDrops, Takes, step_of}
pub use Rattle.cr_match.specs.Settle.{IsBest, IsBoardFor, IsBoardOf, IsSettling, IsTurned, NoneBefore, SameTo, chosen}
pub use Rattle.cr_match.specs.Settle.{is_held, lifted, nth, zero_pair}
pub use Rattle.cr_match.specs.Tell.{lowered}
pub use Rattle.cr_match.specs.Tight.{AreTold}
pub use Rattle.cr_match.specs.declared.board.Board.{Board}
pub use Rattle.cr_match.specs.declared.board.Levels.{Levels}
pub use Rattle.cr_match.specs.declared.draft.Choice.{Choice}
pub use Rattle.cr_match.specs.declared.draft.Draft.{Draft}
pub use Rattle.cr_match.specs.declared.moves.Moves.{Moves}
pub use Rattle.cr_match.specs.declared.problem.Pair.{Pair}
pub use Rattle.cr_match.specs.declared.problem.Problem.{Problem}
pub use Rattle.cr_match.specs.declared.trail.Path.{Path}
pub use Rattle.cr_match.specs.declared.trail.Step.{Step}
pub use Rattle.cr_match.specs.declared.trail.Trail.{Trail}
