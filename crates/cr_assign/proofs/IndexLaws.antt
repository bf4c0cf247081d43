-- SPDX-License-Identifier: Apache-2.0 OR MIT
-- The table with one seat more, and with one left: who reviews what, by user, and where the seat stands.
use Rattle.std.proofs.Common.{ℕ, Bool, true, false, cond, ◌≡◌, ◌≤◌, ◌<◌, ◌-◌, List, length, get_or, eqb, refl, sym, ap}
use Rattle.std.proofs.Common.{subst, ◌∙◌, ◌&&◌, arith, Option, Some, None}
use Rattle.std.proofs.lemmas.Bool.{eqb-true}
use Rattle.std.proofs.lemmas.List.Elements.{filter_passes}
use Rattle.cr_base.specs.declared.entry.Entry.{Entry}
use Rattle.cr_base.specs.declared.entry.Entry.TheVariants.{Assigned, Unassigned}
use Rattle.cr_base.specs.declared.filed.Filed.{Filed}
use Rattle.cr_base.specs.declared.pairs.Order.{Order}
use Rattle.cr_base.specs.declared.pairs.Order.TheVariants.{ByPaper}
use Rattle.cr_base.specs.declared.pairs.Pair.{Pair}
use Rattle.cr_base.specs.declared.pairs.Tie.{Tie}
use Rattle.cr_base.specs.declared.seat.Seat.{Seat}
use Rattle.cr_base.specs.declared.words.Kind.{Kind}
use Rattle.cr_base.specs.History.{ordinal_told}
use Rattle.cr_base.specs.Filed.{filed_of}
use Rattle.cr_base.specs.Lists.{given, last_or}
use Rattle.cr_base.specs.Pairs.{with_tie, without_pair, tie_value, ties_of}
use Rattle.cr_base.specs.Seats.{SeatsState, SeatsInOrder, SeatsFit, vacated, without_seat, seats_after, labels_in}
use Rattle.cr_base.specs.Seats.{ordinal_in}
use Rattle.cr_base.specs.Ties.{pair_of}
use Rattle.cr_base.proofs.PairLaws.{tie_value-with_tie, tie_value-without_pair}
use Rattle.cr_base.proofs.SeatLaws.{seats-in_order-after, ordinal_in-after, ordinal_in-drawn, labels_in-few}
use Rattle.cr_base.proofs.Small.{eqb-swap}
use Rattle.cr_kept.specs.Drawers.{with_changed}
use Rattle.cr_kept.specs.Own.{values_in, AreOwn}
use Rattle.cr_kept.proofs.OwnLaws.{own-of}
use Rattle.cr_assign.specs.Index.{SeatsIndexed}
use Rattle.cr_assign.proofs.LeftLaws.{paper_of, changed-left}

-- a paper, a user and the ordinal under which she reviews it
abbrev pub reviewing_tie : ℕ → ℕ → ℕ → Tie ℕ
reviewing_tie paper user ordinal = record { pair = pair_of paper user; value = ordinal }

module _ (seats : SeatsState) (users : Order) (reviewing : List (Tie ℕ))
    (is_index : SeatsIndexed seats users reviewing) where
  -- after an entry that fits, where the index has what it tells
  indexed-after : (e : Entry) (seats' : SeatsState) (users' : Order) (reviewing' : List (Tie ℕ)) → SeatsFit seats e
      → seats' ≡ seats_after seats e → users' ≡ users
      → ((q : Pair) → tie_value q reviewing' ≡ last_or (tie_value q reviewing) (ordinal_told (Some q.user) q.paper e))
      → SeatsIndexed seats' users' reviewing'
  indexed-after e seats' users' reviewing' fits is users_same told = record {
    in_order = subst SeatsInOrder (sym is) (seats-in_order-after seats e fits is_index.in_order);
    few =
        λ p. subst (λ (ts : SeatsState). labels_in ts p ≤ 26) (sym is) (labels_in-few seats e p fits (is_index.few p));
    by_user = users_same ∙ is_index.by_user;
    same = λ q.
        told q
        ∙ ap (λ (o : Option ℕ). last_or o (ordinal_told (Some q.user) q.paper e)) (is_index.same q)
        ∙ sym (ordinal_in-after seats e is_index.in_order fits (Some q.user) q.paper)
        ∙ ap (λ (ts : SeatsState). ordinal_in ts (Some q.user) q.paper) (sym is);
  }

  told-last : (b : Bool) (before now : Option ℕ) → cond b now before ≡ last_or before (given b now)
  told-last true before now = refl
  told-last false before now = refl

  pub indexed-assigned : (paper user : ℕ) (kind : Kind) (ordinal : ℕ) (seats' : SeatsState) (users' : Order)
      (reviewing' : List (Tie ℕ))
      → SeatsFit seats (Assigned paper user kind ordinal)
      → seats' ≡ seats_after seats (Assigned paper user kind ordinal)
      → users' ≡ users → reviewing' ≡ with_tie users (reviewing_tie paper user ordinal) reviewing
      → SeatsIndexed seats' users' reviewing'
  indexed-assigned paper user kind ordinal seats' users' reviewing' fits is users_same put =
      indexed-after (Assigned paper user kind ordinal) seats' users' reviewing' fits is users_same
      (λ q.
      ap (tie_value q) put
      ∙ tie_value-with_tie q users (reviewing_tie paper user ordinal) reviewing
      ∙ ap (λ b. cond (b && eqb q.user user) (Some ordinal) (tie_value q reviewing)) (eqb-swap q.paper paper)
      ∙ told-last (eqb paper q.paper && eqb q.user user) (tie_value q reviewing) (Some ordinal))

  pub indexed-unassigned : (paper user ordinal : ℕ) (seats' : SeatsState) (users' : Order) (reviewing' : List (Tie ℕ))
      → SeatsFit seats (Unassigned paper user ordinal) → seats' ≡ seats_after seats (Unassigned paper user ordinal)
      → users' ≡ users → reviewing' ≡ without_pair (pair_of paper user) reviewing
      → SeatsIndexed seats' users' reviewing'
  indexed-unassigned paper user ordinal seats' users' reviewing' fits is users_same taken =
      indexed-after (Unassigned paper user ordinal) seats' users' reviewing' fits is users_same
      (λ q.
      ap (tie_value q) taken
      ∙ tie_value-without_pair q (pair_of paper user) reviewing
      ∙ ap (λ b. cond (b && eqb q.user user) None (tie_value q reviewing)) (eqb-swap q.paper paper)
      ∙ told-last (eqb paper q.paper && eqb q.user user) (tie_value q reviewing) None)

-- ---- where the code marks a seat as left

module _ (files : List (Filed (Tie Seat))) (users : Order) (reviewing : List (Tie ℕ))
    (is_index : SeatsIndexed (values_in files) users reviewing)
    (own : AreOwn paper_of files) (paper user ordinal index : ℕ)
    (fits : SeatsFit (values_in files) (Unassigned paper user ordinal)) (at : index ≡ ordinal - 1) where
  abbrev pub seats : SeatsState
  seats = values_in files

  drawn : (1 ≤ ordinal) × (ordinal ≤ labels_in seats paper)
  drawn = ordinal_in-drawn seats is_index.in_order (Some user) paper ordinal fits

  low : 1 ≤ ordinal
  low = drawn.0

  -- it stands among the paper's by its ordinal
  held : index < length (ties_of ByPaper paper seats)
  held = let high = drawn.1 in omega (arith, low, high, at)

  pub is-held : index < length (filed_of paper files)
  is-held = subst (λ (ts : SeatsState). index < length ts) (sym (own-of paper_of paper files own)) held

  pub marked : (read : SeatsState) (s d : Tie Seat) → read ≡ filed_of paper files → s ≡ vacated (get_or read index d)
      → values_in (with_changed paper index s files) ≡ without_seat paper ordinal seats
  marked read s d same is =
      changed-left paper ordinal 1 index s d files own (is_index.in_order.numbered paper) (omega (arith, low, at)) held
      (is ∙ ap (λ (ts : SeatsState). vacated (get_or ts index d)) (same ∙ own-of paper_of paper files own))

  pub its-paper : (read : SeatsState) (s d : Tie Seat) → read ≡ filed_of paper files → s ≡ vacated (get_or read index d)
      → paper ≡ paper_of s
  its-paper read s d same is =
      let found = get_or (ties_of ByPaper paper seats) index d in
      eqb-true paper found.pair.paper (filter_passes (λ (t : Tie Seat). eqb paper t.pair.paper) seats index d held)
      ∙ ap (λ (ts : SeatsState). (get_or ts index d).pair.paper) (sym (same ∙ own-of paper_of paper files own))
      ∙ sym (ap (λ (t : Tie Seat). t.pair.paper) is)
