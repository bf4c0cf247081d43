-- SPDX-License-Identifier: Apache-2.0 OR MIT
-- Where each entry fits in its turn, what a history tells of a paper's reviewers is what the table of seats has.
use Rattle.std.proofs.Common.{ℕ, Bool, true, false, cond, ◌≡◌, ◌≤◌, ◌+◌, List, [], ◌∷◌, ◌++◌, length, eqb, refl, sym}
use Rattle.std.proofs.Common.{ap, subst, ◌∙◌, ◌&&◌, ◌||◌, arith, append_assoc, append-nil, Option, Some}
use Rattle.std.specs.Prelude.{nat_le, not, map, filter}
use Rattle.std.specs.List.{AllByRecursion, list_any}
use Rattle.std.proofs.lemmas.Bool.{eqb-true, ne_eqb}
use Rattle.std.proofs.lemmas.List.{length-map, map-append}
use Rattle.std.proofs.lemmas.List.Folds.{list_any-append}
use Rattle.cr_base.specs.declared.entry.Entry.{Entry}
use Rattle.cr_base.specs.declared.entry.Entry.TheVariants.{Assigned, Unassigned}
use Rattle.cr_base.specs.declared.entry.Stamped.{Stamped}
use Rattle.cr_base.specs.declared.pairs.Order.TheVariants.{ByPaper}
use Rattle.cr_base.specs.declared.pairs.Tie.{Tie}
use Rattle.cr_base.specs.declared.seat.Seat.{Seat}
use Rattle.cr_base.specs.Lists.{given, last_or}
use Rattle.cr_base.specs.History.{History, SeatTold, all_told, ordinal_told, assigned_told, unassigned_told}
use Rattle.cr_base.specs.HistoryFacts.{ordinal_of, seats_of, reviewers_of}
use Rattle.cr_base.specs.Pairs.{ties_of}
use Rattle.cr_base.specs.Seats.{SeatsState, seat_tie, vacated, is_seat, without_seat, seats_after}
use Rattle.cr_base.specs.Seats.{labels_in, told_seat, seats_in, reviewers_in, ordinal_in, SeatsFit, SeatsInOrder}
use Rattle.cr_base.specs.Shapes.{InRange, ordinal_range}
use Rattle.cr_base.specs.Tables.{Tables, no_tables, tables_after, tables_from, tables_of, FitInTurn}
use Rattle.cr_base.proofs.SeatLaws.{left_at, ties_of-with_seat, ties_of-without_seat, labels_in-after, ordinal_in-after}
use Rattle.cr_base.proofs.SeatLaws.{seats-in_order-after, seats-in_order-nil, ordinal_in-drawn, labels_in-few}
use Rattle.cr_base.proofs.Small.{eqb-swap}
use Rattle.cr_history.proofs.Folds.{last_or-append, told-always, told-kept}
use Rattle.cr_history.proofs.ListCuts.{AllByRecursion-append, AllByRecursion-map, AllByRecursion-filter}

-- ---- the seats

-- a seat is told as it was, whether or not it was left
told-left : (paper ordinal : ℕ) (ts : SeatsState) → map told_seat (without_seat paper ordinal ts) ≡ map told_seat ts
told-left paper ordinal [] = refl
told-left paper ordinal (t ∷ ts) =
    by (is_seat paper ordinal t) ∙ ap (λ us. told_seat t ∷ us) (told-left paper ordinal ts)
  where
    by : (b : Bool) → told_seat (cond b (vacated t) t) ∷ map told_seat (without_seat paper ordinal ts) ≡ told_seat t
        ∷ map told_seat (without_seat paper ordinal ts)
    by true = refl
    by false = refl

seats-entry : (p : ℕ) (seats : SeatsState) (e : Entry)
    → map told_seat (ties_of ByPaper p seats) ++ assigned_told p e
    ≡ map told_seat (ties_of ByPaper p (seats_after seats e))
seats-entry p seats (Assigned paper user kind ordinal) =
    let s : Tie Seat = seat_tie paper user kind ordinal in
    let before : List SeatTold = map told_seat (ties_of ByPaper p seats) in
    ap (λ b. before ++ given b (told_seat s)) (eqb-swap paper p)
    ∙ ap (λ us. before ++ us) (by (eqb p paper) s)
    ∙ sym (ap (map told_seat) (ties_of-with_seat p s seats) ∙ map-append told_seat (ties_of ByPaper p seats)
    (given (eqb p paper) s))
  where
    by : (b : Bool) (s : Tie Seat) → given b (told_seat s) ≡ map told_seat (given b s)
    by true s = refl
    by false s = refl
seats-entry p seats (Unassigned paper user ordinal) =
    append-nil (map told_seat (ties_of ByPaper p seats))
    ∙ sym (ap (map told_seat) (ties_of-without_seat p paper ordinal seats) ∙ told-left paper ordinal
    (ties_of ByPaper p seats))
seats-entry p seats e = append-nil (map told_seat (ties_of ByPaper p seats))

-- whoever was assigned to a paper has a seat there, in the same order
pub seats_of-tables : (p : ℕ) (H : History) → seats_of p H ≡ seats_in (tables_of H).seats p
seats_of-tables p H =
    told-always ◌++◌ append-nil (λ (t : Tables). map told_seat (ties_of ByPaper p t.seats))
    (λ (s : Stamped). assigned_told p s.entry)
    (λ t s rest.
    sym (append_assoc (map told_seat (ties_of ByPaper p t.seats)) (assigned_told p s.entry) rest)
    ∙ ap (λ us. us ++ rest) (seats-entry p t.seats s.entry)) no_tables H

-- so as many labels were given
pub labels-tables : (p : ℕ) (H : History) → length (seats_of p H) ≡ labels_in (tables_of H).seats p
labels-tables p H = ap length (seats_of-tables p H) ∙ length-map (ties_of ByPaper p (tables_of H).seats) told_seat

-- ---- seats in order

pub in_order-tables : (H : History) → FitInTurn no_tables H → SeatsInOrder (tables_of H).seats
in_order-tables H fits = from no_tables H fits seats-in_order-nil
  where
    from : (t : Tables) (H : History) → FitInTurn t H → SeatsInOrder t.seats → SeatsInOrder (tables_from t H).seats
    from t [] fits order = order
    from t (s ∷ H) fits order =
        from (tables_after t s) H fits.1 (seats-in_order-after t.seats s.entry fits.0.seats order)

-- under which ordinal a user reviews a paper is what her seat there says
pub ordinal_of-tables : (u : Option ℕ) (p : ℕ) (H : History) → FitInTurn no_tables H
    → ordinal_of u p H ≡ ordinal_in (tables_of H).seats u p
ordinal_of-tables u p H fits =
    told-kept last_or (λ _. refl) (λ (t : Tables). ordinal_in t.seats u p) (λ (s : Stamped). ordinal_told u p s.entry)
    (λ (t : Tables). SeatsInOrder t.seats)
    (λ t s fit order. seats-in_order-after t.seats s.entry fit.seats order)
    (λ t s fit order rest.
    last_or-append (ordinal_in t.seats u p) (ordinal_told u p s.entry) rest
    ∙ ap (λ o. last_or o rest) (sym (ordinal_in-after t.seats s.entry order fit.seats u p)))
    no_tables H fits seats-in_order-nil

-- ---- ordinals

-- no paper's reviewers are given more labels than there are letters
labels-few : (p : ℕ) (t : Tables) (H : History) → FitInTurn t H → labels_in t.seats p ≤ 26
    → labels_in (tables_from t H).seats p ≤ 26
labels-few p t [] fits few = few
labels-few p t (s ∷ H) fits few =
    labels-few p (tables_after t s) H fits.1 (labels_in-few t.seats s.entry p fits.0.seats few)

-- the ordinal under which a user reviews a paper is a letter's
pub seat-drawn : (H : History) → FitInTurn no_tables H → (user paper ordinal : ℕ)
    → ordinal_in (tables_of H).seats (Some user) paper ≡ Some ordinal
    → InRange ordinal_range ordinal
seat-drawn H fits user paper ordinal is =
    let drawn = ordinal_in-drawn (tables_of H).seats (in_order-tables H fits) (Some user) paper ordinal is in
    let high = drawn.1 in
    let few = labels-few paper no_tables H fits (omega arith) in
    (drawn.0, omega (arith, high, few))

-- ---- seats that were left

-- a seat is marked as left exactly where its ordinal is among those that are gone at its paper
abbrev IsMarkedBy : (ℕ → List ℕ) → Tie Seat → Type 0
IsMarkedBy gone t = t.value.vacated ≡ list_any (λ o. eqb o t.value.ordinal) (gone t.pair.paper)

-- all seats are, and what is gone was drawn
record AreMarked (gone : ℕ → List ℕ) (seats : SeatsState) : Type 0 where
  marks : AllByRecursion (IsMarkedBy gone) seats
  drawn : (p : ℕ) → AllByRecursion (λ o. o ≤ labels_in seats p) (gone p)

-- what was drawn stays so as more labels are given
drawn-more : (n m : ℕ) (os : List ℕ) → n ≤ m → AllByRecursion (λ o. o ≤ n) os → AllByRecursion (λ o. o ≤ m) os
drawn-more n m os more all = AllByRecursion-map (λ o. o ≤ n) (λ o. o ≤ m) (λ o h. omega (arith, h, more)) os all

-- the next ordinal isn't gone
next-new : (n ordinal : ℕ) (os : List ℕ) → ordinal ≡ n + 1 → AllByRecursion (λ o. o ≤ n) os
    → list_any (λ o. eqb o ordinal) os ≡ false
next-new n ordinal [] next all = refl
next-new n ordinal (o ∷ os) next all =
    let low = all.0 in
    ap (λ b. b || list_any (λ o. eqb o ordinal) os) (ne_eqb o ordinal (λ e. omega (arith, e, low, next)))
    ∙ next-new n ordinal os next all.1

-- where one more is gone, its seat is marked, and every other as it was
one-left : (gone : ℕ → List ℕ) (paper ordinal : ℕ) (t : Tie Seat) → IsMarkedBy gone t
    → IsMarkedBy (λ p. gone p ++ given (eqb paper p) ordinal) (left_at paper ordinal t)
one-left gone paper ordinal t mark = by (is_seat paper ordinal t) refl
  where
    was : Bool
    was = list_any (λ o. eqb o t.value.ordinal) (gone t.pair.paper)

    among : list_any (λ o. eqb o t.value.ordinal) (gone t.pair.paper ++ given (eqb paper t.pair.paper) ordinal)
        ≡ (was || is_seat paper ordinal t)
    among =
        list_any-append (λ o. eqb o t.value.ordinal) (gone t.pair.paper) (given (eqb paper t.pair.paper) ordinal)
        ∙ ap (λ b. was || b) (one (eqb paper t.pair.paper) (eqb ordinal t.value.ordinal) refl)
      where
        one : (b same : Bool) → eqb ordinal t.value.ordinal ≡ same
            → list_any (λ o. eqb o t.value.ordinal) (given b ordinal) ≡ (b && same)
        one true true is = ap (λ b. b || false) is
        one true false is = ap (λ b. b || false) is
        one false same is = refl

    or_true : (b : Bool) → true ≡ (b || true)
    or_true true = refl
    or_true false = refl

    or_false : (b : Bool) → b ≡ (b || false)
    or_false true = refl
    or_false false = refl

    by : (b : Bool) → is_seat paper ordinal t ≡ b
        → IsMarkedBy (λ p. gone p ++ given (eqb paper p) ordinal) (cond b (vacated t) t)
    by true is = or_true was ∙ sym (among ∙ ap (λ b. was || b) is)
    by false is = mark ∙ or_false was ∙ sym (among ∙ ap (λ b. was || b) is)

all-left : (gone : ℕ → List ℕ) (paper ordinal : ℕ) (ts : SeatsState) → AllByRecursion (IsMarkedBy gone) ts
    → AllByRecursion (IsMarkedBy (λ p. gone p ++ given (eqb paper p) ordinal)) (without_seat paper ordinal ts)
all-left gone paper ordinal [] all = tt
all-left gone paper ordinal (t ∷ ts) all = (one-left gone paper ordinal t all.0, all-left gone paper ordinal ts all.1)

marked-entry : (gone : ℕ → List ℕ) (seats : SeatsState) (e : Entry) → SeatsFit seats e → SeatsInOrder seats
    → AreMarked gone seats
    → AreMarked (λ p. gone p ++ unassigned_told p e) (seats_after seats e)
marked-entry gone seats (Assigned paper user kind ordinal) fits order marked =
    subst (λ (gone : ℕ → List ℕ). AreMarked gone (seats_after seats (Assigned paper user kind ordinal)))
    (λ i p. sym (append-nil (gone p)) i)
    (record {
      marks =
          AllByRecursion-append (IsMarkedBy gone) (filter upto seats) (s ∷ filter behind seats)
          (AllByRecursion-filter (IsMarkedBy gone) upto seats marked.marks) (
            sym (next-new (labels_in seats paper) ordinal (gone paper) fits.0 (marked.drawn paper)),
            AllByRecursion-filter (IsMarkedBy gone) behind seats marked.marks,
          );
      drawn = λ p.
          let count = labels_in-after seats (Assigned paper user kind ordinal) p in
          drawn-more (labels_in seats p) (labels_in (seats_after seats (Assigned paper user kind ordinal)) p) (gone p)
          (omega (arith, count)) (marked.drawn p);
    })
  where
    s : Tie Seat
    s = seat_tie paper user kind ordinal

    upto : Tie Seat → Bool
    upto t = nat_le t.pair.paper paper

    behind : Tie Seat → Bool
    behind t = not (nat_le t.pair.paper paper)
marked-entry gone seats (Unassigned paper user ordinal) fits order marked = record {
  marks = all-left gone paper ordinal seats marked.marks;
  drawn = λ p.
      let now : ℕ = labels_in (seats_after seats (Unassigned paper user ordinal)) p in
      let count = labels_in-after seats (Unassigned paper user ordinal) p in
      AllByRecursion-append (λ o. o ≤ now) (gone p) (given (eqb paper p) ordinal)
      (drawn-more (labels_in seats p) now (gone p) (omega (arith, count)) (marked.drawn p))
      (by p now (omega (arith, count)) (eqb paper p) refl);
}
  where
    by : (p now : ℕ) → labels_in seats p ≤ now → (b : Bool) → eqb paper p ≡ b
        → AllByRecursion (λ o. o ≤ now) (given b ordinal)
    by p now more true at =
        let there = ordinal_in-drawn seats order (Some user) paper ordinal fits in
        let drawn : ordinal ≤ labels_in seats p =
        subst (λ n. ordinal ≤ labels_in seats n) (eqb-true paper p at) there.1 in
        (omega (arith, drawn, more), tt)
    by p now more false at = tt
marked-entry gone seats e fits order marked =
    subst (λ (gone : ℕ → List ℕ). AreMarked gone seats) (λ i p. sym (append-nil (gone p)) i) marked

marked-from : (gone : ℕ → List ℕ) (t : Tables) (H : History) → FitInTurn t H → SeatsInOrder t.seats
    → AreMarked gone t.seats
    → AreMarked (λ p. gone p ++ all_told (unassigned_told p) H) (tables_from t H).seats
marked-from gone t [] fits order marked =
    subst (λ (gone : ℕ → List ℕ). AreMarked gone t.seats) (λ i p. sym (append-nil (gone p)) i) marked
marked-from gone t (s ∷ H) fits order marked =
    subst (λ (gone : ℕ → List ℕ). AreMarked gone (tables_from t (s ∷ H)).seats)
    (λ i p. append_assoc (gone p) (unassigned_told p s.entry) (all_told (unassigned_told p) H) i)
    (marked-from (λ p. gone p ++ unassigned_told p s.entry) (tables_after t s) H fits.1
    (seats-in_order-after t.seats s.entry fits.0.seats order)
    (marked-entry gone t.seats s.entry fits.0.seats order marked))

-- ---- reviewers

-- of seats that are marked so, those that nobody has left are the ones whose ordinal isn't gone
left-seats : (gone : ℕ → List ℕ) (p : ℕ) (ts : SeatsState) → AllByRecursion (IsMarkedBy gone) ts
    → filter (λ (seat : SeatTold). not (list_any (λ o. eqb o seat.ordinal) (gone p)))
    (map told_seat (ties_of ByPaper p ts)) ≡ reviewers_in ts p
left-seats gone p [] marks = refl
left-seats gone p (t ∷ ts) marks = by (eqb p t.pair.paper) refl (left-seats gone p ts marks.1)
  where
    among : SeatTold → Bool
    among seat = list_any (λ o. eqb o seat.ordinal) (gone p)

    stays : Tie Seat → Bool
    stays t = not t.value.vacated

    ours : List (Tie Seat)
    ours = ties_of ByPaper p ts

    told : List SeatTold
    told = filter (λ (seat : SeatTold). not (among seat)) (map told_seat ours)

    one : (gone left : Bool) → left ≡ gone → told ≡ map told_seat (filter stays ours)
        → cond (not gone) (told_seat t ∷ told) told
        ≡ map told_seat (cond (not left) (t ∷ filter stays ours) (filter stays ours))
    one gone true is rest = ap (λ b. cond (not b) (told_seat t ∷ told) told) (sym is) ∙ rest
    one gone false is rest =
        ap (λ b. cond (not b) (told_seat t ∷ told) told) (sym is) ∙ ap (λ us. told_seat t ∷ us) rest

    by : (b : Bool) → eqb p t.pair.paper ≡ b → told ≡ map told_seat (filter stays ours)
        → filter (λ (seat : SeatTold). not (among seat)) (map told_seat (cond b (t ∷ ours) ours))
        ≡ map told_seat (filter stays (cond b (t ∷ ours) ours))
    by true at rest =
        one (among (told_seat t)) t.value.vacated
        (marks.0 ∙ ap (λ q. list_any (λ o. eqb o t.value.ordinal) (gone q)) (sym (eqb-true p t.pair.paper at))) rest
    by false at rest = rest

-- a paper's reviewers are those who have a seat there that they haven't left
pub reviewers_of-tables : (p : ℕ) (H : History) → FitInTurn no_tables H
    → reviewers_of p H ≡ reviewers_in (tables_of H).seats p
reviewers_of-tables p H fits =
    let gone : ℕ → List ℕ = λ p. all_told (unassigned_told p) H in
    let marked = marked-from (λ p. []) no_tables H fits seats-in_order-nil (record { marks = tt; drawn = λ p. tt }) in
    ap (filter (λ (seat : SeatTold). not (list_any (λ o. eqb o seat.ordinal) (gone p)))) (seats_of-tables p H)
    ∙ left-seats gone p (tables_of H).seats marked.marks
