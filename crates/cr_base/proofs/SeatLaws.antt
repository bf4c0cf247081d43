-- SPDX-License-Identifier: Apache-2.0 OR MIT
-- The seats of papers, after one more entry.
use Rattle.std.proofs.Common.{ℕ, Bool, true, false, cond, ◌≡◌, ◌≤◌, ◌+◌, List, [], ◌∷◌, ◌++◌, length, length-append}
use Rattle.std.proofs.Common.{eqb, refl, sym, ap, subst, ◌∙◌, arith, ◌&&◌, ◌||◌, Option, Some, None}
use Rattle.std.specs.Prelude.{◌==◌, nat_le, nat_lt, not, map, filter, find}
use Rattle.std.specs.Cmp.Derive.{both_true}
use Rattle.std.specs.List.{list_all, list_any}
use Rattle.std.specs.Option.{option_map, option_or}
use Rattle.std.proofs.lemmas.Bool.{and_parts, or_parts, or_right, eqb-true, eq-eqb, true≢false}
use Rattle.std.proofs.lemmas.Bool.Decides.{nat_tests}
use Rattle.std.proofs.lemmas.List.{append-nil, length-map, map-append}
use Rattle.std.proofs.lemmas.List.Elements.{filter-append}
use Rattle.std.proofs.lemmas.List.Folds.{find-append}
use Rattle.cr_base.specs.declared.entry.Entry.{Entry}
use Rattle.cr_base.specs.declared.entry.Entry.TheVariants.{Assigned, Unassigned}
use Rattle.cr_base.specs.declared.pairs.Order.TheVariants.{ByPaper}
use Rattle.cr_base.specs.declared.pairs.Pair.{Pair}
use Rattle.cr_base.specs.declared.pairs.Tie.{Tie}
use Rattle.cr_base.specs.declared.seat.Seat.{Seat}
use Rattle.cr_base.specs.declared.words.Kind.{Kind}
use Rattle.cr_base.specs.History.{SeatTold, ordinal_told, assigned_told}
use Rattle.cr_base.specs.Lists.{given, is_number, last_or, numbers_from, IsRising}
use Rattle.cr_base.specs.Pairs.{ties_of}
use Rattle.cr_base.specs.Papers.{PapersState, papers_after, paper_count, PapersFit}
use Rattle.cr_base.specs.Seats.{SeatsState, seat_tie, with_seat, vacated, is_seat, without_seat, seats_after, labels_in}
use Rattle.cr_base.specs.Seats.{seats_taken, ordinal_in, SeatsFit, AreOfDifferentUsers, SeatsInOrder}
use Rattle.cr_base.specs.Ties.{are_within}
use Rattle.cr_base.proofs.FiledLaws.{of-inserted}
use Rattle.cr_base.proofs.ListLaws.{number-is, numbers_from-push}
use Rattle.cr_base.proofs.RisingLists.{rising-numbers_from}
use Rattle.cr_base.proofs.SortedLists.{list_all-filter, list_all-append}
use Rattle.cr_base.proofs.TargetLaws.{paper_within}
use Rattle.cr_base.proofs.TieLaws.{within-kept, in_range}
use Rattle.cr_base.proofs.Small.{nat_lt-eqb, eqb-swap}

-- ---- which papers have seats

within-with_seat : (n : ℕ) (s : Tie Seat) (ts : SeatsState) → 1 ≤ s.pair.paper → s.pair.paper ≤ n
    → are_within n ts ≡ true → are_within n (with_seat s ts)
    ≡ true
within-with_seat n s ts low high all =
    let upto : Tie Seat → Bool = λ t. nat_le t.pair.paper s.pair.paper in
    let behind : Tie Seat → Bool = λ t. not (nat_le t.pair.paper s.pair.paper) in
    let within : Tie Seat → Bool = λ t. nat_le 1 t.pair.paper && nat_le t.pair.paper n in
    list_all-append within (filter upto ts) (s ∷ filter behind ts) (list_all-filter within upto ts all)
    (both_true (in_range n s.pair.paper low high) (list_all-filter within behind ts all))

within-without_seat : (n paper ordinal : ℕ) (ts : SeatsState) → are_within n ts ≡ true
    → are_within n (without_seat paper ordinal ts) ≡ true
within-without_seat n paper ordinal [] all = refl
within-without_seat n paper ordinal (t ∷ ts) all =
    let parts = and_parts (nat_le 1 t.pair.paper && nat_le t.pair.paper n) (are_within n ts) all in
    by (is_seat paper ordinal t) parts.0 (within-without_seat n paper ordinal ts parts.1)
  where
    by : (b : Bool) → (nat_le 1 t.pair.paper && nat_le t.pair.paper n) ≡ true
        → are_within n (without_seat paper ordinal ts) ≡ true
        → are_within n (cond b (vacated t) t ∷ without_seat paper ordinal ts) ≡ true
    by true first rest = both_true first rest
    by false first rest = both_true first rest

-- where each entry fits, the papers that have seats are there
pub seats-within : (state : PapersState) (seats : SeatsState) (maker : ℕ) (e : Entry) → PapersFit state maker e
    → are_within (paper_count state) seats
    ≡ true → are_within (paper_count (papers_after state maker e)) (seats_after seats e) ≡ true
seats-within state seats maker (Assigned paper user kind ordinal) fits within =
    within-with_seat (paper_count state) (seat_tie paper user kind ordinal) seats fits.0 fits.1 within
seats-within state seats maker (Unassigned paper user ordinal) fits within =
    within-without_seat (paper_count state) paper ordinal seats within
seats-within state seats maker e fits within = within-kept state seats maker e within

-- ---- the seats of one paper

-- with one seat more, it comes last among those of its paper
pub ties_of-with_seat : (p : ℕ) (s : Tie Seat) (ts : SeatsState)
    → ties_of ByPaper p (with_seat s ts) ≡ ties_of ByPaper p ts ++ given (eqb p s.pair.paper) s
ties_of-with_seat p s ts = of-inserted (λ (t : Tie Seat). t.pair.paper) p s ts

-- a seat as it stands where that one is left
abbrev pub left_at : ℕ → ℕ → Tie Seat → Tie Seat
left_at paper ordinal t = cond (is_seat paper ordinal t) (vacated t) t

left-pair : (paper ordinal : ℕ) (t : Tie Seat) → (left_at paper ordinal t).pair ≡ t.pair
left-pair paper ordinal t = by (is_seat paper ordinal t)
  where
    by : (b : Bool) → (cond b (vacated t) t).pair ≡ t.pair
    by true = refl
    by false = refl

left-ordinal : (paper ordinal : ℕ) (t : Tie Seat) → (left_at paper ordinal t).value.ordinal ≡ t.value.ordinal
left-ordinal paper ordinal t = by (is_seat paper ordinal t)
  where
    by : (b : Bool) → (cond b (vacated t) t).value.ordinal ≡ t.value.ordinal
    by true = refl
    by false = refl

-- where one is left, it stays in its place
pub ties_of-without_seat : (p paper ordinal : ℕ) (ts : SeatsState) → ties_of ByPaper p (without_seat paper ordinal ts)
    ≡ without_seat paper ordinal (ties_of ByPaper p ts)
ties_of-without_seat p paper ordinal [] = refl
ties_of-without_seat p paper ordinal (t ∷ ts) =
    ap (λ (b : Bool). cond b (left_at paper ordinal t ∷ ties_of ByPaper p (without_seat paper ordinal ts))
    (ties_of ByPaper p (without_seat paper ordinal ts)))
    (ap (λ (q : Pair). eqb p q.paper) (left-pair paper ordinal t))
    ∙ by (eqb p t.pair.paper) (ties_of-without_seat p paper ordinal ts)
  where
    by : (b : Bool) → ties_of ByPaper p (without_seat paper ordinal ts) ≡ without_seat paper ordinal
        (ties_of ByPaper p ts)
        → cond b (left_at paper ordinal t ∷ ties_of ByPaper p (without_seat paper ordinal ts))
        (ties_of ByPaper p (without_seat paper ordinal ts))
        ≡ without_seat paper ordinal (cond b (t ∷ ties_of ByPaper p ts) (ties_of ByPaper p ts))
    by true rest = ap (λ (us : SeatsState). left_at paper ordinal t ∷ us) rest
    by false rest = rest

-- seats of another paper than this one stay as they are
without-other : (p paper ordinal : ℕ) (ts : SeatsState) → eqb p paper ≡ false
    → without_seat paper ordinal (ties_of ByPaper p ts) ≡ ties_of ByPaper p ts
without-other p paper ordinal [] other = refl
without-other p paper ordinal (t ∷ ts) other = by (eqb p t.pair.paper) refl (without-other p paper ordinal ts other)
  where
    unlike : (p paper q ordinal o : ℕ) → eqb p paper ≡ false → eqb p q ≡ true → (paper == q && ordinal == o) ≡ false
    unlike p paper q ordinal o other same =
        ap (λ b. b && eqb ordinal o) (ap (λ n. eqb paper n) (sym (eqb-true p q same)) ∙ eqb-swap paper p ∙ other)

    by : (b : Bool) → eqb p t.pair.paper ≡ b → without_seat paper ordinal (ties_of ByPaper p ts) ≡ ties_of ByPaper p ts
        → without_seat paper ordinal (cond b (t ∷ ties_of ByPaper p ts) (ties_of ByPaper p ts))
        ≡ cond b (t ∷ ties_of ByPaper p ts) (ties_of ByPaper p ts)
    by true is rest =
        ap (λ (b : Bool). cond b (vacated t) t ∷ without_seat paper ordinal (ties_of ByPaper p ts))
        (unlike p paper t.pair.paper ordinal t.value.ordinal other is)
        ∙ ap (λ (us : SeatsState). t ∷ us) rest
    by false is rest = rest

-- how many labels the paper's reviewers were given
pub labels_in-after : (seats : SeatsState) (e : Entry) (p : ℕ)
    → labels_in (seats_after seats e) p ≡ labels_in seats p + length (assigned_told p e)
labels_in-after seats (Assigned paper user kind ordinal) p =
    ap length (ties_of-with_seat p (seat_tie paper user kind ordinal) seats)
    ∙ length-append (ties_of ByPaper p seats) (given (eqb p paper) (seat_tie paper user kind ordinal))
    ∙ ap (λ n. labels_in seats p + n) (by (eqb p paper) (eqb paper p) (eqb-swap p paper))
  where
    by : (b c : Bool) → b ≡ c → length (given b (seat_tie paper user kind ordinal))
        ≡ length {A = SeatTold} (given c (record { ordinal = ordinal; kind = Some kind; user = Some user }))
    by true true e = refl
    by true false e = absurd (true≢false e)
    by false true e = absurd (true≢false (sym e))
    by false false e = refl
labels_in-after seats (Unassigned paper user ordinal) p =
    let n : length (ties_of ByPaper p (without_seat paper ordinal seats))
    ≡ length (ties_of ByPaper p seats) = ap length (ties_of-without_seat p paper ordinal seats)
    ∙ length-map (ties_of ByPaper p seats) (left_at paper ordinal) in
    omega (arith, n)
labels_in-after seats e p = omega arith

-- ---- the seats that nobody has left

abbrev stays : Tie Seat → Bool
stays t = not t.value.vacated

taken-with_seat : (seats : SeatsState) (paper user : ℕ) (kind : Kind) (ordinal p : ℕ)
    → seats_taken (with_seat (seat_tie paper user kind ordinal) seats) p
    ≡ seats_taken seats p ++ given (eqb p paper) (seat_tie paper user kind ordinal)
taken-with_seat seats paper user kind ordinal p =
    let s : Tie Seat = seat_tie paper user kind ordinal in
    ap (filter stays) (ties_of-with_seat p s seats)
    ∙ filter-append stays (ties_of ByPaper p seats) (given (eqb p paper) s)
    ∙ ap (λ (us : SeatsState). seats_taken seats p ++ us) (by (eqb p paper))
  where
    by : (b : Bool) → filter stays (given b (seat_tie paper user kind ordinal))
        ≡ given b (seat_tie paper user kind ordinal)
    by true = refl
    by false = refl

-- where one is left, those that stay are the ones of other ordinals
taken-left : (p paper ordinal : ℕ) (ts : SeatsState) → eqb p paper ≡ true
    → filter stays (without_seat paper ordinal (ties_of ByPaper p ts))
    ≡ filter (λ (t : Tie Seat). not (eqb ordinal t.value.ordinal)) (filter stays (ties_of ByPaper p ts))
taken-left p paper ordinal [] same = refl
taken-left p paper ordinal (t ∷ ts) same = by (eqb p t.pair.paper) refl (taken-left p paper ordinal ts same)
  where
    others : Tie Seat → Bool
    others t = not (eqb ordinal t.value.ordinal)

    old : SeatsState
    old = filter stays (ties_of ByPaper p ts)

    new : SeatsState
    new = filter stays (without_seat paper ordinal (ties_of ByPaper p ts))

    is : (p paper q ordinal o : ℕ) → eqb p paper ≡ true → eqb p q ≡ true → (paper == q && ordinal == o) ≡ eqb ordinal o
    is p paper q ordinal o same at =
        ap (λ b. b && eqb ordinal o) (eq-eqb paper q (sym (eqb-true p paper same) ∙ eqb-true p q at))

    left : (m : Bool) → cond (not (cond m (vacated t) t).value.vacated) (cond m (vacated t) t ∷ new) new
        ≡ cond (not (cond m true t.value.vacated)) (cond m (vacated t) t ∷ new) new
    left true = refl
    left false = refl

    right : (v : Bool) → filter others (cond (not v) (t ∷ old) old)
        ≡ cond (not v) (cond (not (eqb ordinal t.value.ordinal)) (t ∷ filter others old) (filter others old))
        (filter others old)
    right true = refl
    right false = refl

    alike : (m v : Bool) → new ≡ filter others old → cond (not (cond m true v)) (cond m (vacated t) t ∷ new) new
        ≡ cond (not v) (cond (not m) (t ∷ filter others old) (filter others old)) (filter others old)
    alike true true rest = rest
    alike true false rest = rest
    alike false true rest = rest
    alike false false rest = ap (λ (us : SeatsState). t ∷ us) rest

    by : (b : Bool) → eqb p t.pair.paper ≡ b → new ≡ filter others old
        → filter stays (without_seat paper ordinal (cond b (t ∷ ties_of ByPaper p ts) (ties_of ByPaper p ts)))
        ≡ filter others (filter stays (cond b (t ∷ ties_of ByPaper p ts) (ties_of ByPaper p ts)))
    by true at rest =
        ap (λ (m : Bool). cond (not (cond m (vacated t) t).value.vacated) (cond m (vacated t) t ∷ new) new)
        (is p paper t.pair.paper ordinal t.value.ordinal same at)
        ∙ left (eqb ordinal t.value.ordinal)
        ∙ alike (eqb ordinal t.value.ordinal) t.value.vacated rest
        ∙ sym (right t.value.vacated)
    by false at rest = rest

-- ---- whose seats they are

-- of these seats those of the user are the ones of this ordinal
abbrev AreOrdinalOf : ℕ → ℕ → List (Tie Seat) → Type 0
AreOrdinalOf user ordinal [] = Unit {0}
AreOrdinalOf user ordinal (t ∷ ts) = (eqb ordinal t.value.ordinal ≡ eqb user t.pair.user) × AreOrdinalOf user ordinal ts

abbrev ordinals : List (Tie Seat) → List ℕ
ordinals ts = map (λ (t : Tie Seat). t.value.ordinal) ts

-- the ordinal of the user's seat among these
abbrev found : Option ℕ → List (Tie Seat) → Option ℕ
found u ts = option_map (λ (t : Tie Seat). t.value.ordinal) (find (λ (t : Tie Seat). is_number u t.pair.user) ts)

-- seats behind hers are neither hers nor of her ordinal
hers-behind : (user ordinal : ℕ) (ts : List (Tie Seat)) → list_all (nat_lt ordinal) (ordinals ts) ≡ true
    → list_any (λ (s : Tie Seat). eqb s.pair.user user) ts ≡ false → AreOrdinalOf user ordinal ts
hers-behind user ordinal [] above none = tt
hers-behind user ordinal (t ∷ ts) above none =
    let parts = and_parts (nat_lt ordinal t.value.ordinal) (list_all (nat_lt ordinal) (ordinals ts)) above in
    let nones = or_parts (eqb t.pair.user user) (list_any (λ (s : Tie Seat). eqb s.pair.user user) ts) none in (
      nat_lt-eqb ordinal t.value.ordinal parts.0 ∙ sym (eqb-swap user t.pair.user ∙ nones.0),
      hers-behind user ordinal ts parts.1 nones.1,
    )

-- a seat that is found behind others has a greater ordinal
found-above : (n user ordinal : ℕ) (ts : List (Tie Seat)) → list_all (nat_lt n) (ordinals ts) ≡ true
    → found (Some user) ts ≡ Some ordinal
    → nat_lt n ordinal ≡ true
found-above n user ordinal [] above is = cc
found-above n user ordinal (t ∷ ts) above is =
    let parts = and_parts (nat_lt n t.value.ordinal) (list_all (nat_lt n) (ordinals ts)) above in
    by (eqb user t.pair.user) is (found-above n user ordinal ts parts.1) parts.0
  where
    by : (b : Bool) → option_map (λ (t : Tie Seat). t.value.ordinal)
        (cond b (Some t) (find (λ (t : Tie Seat). eqb user t.pair.user) ts)) ≡ Some ordinal
        → (found (Some user) ts ≡ Some ordinal → nat_lt n ordinal ≡ true) → nat_lt n t.value.ordinal ≡ true
        → nat_lt n ordinal ≡ true
    by true is rest first = let e : t.value.ordinal ≡ ordinal = cc in subst (λ (m : ℕ). nat_lt n m ≡ true) e first
    by false is rest first = rest is

-- the seats of a user are the ones of the ordinal that is found
are_ordinal_of : (user ordinal : ℕ) (ts : List (Tie Seat)) → IsRising (ordinals ts) → AreOfDifferentUsers ts
    → found (Some user) ts ≡ Some ordinal
    → AreOrdinalOf user ordinal ts
are_ordinal_of user ordinal [] rising different is = cc
are_ordinal_of user ordinal (t ∷ ts) rising different is =
    by (eqb user t.pair.user) refl is (are_ordinal_of user ordinal ts rising.1 different.1)
  where
    other : (n m : ℕ) → nat_lt m n ≡ true → eqb n m ≡ false
    other n m h = grind (arith, nat_tests, h)

    by : (b : Bool) → eqb user t.pair.user ≡ b
        → option_map (λ (t : Tie Seat). t.value.ordinal)
        (cond b (Some t) (find (λ (t : Tie Seat). eqb user t.pair.user) ts)) ≡ Some ordinal
        → (found (Some user) ts ≡ Some ordinal → AreOrdinalOf user ordinal ts)
        → (eqb ordinal t.value.ordinal ≡ eqb user t.pair.user) × AreOrdinalOf user ordinal ts
    by true at is rest =
        let e : t.value.ordinal ≡ ordinal = cc in
        let same : t.pair.user ≡ user = sym (eqb-true user t.pair.user at) in (
          eq-eqb ordinal t.value.ordinal (sym e) ∙ sym at,
          hers-behind user ordinal ts (subst (λ (n : ℕ). list_all (nat_lt n) (ordinals ts)
              ≡ true) e rising.0) (subst (λ (n : ℕ). list_any (λ (s : Tie Seat). eqb s.pair.user n) ts ≡ false) same
              different.0),
        )
    by false at is rest =
        (other ordinal t.value.ordinal (found-above t.value.ordinal user ordinal ts rising.0 is) ∙ sym at, rest is)

-- whoever is found by a seat of that ordinal is she
hers-found : (user ordinal : ℕ) (ts : List (Tie Seat)) → AreOrdinalOf user ordinal ts → (u : Option ℕ)
    → found u ts ≡ Some ordinal → is_number u user ≡ true
hers-found user ordinal [] hers u is = cc
hers-found user ordinal (t ∷ ts) hers u is = by (is_number u t.pair.user) refl is (hers-found user ordinal ts hers.1 u)
  where
    by : (b : Bool) → is_number u t.pair.user ≡ b
        → option_map (λ (t : Tie Seat). t.value.ordinal)
        (cond b (Some t) (find (λ (t : Tie Seat). is_number u t.pair.user) ts)) ≡ Some ordinal
        → (found u ts ≡ Some ordinal → is_number u user ≡ true) → is_number u user ≡ true
    by true at is rest =
        let e : t.value.ordinal ≡ ordinal = cc in
        let same : user ≡ t.pair.user =
        eqb-true user t.pair.user (sym hers.0 ∙ eq-eqb ordinal t.value.ordinal (sym e)) in
        ap (is_number u) same ∙ at
    by false at is rest = rest is

-- without them, she has none and everybody else has hers
found-left : (user ordinal : ℕ) (ts : List (Tie Seat)) → AreOrdinalOf user ordinal ts → (u : Option ℕ)
    → found u (filter (λ (t : Tie Seat). not (eqb ordinal t.value.ordinal)) ts) ≡ cond (is_number u user) None
    (found u ts)
found-left user ordinal [] hers u = by (is_number u user)
  where
    by : (b : Bool) → ◌≡◌ {A = Option ℕ} None (cond b None None)
    by true = refl
    by false = refl
found-left user ordinal (t ∷ ts) hers u =
    before (eqb ordinal t.value.ordinal) ∙ by (eqb ordinal t.value.ordinal) (is_number u t.pair.user) (is_number u user)
    (λ at. ap (is_number u) (sym (eqb-true user t.pair.user (sym hers.0 ∙ at)))) (apart u)
    (found-left user ordinal ts hers.1 u)
    ∙ after (is_number u t.pair.user) (is_number u user)
  where
    kept : List (Tie Seat)
    kept = filter (λ (t : Tie Seat). not (eqb ordinal t.value.ordinal)) ts

    before : (m : Bool) → found u (cond (not m) (t ∷ kept) kept) ≡ cond m (found u kept)
        (cond (is_number u t.pair.user) (Some t.value.ordinal) (found u kept))
    before true = refl
    before false = first (is_number u t.pair.user)
      where
        first : (b : Bool) → option_map (λ (t : Tie Seat). t.value.ordinal)
            (cond b (Some t) (find (λ (t : Tie Seat). is_number u t.pair.user) kept))
            ≡ cond b (Some t.value.ordinal) (found u kept)
        first true = refl
        first false = refl

    after : (b c : Bool) → cond c None (cond b (Some t.value.ordinal) (found u ts))
        ≡ cond c None (option_map (λ (t : Tie Seat). t.value.ordinal)
        (cond b (Some t) (find (λ (t : Tie Seat). is_number u t.pair.user) ts)))
    after true c = refl
    after false c = refl

    -- who is found by another seat isn't she
    apart : (u : Option ℕ) → eqb ordinal t.value.ordinal ≡ false → is_number u t.pair.user ≡ true
        → is_number u user ≡ false
    apart None other at = refl
    apart (Some v) other at = unlike v t.pair.user user (sym hers.0 ∙ other) at
      where
        unlike : (v w user : ℕ) → eqb user w ≡ false → eqb v w ≡ true → eqb v user ≡ false
        unlike v w user h at = subst (λ (n : ℕ). eqb n user ≡ false) (sym (eqb-true v w at)) (eqb-swap w user ∙ h)

    by : (m b c : Bool) → (m ≡ true → b ≡ c) → (m ≡ false → b ≡ true → c ≡ false)
        → found u kept ≡ cond c None (found u ts)
        → cond m (found u kept) (cond b (Some t.value.ordinal) (found u kept))
        ≡ cond c None (cond b (Some t.value.ordinal) (found u ts))
    by true true true same other rest = rest
    by true true false same other rest = absurd (true≢false (same refl))
    by true false true same other rest = rest
    by true false false same other rest = rest
    by false true true same other rest = absurd (true≢false (other refl refl))
    by false true false same other rest = refl
    by false false true same other rest = rest
    by false false false same other rest = rest

-- ---- seats in order

all-filter : (n : ℕ) (test : Tie Seat → Bool) (ts : List (Tie Seat)) → list_all (nat_lt n) (ordinals ts) ≡ true
    → list_all (nat_lt n) (ordinals (filter test ts)) ≡ true
all-filter n test [] all = refl
all-filter n test (t ∷ ts) all =
    let parts = and_parts (nat_lt n t.value.ordinal) (list_all (nat_lt n) (ordinals ts)) all in by (test t) parts.0
    (all-filter n test ts parts.1)
  where
    by : (b : Bool) → nat_lt n t.value.ordinal ≡ true → list_all (nat_lt n) (ordinals (filter test ts)) ≡ true
        → list_all (nat_lt n) (ordinals (cond b (t ∷ filter test ts) (filter test ts))) ≡ true
    by true first rest = both_true first rest
    by false first rest = rest

rising-seats : (test : Tie Seat → Bool) (ts : List (Tie Seat)) → IsRising (ordinals ts)
    → IsRising (ordinals (filter test ts))
rising-seats test [] rising = tt
rising-seats test (t ∷ ts) rising =
    by (test t) (all-filter t.value.ordinal test ts rising.0) (rising-seats test ts rising.1)
  where
    by : (b : Bool) → list_all (nat_lt t.value.ordinal) (ordinals (filter test ts)) ≡ true
        → IsRising (ordinals (filter test ts))
        → IsRising (ordinals (cond b (t ∷ filter test ts) (filter test ts)))
    by true first rest = (first, rest)
    by false first rest = rest

none-filter : (user : ℕ) (test : Tie Seat → Bool) (ts : List (Tie Seat))
    → list_any (λ (s : Tie Seat). eqb s.pair.user user) ts ≡ false
    → list_any (λ (s : Tie Seat). eqb s.pair.user user) (filter test ts) ≡ false
none-filter user test [] none = refl
none-filter user test (t ∷ ts) none =
    let parts = or_parts (eqb t.pair.user user) (list_any (λ (s : Tie Seat). eqb s.pair.user user) ts) none in by
    (test t) parts.0 (none-filter user test ts parts.1)
  where
    by : (b : Bool) → eqb t.pair.user user ≡ false
        → list_any (λ (s : Tie Seat). eqb s.pair.user user) (filter test ts) ≡ false
        → list_any (λ (s : Tie Seat). eqb s.pair.user user) (cond b (t ∷ filter test ts) (filter test ts)) ≡ false
    by true first rest = ap (λ b. b || list_any (λ (s : Tie Seat). eqb s.pair.user user) (filter test ts)) first ∙ rest
    by false first rest = rest

different-filter : (test : Tie Seat → Bool) (ts : List (Tie Seat)) → AreOfDifferentUsers ts
    → AreOfDifferentUsers (filter test ts)
different-filter test [] different = tt
different-filter test (t ∷ ts) different =
    by (test t) (none-filter t.pair.user test ts different.0) (different-filter test ts different.1)
  where
    by : (b : Bool) → list_any (λ (s : Tie Seat). eqb s.pair.user t.pair.user) (filter test ts) ≡ false
        → AreOfDifferentUsers (filter test ts)
        → AreOfDifferentUsers (cond b (t ∷ filter test ts) (filter test ts))
    by true first rest = (first, rest)
    by false first rest = rest

-- one more seat is another user's where none of them is hers
different-push : (s : Tie Seat) (ts : List (Tie Seat)) → found (Some s.pair.user) ts ≡ None → AreOfDifferentUsers ts
    → AreOfDifferentUsers (ts ++ s ∷ [])
different-push s [] none different = (refl, tt)
different-push s (t ∷ ts) none different =
    by (eqb s.pair.user t.pair.user) refl none (λ is. different-push s ts is different.1)
  where
    behind : (us : List (Tie Seat)) → list_any (λ (r : Tie Seat). eqb r.pair.user t.pair.user) us ≡ false
        → eqb s.pair.user t.pair.user ≡ false
        → list_any (λ (r : Tie Seat). eqb r.pair.user t.pair.user) (us ++ s ∷ []) ≡ false
    behind [] all one = ap (λ b. b || false) one
    behind (u ∷ us) all one =
        let parts =
        or_parts (eqb u.pair.user t.pair.user) (list_any (λ (r : Tie Seat). eqb r.pair.user t.pair.user) us) all in
        ap (λ b. b || list_any (λ (r : Tie Seat). eqb r.pair.user t.pair.user) (us ++ s ∷ [])) parts.0
        ∙ behind us parts.1 one

    by : (b : Bool) → eqb s.pair.user t.pair.user ≡ b
        → option_map (λ (t : Tie Seat). t.value.ordinal)
        (cond b (Some t) (find (λ (t : Tie Seat). eqb s.pair.user t.pair.user) ts)) ≡ None
        → (found (Some s.pair.user) ts ≡ None → AreOfDifferentUsers (ts ++ s ∷ []))
        → AreOfDifferentUsers (t ∷ ts ++ s ∷ [])
    by true at is rest = cc
    by false at is rest = (behind ts different.0 at, rest is)

numbers_from-map : (n : ℕ) (f : Tie Seat → Tie Seat) (ts : List (Tie Seat))
    → numbers_from n (map f ts) ≡ numbers_from n ts
numbers_from-map n f [] = refl
numbers_from-map n f (t ∷ ts) = ap (λ ns. n ∷ ns) (numbers_from-map (n + 1) f ts)

ordinals-left : (paper ordinal : ℕ) (ts : List (Tie Seat)) → ordinals (without_seat paper ordinal ts) ≡ ordinals ts
ordinals-left paper ordinal [] = refl
ordinals-left paper ordinal (t ∷ ts) =
    ap (λ n. n ∷ ordinals (without_seat paper ordinal ts)) (left-ordinal paper ordinal t)
    ∙ ap (λ ns. t.value.ordinal ∷ ns) (ordinals-left paper ordinal ts)

-- the seats that nobody has left, in the order of their labels
pub rising-taken : (seats : SeatsState) → SeatsInOrder seats → (p : ℕ) → IsRising (ordinals (seats_taken seats p))
rising-taken seats order p =
    rising-seats stays (ties_of ByPaper p seats)
    (subst IsRising (sym (order.numbered p)) (rising-numbers_from 1 (ties_of ByPaper p seats)))

-- they are in order after an entry that fits
pub seats-in_order-after : (seats : SeatsState) (e : Entry) → SeatsFit seats e → SeatsInOrder seats
    → SeatsInOrder (seats_after seats e)
seats-in_order-after seats (Assigned paper user kind ordinal) fits order =
    record { numbered = numbered; single = single }
  where
    s : Tie Seat
    s = seat_tie paper user kind ordinal

    numbered : (p : ℕ) → ordinals (ties_of ByPaper p (with_seat s seats))
        ≡ numbers_from 1 (ties_of ByPaper p (with_seat s seats))
    numbered p =
        subst (λ (ts : SeatsState). ordinals ts ≡ numbers_from 1 ts) (sym (ties_of-with_seat p s seats))
        (by (eqb p paper) refl)
      where
        last : eqb p paper ≡ true → ordinal ≡ 1 + length (ties_of ByPaper p seats)
        last at = let next : ordinal
            ≡ length (ties_of ByPaper p seats) + 1 = subst (λ (n : ℕ). ordinal
            ≡ length (ties_of ByPaper n seats) + 1) (sym (eqb-true p paper at)) fits.0 in omega (arith, next)

        by : (b : Bool) → eqb p paper ≡ b → ordinals (ties_of ByPaper p seats ++ given b s)
            ≡ numbers_from 1 (ties_of ByPaper p seats ++ given b s)
        by true at =
            map-append (λ (t : Tie Seat). t.value.ordinal) (ties_of ByPaper p seats) (s ∷ [])
            ∙ ap (λ (ns : List ℕ). ns ++ ordinal ∷ []) (order.numbered p)
            ∙ sym (numbers_from-push 1 ordinal (ties_of ByPaper p seats) s (last at))
        by false at = subst (λ (ts : SeatsState). ordinals ts ≡ numbers_from 1 ts)
            (sym (append-nil (ties_of ByPaper p seats))) (order.numbered p)

    single : (p : ℕ) → AreOfDifferentUsers (seats_taken (with_seat s seats) p)
    single p = subst AreOfDifferentUsers (sym (taken-with_seat seats paper user kind ordinal p)) (by (eqb p paper) refl)
      where
        by : (b : Bool) → eqb p paper ≡ b → AreOfDifferentUsers (seats_taken seats p ++ given b s)
        by true at = different-push s (seats_taken seats p)
            (ap (λ n. ordinal_in seats (Some user) n) (eqb-true p paper at) ∙ fits.2) (order.single p)
        by false at = subst AreOfDifferentUsers (sym (append-nil (seats_taken seats p))) (order.single p)
seats-in_order-after seats (Unassigned paper user ordinal) fits order = record { numbered = numbered; single = single }
  where
    numbered : (p : ℕ) → ordinals (ties_of ByPaper p (without_seat paper ordinal seats))
        ≡ numbers_from 1 (ties_of ByPaper p (without_seat paper ordinal seats))
    numbered p =
        ap ordinals (ties_of-without_seat p paper ordinal seats) ∙ ordinals-left paper ordinal (ties_of ByPaper p seats)
        ∙ order.numbered p
        ∙ sym (numbers_from-map 1 (left_at paper ordinal) (ties_of ByPaper p seats))
        ∙ ap (numbers_from 1) (sym (ties_of-without_seat p paper ordinal seats))

    single : (p : ℕ) → AreOfDifferentUsers (seats_taken (without_seat paper ordinal seats) p)
    single p = subst AreOfDifferentUsers (ap (filter stays) (sym (ties_of-without_seat p paper ordinal seats)))
        (by (eqb p paper) refl)
      where
        by : (b : Bool) → eqb p paper ≡ b → AreOfDifferentUsers
            (filter stays (without_seat paper ordinal (ties_of ByPaper p seats)))
        by true at = subst AreOfDifferentUsers (sym (taken-left p paper ordinal seats at))
            (different-filter _ (seats_taken seats p) (order.single p))
        by false at =
            subst AreOfDifferentUsers (ap (filter stays) (sym (without-other p paper ordinal seats at)))
            (order.single p)
seats-in_order-after seats e fits order = order

-- and under which ordinal a user reviews a paper is what that entry tells, else what it was
pub ordinal_in-after : (seats : SeatsState) (e : Entry) → SeatsInOrder seats → SeatsFit seats e → (u : Option ℕ) (p : ℕ)
    → ordinal_in (seats_after seats e) u p
    ≡ last_or (ordinal_in seats u p) (ordinal_told u p e)
ordinal_in-after seats (Assigned paper user kind ordinal) order fits u p =
    ap (found u) (taken-with_seat seats paper user kind ordinal p) ∙ by (eqb p paper) (is_number u user) refl refl
    ∙ ap (λ b. last_or (ordinal_in seats u p) (given (b && is_number u user) (Some ordinal))) (eqb-swap p paper)
  where
    s : Tie Seat
    s = seat_tie paper user kind ordinal

    test : Tie Seat → Bool
    test t = is_number u t.pair.user

    free : eqb p paper ≡ true → is_number u user ≡ true → ordinal_in seats u p ≡ None
    free at is = ap (λ (v : Option ℕ). ordinal_in seats v p) (number-is u user is)
        ∙ ap (λ n. ordinal_in seats (Some user) n) (eqb-true p paper at) ∙ fits.2

    none : (o : Option (Tie Seat)) → option_map (λ (t : Tie Seat). t.value.ordinal) (option_or o None)
        ≡ option_map (λ (t : Tie Seat). t.value.ordinal) o
    none None = refl
    none (Some t) = refl

    none-then : (o : Option (Tie Seat)) → option_map (λ (t : Tie Seat). t.value.ordinal) o ≡ None
        → option_map (λ (t : Tie Seat). t.value.ordinal) (option_or o (Some s)) ≡ Some ordinal
    none-then None is = refl
    none-then (Some t) is = cc

    taken : List (Tie Seat)
    taken = seats_taken seats p

    by : (b c : Bool) → eqb p paper ≡ b → is_number u user ≡ c
        → found u (taken ++ given b s) ≡ last_or (ordinal_in seats u p) (given (b && c) (Some ordinal))
    by true true at is =
        ap (option_map (λ (t : Tie Seat). t.value.ordinal)) (find-append test taken (s ∷ [])
        ∙ ap (λ (b : Bool). option_or (find test taken) (cond b (Some s) None)) is)
        ∙ none-then (find test taken) (free at is)
    by true false at is =
        ap (option_map (λ (t : Tie Seat). t.value.ordinal)) (find-append test taken (s ∷ [])
        ∙ ap (λ (b : Bool). option_or (find test taken) (cond b (Some s) None)) is)
        ∙ none (find test taken)
    by false c at is = ap (found u) (append-nil taken)
ordinal_in-after seats (Unassigned paper user ordinal) order fits u p =
    ap (λ (ts : SeatsState). found u (filter stays ts)) (ties_of-without_seat p paper ordinal seats)
    ∙ by (eqb p paper) refl
    ∙ ap (λ b. last_or (ordinal_in seats u p) (given (b && is_number u user) None)) (eqb-swap p paper)
  where
    hers : eqb p paper ≡ true → AreOrdinalOf user ordinal (seats_taken seats p)
    hers at = are_ordinal_of user ordinal (seats_taken seats p) (rising-taken seats order p) (order.single p)
        (ap (λ n. ordinal_in seats (Some user) n) (eqb-true p paper at) ∙ fits)

    gone : (c : Bool) → cond c None (ordinal_in seats u p) ≡ last_or (ordinal_in seats u p) (given c None)
    gone true = refl
    gone false = refl

    by : (b : Bool) → eqb p paper ≡ b → found u (filter stays (without_seat paper ordinal (ties_of ByPaper p seats)))
        ≡ last_or (ordinal_in seats u p) (given (b && is_number u user) None)
    by true at = ap (found u) (taken-left p paper ordinal seats at)
        ∙ found-left user ordinal (seats_taken seats p) (hers at) u ∙ gone (is_number u user)
    by false at = ap (λ (ts : SeatsState). found u (filter stays ts)) (without-other p paper ordinal seats at)
ordinal_in-after seats e order fits u p = refl

-- no two users review a paper under the same ordinal
pub ordinal_in-single : (seats : SeatsState) → SeatsInOrder seats → (u : Option ℕ) (user p ordinal : ℕ)
    → ordinal_in seats u p ≡ Some ordinal
    → ordinal_in seats (Some user) p ≡ Some ordinal → is_number u user ≡ true
ordinal_in-single seats order u user p ordinal is hers =
    hers-found user ordinal (seats_taken seats p)
    (are_ordinal_of user ordinal (seats_taken seats p) (rising-taken seats order p) (order.single p) hers) u is

-- no assignments are in order
pub seats-in_order-nil : SeatsInOrder []
seats-in_order-nil = record { numbered = λ p. refl; single = λ p. tt }

-- ---- which labels are given

-- the ordinal of a seat that is found is one of theirs
found-among : (test stays : Tie Seat → Bool) (ordinal : ℕ) (ts : List (Tie Seat))
    → option_map (λ (t : Tie Seat). t.value.ordinal) (find test (filter stays ts)) ≡ Some ordinal
    → list_any (λ n. eqb n ordinal) (ordinals ts) ≡ true
found-among test stays ordinal [] is = cc
found-among test stays ordinal (t ∷ ts) is = by (stays t) is (found-among test stays ordinal ts)
  where
    among : Bool
    among = list_any (λ n. eqb n ordinal) (ordinals ts)

    ordinal_of : Option (Tie Seat) → Option ℕ
    ordinal_of o = option_map (λ (t : Tie Seat). t.value.ordinal) o

    behind : List (Tie Seat)
    behind = filter stays ts

    here : (b : Bool) → ordinal_of (cond b (Some t) (find test behind)) ≡ Some ordinal
        → (ordinal_of (find test behind) ≡ Some ordinal → among ≡ true)
        → (eqb t.value.ordinal ordinal || among) ≡ true
    here true h rest = let e : t.value.ordinal ≡ ordinal = cc in ap (λ b. b || among) (eq-eqb t.value.ordinal ordinal e)
    here false h rest = or_right (eqb t.value.ordinal ordinal) among (rest h)

    by : (b : Bool) → ordinal_of (find test (cond b (t ∷ behind) behind)) ≡ Some ordinal
        → (ordinal_of (find test behind) ≡ Some ordinal → among ≡ true)
        → (eqb t.value.ordinal ordinal || among) ≡ true
    by true h rest = here (test t) h rest
    by false h rest = or_right (eqb t.value.ordinal ordinal) among (rest h)

-- so it was drawn for the paper
pub ordinal_in-drawn : (seats : SeatsState) → SeatsInOrder seats → (u : Option ℕ) (p ordinal : ℕ)
    → ordinal_in seats u p ≡ Some ordinal
    → (1 ≤ ordinal) × (ordinal ≤ labels_in seats p)
ordinal_in-drawn seats order u p ordinal is =
    let ts : List (Tie Seat) = ties_of ByPaper p seats in
    paper_within ts (Some ordinal)
    (ap not (ap (list_any (λ n. eqb n ordinal)) (sym (order.numbered p)) ∙ found-among _ _ ordinal ts is))

-- and no paper's reviewers are given more labels than there are letters
pub labels_in-few : (seats : SeatsState) (e : Entry) (p : ℕ) → SeatsFit seats e → labels_in seats p ≤ 26
    → labels_in (seats_after seats e) p ≤ 26
labels_in-few seats (Assigned paper user kind ordinal) p fits few =
    by (eqb paper p) refl (labels_in-after seats (Assigned paper user kind ordinal) p)
  where
    told : SeatTold
    told = record { ordinal = ordinal; kind = Some kind; user = Some user }

    by : (b : Bool) → eqb paper p ≡ b → labels_in (seats_after seats (Assigned paper user kind ordinal)) p
        ≡ labels_in seats p + length (given b told)
        → labels_in (seats_after seats (Assigned paper user kind ordinal)) p ≤ 26
    by true at count =
        let next : ordinal ≡ labels_in seats p + 1 =
        subst (λ n. ordinal ≡ labels_in seats n + 1) (eqb-true paper p at) fits.0 in
        let last = fits.1 in
        omega (arith, count, next, last)
    by false at count = omega (arith, count, few)
labels_in-few seats (Unassigned paper user ordinal) p fits few = let count =
    labels_in-after seats (Unassigned paper user ordinal) p in omega (arith, count, few)
labels_in-few seats e p fits few = few
