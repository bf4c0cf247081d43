-- SPDX-License-Identifier: Apache-2.0 OR MIT
-- Room for values of many numbers, such as those of papers or of users.
use Rattle.std.proofs.Common.{ℕ, Bool, true, false, cond, ◌≡◌, ◌≤◌, ◌<◌, ◌+◌, List, [], ◌∷◌, ◌++◌, length, get_or, set}
use Rattle.std.proofs.Common.{map, eqb, refl, subst, ap, ◌∙◌, arith, zero, suc, Option, Some, None}
use Rattle.std.proofs.lemmas.List.Sums.{sum_by-append}
use Rattle.std.specs.List.{filter_map, cons_option}
use Rattle.cr_base.proofs.Small.{eqb-self, eqb-swap, eqb-suc}
use Rattle.cr_rooms.specs.Rooms.{times, HasRoom, IsNoLess, IsOneLess}

-- how often a number is among some, one by one
times-first : (n m : ℕ) (ms : List ℕ) → times n (m ∷ ms) ≡ (0 + cond (eqb n m) 1 0) + times n ms
times-first n m ms = sum_by-append (λ (k : ℕ). cond (eqb n k) 1 0) (m ∷ []) ms

-- ---- a group: room for all of it is room for its first, and when that came in, there is room for the rest

pub has-room-first : (number : ℕ) (numbers rooms : List ℕ) → HasRoom (number ∷ numbers) rooms
    → 0 < get_or rooms number 0
has-room-first number numbers rooms has =
    let there = times-first number number numbers ∙ ap (λ b. (0 + cond b 1 0) + times number numbers) (eqb-self number) in
    omega (arith, there, has number)

pub has-room-rest : (number : ℕ) (numbers old new : List ℕ) → HasRoom (number ∷ numbers) old → IsOneLess number old new
    → HasRoom numbers new
has-room-rest number numbers old new has less n =
    by (eqb number n) (times-first n number numbers ∙ ap (λ b. (0 + cond b 1 0) + times n numbers) (eqb-swap n number))
    (has n) (less n)
  where
    by : (b : Bool) → times n (number ∷ numbers) ≡ (0 + cond b 1 0) + times n numbers
        → times n (number ∷ numbers) ≤ get_or old n 0
        → get_or old n 0 ≤ get_or new n 0 + cond b 1 0 → times n numbers ≤ get_or new n 0
    by true e h k = omega (arith, e, h, k)
    by false e h k = omega (arith, e, h, k)

-- the rest of a group alone has no more need
pub has-room-behind : (number : ℕ) (numbers rooms : List ℕ) → HasRoom (number ∷ numbers) rooms → HasRoom numbers rooms
has-room-behind number numbers rooms has n = omega (arith, has n, times-first n number numbers)

-- where no number has less room, there still is room
pub has-room-kept : (numbers old new : List ℕ) → HasRoom numbers old → IsNoLess old new → HasRoom numbers new
has-room-kept numbers old new has keeps n = omega (arith, has n, keeps n)

-- ---- rows by number, of which each has room for some more

module _ {R : Type 0} (room : R → ℕ) where
  abbrev rooms : List R → List ℕ
  rooms rs = map room rs

  -- another row at an index
  pub one-less-row : (i : ℕ) (rs : List R) (d r : R) → room (get_or rs i d) ≤ room r + 1
      → IsOneLess i (rooms rs) (rooms (set rs i r))
  one-less-row i [] d r le n = omega arith
  one-less-row zero (q ∷ rs) d r le zero = omega (arith, le)
  one-less-row zero (q ∷ rs) d r le (suc n) = omega arith
  one-less-row (suc i) (q ∷ rs) d r le zero = omega arith
  one-less-row (suc i) (q ∷ rs) d r le (suc n) =
      subst (λ b. get_or (rooms rs) n 0 ≤ get_or (rooms (set rs i r)) n 0 + cond b 1 0) (eqb-suc i n)
      (one-less-row i rs d r le n)

  pub no-less-row : (i : ℕ) (rs : List R) (d r : R) → room (get_or rs i d) ≤ room r
      → IsNoLess (rooms rs) (rooms (set rs i r))
  no-less-row i [] d r le n = omega arith
  no-less-row zero (q ∷ rs) d r le zero = le
  no-less-row zero (q ∷ rs) d r le (suc n) = omega arith
  no-less-row (suc i) (q ∷ rs) d r le zero = omega arith
  no-less-row (suc i) (q ∷ rs) d r le (suc n) = no-less-row i rs d r le n

  pub room-of-row : (i : ℕ) (rs : List R) (r : R) → i < length rs → get_or (rooms (set rs i r)) i 0 ≡ room r
  room-of-row i [] r lt = absurd (omega (arith, lt))
  room-of-row zero (q ∷ rs) r lt = refl
  room-of-row (suc i) (q ∷ rs) r lt = room-of-row i rs r (omega (arith, lt))

  -- one more row behind all
  pub no-less-behind : (rs : List R) (r : R) → IsNoLess (rooms rs) (rooms (rs ++ r ∷ []))
  no-less-behind [] r n = omega arith
  no-less-behind (q ∷ rs) r zero = omega arith
  no-less-behind (q ∷ rs) r (suc n) = no-less-behind rs r n

  -- where there is room there is a row
  pub has-row : (i : ℕ) (rs : List R) → 0 < get_or (rooms rs) i 0 → i < length rs
  has-row i [] h = absurd (omega (arith, h))
  has-row zero (r ∷ rs) h = omega arith
  has-row (suc i) (r ∷ rs) h = let lt = has-row i rs h in omega (arith, lt)

-- ---- what some of a group's entries tell, of which a number is asked room for

module _ {E Q : Type 0} (told : E → Option Q) (number : Q → ℕ) where
  abbrev numbers : List E → List ℕ
  numbers es = map number (filter_map told es)

  told-numbers : (e : E) (q : Q) (rest : List E) → told e ≡ Some q → numbers (e ∷ rest) ≡ number q ∷ numbers rest
  told-numbers e q rest is = ap (λ (o : Option Q). map number (cons_option o (filter_map told rest))) is

  -- where what an entry tells came in, there is room for the rest
  pub told-rest : (e : E) (q : Q) (rest : List E) (old new : List ℕ) → told e ≡ Some q → IsOneLess (number q) old new
      → HasRoom (numbers (e ∷ rest)) old
      → HasRoom (numbers rest) new
  told-rest e q rest old new is less has =
      has-room-rest (number q) (numbers rest) old new
      (subst (λ (ns : List ℕ). HasRoom ns old) (told-numbers e q rest is) has) less

  -- whatever it tells, there is room for the rest where no number has less
  pub rest-kept : (e : E) (rest : List E) (old new : List ℕ) → IsNoLess old new → HasRoom (numbers (e ∷ rest)) old
      → HasRoom (numbers rest) new
  rest-kept e rest old new keeps has = has-room-kept (numbers rest) old new (by (told e) refl) keeps
    where
      by : (o : Option Q) → told e ≡ o → HasRoom (numbers rest) old
      by (Some q) is = has-room-behind (number q) (numbers rest) old
          (subst (λ (ns : List ℕ). HasRoom ns old) (told-numbers e q rest is) has)
      by None is = subst (λ (o : Option Q). HasRoom (map number (cons_option o (filter_map told rest))) old) is has
