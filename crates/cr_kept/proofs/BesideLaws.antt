-- SPDX-License-Identifier: Apache-2.0 OR MIT
-- Room for values of papers beside sums.
use Rattle.std.proofs.Common.{ℕ, Bool, true, false, cond, ◌≡◌, ◌≤◌, ◌<◌, ◌+◌, List, [], ◌∷◌, Option, Some, get_or, eqb}
use Rattle.std.proofs.Common.{refl, ap, sym, arith}
use Rattle.std.specs.Prelude.{nat_le}
use Rattle.std.proofs.lemmas.Bool.{true≢false, le-leb, leb-true}
use Rattle.cr_base.proofs.Small.{nat_le-trans}
use Rattle.cr_rooms.specs.Rooms.{HasRoomFor, IsNoLess, IsOneLess}
use Rattle.cr_rooms.proofs.GroupRooms.{room-for-first}
use Rattle.cr_kept.specs.Beside.{rooms_beside}

-- where the sums fit, the room is that of the values
pub beside-all : (sums : ℕ) (rooms : List ℕ) → 10000 ≤ sums → rooms_beside sums rooms ≡ rooms
beside-all sums rooms le = ap (λ b. cond b rooms []) (le-leb 10000 sums le)

-- and where there is room, they fit
beside-some : (sums n : ℕ) (rooms : List ℕ) → 0 < get_or (rooms_beside sums rooms) n 0
    → (10000 ≤ sums) × (0 < get_or rooms n 0)
beside-some sums n rooms = by (nat_le 10000 sums) refl
  where
    by : (b : Bool) → nat_le 10000 sums ≡ b → 0 < get_or (cond b rooms []) n 0 → (10000 ≤ sums) × (0 < get_or rooms n 0)
    by true is h = (leb-true 10000 sums is, h)
    by false is h = absurd (omega (arith, h))

-- so they do where there is room for the first of a group, and of its number there is room for one
pub beside-first : {A : Type 0} (number : A → Option ℕ) (x : A) (rest : List A) (sums n : ℕ) (rooms : List ℕ)
    → number x ≡ Some n
    → HasRoomFor number (x ∷ rest) (rooms_beside sums rooms) → (10000 ≤ sums) × (0 < get_or rooms n 0)
beside-first number x rest sums n rooms is has =
    beside-some sums n rooms (room-for-first number x rest (rooms_beside sums rooms) n is has)

-- what a number has less, where no fewer sums fit, is what it has less of the values
pub one-less-beside : (number old_sums new_sums : ℕ) (old new : List ℕ) → old_sums ≤ new_sums → IsOneLess number old new
    → IsOneLess number (rooms_beside old_sums old) (rooms_beside new_sums new)
one-less-beside number old_sums new_sums old new le less n =
    by (nat_le 10000 old_sums) (nat_le 10000 new_sums) (nat_le-trans 10000 old_sums new_sums le) (less n)
  where
    more : ℕ
    more = cond (eqb number n) 1 0

    by : (a b : Bool) → (a ≡ true → b ≡ true) → get_or old n 0 ≤ get_or new n 0 + more
        → get_or (cond a old []) n 0 ≤ get_or (cond b new []) n 0 + more
    by true true on h = h
    by true false on h = absurd (true≢false (sym (on refl)))
    by false b on h = omega arith

pub no-less-beside : (old_sums new_sums : ℕ) (old new : List ℕ) → old_sums ≤ new_sums → IsNoLess old new
    → IsNoLess (rooms_beside old_sums old) (rooms_beside new_sums new)
no-less-beside old_sums new_sums old new le keeps n =
    by (nat_le 10000 old_sums) (nat_le 10000 new_sums) (nat_le-trans 10000 old_sums new_sums le) (keeps n)
  where
    by : (a b : Bool) → (a ≡ true → b ≡ true) → get_or old n 0 ≤ get_or new n 0
        → get_or (cond a old []) n 0 ≤ get_or (cond b new []) n 0
    by true true on h = h
    by true false on h = absurd (true≢false (sym (on refl)))
    by false b on h = omega arith
