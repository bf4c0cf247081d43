-- SPDX-License-Identifier: Apache-2.0 OR MIT
-- Sums over pairs: what they gain, and what they pay by place.
use Rattle.cr_match.proofs.Common.{All, All-from_get_or, All-head, All-tail, Bool, List, Pair, ap, arith, cond}
use Rattle.cr_match.proofs.Common.{count_by, false, get_or, ints, kept, length, map, mul-le-mul_right, nat_tests, pos}
use Rattle.cr_match.proofs.Common.{refl, suc, sum, sum_by-cons, sum_z, sym, total_weight, true, zero, ℕ, ℤ, ◌*ℤ◌, ◌*◌}
use Rattle.cr_match.proofs.Common.{◌+ℤ◌, ◌+◌, ◌<◌, ◌==◌, ◌∷◌, ◌≡◌, ◌≢◌, ◌≤ℤ◌, ◌≤◌, []}
use Rattle.std.proofs.Math.IntN.{suc_ℤ-*ℤ, zero-*ℤ}
use Rattle.cr_match.specs.Settle.{SameTo, nth, zero_pair}

-- a test as a number
abbrev pub bit : Bool → ℕ
bit b = cond b 1 0

-- products with a natural number

times_one_more : (n : ℕ) (x : ℤ) → pos (suc n) *ℤ x ≡ ((pos n *ℤ x) +ℤ x)
times_one_more n x = suc_ℤ-*ℤ (pos n) x

times_sum : (n : ℕ) (x y : ℤ) → pos n *ℤ (x +ℤ y) ≡ ((pos n *ℤ x) +ℤ (pos n *ℤ y))
times_sum zero x y = omega (arith, ints, zero-*ℤ (x +ℤ y), zero-*ℤ x, zero-*ℤ y)
times_sum (suc n) x y =
    omega (arith, ints, times_one_more n (x +ℤ y), times_one_more n x, times_one_more n y, times_sum n x y)

-- what pairs gain together

abbrev pub gain : (Pair → ℤ) → List Pair → ℤ
gain r [] = pos 0
gain r (e ∷ es) = r e +ℤ gain r es

pub gain_add : (r s : Pair → ℤ) (es : List Pair) → gain (λ e. r e +ℤ s e) es ≡ (gain r es +ℤ gain s es)
gain_add r s [] = refl
gain_add r s (e ∷ es) = omega (arith, ints, gain_add r s es)

pub gain_weight : (es : List Pair) → total_weight es ≡ gain (λ e. e.weight) es
gain_weight [] = refl
gain_weight (e ∷ es) = omega (arith, ints, gain_weight es)

pub gain_length : (es : List Pair) → gain (λ _. pos 1) es ≡ pos (length es)
gain_length [] = refl
gain_length (e ∷ es) = let l : length (e ∷ es) ≡ suc (length es) = refl in omega (arith, ints, l, gain_length es)

pub gain_cons : (r : Pair → ℤ) (b : Bool) (bs : List Bool) (e : Pair) (es : List Pair)
    → gain r (kept (b ∷ bs) (e ∷ es)) ≡ (cond b (r e) (pos 0) +ℤ gain r (kept bs es))
gain_cons r true bs e es = refl
gain_cons r false bs e es = omega (arith, ints)

-- a choice that has what gains, and lacks what loses
abbrev pub Suits : (Pair → ℤ) → (Pair → Bool) → Pair → Type 0
Suits r h e = (h e ≡ true → pos 0 ≤ℤ r e) × (h e ≡ false → r e ≤ℤ pos 0)

most_one : (x : ℤ) (b c : Bool) → (b ≡ true → pos 0 ≤ℤ x) × (b ≡ false → x ≤ℤ pos 0)
    → cond c x (pos 0) ≤ℤ cond b x (pos 0)
most_one x true true h = omega (arith, ints)
most_one x true false h = h.0 refl
most_one x false true h = h.1 refl
most_one x false false h = omega (arith, ints)

-- gains no less than any
pub gain_most : (r : Pair → ℤ) (h : Pair → Bool) (es : List Pair) (cs : List Bool) → All (Suits r h) es
    → gain r (kept cs es) ≤ℤ gain r (kept (map h es) es)
gain_most r h [] [] s = omega (arith, ints)
gain_most r h [] (c ∷ cs) s = omega (arith, ints)
gain_most r h (e ∷ es) [] s =
    omega (
      arith,
      ints,
      gain_cons r (h e) (map h es) e es,
      most_one (r e) (h e) false (All-head (Suits r h) e es s),
      gain_most r h es [] (All-tail (Suits r h) e es s),
    )
gain_most r h (e ∷ es) (c ∷ cs) s =
    omega (
      arith,
      ints,
      gain_cons r c cs e es,
      gain_cons r (h e) (map h es) e es,
      most_one (r e) (h e) c (All-head (Suits r h) e es s),
      gain_most r h es cs (All-tail (Suits r h) e es s),
    )

-- and more than one that is the same before pair i, and has that pair where it loses
pub gain_first : (r : Pair → ℤ) (h : Pair → Bool) (es : List Pair) (cs : List Bool) (i : ℕ) → i < length es
    → SameTo h es cs i → get_or cs i false ≡ true → h (nth es i) ≡ false → (r (nth es i) +ℤ pos 1) ≤ℤ pos 0
    → ((j : ℕ) → i < j → j < length es → Suits r h (nth es j))
    → (gain r (kept cs es) +ℤ pos 1) ≤ℤ gain r (kept (map h es) es)
gain_first r h [] cs i lt same has out low later =
    absurd (let z : length {A = Pair} [] ≡ 0 = refl in omega (arith, lt, z))
gain_first r h (e ∷ es) [] i lt same has out low later = absurd (let c = has in cc)
gain_first r h (e ∷ es) (c ∷ cs) zero lt same has out low later =
    let l : length (e ∷ es) ≡ suc (length es) = refl in
    omega (
      arith,
      ints,
      gain_cons r c cs e es,
      gain_cons r (h e) (map h es) e es,
      ap (λ b. cond b (r e) (pos 0)) has,
      ap (λ b. cond b (r e) (pos 0)) out,
      low,
      gain_most r h es cs (All-from_get_or (Suits r h) es zero_pair
          (λ j lj. later (suc j) (omega arith) (omega (arith, lj, l)))),
    )
gain_first r h (e ∷ es) (c ∷ cs) (suc i) lt same has out low later =
    let l : length (e ∷ es) ≡ suc (length es) = refl in
    omega (
      arith,
      ints,
      gain_cons r c cs e es,
      gain_cons r (h e) (map h es) e es,
      ap (λ b. cond b (r e) (pos 0)) (same 0 (omega arith)),
      gain_first r h es cs i (omega (arith, lt, l)) (λ j lj. same (suc j) (omega (arith, lj))) has out low
          (λ j li lj. later (suc j) (omega (arith, li)) (omega (arith, lj, l))),
    )

-- the prices `g` of the places below n, each paid `f` times
abbrev pub spread : (ℕ → ℤ) → (ℕ → ℕ) → ℕ → ℤ
spread g f zero = pos 0
spread g f (suc n) = (pos (f 0) *ℤ g 0) +ℤ spread (λ q. g (suc q)) (λ q. f (suc q)) n

pub spread_same : (g : ℕ → ℤ) (f k : ℕ → ℕ) (n : ℕ) → ((q : ℕ) → q < n → f q ≡ k q) → spread g f n ≡ spread g k n
spread_same g f k zero h = refl
spread_same g f k (suc n) h =
    omega (
      arith,
      ints,
      ap (λ m. pos m *ℤ g 0) (h 0 (omega arith)),
      spread_same (λ q. g (suc q)) (λ q. f (suc q)) (λ q. k (suc q)) n (λ q lq. h (suc q) (omega (arith, lq))),
    )

spread_none : (g : ℕ → ℤ) (n : ℕ) → spread g (λ _. 0) n ≡ pos 0
spread_none g zero = refl
spread_none g (suc n) = omega (arith, ints, zero-*ℤ (g 0), spread_none (λ q. g (suc q)) n)

spread_more : (g : ℕ → ℤ) (f k : ℕ → ℕ) (r n : ℕ) → r < n → k r ≡ suc (f r) → ((q : ℕ) → q ≢ r → k q ≡ f q)
    → spread g k n ≡ (spread g f n +ℤ g r)
spread_more g f k r zero lt one other = absurd (omega (arith, lt))
spread_more g f k zero (suc n) lt one other =
    omega (
      arith,
      ints,
      ap (λ m. pos m *ℤ g 0) one,
      times_one_more (f 0) (g 0),
      spread_same (λ q. g (suc q)) (λ q. k (suc q)) (λ q. f (suc q)) n
          (λ q _. other (suc q) (λ e. absurd (omega (arith, e)))),
    )
spread_more g f k (suc r) (suc n) lt one other =
    omega (
      arith,
      ints,
      ap (λ m. pos m *ℤ g 0) (other 0 (λ e. absurd (omega (arith, e)))),
      spread_more (λ q. g (suc q)) (λ q. f (suc q)) (λ q. k (suc q)) r n (omega (arith, lt)) one
          (λ q ne. other (suc q) (λ e. ne (omega (arith, e)))),
    )

pub count_cons : (p : Pair → Bool) (e : Pair) (es : List Pair) → count_by p (e ∷ es) ≡ bit (p e) + count_by p es
count_cons p e es = sum_by-cons (λ x. bit (p x)) e es

pub here : (a b : ℕ) → a ≡ b → bit (a == b) ≡ 1
here a b e = grind (arith, nat_tests)

pub elsewhere : (a b : ℕ) → a ≢ b → bit (a == b) ≡ 0
elsewhere a b ne = grind (arith, nat_tests)

-- what pairs pay is each price as often as its place has pairs
pub paid : (g : ℕ → ℤ) (place : Pair → ℕ) (n : ℕ) (es : List Pair) → All (λ e. place e < n) es
    → gain (λ e. g (place e)) es ≡ spread g (λ q. count_by (λ e. place e == q) es) n
paid g place n [] h = sym (spread_none g n)
paid g place n (e ∷ es) h =
    omega (
      arith,
      ints,
      paid g place n es (All-tail (λ x. place x < n) e es h),
      spread_more g (λ q. count_by (λ x. place x == q) es) (λ q. count_by (λ x. place x == q) (e ∷ es)) (place e) n
          (All-head (λ x. place x < n) e es h)
          (omega (arith, count_cons (λ x. place x == place e) e es, here (place e) (place e) refl))
          (λ q ne. omega (arith, count_cons (λ x. place x == q) e es, elsewhere (place e) q (λ s. ne (sym s)))),
    )

heavier : (x y b : ℕ) → (0 < b → x ≤ y) → x * b ≤ y * b
heavier x y zero h = omega arith
heavier x y (suc b) h = mul-le-mul_right (suc b) (h (omega arith))

-- no less where each place with a price has no fewer
pub spread_le : (b : ℕ → ℕ) (f k : ℕ → ℕ) (n : ℕ) → ((q : ℕ) → q < n → 0 < b q → f q ≤ k q)
    → spread (λ q. pos (b q)) f n ≤ℤ spread (λ q. pos (b q)) k n
spread_le b f k zero h = omega (arith, ints)
spread_le b f k (suc n) h =
    let x : pos (f 0) *ℤ pos (b 0) ≡ pos (f 0 * b 0) = refl in
    let y : pos (k 0) *ℤ pos (b 0) ≡ pos (k 0 * b 0) = refl in
    omega (
      arith,
      ints,
      x,
      y,
      heavier (f 0) (k 0) (b 0) (h 0 (omega arith)),
      spread_le (λ q. b (suc q)) (λ q. f (suc q)) (λ q. k (suc q)) n (λ q lq. h (suc q) (omega (arith, lq))),
    )

-- all papers have as many
pub spread_whole : (xs : List ℤ) (f : ℕ → ℕ) (want : ℕ) → ((q : ℕ) → q < length xs → f q ≡ want)
    → spread (λ q. get_or xs q (pos 0)) f (length xs) ≡ pos want *ℤ sum_z xs
spread_whole [] f want h = let z : pos want *ℤ pos 0 ≡ pos (want * 0) = refl in omega (arith, ints, z)
spread_whole (x ∷ xs) f want h =
    let l : length (x ∷ xs) ≡ suc (length xs) = refl in
    omega (
      arith,
      ints,
      ap (λ n. pos n *ℤ x) (h 0 (omega (arith, l))),
      times_sum want x (sum_z xs),
      spread_whole xs (λ q. f (suc q)) want (λ q lq. h (suc q) (omega (arith, lq, l))),
    )

whole : (x b load : ℕ) → (0 < b → x ≡ load) → x * b ≡ load * b
whole x zero load h = omega arith
whole x (suc b) load h = ap (λ n. n * suc b) (h (omega arith))

-- members with a price have their load
pub spread_load : (bs : List ℕ) (f : ℕ → ℕ) (load : ℕ) → ((q : ℕ) → q < length bs → 0 < get_or bs q 0 → f q ≡ load)
    → spread (λ q. pos (get_or bs q 0)) f (length bs) ≡ pos (load * sum bs)
spread_load [] f load h = let z : load * 0 ≡ 0 = omega arith in ap (λ n. pos n) (sym z)
spread_load (b ∷ bs) f load h =
    let l : length (b ∷ bs) ≡ suc (length bs) = refl in
    let x : pos (f 0) *ℤ pos b ≡ pos (f 0 * b) = refl in
    let s : load * sum (b ∷ bs) ≡ load * (b + sum bs) = ap (λ n. load * n) (sum_by-cons (λ y. y) b bs) in
    omega (
      arith,
      ints,
      x,
      s,
      whole (f 0) b load (h 0 (omega (arith, l))),
      spread_load bs (λ q. f (suc q)) load (λ q lq. h (suc q) (omega (arith, lq, l))),
    )
