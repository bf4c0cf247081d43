-- SPDX-License-Identifier: Apache-2.0 OR MIT
-- A number or a field that is read is the one that was written, and what was written is read again.
use Rattle.std.proofs.Common.{◌≡◌, ℕ, ◌+◌, ◌^◌, ◌<◌, ◌≤◌, Bool, true, false, cond, ltb, List, ◌++◌, length, get_or}
use Rattle.std.proofs.Common.{take, drop, Option, Some, None, refl, sym, ap, subst, ◌∙◌, append_assoc, arith, inl, inr}
use Rattle.std.specs.Int.{w64, from_be_bytes}
use Rattle.std.proofs.lemmas.Bool.{cases_lt, ltb-false, le-ltb}
use Rattle.std.proofs.lemmas.List.{take_at, drop_at, take-append-drop, length-append, length-take, length-take-le}
use Rattle.std.proofs.lemmas.List.{get_or-drop, get_or-take, get_or_past}
use Rattle.std.proofs.lemmas.Nat.{be_bytes_8, from_be_bytes-to_be_bytes_8}
use Rattle.cr_journal.specs.Grammar.{field, number}
use Rattle.cr_journal.specs.Reading.{◌>>=◌, number_at, front_of, field_at}

abbrev pub IsBytes : List ℕ → Type 0
IsBytes bytes = (i : ℕ) → get_or bytes i 0 < 256

IsBytes-drop : (n : ℕ) (bytes : List ℕ) → IsBytes bytes → IsBytes (drop n bytes)
IsBytes-drop n bytes h i = rw get_or-drop (h (n + i))

IsBytes-take : (n : ℕ) (bytes : List ℕ) → IsBytes bytes → IsBytes (take n bytes)
IsBytes-take n bytes h i =
    elim (cases_lt i n) [
      | inl lt ↦ rw (get_or-take n bytes i 0 lt) (h i)
      | inr le ↦ rw (get_or_past (take n bytes) i 0 (omega (arith, length-take n bytes))) (omega arith)
    ]

-- the value of a step that gave one
pub bind_some : {A B : Type 0} (r : Option A) (f : A → Option B) (y : B) → (r >>= f) ≡ Some y → (x : A) × (r ≡ Some x)
    × (f x ≡ Some y)
bind_some (Some x) f y e = (x, refl, e)
bind_some None f y e = absurd cc

guard_some : {A : Type 0} (b : Bool) (x y : A) → cond b None (Some x) ≡ Some y → (b ≡ false) × (x ≡ y)
guard_some true x y e = absurd cc
guard_some false x y e = (refl, cc)

abbrev given : {A : Type 0} → A → Option A
given x = Some x

pub some_is : {A : Type 0} (x y : A) → given x ≡ given y → x ≡ y
some_is x y e = cc

-- what a reader took from the front
pub record Takes (bytes text rest : List ℕ) : Type 0 where
  pub parts : bytes ≡ text ++ rest
  pub rest_fits : IsBytes rest

pub Takes-then : (a x b y c : List ℕ) → Takes a x b → Takes b y c → Takes a (x ++ y) c
Takes-then a x b y c p q =
    record { parts = p.parts ∙ ap (λ (t : List ℕ). x ++ t) q.parts ∙ sym (append_assoc x y c); rest_fits = q.rest_fits }

-- ---- numbers

pub length-number : (n : ℕ) → length (number n) ≡ 8
unfolding number
length-number n = refl

number_back : (bytes : List ℕ) → length bytes ≡ 8 → IsBytes bytes → number (from_be_bytes w64 bytes) ≡ bytes
unfolding number
number_back bytes len fits = be_bytes_8 bytes _ len fits refl

number_below : (bytes : List ℕ) → IsBytes bytes → from_be_bytes w64 bytes < 2 ^ 64
number_below bytes fits = omega (arith, fits 0, fits 1, fits 2, fits 3, fits 4, fits 5, fits 6, fits 7)

pub number_value : (n : ℕ) → n < 2 ^ 64 → from_be_bytes w64 (number n) ≡ n
unfolding number
number_value n lt = from_be_bytes-to_be_bytes_8 n lt

pub number_takes : (bytes : List ℕ) (n : ℕ) (rest : List ℕ) → IsBytes bytes → number_at bytes ≡ Some (n, rest)
    → Takes bytes (number n) rest × (n < 2 ^ 64)
unfolding number_at
number_takes bytes n rest fits e =
    let g = guard_some (ltb (length bytes) 8) (from_be_bytes w64 (take 8 bytes), drop 8 bytes) (n, rest) e in
    let enough : 8 ≤ length bytes = ltb-false (length bytes) 8 g.0 in
    let size : length (take 8 bytes) ≡ 8 = length-take-le 8 bytes enough in
    let front = IsBytes-take 8 bytes fits in
    subst (λ (x : ℕ × List ℕ). Takes bytes (number x.0) x.1 × (x.0 < 2 ^ 64)) g.1 (
      record {
        parts = sym (take-append-drop 8 bytes) ∙ ap (λ (l : List ℕ). l ++ drop 8 bytes)
            (sym (number_back (take 8 bytes) size front));
        rest_fits = IsBytes-drop 8 bytes fits;
      },
      number_below (take 8 bytes) front,
    )

pub number_again : (n : ℕ) (rest : List ℕ) → n < 2 ^ 64 → number_at (number n ++ rest) ≡ Some (n, rest)
unfolding number_at
number_again n rest lt =
    let enough : ltb (length (number n ++ rest)) 8 ≡ false =
    le-ltb (length (number n ++ rest)) 8 (omega (arith, length-append (number n) rest, length-number n)) in
    let front : take 8 (number n ++ rest) ≡ number n = take_at (number n) rest 8 (length-number n) in
    let behind : drop 8 (number n ++ rest) ≡ rest = drop_at (number n) rest 8 (length-number n) in
    rw (enough, front, behind, number_value n lt) refl

-- ---- bytes behind their length

pub front_takes : (n : ℕ) (bytes text rest : List ℕ) → IsBytes bytes → front_of n bytes ≡ Some (text, rest)
    → Takes bytes text rest × (length text ≡ n)
front_takes n bytes text rest fits e =
    let g = guard_some (ltb (length bytes) n) (take n bytes, drop n bytes) (text, rest) e in
    let enough : n ≤ length bytes = ltb-false (length bytes) n g.0 in
    subst (λ (x : List ℕ × List ℕ). Takes bytes x.0 x.1 × (length x.0 ≡ n)) g.1 (
      record { parts = sym (take-append-drop n bytes); rest_fits = IsBytes-drop n bytes fits },
      length-take-le n bytes enough,
    )

pub front_again : (text rest : List ℕ) → front_of (length text) (text ++ rest) ≡ Some (text, rest)
front_again text rest =
    let enough : ltb (length (text ++ rest)) (length text) ≡ false =
    le-ltb (length (text ++ rest)) (length text) (omega (arith, length-append text rest)) in
    rw (enough, take_at text rest (length text) refl, drop_at text rest (length text) refl) refl

pub field_takes : (bytes text rest : List ℕ) → IsBytes bytes → field_at bytes ≡ Some (text, rest)
    → Takes bytes (field text) rest × (length text < 2 ^ 64)
unfolding field_at
field_takes bytes text rest fits e =
    let a = bind_some (number_at bytes) (λ n. front_of n.0 n.1) (text, rest) e in
    let t0 = number_takes bytes a.0.0 a.0.1 fits a.1 in
    let t1 = front_takes a.0.0 a.0.1 text rest t0.0.rest_fits a.2 in
    let both = Takes-then bytes (number a.0.0) a.0.1 text rest t0.0 t1.0 in
    (subst (λ (n : ℕ). Takes bytes (number n ++ text) rest) (sym t1.1) both, omega (arith, t0.1, t1.1))

pub field_again : (text rest : List ℕ) → length text < 2 ^ 64 → field_at (field text ++ rest) ≡ Some (text, rest)
unfolding field_at
field_again text rest lt =
    ap (λ (l : List ℕ). number_at l >>= λ n. front_of n.0 n.1) (append_assoc (number (length text)) text rest)
    ∙ ap (λ (o : Option (ℕ × List ℕ)). o >>= λ n. front_of n.0 n.1) (number_again (length text) (text ++ rest) lt)
    ∙ front_again text rest
