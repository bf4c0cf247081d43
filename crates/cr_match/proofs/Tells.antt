-- SPDX-License-Identifier: Apache-2.0 OR MIT
-- Lists that are told one by one.
use Rattle.cr_match.proofs.Common.{◌≡◌, ◌⊎◌, inl, inr, ℕ, suc, ◌+◌, ◌<◌, ◌≤◌, ◌==◌, ◌||◌, Bool, true, false, List, ◌∷◌}
use Rattle.cr_match.proofs.Common.{◌++◌, length, get_or, drop, map, refl, arith, ap, sym, ◌∙◌, subst, cases_eq, eq-eqb}
use Rattle.cr_match.proofs.Common.{eqb-true, nat_tests, Pair, kept, Has, among, DistinctBelow, zero_pair, []}
use Rattle.std.proofs.Common.{append_assoc, drop-cons}
use Rattle.std.proofs.Math.Bool.{or_assoc}
use Rattle.std.proofs.lemmas.Bool.{ne_eqb}
use Rattle.cr_match.specs.Tell.{AreThose}

pub drop_at : {A : Type 0} (xs : List A) (j : ℕ) (d : A) → j < length xs → drop j xs ≡ get_or xs j d ∷ drop (j + 1) xs
drop_at {A} xs j d lt =
    let e : suc j ≡ j + 1 = omega arith in drop-cons xs j d lt ∙ ap (λ k. get_or xs j d ∷ drop k xs) e

pub kept_length : (bs : List Bool) (es : List Pair) → length (kept bs es) ≤ length es
kept_length [] [] = omega arith
kept_length [] (e ∷ es) = omega arith
kept_length (b ∷ bs) [] = omega arith
kept_length (true ∷ bs) (e ∷ es) =
    let l : length (e ∷ es) ≡ suc (length es) = refl in
    let k : length (e ∷ kept bs es) ≡ suc (length (kept bs es)) = refl in
    omega (arith, l, k, kept_length bs es)
kept_length (false ∷ bs) (e ∷ es) =
    let l : length (e ∷ es) ≡ suc (length es) = refl in omega (arith, l, kept_length bs es)

-- the pairs that are held, one more

rest_is : (h : Pair → Bool) (es : List Pair) (i : ℕ) → i < length es → kept (map h (drop i es)) (drop i es)
    ≡ kept (h (get_or es i zero_pair) ∷ map h (drop (i + 1) es)) (get_or es i zero_pair ∷ drop (i + 1) es)
rest_is h es i lt = ap (λ (x : List Pair). kept (map h x) x) (drop_at es i zero_pair lt)

pub pair_in : (h : Pair → Bool) (out es : List Pair) (i : ℕ) → i < length es → h (get_or es i zero_pair) ≡ true
    → (out ++ get_or es i zero_pair ∷ []) ++ kept (map h (drop (i + 1) es)) (drop (i + 1) es)
    ≡ out ++ kept (map h (drop i es)) (drop i es)
pair_in h out es i lt has =
    append_assoc out (get_or es i zero_pair ∷ []) (kept (map h (drop (i + 1) es)) (drop (i + 1) es))
    ∙ ap (λ (x : List Pair). out ++ x) (sym (rest_is h es i lt ∙ ap (λ (c : Bool).
    kept (c ∷ map h (drop (i + 1) es)) (get_or es i zero_pair ∷ drop (i + 1) es)) has))

pub pair_out : (h : Pair → Bool) (out es : List Pair) (i : ℕ) → i < length es → h (get_or es i zero_pair) ≡ false
    → out ++ kept (map h (drop (i + 1) es)) (drop (i + 1) es) ≡ out ++ kept (map h (drop i es)) (drop i es)
pair_out h out es i lt lacks = ap (λ (x : List Pair). out ++ x) (sym (rest_is h es i lt ∙ ap (λ (c : Bool).
    kept (c ∷ map h (drop (i + 1) es)) (get_or es i zero_pair ∷ drop (i + 1) es)) lacks))

-- the places that a set has, one more

among_more : (xs : List ℕ) (n q : ℕ) → among (xs ++ n ∷ []) q ≡ (among xs q || (q == n))
among_more [] n q = grind (arith, nat_tests)
among_more (x ∷ xs) n q =
    ap (λ (c : Bool). (q == x) || c) (among_more xs n q) ∙ sym (or_assoc (q == x) (among xs q) (q == n))

distinct_on : (n : ℕ) (xs : List ℕ) → DistinctBelow n xs → DistinctBelow (n + 1) xs
distinct_on n [] h = tt
distinct_on n (x ∷ xs) h = (omega (arith, h.0), h.1, distinct_on n xs h.2)

not_among : (n : ℕ) (xs : List ℕ) → DistinctBelow n xs → among xs n ≡ false
not_among n [] h = refl
not_among n (x ∷ xs) h =
    ap (λ (c : Bool). c || among xs n) (ne_eqb n x (λ e. absurd (omega (arith, e, h.0)))) ∙ not_among n xs h.2

distinct_more : (n : ℕ) (xs : List ℕ) → DistinctBelow n xs → DistinctBelow (n + 1) (xs ++ n ∷ [])
distinct_more n [] h = (omega arith, refl, tt)
distinct_more n (x ∷ xs) h = (
  omega (arith, h.0),
  among_more xs n x ∙ ap (λ (c : Bool). c || (x == n)) h.1 ∙ ne_eqb x n (λ e. absurd (omega (arith, e, h.0))),
  distinct_more n xs h.2,
)

pub place_in : (s xs : List ℕ) (n : ℕ) → AreThose s n xs → Has s n → AreThose s (n + 1) (xs ++ n ∷ [])
place_in s xs n h has = record {
  distinct = distinct_more n xs h.distinct;
  all = λ q. (
    (λ is. elim (either (among xs q) (q == n) (sym (among_more xs n q) ∙ is)) [
      | inl old ↦ let k = (h.all q).0 old in (omega (arith, k.0), k.1)
      | inr new ↦ let e = eqb-true q n new in (omega (arith, e), subst (Has s) (sym e) has)
    ]),
    (λ k. among_more xs n q ∙ elim (cases_eq q n) [
      | inl e ↦ last (among xs q) (q == n) (eq-eqb q n e)
      | inr ne ↦ ap (λ (c : Bool). c || (q == n)) ((h.all q).1 (omega (arith, k.0, ne), k.1))
    ]),
  );
}
  where
    either : (a b : Bool) → (a || b) ≡ true → (a ≡ true) ⊎ (b ≡ true)
    either true b e = inl refl
    either false b e = inr e

    last : (a b : Bool) → b ≡ true → (a || b) ≡ true
    last true b e = refl
    last false b e = e

pub place_out : (s xs : List ℕ) (n : ℕ) → AreThose s n xs → (Has s n → ⊥) → AreThose s (n + 1) xs
place_out s xs n h none = record {
  distinct = distinct_on n xs h.distinct;
  all = λ q. (
    (λ is. let k = (h.all q).0 is in (omega (arith, k.0), k.1)),
    (λ k. elim (cases_eq q n) [
      | inl e ↦ absurd (none (subst (Has s) e k.1))
      | inr ne ↦ (h.all q).1 (omega (arith, k.0, ne), k.1)
    ]),
  );
}
