-- SPDX-License-Identifier: Apache-2.0 OR MIT
-- The ties of all rows: what is read of one number, and what becomes of them when one row changes.
use Rattle.std.proofs.Common.{ℕ, Bool, true, false, cond, not, ◌≡◌, ◌≤◌, ◌<◌, ◌+◌, ◌||◌, ◌⊎◌, inl, inr, List, [], ◌∷◌}
use Rattle.std.proofs.Common.{◌++◌, length, get_or, set, eqb, refl, sym, ap, subst, ◌∙◌, arith, zero, suc, Option, Some}
use Rattle.std.specs.Prelude.{nat_lt, map, find}
use Rattle.std.specs.List.{list_all}
use Rattle.std.specs.Option.{option_map}
use Rattle.std.specs.Cmp.Derive.{both_true}
use Rattle.std.proofs.lemmas.Bool.{and_parts, eqb-true, ltb-true, lt-ltb}
use Rattle.std.proofs.lemmas.Bool.Decides.{nat_tests}
use Rattle.std.proofs.lemmas.List.{append-nil, get_or-map, get_or_past, length-map}
use Rattle.std.proofs.lemmas.List.Elements.{filter-append}
use Rattle.std.proofs.Common.{add-zero}
use Rattle.cr_base.specs.declared.pairs.Order.{Order}
use Rattle.cr_base.specs.declared.pairs.Order.TheVariants.{ByPaper, ByUser}
use Rattle.cr_base.specs.declared.pairs.Pair.{Pair}
use Rattle.cr_base.specs.declared.pairs.Tie.{Tie}
use Rattle.cr_base.specs.Pairs.{same_pair, major, comes_before, is_tied, stands, IsAscending, with_tie, without_pair}
use Rattle.cr_base.specs.Pairs.{has_pair, tie_value, ties_of}
use Rattle.cr_base.proofs.PairLaws.{list_all-with_tie, IsAscending-with_tie, IsAscending-without_pair}
use Rattle.cr_base.proofs.SortedLists.{list_all-append, list_all-filter, list_all-weaker}
use Rattle.cr_base.proofs.Small.{eqb-self, eqb-below, eqb-above}
use Rattle.cr_pairs.specs.Seen.{SeenPairs}
use Rattle.cr_pairs.specs.Rows.{ties_in, IsRow, AreRows}

-- ---- pairs of which other numbers lead

apart : (order : Order) (p q : Pair) → eqb (major order p) (major order q) ≡ false → same_pair p q ≡ false
apart ByPaper p q h = grind (arith, nat_tests, h)
apart ByUser p q h = grind (arith, nat_tests, h)

sooner : (order : Order) (p q : Pair) → major order p < major order q → comes_before order p q ≡ true
sooner ByPaper p q h = grind (arith, nat_tests, h)
sooner ByUser p q h = grind (arith, nat_tests, h)

later : (order : Order) (p q : Pair) → major order q < major order p → comes_before order p q ≡ false
later ByPaper p q h = grind (arith, nat_tests, h)
later ByUser p q h = grind (arith, nat_tests, h)

is-number : (n m : ℕ) → eqb n m ≡ true → m ≡ n
is-number n m h = sym (eqb-true n m h)

module _ {V : Type 0} (order : Order) where
  -- all have this number; all have higher ones
  abbrev AllOf : ℕ → List (Tie V) → Type 0
  AllOf n ts = list_all (λ (t : Tie V). eqb n (major order t.pair)) ts ≡ true

  abbrev AllAbove : ℕ → List (Tie V) → Type 0
  AllAbove n ts = list_all (λ (t : Tie V). nat_lt n (major order t.pair)) ts ≡ true

  above-block : (m n : ℕ) (ts rest : List (Tie V)) → m < n → AllOf n ts → AllAbove m rest → AllAbove m (ts ++ rest)
  above-block m n [] rest lt all more = more
  above-block m n (t ∷ ts) rest lt all more =
      let parts =
      and_parts (eqb n (major order t.pair)) (list_all (λ (u : Tie V). eqb n (major order u.pair)) ts) all in
      let here = is-number n (major order t.pair) parts.0 in
      both_true (lt-ltb m (major order t.pair) (omega (arith, here, lt))) (above-block m n ts rest lt parts.1 more)

  rows-above : (m n : ℕ) (rs : List (SeenPairs V)) → m < n → AreRows order n rs → AllAbove m (ties_in rs)
  rows-above m n [] lt h = refl
  rows-above m n (r ∷ rs) lt h =
      above-block m n r.ties (ties_in rs) lt h.0.1 (rows-above m (n + 1) rs (omega arith) h.1)

  -- ---- the order of all

  before-rest : (n : ℕ) (q : Pair) (rest : List (Tie V)) → major order q ≡ n → AllAbove n rest
      → list_all (stands (comes_before order) q) rest ≡ true
  before-rest n q rest is above =
      list_all-weaker (λ (u : Tie V). nat_lt n (major order u.pair)) (stands (comes_before order) q)
      (λ u h. let lt = ltb-true n (major order u.pair) h in sooner order q u.pair (omega (arith, lt, is))) rest above

  ascending-block : (n : ℕ) (ts rest : List (Tie V)) → IsAscending order ts → IsAscending order rest → AllOf n ts
      → AllAbove n rest → IsAscending order (ts ++ rest)
  ascending-block n [] rest up more all above = more
  ascending-block n (t ∷ ts) rest up more all above =
      let parts =
      and_parts (eqb n (major order t.pair)) (list_all (λ (u : Tie V). eqb n (major order u.pair)) ts) all in (
        list_all-append (stands (comes_before order) t.pair) ts rest up.0
            (before-rest n t.pair rest (is-number n (major order t.pair) parts.0) above),
        ascending-block n ts rest up.1 more parts.1 above,
      )

  pub ascending-in : (n : ℕ) (rs : List (SeenPairs V)) → AreRows order n rs → IsAscending order (ties_in rs)
  ascending-in n [] rows = tt
  ascending-in n (r ∷ rs) rows =
      ascending-block n r.ties (ties_in rs) rows.0.2 (ascending-in (n + 1) rs rows.1) rows.0.1
      (rows-above n (n + 1) rs (omega arith) rows.1)

  -- ---- a tie comes in

  past : (s : Tie V) (n : ℕ) (ts rest : List (Tie V)) → n < major order s.pair → AllOf n ts
      → with_tie order s (ts ++ rest) ≡ ts ++ with_tie order s rest
  past s n [] rest lt all = refl
  past s n (t ∷ ts) rest lt all =
      let parts =
      and_parts (eqb n (major order t.pair)) (list_all (λ (u : Tie V). eqb n (major order u.pair)) ts) all in
      let here = is-number n (major order t.pair) parts.0 in
      let more : List (Tie V) = with_tie order s (ts ++ rest) in
      ap
      (λ b. cond b (s ∷ (ts ++ rest)) (cond (stands (comes_before order) s.pair t) (s ∷ t ∷ (ts ++ rest)) (t ∷ more)))
      (apart order s.pair t.pair (eqb-above (major order s.pair) (major order t.pair) (omega (arith, here, lt))))
      ∙ ap (λ b. cond b (s ∷ t ∷ (ts ++ rest)) (t ∷ more)) (later order s.pair t.pair (omega (arith, here, lt)))
      ∙ ap (λ (us : List (Tie V)). t ∷ us) (past s n ts rest lt parts.1)

  ahead : (s : Tie V) (ts : List (Tie V)) → AllAbove (major order s.pair) ts → with_tie order s ts ≡ s ∷ ts
  ahead s [] all = refl
  ahead s (t ∷ ts) all =
      let parts = and_parts (nat_lt (major order s.pair) (major order t.pair))
      (list_all (λ (u : Tie V). nat_lt (major order s.pair) (major order u.pair)) ts) all in
      let lt = ltb-true (major order s.pair) (major order t.pair) parts.0 in
      ap (λ b. cond b (s ∷ ts) (cond (stands (comes_before order) s.pair t) (s ∷ t ∷ ts) (t ∷ with_tie order s ts)))
      (apart order s.pair t.pair (eqb-below (major order s.pair) (major order t.pair) lt))
      ∙ ap (λ b. cond b (s ∷ t ∷ ts) (t ∷ with_tie order s ts)) (sooner order s.pair t.pair lt)

  own : (s : Tie V) (ts rest : List (Tie V)) → AllAbove (major order s.pair) rest
      → with_tie order s (ts ++ rest) ≡ with_tie order s ts ++ rest
  own s [] rest above = ahead s rest above
  own s (t ∷ ts) rest above = by (is_tied s.pair t) (stands (comes_before order) s.pair t) (own s ts rest above)
    where
      by : (same before : Bool) → with_tie order s (ts ++ rest) ≡ with_tie order s ts ++ rest
          → cond same (s ∷ (ts ++ rest)) (cond before (s ∷ t ∷ (ts ++ rest)) (t ∷ with_tie order s (ts ++ rest)))
          ≡ cond same (s ∷ ts) (cond before (s ∷ t ∷ ts) (t ∷ with_tie order s ts)) ++ rest
      by true before h = refl
      by false true h = refl
      by false false h = ap (λ (us : List (Tie V)). t ∷ us) h

  -- into the row of its number
  pub row-with : (s : Tie V) (n i : ℕ) (rs : List (SeenPairs V)) (d e : SeenPairs V) → major order s.pair ≡ n + i
      → i < length rs → AreRows order n rs
      → e.ties ≡ with_tie order s (get_or rs i d).ties → ties_in (set rs i e) ≡ with_tie order s (ties_in rs)
  row-with s n i [] d e is lt rows put = absurd (omega (arith, lt))
  row-with s n zero (r ∷ rs) d e is lt rows put =
      ap (λ (us : List (Tie V)). us ++ ties_in rs) put
      ∙ sym (own s r.ties (ties_in rs) (rows-above (major order s.pair) (n + 1) rs (omega (arith, is)) rows.1))
  row-with s n (suc i) (r ∷ rs) d e is lt rows put =
      ap (λ (us : List (Tie V)). r.ties ++ us)
      (row-with s (n + 1) i rs d e (omega (arith, is)) (omega (arith, lt)) rows.1 put)
      ∙ sym (past s n r.ties (ties_in rs) (omega (arith, is)) rows.0.1)

  -- ---- a pair goes out

  untouched : (q : Pair) (n : ℕ) (ts : List (Tie V)) → eqb (major order q) n ≡ false → AllOf n ts
      → without_pair q ts ≡ ts
  untouched q n [] other all = refl
  untouched q n (t ∷ ts) other all =
      let parts =
      and_parts (eqb n (major order t.pair)) (list_all (λ (u : Tie V). eqb n (major order u.pair)) ts) all in
      let not_it =
      apart order q t.pair (subst (λ (m : ℕ). eqb (major order q) m ≡ false) (eqb-true n (major order t.pair) parts.0)
      other) in
      ap (λ b. cond (not b) (t ∷ without_pair q ts) (without_pair q ts)) not_it
      ∙ ap (λ (us : List (Tie V)). t ∷ us) (untouched q n ts other parts.1)

  pub rows-untouched : (q : Pair) (n : ℕ) (rs : List (SeenPairs V))
      → (major order q < n) ⊎ (n + length rs ≤ major order q) → AreRows order n rs
      → without_pair q (ties_in rs) ≡ ties_in rs
  rows-untouched q n [] away rows = refl
  rows-untouched q n (r ∷ rs) away rows =
      filter-append (λ (t : Tie V). not (is_tied q t)) r.ties (ties_in rs)
      ∙ ap (λ (us : List (Tie V)). us ++ without_pair q (ties_in rs)) (untouched q n r.ties (other away) rows.0.1)
      ∙ ap (λ (us : List (Tie V)). r.ties ++ us) (rows-untouched q (n + 1) rs (on away) rows.1)
    where
      other : (major order q < n) ⊎ (n + length (r ∷ rs) ≤ major order q) → eqb (major order q) n ≡ false
      other (inl h) = eqb-below (major order q) n h
      other (inr h) = eqb-above (major order q) n (omega (arith, h))

      on : (major order q < n) ⊎ (n + length (r ∷ rs) ≤ major order q) → (major order q < n + 1)
          ⊎ (n + 1 + length rs ≤ major order q)
      on (inl h) = inl (omega (arith, h))
      on (inr h) = inr (omega (arith, h))

  pub row-without : (q : Pair) (n i : ℕ) (rs : List (SeenPairs V)) (d e : SeenPairs V) → major order q ≡ n + i
      → AreRows order n rs
      → e.ties ≡ without_pair q (get_or rs i d).ties → ties_in (set rs i e) ≡ without_pair q (ties_in rs)
  row-without q n i [] d e is rows put = refl
  row-without q n zero (r ∷ rs) d e is rows put =
      ap (λ (us : List (Tie V)). us ++ ties_in rs) put
      ∙ ap (λ (us : List (Tie V)). without_pair q r.ties ++ us)
      (sym (rows-untouched q (n + 1) rs (inl (omega (arith, is))) rows.1))
      ∙ sym (filter-append (λ (t : Tie V). not (is_tied q t)) r.ties (ties_in rs))
  row-without q n (suc i) (r ∷ rs) d e is rows put =
      ap (λ (us : List (Tie V)). r.ties ++ us) (row-without q (n + 1) i rs d e (omega (arith, is)) rows.1 put)
      ∙ ap (λ (us : List (Tie V)). us ++ without_pair q (ties_in rs))
      (sym (untouched q n r.ties (eqb-above (major order q) n (omega (arith, is))) rows.0.1))
      ∙ sym (filter-append (λ (t : Tie V). not (is_tied q t)) r.ties (ties_in rs))

  -- ---- what is read of a number

  all-own : (n : ℕ) (ts : List (Tie V)) → AllOf n ts → ties_of order n ts ≡ ts
  all-own n [] all = refl
  all-own n (t ∷ ts) all =
      let parts =
      and_parts (eqb n (major order t.pair)) (list_all (λ (u : Tie V). eqb n (major order u.pair)) ts) all in
      ap (λ b. cond b (t ∷ ties_of order n ts) (ties_of order n ts)) parts.0
      ∙ ap (λ (us : List (Tie V)). t ∷ us) (all-own n ts parts.1)

  none-own : (m n : ℕ) (ts : List (Tie V)) → eqb m n ≡ false → AllOf n ts → ties_of order m ts ≡ []
  none-own m n [] other all = refl
  none-own m n (t ∷ ts) other all =
      let parts =
      and_parts (eqb n (major order t.pair)) (list_all (λ (u : Tie V). eqb n (major order u.pair)) ts) all in
      ap (λ b. cond b (t ∷ ties_of order m ts) (ties_of order m ts))
      (subst (λ (k : ℕ). eqb m k ≡ false) (eqb-true n (major order t.pair) parts.0) other)
      ∙ none-own m n ts other parts.1

  none-behind : (m n : ℕ) (rs : List (SeenPairs V)) → m < n → AreRows order n rs → ties_of order m (ties_in rs) ≡ []
  none-behind m n [] lt rows = refl
  none-behind m n (r ∷ rs) lt rows =
      filter-append (λ (t : Tie V). eqb m (major order t.pair)) r.ties (ties_in rs)
      ∙ ap (λ (us : List (Tie V)). us ++ ties_of order m (ties_in rs)) (none-own m n r.ties (eqb-below m n lt) rows.0.1)
      ∙ none-behind m (n + 1) rs (omega (arith, lt)) rows.1

  -- those of the row at the number's place; none, where there is no such row
  pub of-row : (m n i : ℕ) (rs : List (SeenPairs V)) → m ≡ n + i → AreRows order n rs
      → ties_of order m (ties_in rs) ≡ get_or (map (λ (r : SeenPairs V). r.ties) rs) i []
  of-row m n i [] is rows = refl
  of-row m n zero (r ∷ rs) is rows =
      let here : n ≡ m = omega (arith, is) in
      filter-append (λ (t : Tie V). eqb m (major order t.pair)) r.ties (ties_in rs)
      ∙ ap (λ (us : List (Tie V)). us ++ ties_of order m (ties_in rs))
      (all-own m r.ties (subst (λ (k : ℕ). AllOf k r.ties) here rows.0.1))
      ∙ ap (λ (us : List (Tie V)). r.ties ++ us) (none-behind m (n + 1) rs (omega (arith, here)) rows.1)
      ∙ append-nil r.ties
  of-row m n (suc i) (r ∷ rs) is rows =
      filter-append (λ (t : Tie V). eqb m (major order t.pair)) r.ties (ties_in rs)
      ∙ ap (λ (us : List (Tie V)). us ++ ties_of order m (ties_in rs))
      (none-own m n r.ties (eqb-above m n (omega (arith, is))) rows.0.1)
      ∙ of-row m (n + 1) i rs (omega (arith, is)) rows.1

  -- whether a pair is there, and what is kept of it, is told by those of its number
  pub has_pair-own : (q : Pair) (ts : List (Tie V)) → has_pair q (ties_of order (major order q) ts) ≡ has_pair q ts
  has_pair-own q [] = refl
  has_pair-own q (t ∷ ts) = by (eqb (major order q) (major order t.pair)) refl (has_pair-own q ts)
    where
      by : (b : Bool) → eqb (major order q) (major order t.pair) ≡ b
          → has_pair q (ties_of order (major order q) ts) ≡ has_pair q ts
          → has_pair q (cond b (t ∷ ties_of order (major order q) ts) (ties_of order (major order q) ts))
          ≡ (is_tied q t || has_pair q ts)
      by true is rest = ap (λ b. is_tied q t || b) rest
      by false is rest = rest ∙ ap (λ b. b || has_pair q ts) (sym (apart order q t.pair is))

  pub tie_value-own : (q : Pair) (ts : List (Tie V)) → tie_value q (ties_of order (major order q) ts) ≡ tie_value q ts
  tie_value-own q ts = ap (λ (o : Option (Tie V)). option_map (λ (t : Tie V). t.value) o) (found ts)
    where
      found : (us : List (Tie V)) → find (is_tied q) (ties_of order (major order q) us) ≡ find (is_tied q) us
      found [] = refl
      found (t ∷ us) = by (eqb (major order q) (major order t.pair)) refl (found us)
        where
          by : (b : Bool) → eqb (major order q) (major order t.pair) ≡ b
              → find (is_tied q) (ties_of order (major order q) us) ≡ find (is_tied q) us
              → find (is_tied q) (cond b (t ∷ ties_of order (major order q) us) (ties_of order (major order q) us))
              ≡ cond (is_tied q t) (Some t) (find (is_tied q) us)
          by true is rest = ap (λ (o : Option (Tie V)). cond (is_tied q t) (Some t) o) rest
          by false is rest = rest ∙ ap (λ b. cond b (Some t) (find (is_tied q) us)) (sym (apart order q t.pair is))

  -- ---- rows stay rows

  pub rows-set : (n i : ℕ) (rs : List (SeenPairs V)) (e : SeenPairs V) → IsRow order (n + i) e → AreRows order n rs
      → AreRows order n (set rs i e)
  rows-set n i [] e row rows = rows
  rows-set n zero (r ∷ rs) e row rows = (subst (λ (m : ℕ). IsRow order m e) (add-zero n) row, rows.1)
  rows-set n (suc i) (r ∷ rs) e row rows =
      (rows.0, rows-set (n + 1) i rs e (subst (λ (m : ℕ). IsRow order m e) (on n i) row) rows.1)
    where
      on : (m k : ℕ) → m + suc k ≡ m + 1 + k
      on m k = omega arith

  pub row-at : (n i : ℕ) (rs : List (SeenPairs V)) (d : SeenPairs V) → i < length rs → AreRows order n rs
      → IsRow order (n + i) (get_or rs i d)
  row-at n i [] d lt rows = absurd (omega (arith, lt))
  row-at n zero (r ∷ rs) d lt rows = subst (λ (m : ℕ). IsRow order m r) (plain n) rows.0
    where
      plain : (m : ℕ) → m ≡ m + 0
      plain m = omega arith
  row-at n (suc i) (r ∷ rs) d lt rows =
      subst (λ (m : ℕ). IsRow order m (get_or rs i d)) (on n i) (row-at (n + 1) i rs d (omega (arith, lt)) rows.1)
    where
      on : (m k : ℕ) → m + 1 + k ≡ m + suc k
      on m k = omega arith

  pub rows-behind : (n : ℕ) (rs : List (SeenPairs V)) (e : SeenPairs V) → e.order ≡ order → e.ties ≡ []
      → AreRows order n rs → AreRows order n (rs ++ e ∷ [])
  rows-behind n [] e in_order none rows = (
    (
      in_order,
      ap (λ (us : List (Tie V)). list_all (λ (t : Tie V). eqb n (major order t.pair)) us) none,
      subst (λ (us : List (Tie V)). IsAscending order us) (sym none) tt,
    ),
    tt,
  )
  rows-behind n (r ∷ rs) e in_order none rows = (rows.0, rows-behind (n + 1) rs e in_order none rows.1)

module _ {V : Type 0} where
  pub ties-behind : (rs : List (SeenPairs V)) (e : SeenPairs V) → e.ties ≡ [] → ties_in (rs ++ e ∷ []) ≡ ties_in rs
  ties-behind [] e none = ap (λ (us : List (Tie V)). us ++ []) none
  ties-behind (r ∷ rs) e none = ap (λ (us : List (Tie V)). r.ties ++ us) (ties-behind rs e none)

  pub ties-same : (i : ℕ) (rs : List (SeenPairs V)) (d e : SeenPairs V) → e.ties ≡ (get_or rs i d).ties
      → ties_in (set rs i e) ≡ ties_in rs
  ties-same i [] d e same = refl
  ties-same zero (r ∷ rs) d e same = ap (λ (us : List (Tie V)). us ++ ties_in rs) same
  ties-same (suc i) (r ∷ rs) d e same = ap (λ (us : List (Tie V)). r.ties ++ us) (ties-same i rs d e same)

  -- ---- as the code reads and writes a row

  pub seen-row : (order : Order) (m i : ℕ) (rs read : List (SeenPairs V)) (d : SeenPairs V) → i ≡ m → read ≡ rs
      → i < length read → d ≡ get_or read i d → AreRows order 0 rs
      → d.ties ≡ ties_of order m (ties_in rs)
  seen-row order m i rs read d at same lt is rows =
      ap (λ (r : SeenPairs V). r.ties) is
      ∙ sym (get_or-map (λ (r : SeenPairs V). r.ties) read i d [] lt)
      ∙ ap (λ (us : List (SeenPairs V)). get_or (map (λ (r : SeenPairs V). r.ties) us) i []) same
      ∙ sym (of-row order m 0 i rs (omega (arith, at)) rows)

  pub no-row : (order : Order) (m i : ℕ) (rs read : List (SeenPairs V)) → i ≡ m → read ≡ rs → length read ≤ i
      → AreRows order 0 rs → [] ≡ ties_of order m (ties_in rs)
  no-row order m i rs read at same le rows =
      let texts = map (λ (r : SeenPairs V). r.ties) rs in
      let long : length texts ≤ i = subst (λ (n : ℕ). n ≤ i) (sym (length-map rs (λ (r : SeenPairs V). r.ties)))
      (subst (λ (us : List (SeenPairs V)). length us ≤ i) same le) in
      sym (of-row order m 0 i rs (omega (arith, at)) rows ∙ get_or_past texts i [] long)

  module _ (order : Order) (i : ℕ) (rs : List (SeenPairs V)) (row e d : SeenPairs V) (lt : i < length rs)
      (is : row ≡ get_or rs i d) (rows : AreRows order 0 rs) (in_order : e.order ≡ row.order) where
    facts : IsRow order (0 + i) row
    facts = subst (λ (r : SeenPairs V). IsRow order (0 + i) r) (sym is) (row-at order 0 i rs d lt rows)

    pub inserted : (s : Tie V) → i ≡ major order s.pair → e.ties ≡ with_tie row.order s row.ties
        → (ties_in (set rs i e) ≡ with_tie order s (ties_in rs)) × AreRows order 0 (set rs i e)
    inserted s at put =
        let here : 0 + i ≡ major order s.pair = omega (arith, at) in
        let by_order = put ∙ ap (λ (o : Order). with_tie o s row.ties) facts.0 in
        let first = subst (λ (n : ℕ). eqb (0 + i) n ≡ true) here (eqb-self (0 + i)) in (
          row-with order s 0 i rs d e (sym here) lt rows
              (by_order ∙ ap (λ (r : SeenPairs V). with_tie order s r.ties) is),
          rows-set order 0 i rs e (
            in_order ∙ facts.0,
            subst (λ (us : List (Tie V)). list_all (λ (t : Tie V). eqb (0 + i) (major order t.pair)) us ≡ true)
                (sym by_order)
                (list_all-with_tie order (λ (t : Tie V). eqb (0 + i) (major order t.pair)) s row.ties first facts.1),
            subst (λ (us : List (Tie V)). IsAscending order us) (sym by_order)
                (IsAscending-with_tie order s row.ties facts.2),
          ) rows,
        )

    pub removed : (q : Pair) → i ≡ major order q → e.ties ≡ without_pair q row.ties
        → (ties_in (set rs i e) ≡ without_pair q (ties_in rs)) × AreRows order 0 (set rs i e)
    removed q at put = (
      row-without order q 0 i rs d e (omega (arith, at)) rows
          (put ∙ ap (λ (r : SeenPairs V). without_pair q r.ties) is),
      rows-set order 0 i rs e (
        in_order ∙ facts.0,
        subst (λ (us : List (Tie V)). list_all (λ (t : Tie V). eqb (0 + i) (major order t.pair)) us ≡ true) (sym put)
            (list_all-filter (λ (t : Tie V). eqb (0 + i) (major order t.pair)) (λ (t : Tie V). not (is_tied q t))
            row.ties facts.1),
        subst (λ (us : List (Tie V)). IsAscending order us) (sym put)
            (IsAscending-without_pair order q row.ties facts.2),
      ) rows,
    )

    pub roomed : e.ties ≡ row.ties → (ties_in (set rs i e) ≡ ties_in rs) × AreRows order 0 (set rs i e)
    roomed same = (
      ties-same i rs d e (same ∙ ap (λ (r : SeenPairs V). r.ties) is),
      rows-set order 0 i rs e (
        in_order ∙ facts.0,
        subst (λ (us : List (Tie V)). list_all (λ (t : Tie V). eqb (0 + i) (major order t.pair)) us ≡ true) (sym same)
            facts.1,
        subst (λ (us : List (Tie V)). IsAscending order us) (sym same) facts.2,
      ) rows,
    )
