-- SPDX-License-Identifier: Apache-2.0 OR MIT
-- What a pair's index says of the list: whether it is there, what is kept of it, and what the list is with it and
-- without it.
use Rattle.std.proofs.Common.{ℕ, Bool, true, false, cond, not, ◌||◌, ◌≡◌, List, [], ◌∷◌, get_or, set, Some, None}
use Rattle.std.proofs.Common.{Result, Ok, Err, is_ok, MatchResult, zero, suc, refl, sym, ap, subst, ◌∙◌, arith}
use Rattle.std.specs.Prelude.{find}
use Rattle.std.specs.List.{list_all, insert, remove}
use Rattle.std.specs.Option.{option_map}
use Rattle.std.proofs.lemmas.Bool.{and_parts, or_parts}
use Rattle.std.proofs.lemmas.Bool.Decides.{nat_tests}
use Rattle.std.proofs.Math.Bool.{or-true}
use Rattle.cr_base.specs.declared.pairs.Order.{Order}
use Rattle.cr_base.specs.declared.pairs.Order.TheVariants.{ByPaper, ByUser}
use Rattle.cr_base.specs.declared.pairs.Pair.{Pair}
use Rattle.cr_base.specs.declared.pairs.Tie.{Tie}
use Rattle.cr_base.specs.Pairs.{same_pair, comes_before, is_tied, stands, IsAscending, with_tie, without_pair, has_pair}
use Rattle.cr_base.specs.Pairs.{tie_value}
use Rattle.cr_base.proofs.PairLaws.{same_pair-refl, same_pair-is, comes_before-not_same, IsAscending-with_tie}
use Rattle.cr_base.proofs.PairLaws.{IsAscending-without_pair}
use Rattle.cr_base.proofs.Small.{or_second}
use Rattle.cr_pairs.specs.BinarySearch.{IsAt, IsGapFor}

not_before : (order : Order) (q p : Pair) → comes_before order p q ≡ true → comes_before order q p ≡ false
not_before ByPaper q p h = grind (arith, nat_tests)
not_before ByUser q p h = grind (arith, nat_tests)

not_same : (order : Order) (q p : Pair) → comes_before order p q ≡ true → same_pair q p ≡ false
not_same ByPaper q p h = grind (arith, nat_tests)
not_same ByUser q p h = grind (arith, nat_tests)

module _ {V : Type 0} where
  -- the list stays as it is without a pair that isn't there
  without_pair-absent : (q : Pair) (ts : List (Tie V)) → has_pair q ts ≡ false → without_pair q ts ≡ ts
  without_pair-absent q [] absent = refl
  without_pair-absent q (t ∷ ts) absent =
      let parts = or_parts (is_tied q t) (has_pair q ts) absent in
      ap (λ b. cond (not b) (t ∷ without_pair q ts) (without_pair q ts)) parts.0
      ∙ ap (λ (rest : List (Tie V)). t ∷ rest) (without_pair-absent q ts parts.1)

  -- ---- the pair stands at an index

  at_tail : (q : Pair) (t : Tie V) (ts : List (Tie V)) (index : ℕ) → IsAt q (t ∷ ts) (suc index) → IsAt q ts index
  at_tail q t ts index at = record { in_range = omega (arith, at.in_range); is = at.is }

  at-has_pair : (q : Pair) (ts : List (Tie V)) (index : ℕ) → IsAt q ts index → has_pair q ts ≡ true
  at-has_pair q [] index at = absurd (omega (arith, at.in_range))
  at-has_pair q (t ∷ ts) zero at =
      ap (λ (x : Pair). same_pair q x || has_pair q ts) (at.is t) ∙ ap (λ b. b || has_pair q ts) (same_pair-refl q)
  at-has_pair q (t ∷ ts) (suc index) at =
      ap (λ b. is_tied q t || b) (at-has_pair q ts index (at_tail q t ts index at)) ∙ or-true (is_tied q t)

  -- what comes before each pair comes before one that is there
  before_there : (order : Order) (p q : Pair) (ts : List (Tie V)) → list_all (stands (comes_before order) p) ts ≡ true
      → has_pair q ts ≡ true → comes_before order p q ≡ true
  before_there order p q [] all there = absurd (cc)
  before_there order p q (t ∷ ts) all there =
      let parts = and_parts (comes_before order p t.pair) (list_all (stands (comes_before order) p) ts) all in
      by (is_tied q t) refl parts.0 (before_there order p q ts parts.1)
    where
      by : (same : Bool) → is_tied q t ≡ same → comes_before order p t.pair ≡ true
          → (has_pair q ts ≡ true → comes_before order p q ≡ true) → comes_before order p q ≡ true
      by true is here rest = subst (λ (x : Pair). comes_before order p x ≡ true) (sym (same_pair-is q t.pair is)) here
      by false is here rest = rest (or_second (is_tied q t) (has_pair q ts) there is)

  -- the pair of the first tie isn't the one that stands behind it
  first_other : (order : Order) (q : Pair) (t : Tie V) (ts : List (Tie V)) (index : ℕ) → IsAscending order (t ∷ ts)
      → IsAt q (t ∷ ts) (suc index) → comes_before order t.pair q ≡ true
  first_other order q t ts index up at =
      before_there order t.pair q ts up.0 (at-has_pair q ts index (at_tail q t ts index at))

  -- a pair that comes before each of the list isn't there
  absent_behind : (order : Order) (q : Pair) (ts : List (Tie V)) → list_all (stands (comes_before order) q) ts ≡ true
      → has_pair q ts ≡ false
  absent_behind order q [] all = refl
  absent_behind order q (t ∷ ts) all =
      let parts = and_parts (comes_before order q t.pair) (list_all (stands (comes_before order) q) ts) all in
      ap (λ b. b || has_pair q ts) (comes_before-not_same order q t.pair parts.0) ∙ absent_behind order q ts parts.1

  -- what is kept of it is what stands there
  at-value : (order : Order) (q : Pair) (ts : List (Tie V)) (index : ℕ) (d : Tie V) → IsAscending order ts
      → IsAt q ts index → tie_value q ts ≡ Some (get_or ts index d).value
  at-value order q [] index d up at = absurd (omega (arith, at.in_range))
  at-value order q (t ∷ ts) zero d up at =
      ap (λ b. option_map (λ (x : Tie V). x.value) (cond b (Some t) (find (is_tied q) ts)))
      (ap (same_pair q) (at.is t) ∙ same_pair-refl q)
  at-value order q (t ∷ ts) (suc index) d up at =
      ap (λ b. option_map (λ (x : Tie V). x.value) (cond b (Some t) (find (is_tied q) ts)))
      (not_same order q t.pair (first_other order q t ts index up at))
      ∙ at-value order q ts index d up.1 (at_tail q t ts index at)

  -- with a tie of the pair, that one stands there
  at-with_tie : (order : Order) (s : Tie V) (ts : List (Tie V)) (index : ℕ) → IsAscending order ts
      → IsAt s.pair ts index → with_tie order s ts ≡ set ts index s
  at-with_tie order s [] index up at = absurd (omega (arith, at.in_range))
  at-with_tie order s (t ∷ ts) zero up at =
      ap (λ b. cond b (s ∷ ts) (cond (comes_before order s.pair t.pair) (s ∷ t ∷ ts) (t ∷ with_tie order s ts)))
      (ap (same_pair s.pair) (at.is t) ∙ same_pair-refl s.pair)
  at-with_tie order s (t ∷ ts) (suc index) up at =
      let first = first_other order s.pair t ts index up at in
      ap (λ b. cond b (s ∷ ts) (cond (comes_before order s.pair t.pair) (s ∷ t ∷ ts) (t ∷ with_tie order s ts)))
      (not_same order s.pair t.pair first)
      ∙ ap (λ b. cond b (s ∷ t ∷ ts) (t ∷ with_tie order s ts)) (not_before order s.pair t.pair first)
      ∙ ap (λ (rest : List (Tie V)). t ∷ rest) (at-with_tie order s ts index up.1 (at_tail s.pair t ts index at))

  -- without the pair, the others close up
  at-without_pair : (order : Order) (q : Pair) (ts : List (Tie V)) (index : ℕ) → IsAscending order ts → IsAt q ts index
      → without_pair q ts ≡ remove ts index
  at-without_pair order q [] index up at = absurd (omega (arith, at.in_range))
  at-without_pair order q (t ∷ ts) zero up at =
      ap (λ b. cond (not b) (t ∷ without_pair q ts) (without_pair q ts)) (ap (same_pair q) (at.is t) ∙ same_pair-refl q)
      ∙ without_pair-absent q ts (absent_behind order q ts
      (subst (λ (x : Pair). list_all (stands (comes_before order) x) ts ≡ true) (at.is t) up.0))
  at-without_pair order q (t ∷ ts) (suc index) up at =
      ap (λ b. cond (not b) (t ∷ without_pair q ts) (without_pair q ts))
      (not_same order q t.pair (first_other order q t ts index up at))
      ∙ ap (λ (rest : List (Tie V)). t ∷ rest) (at-without_pair order q ts index up.1 (at_tail q t ts index at))

  -- ---- the pair would stand at an index

  module _ (order : Order) where
    gap_tail : (q : Pair) (t : Tie V) (ts : List (Tie V)) (index : ℕ) → IsGapFor order q (t ∷ ts) (suc index)
        → IsGapFor order q ts index
    gap_tail q t ts index gap =
        record {
          in_range = omega (arith, gap.in_range);
          before = λ k d h. gap.before (suc k) d (omega arith);
          behind = λ k d low high. gap.behind (suc k) d (omega arith) (omega arith);
        }

    behind_tail : (q : Pair) (t : Tie V) (ts : List (Tie V)) → IsGapFor order q (t ∷ ts) zero → IsGapFor order q ts zero
    behind_tail q t ts gap =
        record {
          in_range = omega arith;
          before = λ k d h. absurd (omega arith);
          behind = λ k d low high. gap.behind (suc k) d (omega arith) (omega arith);
        }

    gap-has_pair : (q : Pair) (ts : List (Tie V)) (index : ℕ) → IsGapFor order q ts index → has_pair q ts ≡ false
    gap-has_pair q [] index gap = refl
    gap-has_pair q (t ∷ ts) zero gap =
        ap (λ b. b || has_pair q ts) (comes_before-not_same order q t.pair (gap.behind 0 t (omega arith) (omega arith)))
        ∙ gap-has_pair q ts zero (behind_tail q t ts gap)
    gap-has_pair q (t ∷ ts) (suc index) gap =
        ap (λ b. b || has_pair q ts) (not_same order q t.pair (gap.before 0 t (omega arith)))
        ∙ gap-has_pair q ts index (gap_tail q t ts index gap)

    -- nothing is kept of it
    gap-value : (q : Pair) (ts : List (Tie V)) → has_pair q ts ≡ false → tie_value q ts ≡ None
    gap-value q [] absent = refl
    gap-value q (t ∷ ts) absent =
        let parts = or_parts (is_tied q t) (has_pair q ts) absent in
        ap (λ b. option_map (λ (x : Tie V). x.value) (cond b (Some t) (find (is_tied q) ts))) parts.0
        ∙ gap-value q ts parts.1

    -- with a tie of it, the others make room
    gap-with_tie : (s : Tie V) (ts : List (Tie V)) (index : ℕ) → IsGapFor order s.pair ts index
        → with_tie order s ts ≡ insert ts index s
    gap-with_tie s [] zero gap = refl
    gap-with_tie s [] (suc index) gap = absurd (omega (arith, gap.in_range))
    gap-with_tie s (t ∷ ts) zero gap =
        let comes : comes_before order s.pair t.pair ≡ true = gap.behind 0 t (omega arith) (omega arith) in
        ap (λ b. cond b (s ∷ ts) (cond (comes_before order s.pair t.pair) (s ∷ t ∷ ts) (t ∷ with_tie order s ts)))
        (comes_before-not_same order s.pair t.pair comes)
        ∙ ap (λ b. cond b (s ∷ t ∷ ts) (t ∷ with_tie order s ts)) comes
    gap-with_tie s (t ∷ ts) (suc index) gap =
        let comes : comes_before order t.pair s.pair ≡ true = gap.before 0 t (omega arith) in
        ap (λ b. cond b (s ∷ ts) (cond (comes_before order s.pair t.pair) (s ∷ t ∷ ts) (t ∷ with_tie order s ts)))
        (not_same order s.pair t.pair comes)
        ∙ ap (λ b. cond b (s ∷ t ∷ ts) (t ∷ with_tie order s ts)) (not_before order s.pair t.pair comes)
        ∙ ap (λ (rest : List (Tie V)). t ∷ rest) (gap-with_tie s ts index (gap_tail s.pair t ts index gap))

  -- ---- what a search answered

  -- the pair is there where the search found it
  pub found-has_pair : (order : Order) (q : Pair) (ts : List (Tie V)) (found : Result ℕ ℕ)
      → MatchResult found (IsAt q ts) (IsGapFor order q ts) → is_ok found ≡ has_pair q ts
  found-has_pair order q ts (Ok index) at = sym (at-has_pair q ts index at)
  found-has_pair order q ts (Err index) gap = sym (gap-has_pair order q ts index gap)

  pub absent-value : (order : Order) (q : Pair) (ts : List (Tie V)) (index : ℕ) → IsGapFor order q ts index
      → None ≡ tie_value q ts
  absent-value order q ts index gap = sym (gap-value order q ts (gap-has_pair order q ts index gap))

  pub found-value : (order : Order) (q : Pair) (ts old : List (Tie V)) (index : ℕ) (d read : Tie V)
      → IsAscending order ts → IsAt q ts index → old ≡ ts → read ≡ get_or old index d → Some read.value ≡ tie_value q ts
  found-value order q ts old index d read up at same is =
      ap (λ (t : Tie V). Some t.value) (is ∙ ap (λ (xs : List (Tie V)). get_or xs index d) same)
      ∙ sym (at-value order q ts index d up at)

  -- the list after a tie was put where one of its pair stands, or would stand
  pub replaced : (order : Order) (s : Tie V) (ts old new : List (Tie V)) (index : ℕ) → IsAscending order ts
      → IsAt s.pair ts index → old ≡ ts → new ≡ set old index s → new ≡ with_tie order s ts
  replaced order s ts old new index up at same is =
      is ∙ ap (λ (xs : List (Tie V)). set xs index s) same ∙ sym (at-with_tie order s ts index up at)

  pub inserted : (order : Order) (s : Tie V) (ts old new : List (Tie V)) (index : ℕ) → IsGapFor order s.pair ts index
      → old ≡ ts → new ≡ insert old index s → new ≡ with_tie order s ts
  inserted order s ts old new index gap same is =
      is ∙ ap (λ (xs : List (Tie V)). insert xs index s) same ∙ sym (gap-with_tie order s ts index gap)

  -- the list after the pair was taken from where it stands
  pub removed : (order : Order) (q : Pair) (ts old new : List (Tie V)) (index : ℕ) → IsAscending order ts
      → IsAt q ts index → old ≡ ts → new ≡ remove old index → new ≡ without_pair q ts
  removed order q ts old new index up at same is =
      is ∙ ap (λ (xs : List (Tie V)). remove xs index) same ∙ sym (at-without_pair order q ts index up at)

  -- the list as it stays, where the pair would stand in it
  pub without_pair-gap : (order : Order) (q : Pair) (ts : List (Tie V)) (index : ℕ) → IsGapFor order q ts index
      → ts ≡ without_pair q ts
  without_pair-gap order q ts index gap = sym (without_pair-absent q ts (gap-has_pair order q ts index gap))

  -- ---- the order stays

  pub ascending-with : (order order' : Order) (s : Tie V) (ts new : List (Tie V)) → order' ≡ order
      → new ≡ with_tie order s ts → IsAscending order ts → IsAscending order' new
  ascending-with order order' s ts new same is up =
      subst (λ (o : Order). IsAscending o new) (sym same)
      (subst (λ (xs : List (Tie V)). IsAscending order xs) (sym is) (IsAscending-with_tie order s ts up))

  pub ascending-without : (order order' : Order) (q : Pair) (ts new : List (Tie V)) → order' ≡ order
      → new ≡ without_pair q ts → IsAscending order ts → IsAscending order' new
  ascending-without order order' q ts new same is up =
      subst (λ (o : Order). IsAscending o new) (sym same)
      (subst (λ (xs : List (Tie V)). IsAscending order xs) (sym is) (IsAscending-without_pair order q ts up))
