-- SPDX-License-Identifier: Apache-2.0 OR MIT
-- The tags of one paper among those of all: that they stand in their order, and what becomes of all where one of the
-- paper's is switched.
use Rattle.std.proofs.Common.{ℕ, Bool, true, false, cond, ◌≡◌, ◌&&◌, ◌||◌, List, [], ◌∷◌, ◌++◌, eqb, refl, sym, ap, ◌∙◌}
use Rattle.std.proofs.Common.{arith}
use Rattle.std.specs.Prelude.{nat_lt, map, filter}
use Rattle.std.specs.List.{list_all}
use Rattle.std.specs.Cmp.Derive.{both_true}
use Rattle.std.proofs.lemmas.Bool.{and_parts, eqb-true, true≢false}
use Rattle.std.proofs.lemmas.Bool.Decides.{nat_tests}
use Rattle.std.proofs.lemmas.List.{append_assoc, map-append}
use Rattle.cr_base.specs.declared.filed.Filed.{Filed}
use Rattle.cr_base.specs.declared.tag.SetTag.{SetTag}
use Rattle.cr_base.specs.Filed.{filed, filed_of}
use Rattle.cr_base.specs.Tags.{TagsState, IsSortedState, IsSortedTags, stands_before, tag_before, tag_switched}
use Rattle.cr_base.specs.Tags.{with_tag}
use Rattle.cr_kept.specs.Drawers.{with_values}

-- ---- numbers of papers

lower_other : (p q : ℕ) → nat_lt q p ≡ true → eqb p q ≡ false
lower_other p q h = grind (arith, nat_tests, h)

lower_no_higher : (p q : ℕ) → nat_lt q p ≡ true → nat_lt p q ≡ false
lower_no_higher p q h = grind (arith, nat_tests, h)

same_no_higher : (p q : ℕ) → eqb p q ≡ true → nat_lt p q ≡ false
same_no_higher p q h = grind (arith, nat_tests, h)

same_no_lower : (p q : ℕ) → eqb p q ≡ true → nat_lt q p ≡ false
same_no_lower p q h = grind (arith, nat_tests, h)

other_higher : (p q : ℕ) → nat_lt q p ≡ false → eqb p q ≡ false → nat_lt p q ≡ true
other_higher p q h k = grind (arith, nat_tests, h, k)

turned : (p q : ℕ) → eqb q p ≡ eqb p q
turned p q = grind (arith, nat_tests)

both_same : (p n m : ℕ) → eqb p n ≡ true → eqb p m ≡ true → eqb n m ≡ true
both_same p n m h k = grind (arith, nat_tests, h, k)

-- behind a paper stand none of lower numbers, and behind its tag those tags of it that come behind
behind_no_lower : (p n q : ℕ) (b : Bool) → nat_lt n p ≡ false → (nat_lt n q || (eqb n q && b)) ≡ true
    → nat_lt q p ≡ false
behind_no_lower p n q b low h = grind (arith, nat_tests, low, h)

behind_other : (p n q : ℕ) (b : Bool) → nat_lt p n ≡ true → (nat_lt n q || (eqb n q && b)) ≡ true → eqb p q ≡ false
behind_other p n q b low h = grind (arith, nat_tests, low, h)

behind_own : (n q : ℕ) (b : Bool) → eqb n q ≡ true → (nat_lt n q || (eqb n q && b)) ≡ true → b ≡ true
behind_own n q b same h = grind (arith, nat_tests, same, h)

-- ---- one paper among all

module _ (p : ℕ) where
  abbrev low : TagsState → TagsState
  low xs = filter (λ (y : Filed SetTag). nat_lt y.paper p) xs

  abbrev high : TagsState → TagsState
  high xs = filter (λ (y : Filed SetTag). nat_lt p y.paper) xs

  abbrev ours : TagsState → TagsState
  ours xs = filter (λ (y : Filed SetTag). eqb p y.paper) xs

  -- what stands behind an element
  none_low : (x : Filed SetTag) → nat_lt x.paper p ≡ false → (xs : TagsState) → list_all (stands_before x) xs ≡ true
      → low xs ≡ []
  none_low x le [] all = refl
  none_low x le (y ∷ xs) all =
      let parts = and_parts (stands_before x y) (list_all (stands_before x) xs) all in
      ap (λ b. cond b (y ∷ low xs) (low xs)) (behind_no_lower p x.paper y.paper (tag_before x.value y.value) le parts.0)
      ∙ none_low x le xs parts.1

  none_of : (x : Filed SetTag) → nat_lt p x.paper ≡ true → (xs : TagsState) → list_all (stands_before x) xs ≡ true
      → filed_of p xs ≡ []
  none_of x less [] all = refl
  none_of x less (y ∷ xs) all =
      let parts = and_parts (stands_before x y) (list_all (stands_before x) xs) all in
      ap (λ b. map (λ (z : Filed SetTag). z.value) (cond b (y ∷ ours xs) (ours xs)))
      (behind_other p x.paper y.paper (tag_before x.value y.value) less parts.0)
      ∙ none_of x less xs parts.1

  own_behind : (x : Filed SetTag) → eqb p x.paper ≡ true → (xs : TagsState) → list_all (stands_before x) xs ≡ true
      → list_all (tag_before x.value) (filed_of p xs) ≡ true
  own_behind x own [] all = refl
  own_behind x own (y ∷ xs) all =
      let parts = and_parts (stands_before x y) (list_all (stands_before x) xs) all in
      by (eqb p y.paper) refl parts.0 (own_behind x own xs parts.1)
    where
      by : (b : Bool) → eqb p y.paper ≡ b → stands_before x y ≡ true
          → list_all (tag_before x.value) (filed_of p xs) ≡ true
          → list_all (tag_before x.value) (map (λ (z : Filed SetTag). z.value) (cond b (y ∷ ours xs) (ours xs))) ≡ true
      by true is before rest =
          both_true (behind_own x.paper y.paper (tag_before x.value y.value) (both_same p x.paper y.paper own is)
          before) rest
      by false is before rest = rest

  -- a paper's tags stand in their order
  pub sorted-of : (xs : TagsState) → IsSortedState xs → IsSortedTags (filed_of p xs)
  sorted-of [] sorted = tt
  sorted-of (x ∷ xs) sorted = by (eqb p x.paper) refl (sorted-of xs sorted.1)
    where
      by : (b : Bool) → eqb p x.paper ≡ b → IsSortedTags (filed_of p xs)
          → IsSortedTags (map (λ (z : Filed SetTag). z.value) (cond b (x ∷ ours xs) (ours xs)))
      by true is rest = (own_behind x is xs sorted.0, rest)
      by false is rest = rest

  -- with its own tags all are as they are
  pub with_own : (xs : TagsState) → IsSortedState xs → with_values p (filed_of p xs) xs ≡ xs
  with_own [] sorted = refl
  with_own (y ∷ xs) sorted =
      by (with_own xs sorted.1) (nat_lt y.paper p) (eqb p y.paper) (nat_lt p y.paper) refl refl refl
    where
      own : TagsState
      own = map (filed p) (filed_of p xs)

      by : (low xs ++ own) ++ high xs ≡ xs → (a b c : Bool) → nat_lt y.paper p ≡ a → eqb p y.paper ≡ b
          → nat_lt p y.paper ≡ c
          → (cond a (y ∷ low xs) (low xs) ++ map (filed p)
          (map (λ (z : Filed SetTag). z.value) (cond b (y ∷ ours xs) (ours xs)))) ++ cond c (y ∷ high xs) (high xs)
          ≡ y ∷ xs
      by rest true true c h k l = absurd (true≢false (sym k ∙ lower_other p y.paper h))
      by rest true false true h k l = absurd (true≢false (sym l ∙ lower_no_higher p y.paper h))
      by rest true false false h k l = ap (λ (ys : TagsState). y ∷ ys) rest
      by rest false true true h k l = absurd (true≢false (sym l ∙ same_no_higher p y.paper k))
      by rest false true false h k l =
          let none : low xs ≡ [] = none_low y h xs sorted.0 in
          ap (λ (ys : TagsState). (ys ++ filed p y.value ∷ own) ++ high xs) none
          ∙ ap (λ (q : ℕ). filed q y.value ∷ (own ++ high xs)) (eqb-true p y.paper k)
          ∙ ap (λ (ys : TagsState). y ∷ ys) (sym (ap (λ (ys : TagsState). (ys ++ own) ++ high xs) none) ∙ rest)
      by rest false false true h k l =
          let none : low xs ≡ [] = none_low y h xs sorted.0 in
          let none' : filed_of p xs ≡ [] = none_of y l xs sorted.0 in
          ap (λ (ys : TagsState). (ys ++ own) ++ y ∷ high xs) none
          ∙ ap (λ (ts : List SetTag). map (filed p) ts ++ y ∷ high xs) none'
          ∙ ap (λ (ys : TagsState). y ∷ ys)
          (sym (ap (λ (ys : TagsState). (ys ++ own) ++ high xs) none
          ∙ ap (λ (ts : List SetTag). map (filed p) ts ++ high xs) none') ∙ rest)
      by rest false false false h k l = absurd (true≢false (sym (other_higher p y.paper h k) ∙ l))

-- ---- a tag that is switched

joined : (first before one behind last : TagsState)
    → (first ++ ((before ++ one) ++ behind)) ++ last ≡ ((first ++ before) ++ one) ++ (behind ++ last)
joined [] before one behind last = append_assoc (before ++ one) behind last
joined (x ∷ first) before one behind last = ap (λ (ys : TagsState). x ∷ ys) (joined first before one behind last)

module _ (p : ℕ) (t : SetTag) where
  abbrev before : List SetTag → List SetTag
  before ts = filter (λ (s : SetTag). tag_before s t) ts

  abbrev behind : List SetTag → List SetTag
  behind ts = filter (λ (s : SetTag). tag_before t s) ts

  -- what stands before it: lower papers, and the paper's tags that come before; and what stands behind
  low-part : (xs : TagsState) → IsSortedState xs
      → filter (λ (y : Filed SetTag). stands_before y (filed p t)) xs ≡ low p xs
      ++ map (filed p) (before (filed_of p xs))
  low-part [] sorted = refl
  low-part (y ∷ xs) sorted =
      ap (λ b. cond (nat_lt y.paper p || (b && tag_before y.value t)) (y ∷ all) all) (turned p y.paper)
      ∙ by (low-part xs sorted.1) (nat_lt y.paper p) (eqb p y.paper) refl refl
    where
      all : TagsState
      all = filter (λ (z : Filed SetTag). stands_before z (filed p t)) xs

      own : TagsState
      own = map (filed p) (before (filed_of p xs))

      one : all ≡ low p xs ++ own → (c : Bool) → low p xs ≡ [] → eqb p y.paper ≡ true
          → cond c (y ∷ all) all ≡ low p xs ++ map (filed p)
          (cond c (y.value ∷ before (filed_of p xs)) (before (filed_of p xs)))
      one rest true none k =
          ap (λ (ys : TagsState). y ∷ ys) (rest ∙ ap (λ (ys : TagsState). ys ++ own) none)
          ∙ ap (λ (q : ℕ). filed q y.value ∷ own) (sym (eqb-true p y.paper k))
          ∙ ap (λ (ys : TagsState). ys ++ filed p y.value ∷ own) (sym none)
      one rest false none k = rest

      by : all ≡ low p xs ++ own → (a b : Bool) → nat_lt y.paper p ≡ a → eqb p y.paper ≡ b
          → cond (a || (b && tag_before y.value t)) (y ∷ all) all
          ≡ cond a (y ∷ low p xs) (low p xs) ++ map (filed p)
          (before (map (λ (z : Filed SetTag). z.value) (cond b (y ∷ ours p xs) (ours p xs))))
      by rest true true h k = absurd (true≢false (sym k ∙ lower_other p y.paper h))
      by rest true false h k = ap (λ (ys : TagsState). y ∷ ys) rest
      by rest false true h k = one rest (tag_before y.value t) (none_low p y h xs sorted.0) k
      by rest false false h k = rest

  high-part : (xs : TagsState) → IsSortedState xs
      → filter (λ (y : Filed SetTag). stands_before (filed p t) y) xs ≡ map (filed p) (behind (filed_of p xs))
      ++ high p xs
  high-part [] sorted = refl
  high-part (y ∷ xs) sorted = by (high-part xs sorted.1) (nat_lt p y.paper) (eqb p y.paper) refl refl
    where
      all : TagsState
      all = filter (λ (z : Filed SetTag). stands_before (filed p t) z) xs

      own : TagsState
      own = map (filed p) (behind (filed_of p xs))

      one : all ≡ own ++ high p xs → (c : Bool) → eqb p y.paper ≡ true
          → cond c (y ∷ all) all ≡ map (filed p) (cond c (y.value ∷ behind (filed_of p xs)) (behind (filed_of p xs)))
          ++ high p xs
      one rest true k =
          ap (λ (ys : TagsState). y ∷ ys) rest ∙ ap (λ (q : ℕ). filed q y.value ∷ (own ++ high p xs))
          (sym (eqb-true p y.paper k))
      one rest false k = rest

      by : all ≡ own ++ high p xs → (a b : Bool) → nat_lt p y.paper ≡ a → eqb p y.paper ≡ b
          → cond (a || (b && tag_before t y.value)) (y ∷ all) all
          ≡ map (filed p) (behind (map (λ (z : Filed SetTag). z.value) (cond b (y ∷ ours p xs) (ours p xs))))
          ++ cond a (y ∷ high p xs) (high p xs)
      by rest true true h k = absurd (true≢false (sym h ∙ same_no_higher p y.paper k))
      by rest true false h k =
          let none : own ≡ [] = ap (λ (ts : List SetTag). map (filed p) (behind ts)) (none_of p y h xs sorted.0) in
          ap (λ (ys : TagsState). y ∷ ys) (rest ∙ ap (λ (ys : TagsState). ys ++ high p xs) none)
          ∙ ap (λ (ys : TagsState). ys ++ y ∷ high p xs) (sym none)
      by rest false true h k = one rest (tag_before t y.value) k
      by rest false false h k = rest

  -- so switching it among the paper's tags switches it among all
  pub switched-of : (on : Bool) (xs : TagsState) → IsSortedState xs
      → with_values p (with_tag on t (filed_of p xs)) xs ≡ tag_switched on (filed p t) xs
  switched-of on xs sorted =
      ap (λ (ys : TagsState). (low p xs ++ ys) ++ high p xs)
      (map-append (filed p) (before own ++ cond on (t ∷ []) []) (behind own)
      ∙ ap (λ (ys : TagsState). ys ++ map (filed p) (behind own))
      (map-append (filed p) (before own) (cond on (t ∷ []) [])
      ∙ ap (λ (ys : TagsState). map (filed p) (before own) ++ ys) (one on)))
      ∙ joined (low p xs) (map (filed p) (before own)) (cond on (filed p t ∷ []) []) (map (filed p) (behind own))
      (high p xs)
      ∙ sym
      (ap (λ (ys : TagsState). (ys ++ cond on (filed p t ∷ []) [])
      ++ filter (λ (y : Filed SetTag). stands_before (filed p t) y) xs) (low-part xs sorted)
      ∙ ap (λ (ys : TagsState). ((low p xs ++ map (filed p) (before own)) ++ cond on (filed p t ∷ []) []) ++ ys)
      (high-part xs sorted))
    where
      own : List SetTag
      own = filed_of p xs

      one : (on : Bool) → map (filed p) (cond on (t ∷ []) []) ≡ cond on (filed p t ∷ []) []
      one true = refl
      one false = refl
