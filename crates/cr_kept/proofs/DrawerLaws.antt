-- SPDX-License-Identifier: Apache-2.0 OR MIT
-- The flat list out of drawers: what is read of one paper, and what becomes of it when one drawer changes.
use Rattle.std.proofs.Common.{ℕ, Bool, true, false, cond, ◌≡◌, ◌≤◌, ◌<◌, ◌+◌, ◌⊎◌, inl, inr, List, [], ◌∷◌, ◌++◌}
use Rattle.std.proofs.Common.{length, get_or, set, eqb, refl, sym, ap, subst, ◌∙◌, arith, zero, suc}
use Rattle.std.specs.Prelude.{nat_le, not, map, filter}
use Rattle.std.proofs.lemmas.Bool.Decides.{nat_tests, leb_tells}
use Rattle.std.proofs.lemmas.List.{append-nil, append_assoc, map-append, length-map, get_or-map, get_or_past}
use Rattle.std.proofs.lemmas.List.Elements.{filter-append}
use Rattle.cr_base.specs.declared.filed.Filed.{Filed}
use Rattle.cr_base.specs.Filed.{filed, with_filed, filed_of}
use Rattle.cr_base.proofs.Small.{eqb-self, eqb-below, eqb-above}
use Rattle.cr_kept.specs.Seen.{SeenDrawer}
use Rattle.cr_kept.specs.Drawers.{files_from, with_changed}

upto : (p n : ℕ) → n ≤ p → nat_le n p ≡ true
upto p n h = grind (arith, nat_tests, h)

beyond : (p n : ℕ) → p < n → nat_le n p ≡ false
beyond p n h = grind (arith, nat_tests, h)

module _ {V : Type 0} where
  -- ---- a test of the paper's number, on one drawer and on all from a number on

  pub block-all : (t : ℕ → Bool) (n : ℕ) (vs : List V) → t n ≡ true
      → filter (λ (y : Filed V). t y.paper) (map (filed n) vs) ≡ map (filed n) vs
  block-all t n [] h = refl
  block-all t n (v ∷ vs) h =
      ap (λ b. cond b (filed n v ∷ filter (λ (y : Filed V). t y.paper) (map (filed n) vs))
      (filter (λ (y : Filed V). t y.paper) (map (filed n) vs))) h
      ∙ ap (λ (ys : List (Filed V)). filed n v ∷ ys) (block-all t n vs h)

  pub block-none : (t : ℕ → Bool) (n : ℕ) (vs : List V) → t n ≡ false
      → filter (λ (y : Filed V). t y.paper) (map (filed n) vs) ≡ []
  block-none t n [] h = refl
  block-none t n (v ∷ vs) h =
      ap (λ b. cond b (filed n v ∷ filter (λ (y : Filed V). t y.paper) (map (filed n) vs))
      (filter (λ (y : Filed V). t y.paper) (map (filed n) vs))) h
      ∙ block-none t n vs h

  pub all-from : (t : ℕ → Bool) (n : ℕ) (ds : List (SeenDrawer V)) → ((m : ℕ) → n ≤ m → t m ≡ true)
      → filter (λ (y : Filed V). t y.paper) (files_from n ds) ≡ files_from n ds
  all-from t n [] h = refl
  all-from t n (d ∷ ds) h =
      filter-append (λ (y : Filed V). t y.paper) (map (filed n) d.values) (files_from (n + 1) ds)
      ∙ ap (λ (ys : List (Filed V)). ys ++ filter (λ (y : Filed V). t y.paper) (files_from (n + 1) ds))
      (block-all t n d.values (h n (omega arith)))
      ∙ ap (λ (ys : List (Filed V)). map (filed n) d.values ++ ys) (all-from t (n + 1) ds (λ m le. h m (omega arith)))

  pub none-from : (t : ℕ → Bool) (n : ℕ) (ds : List (SeenDrawer V)) → ((m : ℕ) → n ≤ m → t m ≡ false)
      → filter (λ (y : Filed V). t y.paper) (files_from n ds) ≡ []
  none-from t n [] h = refl
  none-from t n (d ∷ ds) h =
      filter-append (λ (y : Filed V). t y.paper) (map (filed n) d.values) (files_from (n + 1) ds)
      ∙ ap (λ (ys : List (Filed V)). ys ++ filter (λ (y : Filed V). t y.paper) (files_from (n + 1) ds))
      (block-none t n d.values (h n (omega arith)))
      ∙ none-from t (n + 1) ds (λ m le. h m (omega arith))

  -- ---- what is read of a paper

  values-filed : (n : ℕ) (vs : List V) → map (λ (x : Filed V). x.value) (map (filed n) vs) ≡ vs
  values-filed n [] = refl
  values-filed n (v ∷ vs) = ap (λ (ys : List V). v ∷ ys) (values-filed n vs)

  -- those of the drawer at the paper's place; none, where there is no such drawer
  pub of-drawer : (p n i : ℕ) (ds : List (SeenDrawer V)) → p ≡ n + i
      → filed_of p (files_from n ds) ≡ get_or (map (λ (d : SeenDrawer V). d.values) ds) i []
  of-drawer p n i [] is = refl
  of-drawer p n zero (d ∷ ds) is =
      let here : p ≡ n = omega (arith, is) in
      ap (λ (ys : List (Filed V)). map (λ (x : Filed V). x.value) ys)
      (filter-append (λ (y : Filed V). eqb p y.paper) (map (filed n) d.values) (files_from (n + 1) ds)
      ∙ ap (λ (ys : List (Filed V)). ys ++ filter (λ (y : Filed V). eqb p y.paper) (files_from (n + 1) ds))
      (block-all (eqb p) n d.values (subst (λ (m : ℕ). eqb p m ≡ true) here (eqb-self p)))
      ∙ ap (λ (ys : List (Filed V)). map (filed n) d.values ++ ys)
      (none-from (eqb p) (n + 1) ds (λ m le. eqb-below p m (omega (arith, here, le))))
      ∙ append-nil (map (filed n) d.values))
      ∙ values-filed n d.values
  of-drawer p n (suc i) (d ∷ ds) is =
      ap (λ (ys : List (Filed V)). map (λ (x : Filed V). x.value) ys)
      (filter-append (λ (y : Filed V). eqb p y.paper) (map (filed n) d.values) (files_from (n + 1) ds)
      ∙ ap (λ (ys : List (Filed V)). ys ++ filter (λ (y : Filed V). eqb p y.paper) (files_from (n + 1) ds))
      (block-none (eqb p) n d.values (eqb-above p n (omega (arith, is)))))
      ∙ of-drawer p (n + 1) i ds (omega (arith, is))

  -- as the code reads it
  pub of-place : (p i : ℕ) (ds read : List (SeenDrawer V)) (d : SeenDrawer V) → i ≡ p → read ≡ ds → i < length read
      → d ≡ get_or read i d → d.values ≡ filed_of p (files_from 0 ds)
  of-place p i ds read d at same lt is =
      ap (λ (e : SeenDrawer V). e.values) is
      ∙ sym (get_or-map (λ (e : SeenDrawer V). e.values) read i d [] lt)
      ∙ ap (λ (es : List (SeenDrawer V)). get_or (map (λ (e : SeenDrawer V). e.values) es) i []) same
      ∙ sym (of-drawer p 0 i ds (omega (arith, at)))

  pub of-no_place : (p i : ℕ) (ds read : List (SeenDrawer V)) → i ≡ p → read ≡ ds → length read ≤ i
      → [] ≡ filed_of p (files_from 0 ds)
  of-no_place p i ds read at same le =
      let values = map (λ (e : SeenDrawer V). e.values) ds in
      let long : length values ≤ i = subst (λ (n : ℕ). n ≤ i) (sym (length-map ds (λ (e : SeenDrawer V). e.values)))
      (subst (λ (es : List (SeenDrawer V)). length es ≤ i) same le) in
      sym (of-drawer p 0 i ds (omega (arith, at)) ∙ get_or_past values i [] long)

  -- where the paper has a value of this index there is a drawer with it
  pub has-value : (p i k : ℕ) (ds : List (SeenDrawer V)) (d : SeenDrawer V) → i ≡ p
      → k < length (filed_of p (files_from 0 ds))
      → (i < length ds) × (k < length (get_or ds i d).values)
  has-value p i k ds d at within = by (leb_tells (length ds) i)
    where
      values : List (List V)
      values = map (λ (e : SeenDrawer V). e.values) ds

      read : k < length (get_or values i [])
      read = subst (λ (vs : List V). k < length vs) (of-drawer p 0 i ds (omega (arith, at))) within

      by : ((nat_le (length ds) i ≡ true) × (length ds ≤ i)) ⊎ ((nat_le (length ds) i ≡ false) × (i < length ds))
          → (i < length ds) × (k < length (get_or ds i d).values)
      by (inl h) =
          let past =
          ap length
          (get_or_past values i [] (subst (λ (n : ℕ). n ≤ i) (sym (length-map ds (λ (e : SeenDrawer V). e.values)))
          h.1)) in
          absurd (omega (arith, past, read))
      by (inr h) =
          (h.1, subst (λ (vs : List V). k < length vs) (get_or-map (λ (e : SeenDrawer V). e.values) ds i d [] h.1) read)

  -- ---- one more in a drawer

  -- the list with one more, where a drawer of a lower number or of the same stands before the rest
  past : (x : Filed V) (n : ℕ) (vs : List V) (rest : List (Filed V)) → n ≤ x.paper
      → with_filed x (map (filed n) vs ++ rest) ≡ map (filed n) vs ++ with_filed x rest
  past x n vs rest le =
      let low : ℕ → Bool = λ m. nat_le m x.paper in
      let high : ℕ → Bool = λ m. not (nat_le m x.paper) in
      ap (λ (ys : List (Filed V)). ys ++ x ∷ filter (λ (y : Filed V). high y.paper) (map (filed n) vs ++ rest))
      (filter-append (λ (y : Filed V). low y.paper) (map (filed n) vs) rest
      ∙ ap (λ (ys : List (Filed V)). ys ++ filter (λ (y : Filed V). low y.paper) rest)
      (block-all low n vs (upto x.paper n le)))
      ∙ ap (λ (ys : List (Filed V)). (map (filed n) vs ++ filter (λ (y : Filed V). low y.paper) rest) ++ x ∷ ys)
      (filter-append (λ (y : Filed V). high y.paper) (map (filed n) vs) rest
      ∙ ap (λ (ys : List (Filed V)). ys ++ filter (λ (y : Filed V). high y.paper) rest)
      (block-none high n vs (ap (λ b. not b) (upto x.paper n le))))
      ∙ append_assoc (map (filed n) vs) (filter (λ (y : Filed V). low y.paper) rest)
      (x ∷ filter (λ (y : Filed V). high y.paper) rest)

  -- and before drawers of higher numbers it comes first
  first : (x : Filed V) (n : ℕ) (ds : List (SeenDrawer V)) → x.paper < n
      → with_filed x (files_from n ds) ≡ x ∷ files_from n ds
  first x n ds lt =
      ap (λ (ys : List (Filed V)). ys ++ x ∷ filter (λ (y : Filed V). not (nat_le y.paper x.paper)) (files_from n ds))
      (none-from (λ m. nat_le m x.paper) n ds (λ m le. beyond x.paper m (omega arith)))
      ∙ ap (λ (ys : List (Filed V)). x ∷ ys) (all-from (λ m. not (nat_le m x.paper)) n ds
      (λ m le. ap (λ b. not b) (beyond x.paper m (omega arith))))

  -- the drawer of the paper has one more behind those that it had
  pub put-drawer : (p n i : ℕ) (v : V) (ds : List (SeenDrawer V)) (d e : SeenDrawer V) → p ≡ n + i → i < length ds
      → e.values ≡ (get_or ds i d).values ++ v ∷ []
      → files_from n (set ds i e) ≡ with_filed (filed p v) (files_from n ds)
  put-drawer p n i v [] d e is lt put = absurd (omega (arith, lt))
  put-drawer p n zero v (c ∷ ds) d e is lt put =
      let here : n ≡ p = omega (arith, is) in
      ap (λ (ys : List V). map (filed n) ys ++ files_from (n + 1) ds) put
      ∙ ap (λ (ys : List (Filed V)). ys ++ files_from (n + 1) ds) (map-append (filed n) c.values (v ∷ []))
      ∙ append_assoc (map (filed n) c.values) (filed n v ∷ []) (files_from (n + 1) ds)
      ∙ ap (λ (m : ℕ). map (filed n) c.values ++ filed m v ∷ files_from (n + 1) ds) here
      ∙ ap (λ (ys : List (Filed V)). map (filed n) c.values ++ ys)
      (sym (first (filed p v) (n + 1) ds (omega (arith, here))))
      ∙ sym (past (filed p v) n c.values (files_from (n + 1) ds) (omega (arith, here)))
  put-drawer p n (suc i) v (c ∷ ds) d e is lt put =
      ap (λ (ys : List (Filed V)). map (filed n) c.values ++ ys)
      (put-drawer p (n + 1) i v ds d e (omega (arith, is)) (omega (arith, lt)) put)
      ∙ sym (past (filed p v) n c.values (files_from (n + 1) ds) (omega (arith, is)))

  -- the drawers' values stay where one is as it was but for its room
  pub same-drawer : (n i : ℕ) (ds : List (SeenDrawer V)) (d e : SeenDrawer V) → i < length ds
      → e.values ≡ (get_or ds i d).values → files_from n (set ds i e) ≡ files_from n ds
  same-drawer n i [] d e lt same = refl
  same-drawer n zero (c ∷ ds) d e lt same = ap (λ (ys : List V). map (filed n) ys ++ files_from (n + 1) ds) same
  same-drawer n (suc i) (c ∷ ds) d e lt same =
      ap (λ (ys : List (Filed V)). map (filed n) c.values ++ ys) (same-drawer (n + 1) i ds d e (omega (arith, lt)) same)

  -- another value in a drawer: among values of another paper nothing changes, and among the paper's own the one at
  -- the index
  changed-past : (p k n : ℕ) (v : V) (vs : List V) (rest : List (Filed V)) → eqb p n ≡ false
      → with_changed p k v (map (filed n) vs ++ rest) ≡ map (filed n) vs ++ with_changed p k v rest
  changed-past p k n v [] rest differ = refl
  changed-past p zero n v (w ∷ vs) rest differ =
      ap (λ b. cond b (filed p v ∷ (map (filed n) vs ++ rest))
      (filed n w ∷ with_changed p 0 v (map (filed n) vs ++ rest))) differ
      ∙ ap (λ (ys : List (Filed V)). filed n w ∷ ys) (changed-past p 0 n v vs rest differ)
  changed-past p (suc k) n v (w ∷ vs) rest differ =
      ap (λ b. filed n w ∷ cond b (with_changed p k v (map (filed n) vs ++ rest))
      (with_changed p (suc k) v (map (filed n) vs ++ rest))) differ
      ∙ ap (λ (ys : List (Filed V)). filed n w ∷ ys) (changed-past p (suc k) n v vs rest differ)

  changed-own : (n k : ℕ) (v : V) (vs : List V) (rest : List (Filed V)) → k < length vs
      → with_changed n k v (map (filed n) vs ++ rest) ≡ map (filed n) (set vs k v) ++ rest
  changed-own n k v [] rest lt = absurd (omega (arith, lt))
  changed-own n zero v (w ∷ vs) rest lt =
      ap (λ b. cond b (filed n v ∷ (map (filed n) vs ++ rest))
      (filed n w ∷ with_changed n 0 v (map (filed n) vs ++ rest))) (eqb-self n)
  changed-own n (suc k) v (w ∷ vs) rest lt =
      ap (λ b. filed n w ∷ cond b (with_changed n k v (map (filed n) vs ++ rest))
      (with_changed n (suc k) v (map (filed n) vs ++ rest))) (eqb-self n)
      ∙ ap (λ (ys : List (Filed V)). filed n w ∷ ys) (changed-own n k v vs rest (omega (arith, lt)))

  pub change-drawer : (p n i k : ℕ) (v : V) (ds : List (SeenDrawer V)) (d e : SeenDrawer V) → p ≡ n + i → i < length ds
      → k < length (get_or ds i d).values → e.values ≡ set (get_or ds i d).values k v
      → files_from n (set ds i e) ≡ with_changed p k v (files_from n ds)
  change-drawer p n i k v [] d e is lt within put = absurd (omega (arith, lt))
  change-drawer p n zero k v (c ∷ ds) d e is lt within put =
      let here : n ≡ p = omega (arith, is) in
      ap (λ (ys : List V). map (filed n) ys ++ files_from (n + 1) ds) put
      ∙ sym (changed-own n k v c.values (files_from (n + 1) ds) within)
      ∙ ap (λ (m : ℕ). with_changed m k v (files_from n (c ∷ ds))) here
  change-drawer p n (suc i) k v (c ∷ ds) d e is lt within put =
      ap (λ (ys : List (Filed V)). map (filed n) c.values ++ ys)
      (change-drawer p (n + 1) i k v ds d e (omega (arith, is)) (omega (arith, lt)) within put)
      ∙ sym (changed-past p k n v c.values (files_from (n + 1) ds) (eqb-above p n (omega (arith, is))))

  -- an empty one behind all
  pub more-drawers : (n : ℕ) (ds : List (SeenDrawer V)) (e : SeenDrawer V) → e.values ≡ []
      → files_from n (ds ++ e ∷ []) ≡ files_from n ds
  more-drawers n [] e none = ap (λ (ys : List V). map (filed n) ys ++ []) none
  more-drawers n (d ∷ ds) e none =
      ap (λ (ys : List (Filed V)). map (filed n) d.values ++ ys) (more-drawers (n + 1) ds e none)
