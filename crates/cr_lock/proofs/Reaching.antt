-- SPDX-License-Identifier: Apache-2.0 OR MIT
-- Which turns the passes made, and what those lead to.
use Rattle.std.proofs.Common.{◌≡◌, ◌⊎◌, inl, inr, ⊎_elim, ℕ, zero, suc, Bool, true, false, if◌then◌else◌}
use Rattle.std.proofs.Common.{List, [], ◌∷◌, ◌++◌, set, refl, sym, subst}
use mathlib.Core.Option.{some, some-injective, some-ne-none}
use lib.ListN.{get_elem?}
use Rattle.cr_lock.specs.declared.pass_state.Turn.{Turn}
use Rattle.cr_lock.specs.Counts.{Every, Any}
use Rattle.cr_lock.specs.Turns.{insert_turn, merged, comes_after, Leads, Reached}

-- ---- one of a list

pub set_at : {X : Type 0} (xs : List X) (j : ℕ) (x y : X) → get_elem? xs j ≡ some x → get_elem? (set xs j y) j ≡ some y
set_at [] j x y e = absurd (some-ne-none x (sym e))
set_at (z ∷ xs) zero x y e = refl
set_at (z ∷ xs) (suc j) x y e = set_at xs j x y e

module _ {X : Type 0} (P : X → Type 0) where
  -- it holds of the one at this place
  pub any_at : (xs : List X) (j : ℕ) (x : X) → get_elem? xs j ≡ some x → P x → Any P xs
  any_at [] j x e p = absurd (some-ne-none x (sym e))
  any_at (z ∷ xs) zero x e p = inl (subst P (sym (some-injective z x e)) p)
  any_at (z ∷ xs) (suc j) x e p = inr (any_at xs j x e p)

  -- which it holds of, by its place
  pub any_is : (xs : List X) → Any P xs → (j : ℕ) × (x : X) × (get_elem? xs j ≡ some x) × P x
  any_is [] a = absurd a
  any_is (z ∷ xs) (inl p) = (0, z, refl, p)
  any_is (z ∷ xs) (inr more) = let r = any_is xs more in (suc r.0, r.1, r.2, r.3)

  -- where one is another, it holds of that which was there, or of one that is
  pub any_else : (xs : List X) (j : ℕ) (x y : X) → get_elem? xs j ≡ some x → Any P xs → P x ⊎ Any P (set xs j y)
  any_else [] j x y e a = absurd a
  any_else (z ∷ xs) zero x y e (inl p) = inl (subst P (some-injective z x e) p)
  any_else (z ∷ xs) zero x y e (inr more) = inr (inr more)
  any_else (z ∷ xs) (suc j) x y e (inl p) = inr (inl p)
  any_else (z ∷ xs) (suc j) x y e (inr more) = ⊎_elim (λ p. inl p) (λ a. inr (inr a)) (any_else xs j x y e more)

  pub any_left : (xs ys : List X) → Any P xs → Any P (xs ++ ys)
  any_left [] ys a = absurd a
  any_left (x ∷ xs) ys (inl p) = inl p
  any_left (x ∷ xs) ys (inr more) = inr (any_left xs ys more)

  pub any_right : (xs ys : List X) → Any P ys → Any P (xs ++ ys)
  any_right [] ys a = a
  any_right (x ∷ xs) ys a = inr (any_right xs ys a)

  pub any_append : (xs ys : List X) → Any P (xs ++ ys) → Any P xs ⊎ Any P ys
  any_append [] ys a = inr a
  any_append (x ∷ xs) ys (inl p) = inl (inl p)
  any_append (x ∷ xs) ys (inr more) = ⊎_elim (λ a. inl (inr a)) (λ a. inr a) (any_append xs ys more)

pub any_map : {X : Type 0} (P Q : X → Type 0) → ((x : X) → P x → Q x) → (xs : List X) → Any P xs → Any Q xs
any_map P Q on [] a = absurd a
any_map P Q on (x ∷ xs) (inl p) = inl (on x p)
any_map P Q on (x ∷ xs) (inr more) = inr (any_map P Q on xs more)

pub every_map : {X : Type 0} (P Q : X → Type 0) → ((x : X) → P x → Q x) → (xs : List X) → Every P xs → Every Q xs
every_map P Q on [] e = tt
every_map P Q on (x ∷ xs) e = (on x e.0, every_map P Q on xs e.1)

-- ---- of merged turns

module _ {T E : Type 0} (P : Turn T E → Type 0) where
  any_here : (t : Turn T E) (us : List (Turn T E)) → P t → Any P (insert_turn t us)
  any_here t [] p = inl p
  any_here t (u ∷ us) p = elim (comes_after t u) as (λ b. Any P (if b then u ∷ insert_turn t us else t ∷ u ∷ us))
      [ true ↦ inr (any_here t us p) | false ↦ inl p ]

  any_there : (t : Turn T E) (us : List (Turn T E)) → Any P us → Any P (insert_turn t us)
  any_there t [] a = absurd a
  any_there t (u ∷ us) a = elim (comes_after t u) as (λ b. Any P (if b then u ∷ insert_turn t us else t ∷ u ∷ us))
      [ true ↦ ⊎_elim (λ p. inl p) (λ more. inr (any_there t us more)) a | false ↦ inr a ]

  any_pick : (t u : Turn T E) (us : List (Turn T E)) (b : Bool) → (Any P (insert_turn t us) → P t ⊎ Any P us)
      → Any P (if b then u ∷ insert_turn t us else t ∷ u ∷ us) → P t ⊎ Any P (u ∷ us)
  any_pick t u us true on (inl p) = inr (inl p)
  any_pick t u us true on (inr more) = ⊎_elim (λ p. inl p) (λ there. inr (inr there)) (on more)
  any_pick t u us false on (inl p) = inl p
  any_pick t u us false on (inr more) = inr more

  any_insert : (t : Turn T E) (us : List (Turn T E)) → Any P (insert_turn t us) → P t ⊎ Any P us
  any_insert t [] a = ⊎_elim (λ p. inl p) (λ none. absurd none) a
  any_insert t (u ∷ us) a = any_pick t u us (comes_after t u) (λ more. any_insert t us more) a

  pub merged_left : (ts us : List (Turn T E)) → Any P ts → Any P (merged ts us)
  merged_left [] us a = absurd a
  merged_left (t ∷ ts) us (inl p) = any_here t (merged ts us) p
  merged_left (t ∷ ts) us (inr more) = any_there t (merged ts us) (merged_left ts us more)

  pub merged_right : (ts us : List (Turn T E)) → Any P us → Any P (merged ts us)
  merged_right [] us a = a
  merged_right (t ∷ ts) us a = any_there t (merged ts us) (merged_right ts us a)

  pub any_merged : (ts us : List (Turn T E)) → Any P (merged ts us) → Any P ts ⊎ Any P us
  any_merged [] us a = inr a
  any_merged (t ∷ ts) us a =
      ⊎_elim (λ p. inl (inl p))
      (λ more. ⊎_elim (λ there. inl (inr there)) (λ there. inr there) (any_merged ts us more))
      (any_insert t (merged ts us) a)

-- ---- what turns lead to

module _ {T E : Type 0} where
  -- where each of the turns has more that is so
  pub reached_on : (Made Made' : Turn T E → Type 0) (x y : T) → ((t : Turn T E) → Made t → Made' t)
      → Reached Made x y → Reached Made' x y
  reached_on Made Made' x y on r =
      record { turns = r.turns; made = every_map Made Made' on r.turns r.made; leads = r.leads }

  -- by one turn more
  pub reached_next : (Made : Turn T E → Type 0) (x : T) (t : Turn T E) → Made t → Reached Made x t.found
      → Reached Made x t.left
  reached_next Made x t made r = record { turns = t ∷ r.turns; made = (made, r.made); leads = (refl, r.leads) }

  -- what is so of the first value, and stays so in each turn, is so of the last
  pub reached_has : (Made : Turn T E → Type 0) (Has : T → Type 0) (x y : T) → Has x
      → ((t : Turn T E) → Made t → Has t.found → Has t.left) → Reached Made x y → Has y
  reached_has Made Has x y first on r = along r.turns y r.made r.leads
    where
      along : (ts : List (Turn T E)) (z : T) → Every Made ts → Leads ts x z → Has z
      along [] z made leads = subst Has (sym leads) first
      along (t ∷ ts) z made leads =
          subst Has (sym leads.0) (on t made.0 (along ts t.found made.1 leads.1))
