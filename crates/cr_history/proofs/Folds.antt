-- SPDX-License-Identifier: Apache-2.0 OR MIT
-- From what one entry tells and does to the tables, to what a history tells and its tables have: one lemma for all
-- facts.
use Rattle.std.proofs.Common.{◌≡◌, List, [], ◌∷◌, ◌++◌, refl, sym, ap, ◌∙◌}
use Rattle.std.specs.List.{flat_map}
use Rattle.cr_base.specs.declared.entry.Stamped.{Stamped}
use Rattle.cr_base.specs.History.{History}
use Rattle.cr_base.specs.Lists.{last_or}
use Rattle.cr_base.specs.Tables.{Tables, tables_after, tables_from, Fits, FitInTurn}
use Rattle.cr_base.proofs.LastLaws.{last_or-cons}

-- of values told one behind another, the last of the first ones is asked for before the others
pub last_or-append : {A : Type 0} (a : A) (xs ys : List A) → last_or a (xs ++ ys) ≡ last_or (last_or a xs) ys
last_or-append a [] ys = refl
last_or-append a (x ∷ xs) ys =
    last_or-cons a x (xs ++ ys) ∙ last_or-append x xs ys ∙ ap (λ b. last_or b ys) (sym (last_or-cons a x xs))

-- where each tells nothing, all tell nothing
pub each-silent : {X A : Type 0} (told : X → List A) → ((x : X) → told x ≡ []) → (xs : List X) → flat_map told xs ≡ []
each-silent told none [] = refl
each-silent told none (x ∷ xs) = ap (λ ys. ys ++ flat_map told xs) (none x) ∙ each-silent told none xs

-- a fact that `get` reads in the tables and entries tell as `told`; `join` is the fact with more told of it
module _ {A X : Type 0} (join : X → List A → X) (nothing : (x : X) → join x [] ≡ x) (get : Tables → X)
    (told : Stamped → List A) where
  -- the tables after an entry have what it tells of the fact, joined to what they had
  abbrev pub Follows : Tables → Stamped → Type 0
  Follows t s = (rest : List A) → join (get t) (told s ++ rest) ≡ join (get (tables_after t s)) rest

  -- so the tables after a history have what it tells
  pub told-always : ((t : Tables) (s : Stamped) → Follows t s) → (t : Tables) (H : History)
      → join (get t) (flat_map told H) ≡ get (tables_from t H)
  told-always one t [] = nothing (get t)
  told-always one t (s ∷ H) = one t s (flat_map told H) ∙ told-always one (tables_after t s) H

  -- where it is so of entries that fit, and of tables of which more holds that stays so, they do after entries that
  -- fit in their turn
  pub told-kept : (Holds : Tables → Type 0)
      → ((t : Tables) (s : Stamped) → Fits t s → Holds t → Holds (tables_after t s))
      → ((t : Tables) (s : Stamped) → Fits t s → Holds t → Follows t s)
      → (t : Tables) (H : History) → FitInTurn t H → Holds t → join (get t) (flat_map told H) ≡ get (tables_from t H)
  told-kept Holds stays one t [] fits holds = nothing (get t)
  told-kept Holds stays one t (s ∷ H) fits holds =
      one t s fits.0 holds (flat_map told H) ∙ told-kept Holds stays one (tables_after t s) H fits.1
      (stays t s fits.0 holds)

  -- and so where nothing more is asked
  pub told-fitting : ((t : Tables) (s : Stamped) → Fits t s → Follows t s) → (t : Tables) (H : History) → FitInTurn t H
      → join (get t) (flat_map told H)
      ≡ get (tables_from t H)
  told-fitting one t H fits = told-kept (λ _. Unit {0}) (λ t s fit holds. tt) (λ t s fit holds. one t s fit) t H fits tt
