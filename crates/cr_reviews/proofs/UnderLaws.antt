-- SPDX-License-Identifier: Apache-2.0 OR MIT
-- What passes a test: whether there is one, and which is the last.
use Rattle.std.proofs.Common.{Bool, true, false, cond, not, ◌≡◌, ◌||◌, ◌&&◌, List, [], ◌∷◌, reverse, refl, sym, ap, ◌∙◌}
use Rattle.std.proofs.Common.{ℕ, Option, Some, None}
use Rattle.std.specs.Prelude.{filter, is_some}
use Rattle.std.specs.List.{list_any, find}
use Rattle.std.specs.Option.{option_or}
use Rattle.std.proofs.lemmas.Bool.{eq-eqb, false≢true}
use Rattle.std.proofs.lemmas.List.{reverse-append}
use Rattle.std.proofs.lemmas.List.Folds.{find-append}
use Rattle.cr_base.specs.declared.review.WrittenForm.{WrittenForm}
use Rattle.cr_base.specs.Lists.{last, last_from, is_nothing}
use Rattle.cr_base.specs.Phases.{is_from}
use Rattle.cr_base.proofs.FiledLaws.{filter-filter}
use Rattle.cr_reviews.specs.declared.forms.Written.{Written}
use Rattle.cr_reviews.specs.declared.forms.Written.TheVariants.{Ever, Before, Since}
use Rattle.cr_reviews.specs.Under.{is_under, is_written}

module _ {A : Type 0} (q : A → Bool) where
  pub found : (xs : List A) → list_any q xs ≡ not (is_nothing (filter q xs))
  found [] = refl
  found (x ∷ xs) = by (q x) (found xs)
    where
      by : (b : Bool) → list_any q xs ≡ not (is_nothing (filter q xs))
          → (b || list_any q xs) ≡ not (is_nothing (cond b (x ∷ filter q xs) (filter q xs)))
      by true h = refl
      by false h = h

  -- a walk back finds the last, or else there is the one from before
  last-or : (xs : List A) (o : Option A) → option_or (find q (reverse xs)) o ≡ last_from o (filter q xs)
  last-or [] o = refl
  last-or (x ∷ xs) o =
      ap (λ (ys : List A). option_or (find q ys) o) (reverse-append (x ∷ []) xs)
      ∙ ap (λ (r : Option A). option_or r o) (find-append q (reverse xs) (x ∷ []))
      ∙ by (q x) (find q (reverse xs)) (last-or xs)
    where
      by : (b : Bool) (r : Option A) → ((p : Option A) → option_or r p ≡ last_from p (filter q xs))
          → option_or (option_or r (cond b (Some x) None)) o ≡ last_from o (cond b (x ∷ filter q xs) (filter q xs))
      by true None rest = rest (Some x)
      by true (Some y) rest = rest (Some x)
      by false None rest = rest o
      by false (Some y) rest = rest o

  pub last-found : (xs : List A) → find q (reverse xs) ≡ last (filter q xs)
  last-found xs = by (find q (reverse xs)) (last-or xs None)
    where
      by : (r : Option A) → option_or r None ≡ last (filter q xs) → r ≡ last (filter q xs)
      by None h = h
      by (Some x) h = h

-- there is a last where there is one
last-behind : {A : Type 0} (x : A) (xs : List A) → true ≡ is_some (last_from (Some x) xs)
last-behind x [] = refl
last-behind x (y ∷ xs) = last-behind y xs

last-there : {A : Type 0} (xs : List A) → not (is_nothing xs) ≡ is_some (last xs)
last-there [] = refl
last-there (x ∷ xs) = last-behind x xs

-- the last of what passes one test and then another
pub last-both : {A : Type 0} (q r : A → Bool) (xs : List A)
    → find (λ x. q x && r x) (reverse xs) ≡ last (filter r (filter q xs))
last-both {A} q r xs = last-found (λ (y : A). q y && r y) xs ∙ ap (λ (zs : List A). last zs) (filter-filter q r xs)

-- and whether there is one
pub found-both : {A : Type 0} (q r : A → Bool) (xs : List A)
    → list_any (λ x. q x && r x) xs ≡ is_some (last (filter r (filter q xs)))
found-both {A} q r xs =
    found (λ (y : A). q y && r y) xs
    ∙ last-there (filter (λ (y : A). q y && r y) xs)
    ∙ ap (λ (zs : List A). is_some (last zs)) (filter-filter q r xs)

-- a form that was written then under its own label was so under each label that it is under
and-own : (b own then : Bool) → own ≡ true → (own && then) ≡ true → (b && then) ≡ b
and-own true true then same is = is
and-own false true then same is = refl
and-own b false then same is = absurd (false≢true same)

pub written-under : (o : ℕ) (when : Written) (form : WrittenForm) → is_written form.ordinal when form ≡ true
    → is_written o when form ≡ is_under o form
written-under o Ever form is = refl
written-under o (Before phase) form is =
    and-own (is_under o form) (is_under form.ordinal form) (not (is_from phase form.phase))
    (eq-eqb form.ordinal form.ordinal refl) is
written-under o (Since phase) form is =
    and-own (is_under o form) (is_under form.ordinal form) (is_from phase form.phase)
    (eq-eqb form.ordinal form.ordinal refl) is

-- and where it wasn't, it was so under none
and-none : (b own then : Bool) → own ≡ true → (own && then) ≡ false → (b && then) ≡ false
and-none true true then same none = none
and-none false true then same none = refl
and-none b false then same none = absurd (false≢true same)

pub written-never : (o : ℕ) (when : Written) (form : WrittenForm) → is_written form.ordinal when form ≡ false
    → is_written o when form ≡ false
written-never o Ever form none = absurd (false≢true (sym none ∙ eq-eqb form.ordinal form.ordinal refl))
written-never o (Before phase) form none =
    and-none (is_under o form) (is_under form.ordinal form) (not (is_from phase form.phase))
    (eq-eqb form.ordinal form.ordinal refl) none
written-never o (Since phase) form none =
    and-none (is_under o form) (is_under form.ordinal form) (is_from phase form.phase)
    (eq-eqb form.ordinal form.ordinal refl) none
