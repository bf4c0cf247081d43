-- SPDX-License-Identifier: Apache-2.0 OR MIT
-- The part of a list before the element at which a test first passes, and the part after it.
use Rattle.std.proofs.Common.{◌≡◌, ◌||◌, Bool, true, false, cond, List, [], ◌∷◌, ◌++◌, refl, ap, ◌∙◌}
use Rattle.std.specs.List.{AllByRecursion, list_any, filter}
use Rattle.std.proofs.lemmas.Bool.{or_parts, false≢true}
use Rattle.cr_base.specs.Lists.{until, since}

-- ---- lists at a cut

-- where the test passes nowhere, all is before the cut and nothing after it
pub until-none : {A : Type 0} (test : A → Bool) (xs : List A) → list_any test xs ≡ false → until test xs ≡ xs
until-none test [] h = refl
until-none test (x ∷ xs) h =
    let parts = or_parts (test x) (list_any test xs) h in
    ap (λ b. cond b [] (x ∷ until test xs)) parts.0 ∙ ap (λ ys. x ∷ ys) (until-none test xs parts.1)

pub since-none : {A : Type 0} (test : A → Bool) (xs : List A) → list_any test xs ≡ false → since test xs ≡ []
since-none test [] h = refl
since-none test (x ∷ xs) h =
    let parts = or_parts (test x) (list_any test xs) h in
    ap (λ b. cond b xs (since test xs)) parts.0 ∙ since-none test xs parts.1

-- a cut in the second list alone
pub until-append : {A : Type 0} (test : A → Bool) (xs ys : List A) → list_any test xs ≡ false
    → until test (xs ++ ys) ≡ xs ++ until test ys
until-append test [] ys h = refl
until-append test (x ∷ xs) ys h =
    let parts = or_parts (test x) (list_any test xs) h in
    ap (λ b. cond b [] (x ∷ until test (xs ++ ys))) parts.0 ∙ ap (λ zs. x ∷ zs) (until-append test xs ys parts.1)

pub since-append : {A : Type 0} (test : A → Bool) (xs ys : List A) → list_any test xs ≡ false
    → since test (xs ++ ys) ≡ since test ys
since-append test [] ys h = refl
since-append test (x ∷ xs) ys h =
    let parts = or_parts (test x) (list_any test xs) h in
    ap (λ b. cond b (xs ++ ys) (since test (xs ++ ys))) parts.0 ∙ since-append test xs ys parts.1

-- a cut in the first list
pub until-before : {A : Type 0} (test : A → Bool) (xs ys : List A) → list_any test xs ≡ true
    → until test (xs ++ ys) ≡ until test xs
until-before test [] ys h = absurd (false≢true h)
until-before {A} test (x ∷ xs) ys h = by (test x) h (until-before test xs ys)
  where
    by : (b : Bool) → (b || list_any test xs) ≡ true → (list_any test xs ≡ true → until test (xs ++ ys) ≡ until test xs)
        → cond b [] (x ∷ until test (xs ++ ys)) ≡ cond b [] (x ∷ until test xs)
    by true h rest = refl
    by false h rest = ap (λ zs. x ∷ zs) (rest h)

pub since-before : {A : Type 0} (test : A → Bool) (xs ys : List A) → list_any test xs ≡ true
    → since test (xs ++ ys) ≡ since test xs ++ ys
since-before test [] ys h = absurd (false≢true h)
since-before {A} test (x ∷ xs) ys h = by (test x) h (since-before test xs ys)
  where
    by : (b : Bool) → (b || list_any test xs) ≡ true
        → (list_any test xs ≡ true → since test (xs ++ ys) ≡ since test xs ++ ys)
        → cond b (xs ++ ys) (since test (xs ++ ys)) ≡ cond b xs (since test xs) ++ ys
    by true h rest = refl
    by false h rest = rest h

-- ---- facts of each element

pub AllByRecursion-append : {A : Type 0} (P : A → Type 0) (xs ys : List A) → AllByRecursion P xs → AllByRecursion P ys
    → AllByRecursion P (xs ++ ys)
AllByRecursion-append P [] ys hx hy = hy
AllByRecursion-append P (x ∷ xs) ys hx hy = (hx.0, AllByRecursion-append P xs ys hx.1 hy)

pub AllByRecursion-map : {A : Type 0} (P Q : A → Type 0) → ((x : A) → P x → Q x) → (xs : List A) → AllByRecursion P xs
    → AllByRecursion Q xs
AllByRecursion-map P Q f [] h = tt
AllByRecursion-map P Q f (x ∷ xs) h = (f x h.0, AllByRecursion-map P Q f xs h.1)

pub AllByRecursion-both : {A : Type 0} (P Q : A → Type 0) (xs : List A) → AllByRecursion P xs → AllByRecursion Q xs
    → AllByRecursion (λ x. P x × Q x) xs
AllByRecursion-both P Q [] hp hq = tt
AllByRecursion-both P Q (x ∷ xs) hp hq = ((hp.0, hq.0), AllByRecursion-both P Q xs hp.1 hq.1)

pub AllByRecursion-filter : {A : Type 0} (P : A → Type 0) (test : A → Bool) (xs : List A) → AllByRecursion P xs
    → AllByRecursion P (filter test xs)
AllByRecursion-filter P test [] h = tt
AllByRecursion-filter P test (x ∷ xs) h = by (test x) (AllByRecursion-filter P test xs h.1)
  where
    by : (b : Bool) → AllByRecursion P (filter test xs)
        → AllByRecursion P (cond b (x ∷ filter test xs) (filter test xs))
    by true k = (h.0, k)
    by false k = k

pub AllByRecursion-until : {A : Type 0} (P : A → Type 0) (test : A → Bool) (xs : List A) → AllByRecursion P xs
    → AllByRecursion P (until test xs)
AllByRecursion-until P test [] h = tt
AllByRecursion-until P test (x ∷ xs) h = by (test x) (AllByRecursion-until P test xs h.1)
  where
    by : (b : Bool) → AllByRecursion P (until test xs) → AllByRecursion P (cond b [] (x ∷ until test xs))
    by true k = tt
    by false k = (h.0, k)
