-- SPDX-License-Identifier: Apache-2.0 OR MIT
-- One of a list: a test that she passes, one of them passes.
use Rattle.std.proofs.Common.{Bool, true, ◌≡◌, List, [], ◌∷◌, refl, ap, ◌∙◌, ◌||◌}
use Rattle.std.specs.Prelude.{map}
use Rattle.std.specs.List.{list_any, Contains}
use Rattle.std.proofs.lemmas.List.Folds.{list_any_at}

abbrev pub Among : {A : Type 0} → A → List A → Type 0
Among {A} x xs = (test : A → Bool) → test x ≡ true → list_any test xs ≡ true

pub among-contained : {A : Type 0} (x : A) (xs : List A) → Contains xs x → Among x xs
among-contained x xs is test passes = list_any_at test xs is.0 x is.1 (ap test is.2 ∙ passes)

any-map : {A B : Type 0} (f : A → B) (test : B → Bool) (xs : List A)
    → list_any test (map f xs) ≡ list_any (λ x. test (f x)) xs
any-map f test [] = refl
any-map f test (x ∷ xs) = ap (λ b. test (f x) || b) (any-map f test xs)

pub among-map : {A B : Type 0} (f : A → B) (x : A) (xs : List A) → Among x xs → Among (f x) (map f xs)
among-map f x xs among test passes = any-map f test xs ∙ among (λ y. test (f y)) passes
