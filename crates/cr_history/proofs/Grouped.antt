-- SPDX-License-Identifier: Apache-2.0 OR MIT
-- The entries of one command: what is so of each of them.
use Rattle.std.proofs.Common.{ℕ, Bool, true, false, ◌≡◌, List, [], ◌∷◌, ◌++◌, refl, ap, ◌∙◌}
use Rattle.std.specs.Prelude.{map}
use Rattle.std.specs.List.{AllByRecursion, flat_map}
use Rattle.cr_base.specs.declared.entry.Entry.{Entry}
use Rattle.cr_base.specs.declared.entry.Entry.TheVariants.{Submitted, Coauthor}
use Rattle.cr_base.specs.declared.entry.Stamp.{Stamp}
use Rattle.cr_base.specs.declared.entry.Stamped.{Stamped}
use Rattle.cr_base.specs.Drawn.{stamped, grouped, besides, submission}
use Rattle.cr_history.specs.Invariants.{IsWhole}
use Rattle.cr_history.proofs.Folds.{each-silent}

-- what is so of each entry, with its stamp and whatever mark, is so of each in the group
pub grouped-each : (stamp : Stamp) (P : Stamped → Type 0) → (es : List Entry)
    → AllByRecursion (λ (e : Entry). (more : Bool) → P (stamped stamp more e)) es → AllByRecursion P (grouped stamp es)
grouped-each stamp P [] all = tt
grouped-each stamp P (e ∷ []) all = (all.0 false, tt)
grouped-each stamp P (e ∷ next ∷ es) all = (all.0 true, grouped-each stamp P (next ∷ es) all.1)

-- none of them is cut off
pub grouped-whole : (stamp : Stamp) (es : List Entry) → IsWhole (grouped stamp es)
grouped-whole stamp [] = tt
grouped-whole stamp (e ∷ []) = refl
grouped-whole stamp (e ∷ next ∷ []) = ((λ more. refl), refl)
grouped-whole stamp (e ∷ next ∷ last ∷ es) = ((λ more. refl), grouped-whole stamp (next ∷ last ∷ es))

-- what is so of a submission and of each co-author is so of each of its entries
pub submission-each : (Q : Entry → Type 0) (maker paper : ℕ) (title abstract users : List ℕ)
    → Q (Submitted paper title abstract) → ((user : ℕ) → Q (Coauthor paper user))
    → AllByRecursion Q (submission maker paper title abstract users)
submission-each Q maker paper title abstract users first each = (first, coauthors (besides (maker ∷ []) users))
  where
    coauthors : (us : List ℕ) → AllByRecursion Q (map (λ (user : ℕ). Coauthor paper user) us)
    coauthors [] = tt
    coauthors (u ∷ us) = (each u, coauthors us)

-- where each tells the same one way and the other, so do all; and where each tells nothing, all tell nothing
pub all-alike : {A B : Type 0} (f g : A → List B) (xs : List A) → AllByRecursion (λ x. f x ≡ g x) xs
    → flat_map f xs ≡ flat_map g xs
all-alike f g [] all = refl
all-alike f g (x ∷ xs) all = ap (λ ys. ys ++ flat_map f xs) all.0 ∙ ap (λ ys. g x ++ ys) (all-alike f g xs all.1)

pub all-silent : {A B : Type 0} (told : A → List B) (xs : List A) → AllByRecursion (λ x. told x ≡ []) xs
    → flat_map told xs ≡ []
all-silent told xs all = all-alike told (λ x. []) xs all ∙ each-silent (λ x. []) (λ x. refl) xs
