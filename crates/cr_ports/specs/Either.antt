-- SPDX-License-Identifier: Apache-2.0 OR MIT
-- A keeper of one of two kinds, and what a shelf has at each path that takes one shelf for journals and another for all
-- else.
use Rattle.std.specs.Prelude.{◌≡◌, ◌⊎◌, eqb, ℕ, Bool, true, false, List, [], ◌∷◌, Option, cond, is_some, IsTrue}
use Rattle.std.proofs.Common.{sym}
use Rattle.std.specs.List.{ends_with}
use Rattle.cr_base.specs.declared.row.Row.{Row}
use Rattle.cr_ports.specs.Stopping.{untold}
use Rattle.cr_ports.specs.declared.either.EitherKeeper.{EitherKeeper}
use Rattle.cr_ports.specs.declared.either.EitherKeeper.TheVariants.{First, Second}

-- ---- a keeper

-- what a definition of each kind gives of a keeper of either kind: that of the kind that it is
abbrev pub either : {K L T : Type 0} → (K → T) → (L → T) → EitherKeeper K L → T
either first second (First keeper) = first keeper
either first second (Second keeper) = second keeper

-- the kind of such a keeper: which of the two it is, and then its own kind
abbrev pub either_kind : {K L : Type 0} → (K → List Bool) → (L → List Bool) → EitherKeeper K L → List Bool
either_kind first second (First keeper) = true ∷ first keeper
either_kind first second (Second keeper) = false ∷ second keeper

-- what a stop may have left of the keeper that it is
abbrev pub either_left : {K L : Type 0} → (K → ℕ → List ℕ → Type 0) → (L → ℕ → List ℕ → Type 0) → EitherKeeper K L → ℕ
    → List ℕ → Type 0
either_left first second (First keeper) t image = first keeper t image
either_left first second (Second keeper) t image = second keeper t image

-- the rows to which one kind or the other opens the bytes
abbrev pub either_opens : (List ℕ → List Row → Type 0) → (List ℕ → List Row → Type 0) → List ℕ → List Row → Type 0
either_opens first second image rows = first image rows ⊎ second image rows

-- the choices after the first
abbrev pub further : List Bool → List Bool
further [] = []
further (choice ∷ choices) = choices

-- the first choice, false if there is none
abbrev first_choice : List Bool → Bool
first_choice [] = false
first_choice (choice ∷ choices) = choice

-- keepers of one kind agree in whether they tell what a stop leaves
pub either_alike : {K L : Type 0} (kind : K → List Bool) (other : L → List Bool) (tells : K → Bool) (tell : L → Bool)
    (alike : (x y : K) → kind x ≡ kind y → tells x ≡ tells y)
    (others : (x y : L) → other x ≡ other y → tell x ≡ tell y) (x y : EitherKeeper K L)
    → either_kind kind other x ≡ either_kind kind other y → either tells tell x ≡ either tells tell y
either_alike kind other tells tell alike others (First x) (First y) same = alike x y (λ i. further (same i))
either_alike kind other tells tell alike others (First x) (Second y) same = untold (λ i. first_choice (sym same i))
either_alike kind other tells tell alike others (Second x) (First y) same = untold (λ i. first_choice (same i))
either_alike kind other tells tell alike others (Second x) (Second y) same = others x y (λ i. further (same i))

-- keepers of one kind agree in whether they tell their rows
pub either_rows_alike : {K L : Type 0} (kind : K → List Bool) (other : L → List Bool) (rows : K → Option (List Row))
    (rows_too : L → Option (List Row)) (alike : (x y : K) → kind x ≡ kind y → is_some (rows x) ≡ is_some (rows y))
    (others : (x y : L) → other x ≡ other y → is_some (rows_too x) ≡ is_some (rows_too y)) (x y : EitherKeeper K L)
    → either_kind kind other x ≡ either_kind kind other y
    → is_some (either rows rows_too x) ≡ is_some (either rows rows_too y)
either_rows_alike kind other rows rows_too alike others (First x) (First y) same = alike x y (λ i. further (same i))
either_rows_alike kind other rows rows_too alike others (First x) (Second y) same =
    untold (λ i. first_choice (sym same i))
either_rows_alike kind other rows rows_too alike others (Second x) (First y) same = untold (λ i. first_choice (same i))
either_rows_alike kind other rows rows_too alike others (Second x) (Second y) same = others x y (λ i. further (same i))

-- a keeper that tells what a stop leaves tells its rows
pub either_told : {K L : Type 0} (rows : K → Option (List Row)) (others : L → Option (List Row)) (tells : K → Bool)
    (tell : L → Bool) (told : (x : K) → IsTrue (tells x) → IsTrue (is_some (rows x)))
    (told_too : (x : L) → IsTrue (tell x) → IsTrue (is_some (others x))) (x : EitherKeeper K L)
    → IsTrue (either tells tell x) → IsTrue (is_some (either rows others x))
either_told rows others tells tell told told_too (First x) is = told x is
either_told rows others tells tell told told_too (Second x) is = told_too x is

-- ---- a shelf

-- the path ends in `.cj`
abbrev pub is_journal : List ℕ → Bool
is_journal path = ends_with eqb path (46 ∷ 99 ∷ 106 ∷ [])

-- two shelves: one of journals, and one of all other stores
pub record Sides (S T : Type 0) : Type 0 where
  pub journals : S
  pub others : T

-- at the path of a journal what the first says of the path, else what the second says
abbrev pub by_path : {A : Type 0} → (List ℕ → A) → (List ℕ → A) → List ℕ → A
by_path journals others path = cond (is_journal path) (journals path) (others path)

-- the first proposition at the path of a journal, which the `Bool` says, else the second
abbrev pub side : Bool → Type 0 → Type 0 → Type 0
side true journals others = journals
side false journals others = others

-- at the path of a journal (the `Bool`) a keeper of the first kind may be taken back, else one of the second: each by
-- the shelf that opened it
abbrev pub MayBeShut : (List Bool → Type 0) → (List Bool → Type 0) → Bool → List Bool → Type 0
MayBeShut first second true (true ∷ kind) = first kind
MayBeShut first second false (false ∷ kind) = second kind
MayBeShut first second true (false ∷ kind) = ⊥
MayBeShut first second false (true ∷ kind) = ⊥
MayBeShut first second at [] = ⊥
