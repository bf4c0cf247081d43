-- SPDX-License-Identifier: Apache-2.0 OR MIT
-- A list appended item by item.
use Rattle.std.proofs.Common.{◌≡◌, Bool, true, ◌∙◌, ℕ, ◌≤◌, List, ◌++◌, sym, ap, append_assoc}
use Rattle.std.specs.Prelude.{flat_map, drop, map}
use Rattle.std.specs.List.{slice_range}
use Rattle.std.proofs.lemmas.Grind.{flat_map-append}
use Rattle.std.proofs.lemmas.List.Folds.{drop_split}
use Rattle.cr_json.specs.Put.{Bytes}
use Rattle.cr_json.specs.Json.{separated}

-- ---- items as they are

-- the items before the i-th were appended: what is left to append
module _ {X : Type 0} (text_of : X → List ℕ) where
  pub record Written (start now : List ℕ) (xs : List X) (i : ℕ) : Type 0 where
    pub rest : now ++ flat_map text_of (drop i xs) ≡ start ++ flat_map text_of xs

  pub written_range : (start now next : List ℕ) (xs : List X) (i j : ℕ) → i ≤ j → Written start now xs i
      → next ≡ now ++ flat_map text_of (slice_range xs i j) → Written start next xs j
  written_range start now next xs i j h w add =
      let front = slice_range xs i j in
      let parts : flat_map text_of (drop i xs) ≡ flat_map text_of front ++ flat_map text_of (drop j xs) =
      ap (flat_map text_of) (drop_split xs i j h) ∙ flat_map-append text_of front (drop j xs) in
      record {
        rest = rw add (append_assoc now (flat_map text_of front) (flat_map text_of (drop j xs))
            ∙ ap (λ s. now ++ s) (sym parts) ∙ w.rest);
      }

-- ---- items with commas

module _ {X : Type 0} (text_of : X → List ℕ) where
  pub record Listed (start now : Bytes) (is_first : Bool) (xs : List X) (i : ℕ) : Type 0 where
    pub rest : now.items ++ separated is_first (map text_of (drop i xs)) ≡ start.items
        ++ separated true (map text_of xs)
    -- a comma unless it is the first, and the item
