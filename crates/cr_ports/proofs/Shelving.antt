-- SPDX-License-Identifier: Apache-2.0 OR MIT
-- What a choice by path is at each.
use Rattle.std.proofs.Common.{◌≡◌, ◌≢◌, ◌∙◌, sym, ap, refl, ℕ, List, Bool, true, false, cond}
use Rattle.std.proofs.lemmas.Slice.Eq.{bytes_eq-Decides}
use Rattle.std.specs.Str.{bytes_eq}

-- what was put at a path stands there
pub cond_here : {T : Type 0} (path : List ℕ) (x y : T) → cond (bytes_eq path path) x y ≡ x
cond_here path x y = ap (λ b. cond b x y) ((bytes_eq-Decides path path).1 refl)

-- and at each other what stood there
pub cond_apart : {T : Type 0} (path other : List ℕ) (x y : T) → other ≢ path → cond (bytes_eq path other) x y ≡ y
cond_apart path other x y apart = go (bytes_eq path other) refl
  where
    go : (b : Bool) → bytes_eq path other ≡ b → cond (bytes_eq path other) x y ≡ y
    go true is = absurd (apart (sym ((bytes_eq-Decides path other).0 is)))
    go false is = ap (λ b. cond b x y) is

-- nothing changes where the same is put there
pub cond_same : {T : Type 0} (path other : List ℕ) (at : List ℕ → T)
    → cond (bytes_eq path other) (at path) (at other) ≡ at other
cond_same path other at = go (bytes_eq path other) refl
  where
    go : (b : Bool) → bytes_eq path other ≡ b → cond (bytes_eq path other) (at path) (at other) ≡ at other
    go true is = ap (λ b. cond b (at path) (at other)) is ∙ ap at ((bytes_eq-Decides path other).0 is)
    go false is = ap (λ b. cond b (at path) (at other)) is
