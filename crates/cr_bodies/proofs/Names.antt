-- SPDX-License-Identifier: Apache-2.0 OR MIT
-- A list of names read element by element.
use Rattle.std.proofs.Common.{◌≡◌, ℕ, suc, ◌<◌, List, [], ◌∷◌, ◌++◌, length, Option, Some, None, false, nat_le, refl}
use Rattle.std.proofs.Common.{sym, ap, ◌∙◌, arith}
use Rattle.std.proofs.lemmas.Bool.Decides.{nat_tests}
use Rattle.serde_json.specs.Find.{as_str}
use Rattle.serde_json.specs.View.{items_view, view}
use Rattle.serde_json.specs.declared.value.Value.{Value}
use Rattle.cr_base.specs.Parse.{parse_name}
use Rattle.cr_bodies.specs.Field.{◌>>=◌, if_few, names_told}

abbrev NamesRead : Type 0
NamesRead = List (Option (List ℕ))

-- the names told of each element
abbrev one_more : Option (List ℕ) → Option NamesRead → Option NamesRead
one_more text rest = text >>= λ t. rest >>= λ names. Some (parse_name t ∷ names)

-- as many names as elements
as_many : (vs : List Value) (names : NamesRead) → names_told (items_view vs) ≡ Some names → length names ≡ length vs
as_many [] names e = let same : [] ≡ names = cc in sym (ap (λ (n : NamesRead). length n) same)
as_many (v ∷ vs) names e = by (as_str (view v)) (names_told (items_view vs)) (as_many vs) names e
  where
    by : (text : Option (List ℕ)) (rest : Option NamesRead)
        → ((some : NamesRead) → rest ≡ Some some → length some ≡ length vs)
        → (names : NamesRead) → one_more text rest ≡ Some names → length names ≡ length (v ∷ vs)
    by None rest more names e = cc
    by (Some t) None more names e = cc
    by (Some t) (Some some) more names e =
        let same : parse_name t ∷ some ≡ names = cc in
        let n = more some refl in
        sym (ap (λ (n : NamesRead). length n) same) ∙ ap suc n

isn't_few : (n : ℕ) → 19 < n → nat_le n 19 ≡ false
isn't_few n h = grind (arith, nat_tests)

pub too_many : (vs : List Value) → 19 < length vs → (names_told (items_view vs) >>= if_few) ≡ None
too_many vs many = by (names_told (items_view vs)) (as_many vs)
  where
    by : (told : Option NamesRead) → ((names : NamesRead) → told ≡ Some names → length names ≡ length vs)
        → (told >>= if_few) ≡ None
    by None long = refl
    by (Some names) long = rw (long names refl, isn't_few (length vs) many) refl

-- names in front of those that may follow
abbrev pub onto : NamesRead → Option NamesRead → Option NamesRead
onto names None = None
onto names (Some more) = Some (names ++ more)
