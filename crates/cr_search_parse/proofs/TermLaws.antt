-- SPDX-License-Identifier: Apache-2.0 OR MIT
-- What stands between quotation marks.
use Rattle.std.proofs.Common.{◌≡◌, ℕ, Bool, true, false, ◌&&◌, eqb, cond, List, [], ◌∷◌, ◌++◌, Option, Some, None}
use Rattle.std.proofs.Common.{length, get_or, take, take-append-drop, ◌+◌, refl, ap, sym, ◌∙◌, eq-eqb, ne_eqb, arith}
use Rattle.std.proofs.lemmas.List.{drop_more, drop_all}
use Rattle.std.specs.Option.{option_map}
use Rattle.std.specs.List.{list_all}
use Rattle.cr_search_parse.specs.Terms.{is_quoted_byte, before_closing}

alone : (is_mark : Bool) → cond {A = Option (List ℕ)} is_mark (Some []) None ≡ cond (is_mark && true) (Some []) None
alone true = refl
alone false = refl

one_more : (byte : ℕ) (inside : List ℕ) (may is_mark may_all : Bool) →
    cond may (option_map (λ (bytes : List ℕ). byte ∷ bytes) (cond (is_mark && may_all) (Some inside) None)) None
    ≡ cond (is_mark && (may && may_all)) (Some (byte ∷ inside)) None
one_more byte inside true true true = refl
one_more byte inside true true false = refl
one_more byte inside true false may_all = refl
one_more byte inside false true may_all = refl
one_more byte inside false false may_all = refl

-- the last byte is told apart
pub closing-is : (inside : List ℕ) (last : ℕ)
    → before_closing (inside ++ (last ∷ [])) ≡ cond (eqb last 34 && list_all is_quoted_byte inside) (Some inside) None
closing-is [] last = alone (eqb last 34)
closing-is (byte ∷ []) last = rw (closing-is [] last) (one_more byte [] (is_quoted_byte byte) (eqb last 34) true)
closing-is (byte ∷ (next ∷ inside)) last =
    rw (closing-is (next ∷ inside) last)
    (one_more byte (next ∷ inside) (is_quoted_byte byte) (eqb last 34) (list_all is_quoted_byte (next ∷ inside)))

last-apart : (text : List ℕ) (last : ℕ) → length text ≡ last + 1 → text ≡ take last text ++ (get_or text last 0 ∷ [])
last-apart text last whole =
    let none = drop_all (last + 1) text (omega arith) in
    sym (take-append-drop last text)
    ∙ ap (λ (rest : List ℕ). take last text ++ rest)
    (drop_more text last 0 (omega arith) ∙ ap (λ (rest : List ℕ). get_or text last 0 ∷ rest) none)

-- the same by where the last byte stands
pub closing-at : (text : List ℕ) (last : ℕ) → length text ≡ last + 1
    → before_closing text ≡ cond (eqb (get_or text last 0) 34 && list_all is_quoted_byte (take last text))
    (Some (take last text)) None
closing-at text last whole =
    ap before_closing (last-apart text last whole) ∙ closing-is (take last text) (get_or text last 0)

pub not-closed : (text : List ℕ) (last : ℕ) → length text ≡ last + 1 → (get_or text last 0 ≡ 34 → ⊥)
    → before_closing text ≡ None
not-closed text last whole other = closing-at text last whole ∙ rw (ne_eqb (get_or text last 0) 34 other) refl

pub is-closed : (text : List ℕ) (last : ℕ) → length text ≡ last + 1 → get_or text last 0 ≡ 34
    → before_closing text ≡ cond (list_all is_quoted_byte (take last text)) (Some (take last text)) None
is-closed text last whole mark = closing-at text last whole ∙ rw (eq-eqb (get_or text last 0) 34 mark) refl
