-- SPDX-License-Identifier: Apache-2.0 OR MIT
-- The tokens of a row take a path where its parts are those of the listed path that the row is of.
use Rattle.std.specs.Cmp.Lexicographic.{pointwise}
use Rattle.std.specs.List.{onto_first}
use Rattle.std.proofs.Common.{◌≡◌, ℕ, List, [], ◌∷◌, Bool, true, false, cond, not, ◌&&◌, ◌==◌, refl, sym, ap, ◌∙◌}
use Rattle.std.proofs.Common.{IsTrue}
use Rattle.std.proofs.lemmas.Bool.{eqb-true, ne_eqb, and_parts}
use Rattle.matchit.specs.Rows.{param_token}
use Rattle.cr_routes.specs.Parts.{parts, is_parameter, takes, fits_parts}
use Rattle.cr_routes.proofs.Rows.{is_false}
use Rattle.cr_routes.proofs.Taking.{from_slash, fits_tokens}

pub some_parts : (path : List ℕ) → (p : List ℕ) × (ps : List (List ℕ)) × (parts path ≡ p ∷ ps)
some_parts [] = ([], [], refl)
some_parts (b ∷ path) = by (b == 47) (parts path)
  where
    by : (slash : Bool) (rest : List (List ℕ)) → (p : List ℕ) × (ps : List (List ℕ))
        × (cond slash ([] ∷ rest) (onto_first b rest) ≡ p ∷ ps)
    by true rest = ([], rest, refl)
    by false [] = (b ∷ [], [], refl)
    by false (q ∷ qs) = (b ∷ q, qs, refl)

never : (path : List ℕ) → fits_parts [] (parts path) ≡ false
never path = let some = some_parts path in rw some.2 refl

-- the tokens of a row are those of a listed path's parts
abbrev pub spell : List ℕ → List (List ℕ) → Bool
spell t [] = false
spell [] ([] ∷ []) = true
spell [] ([] ∷ q ∷ ps) = false
spell [] ((y ∷ w) ∷ ps) = false
spell (x ∷ t) ([] ∷ []) = false
spell (x ∷ t) ([] ∷ q ∷ ps) = x == 47 && spell t (q ∷ ps)
spell (x ∷ t) ((y ∷ w) ∷ ps) = cond (y == 123) (x == param_token && spell t ([] ∷ ps))
    (not (x == param_token) && (x == y && (not (y == 47) && (not (is_parameter w) && spell t (w ∷ ps)))))

at_end : (b : ℕ) (path : List ℕ) → false ≡ fits_parts ([] ∷ []) (parts (b ∷ path))
at_end b path = by (b == 47) (parts path) (never path)
  where
    by : (slash : Bool) (rest : List (List ℕ)) → fits_parts [] rest ≡ false
        → false ≡ fits_parts ([] ∷ []) (cond slash ([] ∷ rest) (onto_first b rest))
    by true rest h = sym h
    by false [] h = refl
    by false (q ∷ qs) h = refl

at_slash : (b : ℕ) (path q : List ℕ) (ps : List (List ℕ)) (fits : Bool) → fits ≡ fits_parts (q ∷ ps) (parts path)
    → (47 == b && fits) ≡ fits_parts ([] ∷ q ∷ ps) (parts (b ∷ path))
at_slash b path q ps fits e = by (b == 47) refl (parts path) e
  where
    by : (slash : Bool) → (b == 47) ≡ slash → (rest : List (List ℕ)) → fits ≡ fits_parts (q ∷ ps) rest
        → (47 == b && fits) ≡ fits_parts ([] ∷ q ∷ ps) (cond slash ([] ∷ rest) (onto_first b rest))
    by true is rest e = rw (eqb-true b 47 is) e
    by false is [] e = rw (ne_eqb 47 b (λ same. let bad : true ≡ false = rw (← same) at is in cc)) refl
    by false is (r ∷ rest) e = rw (ne_eqb 47 b (λ same. let bad : true ≡ false = rw (← same) at is in cc)) refl

at_word : (x b : ℕ) (w path : List ℕ) (ps : List (List ℕ)) (fits : Bool) → (x == 123) ≡ false → (x == 47) ≡ false
    → is_parameter w ≡ false
    → fits ≡ fits_parts (w ∷ ps) (parts path) → (x == b && fits) ≡ fits_parts ((x ∷ w) ∷ ps) (parts (b ∷ path))
at_word x b w path ps fits no_brace no_slash word e =
    let some = some_parts path in
    rw some.2 (by (b == 47) refl (x == b) refl (e ∙ ap (λ rest. fits_parts (w ∷ ps) rest) some.2))
  where
    by : (slash : Bool) → (b == 47) ≡ slash → (same : Bool) → (x == b) ≡ same
        → fits ≡ fits_parts (w ∷ ps) ((some_parts path).0 ∷ (some_parts path).1)
        → (same && fits) ≡ fits_parts ((x ∷ w) ∷ ps)
        (cond slash ([] ∷ (some_parts path).0 ∷ (some_parts path).1)
        (onto_first b ((some_parts path).0 ∷ (some_parts path).1)))
    by true is true same e = let bad : true ≡ false = rw (eqb-true x b same, eqb-true b 47 is) at no_slash in cc
    by true is false same e = rw no_brace refl
    by false is true same e = rw (no_brace, same) (e ∙ rw word refl)
    by false is false same e = rw (no_brace, same) refl

-- the parts but the first
abbrev pub tail_of : List (List ℕ) → List (List ℕ)
tail_of [] = []
tail_of (p ∷ ps) = ps

pub rest_parts : (path : List ℕ) → parts (from_slash path) ≡ [] ∷ tail_of (parts path)
rest_parts [] = refl
rest_parts (b ∷ path) = by (b == 47) refl (parts path) refl (rest_parts path)
  where
    by : (slash : Bool) → (b == 47) ≡ slash → (rest : List (List ℕ)) → parts path ≡ rest
        → parts (from_slash path) ≡ [] ∷ tail_of rest
        → parts (cond slash (b ∷ path) (from_slash path)) ≡ [] ∷ tail_of (cond slash ([] ∷ rest) (onto_first b rest))
    by true is rest e more = rw is (ap (λ ps. [] ∷ ps) e)
    by false is [] e more = more
    by false is (q ∷ qs) e more = more

at_parameter : (y b : ℕ) (w path : List ℕ) (ps : List (List ℕ)) (fits : Bool) → (y == 123) ≡ true
    → fits ≡ fits_parts ([] ∷ ps) (parts (from_slash path))
    → (not (b == 47) && fits) ≡ fits_parts ((y ∷ w) ∷ ps) (parts (b ∷ path))
at_parameter y b w path ps fits e more =
    by (b == 47) (parts path) (more ∙ ap (λ rest. fits_parts ([] ∷ ps) rest) (rest_parts path))
  where
    by : (slash : Bool) (rest : List (List ℕ)) → fits ≡ fits_parts ([] ∷ ps) ([] ∷ tail_of rest)
        → (not slash && fits) ≡ fits_parts ((y ∷ w) ∷ ps) (cond slash ([] ∷ rest) (onto_first b rest))
    by true rest h = rw e refl
    by false [] h = rw e h
    by false (q ∷ qs) h = rw e h

no_bytes : (y : ℕ) (w : List ℕ) (ps : List (List ℕ)) → false ≡ fits_parts ((y ∷ w) ∷ ps) ([] ∷ [])
no_bytes y w ps = by (y == 123)
  where
    by : (v : Bool) → false ≡ (cond v false false && pointwise takes ps [])
    by true = refl
    by false = refl

pub spelt : (t : List ℕ) (ps : List (List ℕ)) (path : List ℕ) → IsTrue (spell t ps)
    → fits_tokens t path ≡ fits_parts ps (parts path)
spelt t [] path h = cc
spelt [] ([] ∷ []) [] h = refl
spelt [] ([] ∷ []) (b ∷ path) h = at_end b path
spelt [] ([] ∷ q ∷ ps) path h = cc
spelt [] ((y ∷ w) ∷ ps) path h = cc
spelt (x ∷ t) ([] ∷ []) path h = cc
spelt (x ∷ t) ([] ∷ q ∷ ps) [] h = refl
spelt (x ∷ t) ([] ∷ q ∷ ps) (b ∷ path) h =
    let both = and_parts (x == 47) (spell t (q ∷ ps)) h in
    rw (eqb-true x 47 both.0) (at_slash b path q ps (fits_tokens t path) (spelt t (q ∷ ps) path both.1))
spelt (x ∷ t) ((y ∷ w) ∷ ps) [] h = no_bytes y w ps
spelt (x ∷ t) ((y ∷ w) ∷ ps) (b ∷ path) h =
    by (y == 123) refl h (λ more. spelt t (w ∷ ps) path more) (λ more. spelt t ([] ∷ ps) (from_slash path) more)
  where
    by : (v : Bool) → (y == 123) ≡ v
        → IsTrue (cond v (x == param_token && spell t ([] ∷ ps))
        (not (x == param_token) && (x == y && (not (y == 47) && (not (is_parameter w) && spell t (w ∷ ps))))))
        → (IsTrue (spell t (w ∷ ps)) → fits_tokens t path ≡ fits_parts (w ∷ ps) (parts path))
        → (IsTrue (spell t ([] ∷ ps)) → fits_tokens t (from_slash path)
        ≡ fits_parts ([] ∷ ps) (parts (from_slash path)))
        → fits_tokens (x ∷ t) (b ∷ path) ≡ fits_parts ((y ∷ w) ∷ ps) (parts (b ∷ path))
    by true brace h more rest =
        let both = and_parts (x == param_token) (spell t ([] ∷ ps)) h in
        rw both.0 (at_parameter y b w path ps (fits_tokens t (from_slash path)) brace (rest both.1))
    by false brace h more rest =
        let byte = and_parts (not (x == param_token))
        (x == y && (not (y == 47) && (not (is_parameter w) && spell t (w ∷ ps)))) h in
        let same = and_parts (x == y) (not (y == 47) && (not (is_parameter w) && spell t (w ∷ ps))) byte.1 in
        let slash = and_parts (not (y == 47)) (not (is_parameter w) && spell t (w ∷ ps)) same.1 in
        let word = and_parts (not (is_parameter w)) (spell t (w ∷ ps)) slash.1 in
        rw (is_false (x == param_token) byte.0, eqb-true x y same.0)
        (at_word y b w path ps (fits_tokens t path) brace (is_false (y == 47) slash.0)
        (is_false (is_parameter w) word.0) (more word.1))
