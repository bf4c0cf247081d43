-- SPDX-License-Identifier: Apache-2.0 OR MIT
-- The parts that tokens take of a path are those that the parameters of the listed path take that they spell.
use Rattle.std.specs.List.{onto_first}
use Rattle.std.proofs.Common.{◌≡◌, ℕ, List, [], ◌∷◌, Bool, true, false, cond, not, ◌&&◌, ◌==◌, refl, sym, ap, ◌∙◌}
use Rattle.std.proofs.Common.{IsTrue}
use Rattle.std.proofs.lemmas.Bool.{eqb-true, and_parts}
use Rattle.matchit.specs.Rows.{param_token}
use Rattle.cr_routes.specs.Parts.{parts, is_parameter, taken}
use Rattle.cr_routes.proofs.Rows.{is_false}
use Rattle.cr_routes.proofs.Taking.{from_slash, fits_tokens}
use Rattle.cr_routes.proofs.Spelling.{tail_of, rest_parts, spell}
use Rattle.cr_routes.proofs.Walked.{before_slash, took}

first_part : (path : List ℕ) → parts path ≡ before_slash path ∷ tail_of (parts path)
first_part [] = refl
first_part (b ∷ path) = by (b == 47) (parts path) (first_part path)
  where
    by : (v : Bool) (rest : List (List ℕ)) → rest ≡ before_slash path ∷ tail_of rest
        → cond v ([] ∷ rest) (onto_first b rest) ≡ cond v [] (b ∷ before_slash path)
        ∷ tail_of (cond v ([] ∷ rest) (onto_first b rest))
    by true rest e = refl
    by false [] e = cc
    by false (q ∷ qs) e = let same : q ≡ before_slash path = cc in ap (λ (l : List ℕ). (b ∷ l) ∷ qs) same

at_parameter : (y b : ℕ) (w path : List ℕ) (ps took_behind : List (List ℕ)) → (y == 123) ≡ true → (b == 47) ≡ false
    → took_behind ≡ taken ([] ∷ ps) (parts (from_slash path))
    → before_slash (b ∷ path) ∷ took_behind ≡ taken ((y ∷ w) ∷ ps) (parts (b ∷ path))
at_parameter y b w path ps took_behind brace no_slash e =
    let behind : took_behind ≡ taken ps (tail_of (parts path)) =
    e ∙ ap (λ rest. taken ([] ∷ ps) rest) (rest_parts path) in
    rw (no_slash, first_part path, brace) (ap (λ (l : List (List ℕ)). (b ∷ before_slash path) ∷ l) behind)

at_word : (y b : ℕ) (w path : List ℕ) (ps took_rest : List (List ℕ)) → (y == 123) ≡ false → (b == 47) ≡ false
    → is_parameter w ≡ false
    → took_rest ≡ taken (w ∷ ps) (parts path) → took_rest ≡ taken ((y ∷ w) ∷ ps) (parts (b ∷ path))
at_word y b w path ps took_rest no_brace no_slash word e =
    let more : took_rest ≡ taken ps (tail_of (parts path)) =
    e ∙ ap (λ rest. taken (w ∷ ps) rest) (first_part path) ∙ rw word refl in
    rw (no_slash, first_part path, no_brace) more

pub shares : (t : List ℕ) (ps : List (List ℕ)) (path : List ℕ) → IsTrue (spell t ps) → IsTrue (fits_tokens t path)
    → took t path ≡ taken ps (parts path)
shares t [] path h fits = cc
shares [] ([] ∷ []) [] h fits = refl
shares [] ([] ∷ []) (b ∷ path) h fits = cc
shares [] ([] ∷ q ∷ ps) path h fits = cc
shares [] ((y ∷ w) ∷ ps) path h fits = cc
shares (x ∷ t) ([] ∷ []) path h fits = cc
shares (x ∷ t) ([] ∷ q ∷ ps) [] h fits = cc
shares (x ∷ t) ([] ∷ q ∷ ps) (b ∷ path) h fits =
    let both = and_parts (x == 47) (spell t (q ∷ ps)) h in
    let is : x ≡ 47 = eqb-true x 47 both.0 in
    let here : IsTrue (47 == b && fits_tokens t path) = rw is at fits in
    let fit = and_parts (47 == b) (fits_tokens t path) here in
    let slash : 47 ≡ b = eqb-true 47 b fit.0 in
    rw (is, ← slash) (shares t (q ∷ ps) path both.1 fit.1)
shares (x ∷ t) ((y ∷ w) ∷ ps) [] h fits = cc
shares (x ∷ t) ((y ∷ w) ∷ ps) (b ∷ path) h fits = by (y == 123) refl h (λ more fits. shares t (w ∷ ps) path more fits)
    (λ more fits. shares t ([] ∷ ps) (from_slash path) more fits)
  where
    by : (v : Bool) → (y == 123) ≡ v
        → IsTrue (cond v (x == param_token && spell t ([] ∷ ps))
        (not (x == param_token) && (x == y && (not (y == 47) && (not (is_parameter w) && spell t (w ∷ ps))))))
        → (IsTrue (spell t (w ∷ ps)) → IsTrue (fits_tokens t path) → took t path ≡ taken (w ∷ ps) (parts path))
        → (IsTrue (spell t ([] ∷ ps)) → IsTrue (fits_tokens t (from_slash path)) → took t (from_slash path)
        ≡ taken ([] ∷ ps) (parts (from_slash path)))
        → took (x ∷ t) (b ∷ path) ≡ taken ((y ∷ w) ∷ ps) (parts (b ∷ path))
    by true brace h more rest =
        let both = and_parts (x == param_token) (spell t ([] ∷ ps)) h in
        let here : IsTrue (not (b == 47) && fits_tokens t (from_slash path)) = rw both.0 at fits in
        let fit = and_parts (not (b == 47)) (fits_tokens t (from_slash path)) here in
        rw both.0 (at_parameter y b w path ps (took t (from_slash path)) brace (is_false (b == 47) fit.0)
        (rest both.1 fit.1))
    by false brace h more rest =
        let byte = and_parts (not (x == param_token))
        (x == y && (not (y == 47) && (not (is_parameter w) && spell t (w ∷ ps)))) h in
        let same = and_parts (x == y) (not (y == 47) && (not (is_parameter w) && spell t (w ∷ ps))) byte.1 in
        let slash = and_parts (not (y == 47)) (not (is_parameter w) && spell t (w ∷ ps)) same.1 in
        let word = and_parts (not (is_parameter w)) (spell t (w ∷ ps)) slash.1 in
        let other : (x == param_token) ≡ false = is_false (x == param_token) byte.0 in
        let here : IsTrue (x == b && fits_tokens t path) = rw other at fits in
        let fit = and_parts (x == b) (fits_tokens t path) here in
        let bytes : y ≡ b = sym (eqb-true x y same.0) ∙ eqb-true x b fit.0 in
        let no_slash : (b == 47) ≡ false = ap (λ (n : ℕ). n == 47) (sym bytes) ∙ is_false (y == 47) slash.0 in
        rw other (at_word y b w path ps (took t path) brace no_slash (is_false (is_parameter w) word.0)
        (more word.1 fit.1))
