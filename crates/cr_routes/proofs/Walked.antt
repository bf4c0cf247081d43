-- SPDX-License-Identifier: Apache-2.0 OR MIT
-- What the router's walk over a row's names gives: the parts of the path that the row's parameters take.
use Rattle.std.proofs.Common.{◌≡◌, ℕ, suc, ◌+◌, ◌-◌, ◌<◌, ◌≤◌, List, [], ◌∷◌, length, map, take, drop, get_or, Bool}
use Rattle.std.proofs.Common.{true, false, cond, not, ◌&&◌, ◌||◌, ◌==◌, nat_lt, ltb, leb, refl, sym, ap, ap₂, subst}
use Rattle.std.proofs.Common.{◌∙◌, IsTrue, IsUtf8, arith, length-drop}
use Rattle.std.proofs.lemmas.Bool.{eqb-true, and_parts}
use Rattle.std.proofs.lemmas.Bool.Decides.{nat_tests}
use Rattle.std.proofs.lemmas.List.{drop-drop, drop_more}
use Rattle.std.proofs.lemmas.Str.{IsUtf8-nil, IsUtf8-take, IsUtf8-drop, IsCharBoundary-before_ascii}
use Rattle.std.proofs.lemmas.Str.{IsCharBoundary-after_ascii}
use Rattle.std.proofs.Math.Bool.{and-false}
use Rattle.matchit.specs.Params.{walk, wild_from, wild_stop, part_of, after_token}
use Rattle.matchit.specs.Rows.{param_token, catch_all_token}
use Rattle.matchit.specs.Seek.{segment, has_slash}
use Rattle.cr_routes.specs.Rows.{AreTexts, walked}
use Rattle.cr_routes.proofs.Rows.{is_next, is_plain, is_false}
use Rattle.cr_routes.proofs.Taking.{from_slash, fits_tokens, no_slash, a_slash}

-- the bytes in front of the first slash
abbrev pub before_slash : List ℕ → List ℕ
before_slash [] = []
before_slash (b ∷ path) = cond (b == 47) [] (b ∷ before_slash path)

-- the parts of a path that the parameters among tokens take
abbrev pub took : List ℕ → List ℕ → List (List ℕ)
took [] path = []
took (x ∷ t) [] = []
took (x ∷ t) (b ∷ path) = cond (x == param_token) (before_slash (b ∷ path) ∷ took t (from_slash path)) (took t path)

abbrev Names : Type 0
Names = List (ℕ × ℕ)

abbrev has_name : Names → Bool
has_name [] = false
has_name (n ∷ rest) = true

abbrev other_names : Names → Names
other_names [] = []
other_names (n ∷ rest) = rest

-- there is a name for each parameter, and the other tokens are ASCII
abbrev pub are_named : List ℕ → Names → Bool
are_named [] names = not (has_name names)
are_named (x ∷ t) names =
    cond (x == param_token) (has_name names && are_named t (other_names names)) (nat_lt x 128 && are_named t names)

-- ---- the first part

segment_len : (path : List ℕ) → has_slash path ≡ true → length (segment path) ≡ suc (length (before_slash path))
segment_len [] h = cc
segment_len (b ∷ path) h = by (b == 47) h (λ e. segment_len path e)
  where
    by : (v : Bool) → cond v true (has_slash path) ≡ true
        → (has_slash path ≡ true → length (segment path) ≡ suc (length (before_slash path)))
        → length (cond v (b ∷ []) (b ∷ segment path)) ≡ suc (length (cond v [] (b ∷ before_slash path)))
    by true e more = refl
    by false e more = ap suc (more e)

to_end : (path : List ℕ) → has_slash path ≡ false → before_slash path ≡ path
to_end [] h = refl
to_end (b ∷ path) h = by (b == 47) h (λ e. to_end path e)
  where
    by : (v : Bool) → cond v true (has_slash path) ≡ false → (has_slash path ≡ false → before_slash path ≡ path)
        → cond v [] (b ∷ before_slash path) ≡ b ∷ path
    by true e more = cc
    by false e more = ap (λ l. b ∷ l) (more e)

front : (path : List ℕ) → take (length (before_slash path)) path ≡ before_slash path
front [] = refl
front (b ∷ path) = by (b == 47) (front path)
  where
    by : (v : Bool) → take (length (before_slash path)) path ≡ before_slash path
        → take (length (cond v [] (b ∷ before_slash path))) (b ∷ path) ≡ cond v [] (b ∷ before_slash path)
    by true e = refl
    by false e = ap (λ l. b ∷ l) e

back : (path : List ℕ) → drop (length (before_slash path)) path ≡ from_slash path
back [] = refl
back (b ∷ path) = by (b == 47) (back path)
  where
    by : (v : Bool) → drop (length (before_slash path)) path ≡ from_slash path
        → drop (length (cond v [] (b ∷ before_slash path))) (b ∷ path) ≡ cond v (b ∷ path) (from_slash path)
    by true e = refl
    by false e = e

slash_there : (path : List ℕ) → has_slash path ≡ true → (length (before_slash path) < length path)
    × (get_or path (length (before_slash path)) 0 ≡ 47)
slash_there [] h = cc
slash_there (b ∷ path) h = by (b == 47) refl h (λ e. slash_there path e)
  where
    by : (v : Bool) → (b == 47) ≡ v → cond v true (has_slash path) ≡ true
        → (has_slash path ≡ true → (length (before_slash path) < length path)
        × (get_or path (length (before_slash path)) 0 ≡ 47))
        → (length (cond v [] (b ∷ before_slash path)) < length (b ∷ path))
        × (get_or (b ∷ path) (length (cond v [] (b ∷ before_slash path))) 0 ≡ 47)
    by true is e more = (omega arith, eqb-true b 47 is)
    by false is e more = (omega (arith, (more e).0), (more e).1)

short_front : (path : List ℕ) → length (before_slash path) ≤ length path
short_front path = by (has_slash path) refl
  where
    by : (v : Bool) → has_slash path ≡ v → length (before_slash path) ≤ length path
    by true e = omega (arith, (slash_there path e).0)
    by false e = rw (to_end path e) (omega arith)

-- the parts before and behind the first slash of a text are texts
texts_around : (path : List ℕ) → IsUtf8 path → IsUtf8 (before_slash path) × IsUtf8 (from_slash path)
texts_around path text = by (has_slash path) refl
  where
    by : (v : Bool) → has_slash path ≡ v → IsUtf8 (before_slash path) × IsUtf8 (from_slash path)
    by true e =
        let there = slash_there path e in
        let ascii : get_or path (length (before_slash path)) 0 < 128 = omega (arith, there.1) in
        let cut = IsCharBoundary-before_ascii path (length (before_slash path)) there.0 ascii in (
          subst IsUtf8 (front path) (IsUtf8-take path (length (before_slash path)) text cut),
          subst IsUtf8 (back path) (IsUtf8-drop path (length (before_slash path)) text cut),
        )
    by false e = (subst IsUtf8 (sym (to_end path e)) text, subst IsUtf8 (sym (no_slash path e)) IsUtf8-nil)

text_behind : (b : ℕ) (path : List ℕ) → b < 128 → IsUtf8 (b ∷ path) → IsUtf8 path
text_behind b path ascii text =
    IsUtf8-drop (b ∷ path) 1 text (IsCharBoundary-after_ascii (b ∷ path) 0 text (omega arith) ascii)

below : (x m : ℕ) → IsTrue (nat_lt x m) → x < m
below x m h = grind (arith, nat_tests)

-- the parts that tokens take of a text are texts
pub texts : (t path : List ℕ) (names : Names) → IsTrue (are_named t names) → IsUtf8 path → IsTrue (fits_tokens t path)
    → AreTexts (took t path)
texts [] path names h text fits = tt
texts (x ∷ t) [] names h text fits = tt
texts (x ∷ t) (b ∷ path) names h text fits =
    by (x == param_token) h fits (λ h text fits. texts t (from_slash path) (other_names names) h text fits)
    (λ h text fits. texts t path names h text fits)
  where
    by : (v : Bool)
        → IsTrue (cond v (has_name names && are_named t (other_names names)) (nat_lt x 128 && are_named t names))
        → IsTrue (cond v (not (b == 47) && fits_tokens t (from_slash path)) (x == b && fits_tokens t path))
        → (IsTrue (are_named t (other_names names)) → IsUtf8 (from_slash path)
        → IsTrue (fits_tokens t (from_slash path)) → AreTexts (took t (from_slash path)))
        → (IsTrue (are_named t names) → IsUtf8 path → IsTrue (fits_tokens t path) → AreTexts (took t path))
        → AreTexts (cond v (before_slash (b ∷ path) ∷ took t (from_slash path)) (took t path))
    by true h fits behind more =
        let named = and_parts (has_name names) (are_named t (other_names names)) h in
        let fit = and_parts (not (b == 47)) (fits_tokens t (from_slash path)) fits in
        let around = texts_around (b ∷ path) text in
        let rest : IsUtf8 (from_slash path) =
        subst (λ (v : Bool). IsUtf8 (cond v (b ∷ path) (from_slash path))) (is_false (b == 47) fit.0) around.1 in
        (around.0, behind named.1 rest fit.1)
    by false h fits behind more =
        let named = and_parts (nat_lt x 128) (are_named t names) h in
        let fit = and_parts (x == b) (fits_tokens t path) fits in
        let ascii : b < 128 = subst (λ (n : ℕ). n < 128) (eqb-true x b fit.0) (below x 128 named.0) in
        more named.1 (text_behind b path ascii text) fit.1

-- ---- the walk

-- what a list is cut at an index
cut : (list rest : List ℕ) (x i : ℕ) → drop i list ≡ x ∷ rest
    → (i < length list) × (get_or list i 0 ≡ x) × (drop (i + 1) list ≡ rest) × (length list ≡ i + suc (length rest))
cut list rest x i e =
    let len : suc (length rest) ≡ length list - i =
    subst (λ (l : List ℕ). length l ≡ length list - i) e (length-drop i list) in
    let within : i < length list = omega (arith, len) in
    let both : get_or list i 0 ∷ drop (i + 1) list ≡ x ∷ rest = sym (drop_more list i 0 within) ∙ e in
    (within, cc, cc, omega (arith, len))

abbrev Taken : Type 0
Taken = List (List ℕ × List ℕ)

-- the walk from the next parameter on
abbrev at_wild : List ℕ → List ℕ → List ℕ → ℕ × ℕ → Names → ℕ × ℕ → Taken
at_wild pattern text path n names w =
    (part_of text n.0 n.1, part_of path w.1 (wild_stop pattern w.0 path w.1))
    ∷ walk pattern text path names (after_token w.0) (wild_stop pattern w.0 path w.1)

from_byte : (x len token at : ℕ) (t : List ℕ) → ltb x param_token ≡ true → ltb at len ≡ true
    → wild_from (x ∷ t) len token at ≡ wild_from t len (token + 1) (at + 1)
from_byte x len token at t small within = rw (small, within) refl

is_less : (x m n : ℕ) → x < m → m ≤ n → ltb x n ≡ true
is_less x m n a b = grind (arith, nat_tests)

-- over a byte the walk goes on one byte behind
over_byte : (pattern text path t q : List ℕ) (names : Names) (x b token at : ℕ) → drop token pattern ≡ x ∷ t
    → drop at path ≡ b ∷ q → x < 128
    → walk pattern text path names token at ≡ walk pattern text path names (token + 1) (at + 1)
over_byte pattern text path t q [] x b token at e f small = refl
over_byte pattern text path t q (n ∷ names) x b token at e f small =
    let here = cut pattern t x token e in
    let there = cut path q b at f in
    let step : wild_from (drop token pattern) (length path) token at ≡ wild_from (drop (token + 1) pattern)
    (length path) (token + 1) (at + 1) =
    ap (λ (l : List ℕ). wild_from l (length path) token at) e
    ∙ from_byte x (length path) token at t (is_less x 128 param_token small (omega arith))
    (is_less at (length path) (length path) there.0 (omega arith))
    ∙ ap (λ (l : List ℕ). wild_from l (length path) (token + 1) (at + 1)) (sym here.2) in
    ap (at_wild pattern text path n names) step

-- at a parameter it takes a part
at_parameter : (pattern text path t : List ℕ) (n : ℕ × ℕ) (names : Names) (token at : ℕ)
    → drop token pattern ≡ param_token ∷ t
    → walk pattern text path (n ∷ names) token at ≡ at_wild pattern text path n names (token, at)
at_parameter pattern text path t n names token at e =
    ap (at_wild pattern text path n names) (ap (λ (l : List ℕ). wild_from l (length path) token at) e)

not_less : (m n : ℕ) → n ≤ m → ltb m n ≡ false
not_less m n h = grind (arith, nat_tests)

first_case : (a b c : Bool) (m n : ℕ) → a ≡ true → b ≡ true → c ≡ true → cond (a && b && c) m n ≡ m
first_case a b c m n h i j = rw (h, i, j) refl

last_case : (a b c : Bool) (m n : ℕ) → c ≡ false → cond (a && b && c) m n ≡ n
last_case a b c m n h = rw (h, and-false (a && b)) refl

segment_of : (x : ℕ) (t : List ℕ) → IsTrue (is_next (x ∷ t)) → segment (x ∷ t) ≡ x ∷ []
segment_of x t h = rw h refl

no_rest : (t q : List ℕ) → IsTrue (fits_tokens [] (from_slash q)) → has_slash q ≡ false
no_rest t q fits = by (has_slash q) refl
  where
    by : (v : Bool) → has_slash q ≡ v → v ≡ false
    by false e = refl
    by true e =
        let rest = a_slash q e in
        let bad : false ≡ true = rw rest.1 at fits in
        cc

some_rest : (x : ℕ) (t q : List ℕ) → IsTrue (fits_tokens (x ∷ t) (from_slash q)) → has_slash q ≡ true
some_rest x t q fits = by (has_slash q) refl
  where
    by : (v : Bool) → has_slash q ≡ v → v ≡ true
    by true e = refl
    by false e = let bad : false ≡ true = rw (no_slash q e) at fits in cc

-- the part ends in front of the next slash, or at the end
stops : (pattern path t : List ℕ) (b : ℕ) (q : List ℕ) (token at : ℕ) → drop token pattern ≡ param_token ∷ t
    → drop at path ≡ b ∷ q
    → IsTrue (is_next t) → IsTrue (fits_tokens t (from_slash (b ∷ q)))
    → wild_stop pattern token path at ≡ at + length (before_slash (b ∷ q))
stops pattern path [] b q token at e f next fits =
    let here = cut pattern [] param_token token e in
    let there = cut path q b at f in
    let whole : before_slash (b ∷ q) ≡ b ∷ q = to_end (b ∷ q) (no_rest [] (b ∷ q) fits) in
    let past : ltb (token + 1) (length pattern) ≡ false =
    not_less (token + 1) (length pattern) (omega (arith, here.3)) in
    last_case (ltb token (length pattern)) (get_or pattern token 0 == param_token) (ltb (token + 1) (length pattern))
    (at + length (segment (drop at path)) - length (segment (drop (token + 1) pattern))) (length path) past
    ∙ (rw whole (omega (arith, there.3)))
stops pattern path (y ∷ t) b q token at e f next fits =
    let here = cut pattern (y ∷ t) param_token token e in
    let slash : has_slash (b ∷ q) ≡ true = some_rest y t (b ∷ q) fits in
    let now : ltb token (length pattern) ≡ true =
    is_less token (length pattern) (length pattern) here.0 (omega arith) in
    let parameter : (get_or pattern token 0 == param_token) ≡ true = ap (λ (n : ℕ). n == param_token) here.1 in
    let more : ltb (token + 1) (length pattern) ≡ true =
    is_less (token + 1) (length pattern) (length pattern) (omega (arith, here.3)) (omega arith) in
    let path_len : length (segment (drop at path)) ≡ suc (length (before_slash (b ∷ q))) =
    ap (λ (l : List ℕ). length (segment l)) f ∙ segment_len (b ∷ q) slash in
    let rest_len : length (segment (drop (token + 1) pattern)) ≡ 1 =
    ap (λ (l : List ℕ). length (segment l)) here.2 ∙ ap (λ (l : List ℕ). length l) (segment_of y t next) in
    first_case (ltb token (length pattern)) (get_or pattern token 0 == param_token) (ltb (token + 1) (length pattern))
    (at + length (segment (drop at path)) - length (segment (drop (token + 1) pattern))) (length path) now parameter
    more
    ∙ omega (arith, path_len, rest_len)

part_is : (path q : List ℕ) (at n stop : ℕ) → drop at path ≡ q → stop ≡ at + n → stop ≤ length path
    → part_of path at stop ≡ take n q
part_is path q at n stop e is within =
    let low : leb at stop ≡ true = grind (arith, nat_tests) in
    let high : leb stop (length path) ≡ true = grind (arith, nat_tests) in
    let size : stop - at ≡ n = omega (arith, is) in
    rw (low, high, size, e) refl

after : (token len : ℕ) → token < len → len ≤ 1000 → after_token token ≡ token + 1
after token len h few = omega (arith, h, few)

abbrev parts_of : Taken → List (List ℕ)
parts_of pairs = map (λ pair. pair.1) pairs

walked_from : (t q : List ℕ) (names : Names) (pattern text path : List ℕ) (token at : ℕ) → drop token pattern ≡ t
    → drop at path ≡ q
    → IsTrue (are_named t names) → IsTrue (is_plain t) → IsTrue (fits_tokens t q) → length pattern ≤ 1000
    → parts_of (walk pattern text path names token at) ≡ took t q
walked_from [] q [] pattern text path token at e f named plain fits few = refl
walked_from [] q (n ∷ names) pattern text path token at e f named plain fits few = cc
walked_from (x ∷ t) [] names pattern text path token at e f named plain fits few = cc
walked_from (x ∷ t) (b ∷ q) names pattern text path token at e f named plain fits few =
    let here = cut pattern t x token e in
    let there = cut path q b at f in
    let row = and_parts (not (x == catch_all_token)) ((not (x == param_token) || is_next t) && is_plain t) plain in
    let next = and_parts (not (x == param_token) || is_next t) (is_plain t) row.1 in
    by (x == param_token) refl names named next.0 fits
    (λ token' at' names' e' f' named' fits'. walked_from t (from_slash q) names' pattern text path token' at' e' f'
    named' next.1 fits' few)
    (λ names' named' fits'. walked_from t q names' pattern text path (token + 1) (at + 1) here.2 there.2 named' next.1
    fits' few)
  where
    by : (v : Bool) → (x == param_token) ≡ v → (names : Names)
        → IsTrue (cond v (has_name names && are_named t (other_names names)) (nat_lt x 128 && are_named t names))
        → IsTrue (not v || is_next t)
        → IsTrue (cond v (not (b == 47) && fits_tokens t (from_slash q)) (x == b && fits_tokens t q))
        → ((token' at' : ℕ) (names' : Names) → drop token' pattern ≡ t → drop at' path ≡ from_slash q
        → IsTrue (are_named t names') → IsTrue (fits_tokens t (from_slash q))
        → parts_of (walk pattern text path names' token' at') ≡ took t (from_slash q))
        → ((names' : Names) → IsTrue (are_named t names') → IsTrue (fits_tokens t q)
        → parts_of (walk pattern text path names' (token + 1) (at + 1)) ≡ took t q)
        → parts_of (walk pattern text path names token at) ≡ cond v (before_slash (b ∷ q) ∷ took t (from_slash q))
        (took t q)
    by true is [] named next fits behind more = cc
    by true is (n ∷ names) named next fits behind more =
        let e' : drop token pattern ≡ param_token ∷ t = e ∙ ap (λ (m : ℕ). m ∷ t) (eqb-true x param_token is) in
        let here = cut pattern t param_token token e' in
        let there = cut path q b at f in
        let fit = and_parts (not (b == 47)) (fits_tokens t (from_slash q)) fits in
        let rest_is : from_slash (b ∷ q) ≡ from_slash q =
        ap (λ (v : Bool). cond v (b ∷ q) (from_slash q)) (is_false (b == 47) fit.0) in
        let stop = stops pattern path t b q token at e' f next
        (subst (λ (l : List ℕ). IsTrue (fits_tokens t l)) (sym rest_is) fit.1) in
        let within : wild_stop pattern token path at ≤ length path =
        omega (arith, stop, short_front (b ∷ q), there.3) in
        let part = part_is path (b ∷ q) at (length (before_slash (b ∷ q))) (wild_stop pattern token path at) f stop
        within ∙ front (b ∷ q) in
        let next_path : drop (wild_stop pattern token path at) path ≡ from_slash q =
        ap (λ (k : ℕ). drop k path) stop ∙ sym (drop-drop (length (before_slash (b ∷ q))) at path)
        ∙ ap (λ (l : List ℕ). drop (length (before_slash (b ∷ q))) l) f ∙ back (b ∷ q) ∙ rest_is in
        let next_token : drop (after_token token) pattern ≡ t =
        ap (λ (k : ℕ). drop k pattern) (after token (length pattern) here.0 few) ∙ here.2 in
        ap parts_of (at_parameter pattern text path t n names token at e')
        ∙ ap₂ (λ (a : List ℕ) (l : List (List ℕ)). a ∷ l) part
        (behind (after_token token) (wild_stop pattern token path at) names next_token next_path named fit.1)
    by false is names named next fits behind more =
        let small = and_parts (nat_lt x 128) (are_named t names) named in
        let fit = and_parts (x == b) (fits_tokens t q) fits in
        ap parts_of (over_byte pattern text path t q names x b token at e f (below x 128 small.0))
        ∙ more names small.1 fit.1

pub walked_took : (t path text : List ℕ) (names : Names) → IsTrue (are_named t names) → IsTrue (is_plain t)
    → IsTrue (fits_tokens t path) → length t ≤ 1000
    → walked t text path names ≡ took t path
walked_took t path text names named plain fits few =
    walked_from t path names t text path 0 0 refl refl named plain fits few
