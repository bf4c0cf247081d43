-- SPDX-License-Identifier: Apache-2.0 OR MIT
-- What the router finds is what the path's parts tell. The table is looked at by computing alone, in `good`,
-- `spelt_by`, `placed`, `patterns` and `named`: another path changes nothing here.
use Rattle.std.proofs.Common.{◌≡◌, ◌≢◌, ℕ, ◌≤◌, List, [], ◌∷◌, length, Bool, true, false, cond, ◌&&◌, nat_le, Option}
use Rattle.std.proofs.Common.{Some, None, option_map, find, map, refl, sym, ap, ap₂, subst, ◌∙◌, IsTrue, IsUtf8}
use Rattle.std.proofs.lemmas.Bool.{and_parts, ne_eqb, leb-true}
use Rattle.matchit.proofs.OnLiterals.{matchit_on_literals}
use Rattle.matchit.specs.Seek.{first}
use Rattle.cr_routes.specs.declared.resource.Resource.{Resource}
use Rattle.cr_routes.specs.Paths.{paths}
use Rattle.cr_routes.specs.Rows.{Rows, AreTexts, added, the_rows, walked}
use Rattle.cr_routes.specs.Parts.{FoundPath, parts, fits_parts, first_of, second_of, found_with, found_as, found_at}
use Rattle.cr_routes.proofs.Rows.{Route, are_good, is_plain}
use Rattle.cr_routes.proofs.Taking.{fits_tokens, taking, first_takes}
use Rattle.cr_routes.proofs.Spelling.{some_parts, spell, spelt}
use Rattle.cr_routes.proofs.Walked.{are_named, took, texts, walked_took}
use Rattle.cr_routes.proofs.Shares.{shares}

-- each row is spelt by its listed path
abbrev are_spelt : Rows → List (List ℕ × Resource) → Bool
are_spelt [] [] = true
are_spelt [] (line ∷ lines) = false
are_spelt (row ∷ rows) [] = false
are_spelt ((t, r) ∷ rows) (line ∷ lines) = spell t (parts line.0) && are_spelt rows lines

-- the resources of rows, and of listed paths
abbrev row_resources : Rows → List Resource
row_resources rows = map (λ row. row.1.value) rows

abbrev line_resources : List (List ℕ × Resource) → List Resource
line_resources lines = map (λ line. line.1) lines

-- the tokens of rows, and of their routes
abbrev row_tokens : Rows → List (List ℕ)
row_tokens rows = map (λ row. row.0) rows

abbrev row_patterns : Rows → List (List ℕ)
row_patterns rows = map (λ row. row.1.pattern) rows

-- a row's parameters have names, and its tokens are few
abbrev is_walked : List ℕ → Route → Bool
is_walked t r = are_named t r.names && is_plain t && nat_le (length t) 1000

abbrev are_walked : Rows → Bool
are_walked [] = true
are_walked ((t, r) ∷ rows) = is_walked t r && are_walked rows

-- what the router finds
abbrev routed : List ℕ → Route → FoundPath
routed path r = found_with r.value (walked r.pattern r.text path r.names)

-- what is walked of a row that takes the path
walks : (t path : List ℕ) (r : Route) → r.pattern ≡ t → IsTrue (is_walked t r) → IsTrue (fits_tokens t path)
    → walked r.pattern r.text path r.names ≡ took t path
walks t path r e h fits =
    let all = and_parts (are_named t r.names && is_plain t) (nat_le (length t) 1000) h in
    let both = and_parts (are_named t r.names) (is_plain t) all.0 in
    let few : length t ≤ 1000 = leb-true (length t) 1000 all.1 in
    ap (λ (p : List ℕ). walked p r.text path r.names) e ∙ walked_took t path r.text r.names both.0 both.1 fits few

same_found : (rows : Rows) (lines : List (List ℕ × Resource)) (path : List ℕ) → IsTrue (are_spelt rows lines)
    → row_resources rows ≡ line_resources lines
    → row_patterns rows ≡ row_tokens rows → IsTrue (are_walked rows)
    → option_map (routed path) (taking rows path) ≡ option_map (found_as path)
    (find (λ line. fits_parts (parts line.0) (parts path)) lines)
same_found [] [] path h e p w = refl
same_found [] (line ∷ lines) path h e p w = cc
same_found (row ∷ rows) [] path h e p w = cc
same_found ((t, r) ∷ rows) (line ∷ lines) path h e p w =
    let both = and_parts (spell t (parts line.0)) (are_spelt rows lines) h in
    let walk = and_parts (is_walked t r) (are_walked rows) w in
    let resource : r.value ≡ line.1 = cc in
    let resources : row_resources rows ≡ line_resources lines = cc in
    let pattern : r.pattern ≡ t = cc in
    let patterns : row_patterns rows ≡ row_tokens rows = cc in
    by (fits_tokens t path) (fits_parts (parts line.0) (parts path)) (spelt t (parts line.0) path both.0)
    (λ fits. ap₂ found_with resource (walks t path r pattern walk.0 fits ∙ shares t (parts line.0) path both.0 fits))
    (same_found rows lines path both.1 resources patterns walk.1)
  where
    by : (a b : Bool) → a ≡ b → (IsTrue a → routed path r ≡ found_as path line)
        → option_map (routed path) (taking rows path) ≡ option_map (found_as path)
        (find (λ line. fits_parts (parts line.0) (parts path)) lines)
        → option_map (routed path) (cond a (Some r) (taking rows path)) ≡ option_map (found_as path)
        (cond b (Some line) (find (λ line. fits_parts (parts line.0) (parts path)) lines))
    by true true e here more = ap (λ (f : FoundPath). Some f) (here refl)
    by true false e here more = cc
    by false true e here more = cc
    by false false e here more = more

-- what is walked of a text are texts
walks_texts : (rows : Rows) (path : List ℕ) (found : Route) → IsUtf8 path → row_patterns rows ≡ row_tokens rows
    → IsTrue (are_walked rows) → taking rows path ≡ Some found
    → AreTexts (walked found.pattern found.text path found.names)
walks_texts [] path found text p w e = cc
walks_texts ((t, r) ∷ rows) path found text p w e =
    let walk = and_parts (is_walked t r) (are_walked rows) w in
    let all = and_parts (are_named t r.names && is_plain t) (nat_le (length t) 1000) walk.0 in
    let named = and_parts (are_named t r.names) (is_plain t) all.0 in
    let pattern : r.pattern ≡ t = cc in
    let patterns : row_patterns rows ≡ row_tokens rows = cc in
    by (fits_tokens t path) (λ fits. subst AreTexts (sym (walks t path r pattern walk.0 fits))
    (texts t path r.names named.0 text fits)) e
    (λ e. walks_texts rows path found text patterns walk.1 e)
  where
    by : (v : Bool) → (IsTrue v → AreTexts (walked r.pattern r.text path r.names))
        → cond v (Some r) (taking rows path) ≡ Some found
        → (taking rows path ≡ Some found → AreTexts (walked found.pattern found.text path found.names))
        → AreTexts (walked found.pattern found.text path found.names)
    by true here e more = let same : r ≡ found =
        cc in subst (λ (r : Route). AreTexts (walked r.pattern r.text path r.names)) same (here refl)
    by false here e more = more e

good : IsTrue (are_good the_rows)
unfolding matchit_on_literals added the_rows
good = refl

spelt_by : IsTrue (are_spelt the_rows paths)
unfolding matchit_on_literals added the_rows
spelt_by = refl

placed : row_resources the_rows ≡ line_resources paths
unfolding matchit_on_literals added the_rows
placed = refl

patterns : row_patterns the_rows ≡ row_tokens the_rows
unfolding matchit_on_literals added the_rows
patterns = refl

named : IsTrue (are_walked the_rows)
unfolding matchit_on_literals added the_rows
named = refl

-- what the router finds is what is found of the path
found_by_router : (path : List ℕ) → option_map (routed path) (first the_rows path) ≡ found_at path
unfolding found_at
found_by_router path = ap (λ o. option_map (routed path) o) (first_takes path the_rows good)
    ∙ same_found the_rows paths path spelt_by placed patterns named

-- and its parameters are text where the path is
routed_texts : (path : List ℕ) (found : Route) → IsUtf8 path → first the_rows path ≡ Some found
    → AreTexts (walked found.pattern found.text path found.names)
routed_texts path found text e =
    walks_texts the_rows path found text patterns named (sym (first_takes path the_rows good) ∙ e)

-- what `find` gives: where a route was found, and where none was
pub found_is : (rows : Rows) (path path' : List ℕ) (route : Route) (first_part second_part : Option (List ℕ))
    → rows ≡ the_rows → first rows path ≡ Some route → path' ≡ path
    → first_part ≡ first_of (walked route.pattern route.text path' route.names)
    → second_part ≡ second_of (walked route.pattern route.text path' route.names)
    → Some (record { resource = route.value; first = first_part; second = second_part }) ≡ found_at path
found_is rows path path' route first_part second_part whole e same a b =
    let is : option_map (routed path) (first the_rows path) ≡ Some (routed path route) =
    ap (λ (o : Option Route). option_map (routed path) o) (ap (λ (rows : Rows). first rows path) (sym whole) ∙ e) in
    rw (a, b, same) (sym is ∙ found_by_router path)

pub none_is : (rows : Rows) (path : List ℕ) → rows ≡ the_rows → first rows path ≡ None → None ≡ found_at path
none_is rows path whole e =
    sym (ap (λ (o : Option Route). option_map (routed path) o) (ap (λ (rows : Rows). first rows path) (sym whole) ∙ e))
    ∙ found_by_router path

pub texts_are : (rows : Rows) (path path' : List ℕ) (route : Route) → rows ≡ the_rows → IsUtf8 path
    → first rows path ≡ Some route → path' ≡ path
    → AreTexts (walked route.pattern route.text path' route.names)
texts_are rows path path' route whole text e same =
    rw same (routed_texts path route text (ap (λ (rows : Rows). first rows path) (sym whole) ∙ e))

-- a path that doesn't begin with a slash has no resource
pub unrooted : (byte : ℕ) (path : List ℕ) → byte ≢ 47 → found_at (byte ∷ path) ≡ None
unfolding found_at
unrooted byte path other =
    let some = some_parts path in
    rw (ne_eqb byte 47 other, some.2) refl
