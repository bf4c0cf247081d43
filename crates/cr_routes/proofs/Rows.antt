-- SPDX-License-Identifier: Apache-2.0 OR MIT
-- Rows whose parameters are whole parts of a path, and what stays of that when a token is taken off.
use Rattle.std.proofs.Common.{◌≡◌, ℕ, List, [], ◌∷◌, Bool, true, false, cond, not, ◌&&◌, ◌||◌, ◌==◌, refl, IsTrue}
use Rattle.std.proofs.lemmas.Bool.{eqb-true, and_parts}
use Rattle.matchit.specs.Rows.{param_token, catch_all_token}
use Rattle.matchit.specs.Router.{RouteOf}
use Rattle.matchit.specs.Seek.{step, segment, same_text, with_suffix}
use Rattle.cr_routes.specs.declared.resource.Resource.{Resource}
use Rattle.cr_routes.specs.Rows.{Rows}

abbrev pub none : Rows
none = []

abbrev pub Route : Type 0
Route = RouteOf Resource

-- behind a parameter: the end, or a slash
abbrev pub is_next : List ℕ → Bool
is_next [] = true
is_next (x ∷ t) = x == 47

-- bytes, and parameters that are whole parts
abbrev pub is_plain : List ℕ → Bool
is_plain [] = true
is_plain (x ∷ t) = not (x == catch_all_token) && ((not (x == param_token) || is_next t) && is_plain t)

-- where two rows part, the first doesn't go on with a parameter
abbrev pub may_precede : List ℕ → List ℕ → Bool
may_precede [] u = true
may_precede (x ∷ t) [] = true
may_precede (x ∷ t) (y ∷ u) = cond (y == x) (may_precede t u) (not (x == param_token))

abbrev pub precedes_all : List ℕ → Rows → Bool
precedes_all t [] = true
precedes_all t ((u, r) ∷ rest) = may_precede t u && precedes_all t rest

-- each row is such, and bytes come before parameters
abbrev pub are_good : Rows → Bool
are_good [] = true
are_good ((t, r) ∷ rest) = is_plain t && (precedes_all t rest && are_good rest)

pub is_false : (a : Bool) → IsTrue (not a) → a ≡ false
is_false true h = cc
is_false false h = refl

-- what a good list says of its first row
pub front : (x : ℕ) (t : List ℕ) (r : Route) (rest : Rows) → IsTrue (are_good ((x ∷ t, r) ∷ rest))
    → (x == catch_all_token ≡ false) × IsTrue (not (x == param_token) || is_next t) × IsTrue (is_plain t)
    × IsTrue (precedes_all (x ∷ t) rest) × IsTrue (are_good rest)
front x t r rest h =
    let row = and_parts (is_plain (x ∷ t)) (precedes_all (x ∷ t) rest && are_good rest) h in
    let more = and_parts (precedes_all (x ∷ t) rest) (are_good rest) row.1 in
    let here = and_parts (not (x == catch_all_token)) ((not (x == param_token) || is_next t) && is_plain t) row.0 in
    let next = and_parts (not (x == param_token) || is_next t) (is_plain t) here.1 in
    (is_false (x == catch_all_token) here.0, next.0, next.1, more.0, more.1)

pub behind_empty : (r : Route) (rest : Rows) → IsTrue (are_good (([], r) ∷ rest)) → IsTrue (are_good rest)
behind_empty r rest h = (and_parts (precedes_all [] rest) (are_good rest) h).1

keep : (v : Bool) (t u : List ℕ) (other : Bool) (r : Route) (more : Rows) → IsTrue (cond v (may_precede t u) other)
    → IsTrue (precedes_all t more) → IsTrue (precedes_all t (cond v ((u, r) ∷ more) more))
keep true t u other r more h all = rw h all
keep false t u other r more h all = all

precedes_step : (x : ℕ) (t : List ℕ) (rest : Rows) → IsTrue (precedes_all (x ∷ t) rest)
    → IsTrue (precedes_all t (step x rest))
precedes_step x t [] h = refl
precedes_step x t (([], r) ∷ rest) h = precedes_step x t rest h
precedes_step x t ((y ∷ u, r) ∷ rest) h =
    let both = and_parts (may_precede (x ∷ t) (y ∷ u)) (precedes_all (x ∷ t) rest) h in
    keep (y == x) t u (not (x == param_token)) r (step x rest) both.0 (precedes_step x t rest both.1)

pub good_step : (b : ℕ) (rows : Rows) → IsTrue (are_good rows) → IsTrue (are_good (step b rows))
good_step b [] h = refl
good_step b (([], r) ∷ rest) h = good_step b rest (behind_empty r rest h)
good_step b ((x ∷ t, r) ∷ rest) h = let row =
    front x t r rest h in by (x == b) refl row.2 row.3 (good_step b rest row.4)
  where
    by : (v : Bool) → (x == b) ≡ v → IsTrue (is_plain t) → IsTrue (precedes_all (x ∷ t) rest)
        → IsTrue (are_good (step b rest)) → IsTrue (are_good (cond v ((t, r) ∷ step b rest) (step b rest)))
    by true e plain all more =
        let first : IsTrue (precedes_all t (step b rest)) = rw (← eqb-true x b e) (precedes_step x t rest all) in
        rw (plain, first) more
    by false e plain all more = more

precedes_suffix : (s t : List ℕ) (rest : Rows) → IsTrue (precedes_all t rest)
    → IsTrue (precedes_all t (with_suffix s rest))
precedes_suffix s t [] h = refl
precedes_suffix s t ((u, r) ∷ rest) h =
    let both = and_parts (may_precede t u) (precedes_all t rest) h in
    by (same_text (segment u) s) both.0 (precedes_suffix s t rest both.1)
  where
    by : (v : Bool) → IsTrue (may_precede t u) → IsTrue (precedes_all t (with_suffix s rest))
        → IsTrue (precedes_all t (cond v ((u, r) ∷ with_suffix s rest) (with_suffix s rest)))
    by true here more = rw here more
    by false here more = more

pub good_suffix : (s : List ℕ) (rows : Rows) → IsTrue (are_good rows) → IsTrue (are_good (with_suffix s rows))
good_suffix s [] h = refl
good_suffix s ((t, r) ∷ rest) h =
    let row = and_parts (is_plain t) (precedes_all t rest && are_good rest) h in
    let more = and_parts (precedes_all t rest) (are_good rest) row.1 in
    by (same_text (segment t) s) row.0 (precedes_suffix s t rest more.0) (good_suffix s rest more.1)
  where
    by : (v : Bool) → IsTrue (is_plain t) → IsTrue (precedes_all t (with_suffix s rest))
        → IsTrue (are_good (with_suffix s rest))
        → IsTrue (are_good (cond v ((t, r) ∷ with_suffix s rest) (with_suffix s rest)))
    by true plain all more = rw (plain, all) more
    by false plain all more = more

-- no row goes on with a catch-all
pub no_catch_all : (rows : Rows) → IsTrue (are_good rows) → step catch_all_token rows ≡ none
no_catch_all [] h = refl
no_catch_all (([], r) ∷ rest) h = no_catch_all rest (behind_empty r rest h)
no_catch_all ((x ∷ t, r) ∷ rest) h = let row = front x t r rest h in rw row.0 (no_catch_all rest row.4)

-- rows that go on with a slash, or end
abbrev pub all_next : Rows → Bool
all_next [] = true
all_next ((t, r) ∷ rest) = is_next t && all_next rest

pub next_step : (rows : Rows) → IsTrue (are_good rows) → IsTrue (all_next (step param_token rows))
next_step [] h = refl
next_step (([], r) ∷ rest) h = next_step rest (behind_empty r rest h)
next_step ((x ∷ t, r) ∷ rest) h = let row = front x t r rest h in by (x == param_token) row.1 (next_step rest row.4)
  where
    by : (v : Bool) → IsTrue (not v || is_next t) → IsTrue (all_next (step param_token rest))
        → IsTrue (all_next (cond v ((t, r) ∷ step param_token rest) (step param_token rest)))
    by true next more = rw next more
    by false next more = more

-- behind a row that goes on with a parameter none goes on with a byte
pub none_behind : (x b : ℕ) (t : List ℕ) (rest : Rows) → x ≡ param_token → (b == param_token) ≡ false
    → IsTrue (precedes_all (x ∷ t) rest) → step b rest ≡ none
none_behind x b t [] e other h = refl
none_behind x b t (([], r) ∷ rest) e other h = none_behind x b t rest e other h
none_behind x b t ((y ∷ u, r) ∷ rest) e other h =
    let both = and_parts (may_precede (x ∷ t) (y ∷ u)) (precedes_all (x ∷ t) rest) h in
    by (y == b) refl (y == x) refl both.0 (none_behind x b t rest e other both.1)
  where
    by : (here : Bool) → (y == b) ≡ here → (same : Bool) → (y == x) ≡ same
        → IsTrue (cond same (may_precede t u) (not (x == param_token))) → step b rest ≡ none
        → cond here ((u, r) ∷ step b rest) (step b rest) ≡ none
    by false f same g first more = more
    by true f false g first more = let bad : false ≡ true = rw e at first in cc
    by true f true g first more =
        let same : b ≡ param_token = rw (eqb-true y b f) at (rw e at (eqb-true y x g)) in
        let bad : true ≡ false = rw same at other in
        cc
