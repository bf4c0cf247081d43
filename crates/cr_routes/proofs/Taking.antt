-- SPDX-License-Identifier: Apache-2.0 OR MIT
-- The router finds the first row that takes the path.
use Rattle.std.proofs.Common.{◌≡◌, ℕ, zero, suc, ◌-◌, List, [], ◌∷◌, length, drop, Bool, true, false, cond, not, ◌&&◌}
use Rattle.std.proofs.Common.{◌==◌, ltb, nat_eq, Option, Some, None, refl, sym, ap, ◌∙◌, IsTrue, ◌<◌, arith}
use Rattle.std.specs.Cmp.Lexicographic.{pointwise}
use Rattle.std.proofs.lemmas.Bool.{eqb-true, ne_eqb, and_parts}
use Rattle.std.proofs.lemmas.Bool.Decides.{nat_tests}
use Rattle.matchit.specs.Rows.{param_token}
use Rattle.matchit.specs.Seek.{seek, first, step, own, or_else, param_step, has_slash, segment, cuts, longest_from}
use Rattle.matchit.specs.Seek.{longest_suffix, with_suffix}
use Rattle.cr_routes.specs.Rows.{Rows}
use Rattle.cr_routes.proofs.Rows.{none, Route, precedes_all, are_good, all_next, front, behind_empty, good_step}
use Rattle.cr_routes.proofs.Rows.{good_suffix, no_catch_all, next_step, none_behind}

-- what is left of a path from its first slash on
abbrev pub from_slash : List ℕ → List ℕ
from_slash [] = []
from_slash (b ∷ path) = cond (b == 47) (b ∷ path) (from_slash path)

-- tokens take a path: a byte itself alone, a parameter at least one byte, up to the next slash or the end
abbrev pub fits_tokens : List ℕ → List ℕ → Bool
fits_tokens [] [] = true
fits_tokens [] (b ∷ path) = false
fits_tokens (x ∷ t) [] = false
fits_tokens (x ∷ t) (b ∷ path) =
    cond (x == param_token) (not (b == 47) && fits_tokens t (from_slash path)) (x == b && fits_tokens t path)

-- the first row that takes a path
abbrev pub taking : Rows → List ℕ → Option Route
taking [] path = None
taking ((t, r) ∷ rest) path = cond (fits_tokens t path) (Some r) (taking rest path)

-- with no rows left none is found behind a parameter
no_param : (path : List ℕ) → (param_step none path).1 ≡ none
unfolding param_step
no_param path =
    let P : Bool → Type 0 = λ b. (cond {A = ℕ × Rows} b (0, none) (length path, none)).1 ≡ none in
    elim (has_slash path) as P [ true ↦ refl | false ↦ refl ]

-- with no rows left none is found
nothing : (skip : ℕ) (path : List ℕ) → seek skip none path ≡ None
unfolding seek
nothing skip [] = refl
nothing (suc skip) (b ∷ path) = nothing skip path
nothing zero (b ∷ path) =
    rw (nothing 0 path, no_param (b ∷ path), nothing ((param_step none (b ∷ path)).0 - 1) path) refl

-- ---- one byte

taking_end : (rows : Rows) → own rows ≡ taking rows []
taking_end [] = refl
taking_end (([], r) ∷ rest) = refl
taking_end ((x ∷ t, r) ∷ rest) = taking_end rest

abbrev none_found : Option Route
none_found = None

or_none : (o : Option Route) → or_else o None ≡ o
or_none None = refl
or_none (Some r) = refl

or_same : (o : Option Route) → or_else o o ≡ o
or_same None = refl
or_same (Some r) = refl

-- what the rows behind a parameter take
abbrev behind : Rows → ℕ → List ℕ → Option Route
behind rows b path = cond (b == 47) None (taking rows (from_slash path))

at_parameter : (v fits : Bool) (r : Route) (more rest : Option Route) → more ≡ cond v None rest
    → cond (not v && fits) (Some r) more ≡ cond v None (cond fits (Some r) rest)
at_parameter true fits r more rest e = e
at_parameter false true r more rest e = refl
at_parameter false false r more rest e = e

at_byte : (here fits : Bool) (t : List ℕ) (r : Route) (rows : Rows) (path : List ℕ) (more other : Option Route)
    → fits_tokens t path ≡ fits
    → more ≡ or_else (taking rows path) other
    → cond (here && fits) (Some r) more ≡ or_else (taking (cond here ((t, r) ∷ rows) rows) path) other
at_byte false fits t r rows path more other e f = f
at_byte true true t r rows path more other e f = rw e refl
at_byte true false t r rows path more other e f = rw e f

-- bytes come first, then parameters
split : (rows : Rows) (b : ℕ) (path : List ℕ) → (b == param_token) ≡ false → IsTrue (are_good rows)
    → taking rows (b ∷ path) ≡ or_else (taking (step b rows) path) (behind (step param_token rows) b path)
split [] b path other h = by (b == 47)
  where
    by : (v : Bool) → none_found ≡ cond v None none_found
    by true = refl
    by false = refl
split (([], r) ∷ rest) b path other h = split rest b path other (behind_empty r rest h)
split ((x ∷ t, r) ∷ rest) b path other h =
    let row = front x t r rest h in
    by (x == param_token) refl row.3 (split rest b path other row.4)
  where
    by : (v : Bool) → (x == param_token) ≡ v → IsTrue (precedes_all (x ∷ t) rest)
        → taking rest (b ∷ path) ≡ or_else (taking (step b rest) path) (behind (step param_token rest) b path)
        → taking ((x ∷ t, r) ∷ rest) (b ∷ path) ≡ or_else (taking (step b ((x ∷ t, r) ∷ rest)) path)
        (behind (step param_token ((x ∷ t, r) ∷ rest)) b path)
    by true e all more =
        let is : x ≡ param_token = eqb-true x param_token e in
        let gone : step b rest ≡ none = none_behind x b t rest is other all in
        let not_here : (x == b) ≡ false =
        rw is (ne_eqb param_token b (λ same. let bad : true ≡ false = rw (← same) at other in cc)) in
        rw (e, not_here, gone) (at_parameter (b == 47) (fits_tokens t (from_slash path)) r (taking rest (b ∷ path))
        (taking (step param_token rest) (from_slash path)) (rw gone at more))
    by false e all more =
        rw e (at_byte (x == b) (fits_tokens t path) t r (step b rest) path (taking rest (b ∷ path))
        (behind (step param_token rest) b path) refl more)

-- a byte that is the parameter's own token
split_token : (rows : Rows) (b : ℕ) (path : List ℕ) → b ≡ param_token → IsTrue (are_good rows)
    → taking rows (b ∷ path) ≡ taking (step param_token rows) (from_slash path)
split_token [] b path is h = refl
split_token (([], r) ∷ rest) b path is h = split_token rest b path is (behind_empty r rest h)
split_token ((x ∷ t, r) ∷ rest) b path is h =
    let row = front x t r rest h in
    by (x == param_token) refl (split_token rest b path is row.4)
  where
    by : (v : Bool) → (x == param_token) ≡ v → taking rest (b ∷ path) ≡ taking (step param_token rest) (from_slash path)
        → taking ((x ∷ t, r) ∷ rest) (b ∷ path) ≡ taking
        (cond v ((t, r) ∷ step param_token rest) (step param_token rest)) (from_slash path)
    by true e more = rw (e, is) (ap (λ rest. cond (fits_tokens t (from_slash path)) (Some r) rest) (rw is at more))
    by false e more = rw (is, e) (rw is at more)

none_takes : (rows : Rows) (b : ℕ) (path : List ℕ) → (b == 47) ≡ false → IsTrue (all_next rows)
    → taking rows (b ∷ path) ≡ None
none_takes [] b path other h = refl
none_takes (([], r) ∷ rest) b path other h = none_takes rest b path other h
none_takes ((x ∷ t, r) ∷ rest) b path other h =
    let row = and_parts (x == 47) (all_next rest) h in
    let not_here : (47 == b) ≡ false = ne_eqb 47 b (λ same. let bad : true ≡ false = rw (← same) at other in cc) in
    rw (eqb-true x 47 row.0, not_here) (none_takes rest b path other row.1)

-- such a byte changes nothing
beside : (rows : Rows) (path : List ℕ) → IsTrue (all_next rows)
    → or_else (taking rows path) (taking rows (from_slash path)) ≡ taking rows (from_slash path)
beside rows [] h = or_same (taking rows [])
beside rows (b ∷ path) h = by (b == 47) refl
  where
    by : (v : Bool) → (b == 47) ≡ v → or_else (taking rows (b ∷ path))
        (taking rows (cond v (b ∷ path) (from_slash path))) ≡ taking rows (cond v (b ∷ path) (from_slash path))
    by true e = or_same (taking rows (b ∷ path))
    by false e = rw (none_takes rows b path e h) refl

one_byte : (rows : Rows) (b : ℕ) (path : List ℕ) → IsTrue (are_good rows)
    → or_else (taking (step b rows) path) (behind (step param_token rows) b path) ≡ taking rows (b ∷ path)
one_byte rows b path h = by (b == param_token) refl
  where
    by : (v : Bool) → (b == param_token) ≡ v
        → or_else (taking (step b rows) path) (behind (step param_token rows) b path) ≡ taking rows (b ∷ path)
    by false e = sym (split rows b path e h)
    by true e =
        let is : b ≡ param_token = eqb-true b param_token e in
        let more : taking rows (param_token ∷ path) ≡ taking (step param_token rows) (from_slash path) =
        split_token rows param_token path refl h in
        rw is (beside (step param_token rows) path (next_step rows h) ∙ sym more)

-- ---- a parameter

-- the path behind its first bytes
abbrev skipped : ℕ → List ℕ → List ℕ
skipped zero path = path
skipped (suc n) [] = []
skipped (suc n) (b ∷ path) = skipped n path

-- whether the last byte is a slash
abbrev last_is : ℕ → List ℕ → Bool
last_is b [] = nat_eq 47 b && true
last_is b (c ∷ s) = last_is c s

ends : (b : ℕ) (s : List ℕ) → pointwise nat_eq (47 ∷ []) (drop (length (b ∷ s) - 1) (b ∷ s)) ≡ last_is b s
ends b [] = refl
ends b (c ∷ s) =
    let more : length (b ∷ c ∷ s) - 1 ≡ suc (length s) = omega arith in
    let less : length (c ∷ s) - 1 ≡ length s = omega arith in
    rw more (rw less at (ends c s))

last_slash : (b : ℕ) (path : List ℕ) → (b == 47) ≡ false → last_is b (segment path) ≡ has_slash path
last_slash b [] other = rw (ne_eqb 47 b (λ same. let bad : true ≡ false = rw (← same) at other in cc)) refl
last_slash b (c ∷ path) other = by (c == 47) refl (λ e. last_slash c path e)
  where
    by : (v : Bool) → (c == 47) ≡ v → ((c == 47) ≡ false → last_is c (segment path) ≡ has_slash path)
        → last_is b (cond v (c ∷ []) (c ∷ segment path)) ≡ cond v true (has_slash path)
    by true e more = rw (eqb-true c 47 e) refl
    by false e more = more e

long : (b c : ℕ) (s : List ℕ) (v : Bool) → ltb 1 (length (b ∷ cond v (c ∷ []) (c ∷ s))) ≡ true
long b c s true = refl
long b c s false = grind (arith, nat_tests)

cutting : (b : ℕ) (path : List ℕ) → (b == 47) ≡ false → cuts (b ∷ segment path) (47 ∷ []) ≡ has_slash path
cutting b [] other = refl
cutting b (c ∷ path) other =
    rw (long b c (segment path) (c == 47)) (ends b (segment (c ∷ path)) ∙ last_slash b (c ∷ path) other)

-- some of these rows go on
abbrev goes_on : Rows → Bool
goes_on [] = false
goes_on (([], r) ∷ rest) = goes_on rest
goes_on ((x ∷ t, r) ∷ rest) = true

longest_stays : (seg : List ℕ) (rows : Rows) → IsTrue (all_next rows) → longest_from seg (47 ∷ []) rows ≡ 47 ∷ []
longest_stays seg [] h = refl
longest_stays seg (([], r) ∷ rest) h = longest_stays seg rest h
longest_stays seg ((x ∷ t, r) ∷ rest) h =
    let row = and_parts (x == 47) (all_next rest) h in
    rw (eqb-true x 47 row.0) (longest_stays seg rest row.1)

longest : (seg : List ℕ) (rows : Rows) (v : Bool) → cuts seg (47 ∷ []) ≡ v → IsTrue (all_next rows)
    → longest_suffix seg rows ≡ cond (v && goes_on rows) (47 ∷ []) []
longest seg [] true e h = refl
longest seg [] false e h = refl
longest seg (([], r) ∷ rest) v e h = longest seg rest v e h
longest seg ((x ∷ t, r) ∷ rest) true e h =
    let row = and_parts (x == 47) (all_next rest) h in
    rw (eqb-true x 47 row.0) (rw e (longest_stays seg rest row.1))
longest seg ((x ∷ t, r) ∷ rest) false e h =
    let row = and_parts (x == 47) (all_next rest) h in
    rw (eqb-true x 47 row.0) (rw e (longest seg rest false e row.1))

abbrev Step : Type 0
Step = ℕ × Rows

-- how far a parameter reaches, and the rows behind it
stepped : (rows : Rows) (b : ℕ) (path : List ℕ) → IsTrue (all_next rows)
    → param_step rows (b ∷ path)
    ≡ cond {A = Step} (b == 47) (0, none) (cond {A = Step} (has_slash path)
    (cond {A = Step} (goes_on rows) (length (b ∷ segment path) - 1, with_suffix (47 ∷ []) rows) (0, none))
    (length (b ∷ path), rows))
unfolding param_step
stepped rows b path h = by (b == 47) refl (has_slash path) refl (goes_on rows) refl
  where
    by : (v : Bool) → (b == 47) ≡ v → (s : Bool) → has_slash path ≡ s → (g : Bool) → goes_on rows ≡ g
        → param_step rows (b ∷ path)
        ≡ cond {A = Step} v (0, none)
        (cond {A = Step} s (cond {A = Step} g (length (b ∷ segment path) - 1, with_suffix (47 ∷ []) rows) (0, none))
        (length (b ∷ path), rows))
    by true e s f g k =
        let short : longest_suffix (b ∷ []) rows ≡ [] = longest (b ∷ []) rows false refl h in
        rw e (rw short refl)
    by false e true f true k =
        let long : longest_suffix (b ∷ segment path) rows ≡ 47 ∷ [] =
        rw k at (longest (b ∷ segment path) rows true (cutting b path e ∙ f) h) in
        rw e (rw long refl)
    by false e true f false k =
        let short : longest_suffix (b ∷ segment path) rows ≡ [] =
        rw k at (longest (b ∷ segment path) rows true (cutting b path e ∙ f) h) in
        rw e (rw short (rw f refl))
    by false e false f g k =
        let short : longest_suffix (b ∷ segment path) rows ≡ [] =
        longest (b ∷ segment path) rows false (cutting b path e ∙ f) h in
        rw e (rw short (rw f refl))

some_segment : (path : List ℕ) → has_slash path ≡ true → 0 < length (segment path)
some_segment [] h = cc
some_segment (b ∷ path) h = by (b == 47)
  where
    by : (v : Bool) → 0 < length (cond v (b ∷ []) (b ∷ segment path))
    by true = omega arith
    by false = omega arith

to_slash : (path : List ℕ) → has_slash path ≡ true → skipped (length (segment path) - 1) path ≡ from_slash path
to_slash [] h = cc
to_slash (b ∷ path) h = by (b == 47) h (λ e. to_slash path e)
  where
    by : (v : Bool) → cond v true (has_slash path) ≡ true
        → (has_slash path ≡ true → skipped (length (segment path) - 1) path ≡ from_slash path)
        → skipped (length (cond v (b ∷ []) (b ∷ segment path)) - 1) (b ∷ path) ≡ cond v (b ∷ path) (from_slash path)
    by true e rest = refl
    by false e rest =
        let some = some_segment path e in
        let more : length (b ∷ segment path) - 1 ≡ suc (length (segment path) - 1) = omega (arith, some) in
        rw more (rest e)

all_skipped : (path : List ℕ) → skipped (length path) path ≡ []
all_skipped [] = refl
all_skipped (b ∷ path) = all_skipped path

pub no_slash : (path : List ℕ) → has_slash path ≡ false → from_slash path ≡ []
no_slash [] h = refl
no_slash (b ∷ path) h = by (b == 47) h (λ e. no_slash path e)
  where
    by : (v : Bool) → cond v true (has_slash path) ≡ false → (has_slash path ≡ false → from_slash path ≡ [])
        → cond v (b ∷ path) (from_slash path) ≡ []
    by true e rest = cc
    by false e rest = rest e

pub a_slash : (path : List ℕ) → has_slash path ≡ true → (rest : List ℕ) × (from_slash path ≡ 47 ∷ rest)
a_slash [] h = cc
a_slash (b ∷ path) h = by (b == 47) refl h (λ e. a_slash path e)
  where
    by : (v : Bool) → (b == 47) ≡ v → cond v true (has_slash path) ≡ true
        → (has_slash path ≡ true → (rest : List ℕ) × (from_slash path ≡ 47 ∷ rest))
        → (rest : List ℕ) × (cond v (b ∷ path) (from_slash path) ≡ 47 ∷ rest)
    by true e f more = (path, rw (eqb-true b 47 e) refl)
    by false e f more = more f

suffix_takes : (rows : Rows) (path : List ℕ) → IsTrue (all_next rows)
    → taking (with_suffix (47 ∷ []) rows) (47 ∷ path) ≡ taking rows (47 ∷ path)
suffix_takes [] path h = refl
suffix_takes (([], r) ∷ rest) path h = suffix_takes rest path h
suffix_takes ((x ∷ t, r) ∷ rest) path h =
    let row = and_parts (x == 47) (all_next rest) h in
    rw (eqb-true x 47 row.0) (ap (λ more. cond (fits_tokens t path) (Some r) more) (suffix_takes rest path row.1))

none_goes_on : (rows : Rows) (b : ℕ) (path : List ℕ) → goes_on rows ≡ false → taking rows (b ∷ path) ≡ None
none_goes_on [] b path e = refl
none_goes_on (([], r) ∷ rest) b path e = none_goes_on rest b path e
none_goes_on ((x ∷ t, r) ∷ rest) b path e = cc

by_param : (rows : Rows) (b : ℕ) (path : List ℕ) → IsTrue (all_next rows) → IsTrue (are_good rows)
    → ((skip : ℕ) (some : Rows) → IsTrue (are_good some) → seek skip some path ≡ taking some (skipped skip path))
    → seek ((param_step rows (b ∷ path)).0 - 1) (param_step rows (b ∷ path)).1 path ≡ behind rows b path
by_param rows b path next h found =
    rw (stepped rows b path next) (by (b == 47) (has_slash path) refl (goes_on rows) refl)
  where
    by : (v s : Bool) → has_slash path ≡ s → (g : Bool) → goes_on rows ≡ g
        → seek
        ((cond {A = Step} v (0, none)
        (cond {A = Step} s (cond {A = Step} g (length (b ∷ segment path) - 1, with_suffix (47 ∷ []) rows)
        (0, none)) (length (b ∷ path), rows))).0 - 1)
        (cond {A = Step} v (0, none)
        (cond {A = Step} s (cond {A = Step} g (length (b ∷ segment path) - 1, with_suffix (47 ∷ []) rows) (0, none))
        (length (b ∷ path), rows))).1 path
        ≡ cond v None (taking rows (from_slash path))
    by true s e g f = nothing 0 path
    by false true e true f =
        let less : length (b ∷ segment path) - 1 - 1 ≡ length (segment path) - 1 = omega arith in
        let rest = a_slash path e in
        rw (
          less,
          found (length (segment path) - 1) (with_suffix (47 ∷ []) rows) (good_suffix (47 ∷ []) rows h),
          to_slash path e,
          rest.1,
        )
        (suffix_takes rows rest.0 next)
    by false true e false f =
        let rest = a_slash path e in
        nothing 0 path ∙ rw rest.1 (sym (none_goes_on rows 47 rest.0 f))
    by false false e g f =
        let less : length (b ∷ path) - 1 ≡ length path = omega arith in
        rw (less, found (length path) rows h, all_skipped path, no_slash path e) refl

-- ---- the whole path

found : (path : List ℕ) (skip : ℕ) (rows : Rows) → IsTrue (are_good rows)
    → seek skip rows path ≡ taking rows (skipped skip path)
unfolding seek
found [] zero rows h = taking_end rows
found [] (suc skip) rows h = taking_end rows
found (b ∷ path) (suc skip) rows h = found path skip rows h
found (b ∷ path) zero rows h =
    let here : seek 0 (step b rows) path ≡ taking (step b rows) path =
    found path 0 (step b rows) (good_step b rows h) in
    rw (
      here,
      by_param (step param_token rows) b path (next_step rows h) (good_step param_token rows h)
          (λ skip some good. found path skip some good),
      no_catch_all rows h,
      or_none (behind (step param_token rows) b path),
    ) (one_byte rows b path h)

pub first_takes : (path : List ℕ) (rows : Rows) → IsTrue (are_good rows) → first rows path ≡ taking rows path
first_takes path rows h = found path 0 rows h
