-- SPDX-License-Identifier: Apache-2.0 OR MIT
-- More requests behind those that were read.
use Rattle.std.proofs.Common.{◌≡◌, ℕ, ◌+◌, List, [], ◌∷◌, ◌++◌, length, Bool, true, false, sym, ap, subst, arith, suc}
use Rattle.std.specs.Prelude.{MatchBool}
use Rattle.cr_http.specs.Found.{Found, whole, refused, clean, cut, StandsAt}
use Rattle.cr_http.specs.Requests.{RequestText, End, EndsBy, ended_clean, ended_cut, asked, closed, SpellsFrom}
use Rattle.cr_http.specs.Requests.{BeginsFrom, ReachesFrom}
use Rattle.cr_http.proofs.Founds.{StandsAt-append}

-- a text that goes on
pub reaches_more : (cl : ℕ → RequestText → Bool) (n : ℕ) (text more : List ℕ) (rs : List RequestText) (rest : List ℕ)
    → ReachesFrom cl n text rs rest → ReachesFrom cl n (text ++ more) rs (rest ++ more)
reaches_more cl n text more [] rest is = ap (λ t. t ++ more) is
reaches_more cl n text more (r ∷ rs) rest is = (
  is.0 ++ more,
  StandsAt-append text more (whole r.head r.body is.0) tt is.1,
  is.2,
  reaches_more cl (n + 1) is.0 more rs rest is.3,
)

-- what the rest spells follows
pub spells_after : (cl : ℕ → RequestText → Bool) (n : ℕ) (text : List ℕ) (rs : List RequestText) (rest : List ℕ)
    (end : End) (rs' : List RequestText)
    → ReachesFrom cl n text rs rest → SpellsFrom cl (n + length rs) rest rs' end → SpellsFrom cl n text (rs ++ rs') end
spells_after cl n text [] rest end rs' is spells =
    let e : n + 0 ≡ n = omega arith in
    subst (λ t. SpellsFrom cl n t rs' end) (sym is) (subst (λ k. SpellsFrom cl k rest rs' end) e spells)
spells_after cl n text (r ∷ rs) rest end rs' is spells =
    let e : n + suc (length rs) ≡ n + 1 + length rs = omega arith in
    let tail =
    spells_after cl (n + 1) is.0 rs rest end rs' is.3 (subst (λ k. SpellsFrom cl k rest rs' end) e spells) in (
      is.0,
      is.1,
      subst (λ b. MatchBool b ((rs ++ rs' ≡ []) × (end ≡ asked)) (SpellsFrom cl (n + 1) is.0 (rs ++ rs') end))
          (sym is.2) tail,
    )

pub begins_after : (cl : ℕ → RequestText → Bool) (n : ℕ) (text : List ℕ) (rs : List RequestText) (rest : List ℕ)
    (rs' : List RequestText)
    → ReachesFrom cl n text rs rest → BeginsFrom cl (n + length rs) rest rs' → BeginsFrom cl n text (rs ++ rs')
begins_after cl n text [] rest rs' is begins =
    let e : n + 0 ≡ n = omega arith in
    subst (λ t. BeginsFrom cl n t rs') (sym is) (subst (λ k. BeginsFrom cl k rest rs') e begins)
begins_after cl n text (r ∷ rs) rest rs' is begins =
    let e : n + suc (length rs) ≡ n + 1 + length rs = omega arith in
    let tail = begins_after cl (n + 1) is.0 rs rest rs' is.3 (subst (λ k. BeginsFrom cl k rest rs') e begins) in
    (is.0, is.1, subst (λ b. MatchBool b (rs ++ rs' ≡ []) (BeginsFrom cl (n + 1) is.0 (rs ++ rs'))) (sym is.2) tail)

pub reaches_after : (cl : ℕ → RequestText → Bool) (n : ℕ) (text : List ℕ) (rs : List RequestText) (rest : List ℕ)
    (rs' : List RequestText) (rest' : List ℕ)
    → ReachesFrom cl n text rs rest → ReachesFrom cl (n + length rs) rest rs' rest'
    → ReachesFrom cl n text (rs ++ rs') rest'
reaches_after cl n text [] rest rs' rest' is reaches =
    let e : n + 0 ≡ n = omega arith in
    subst (λ t. ReachesFrom cl n t rs' rest') (sym is) (subst (λ k. ReachesFrom cl k rest rs' rest') e reaches)
reaches_after cl n text (r ∷ rs) rest rs' rest' is reaches =
    let e : n + suc (length rs) ≡ n + 1 + length rs = omega arith in (
      is.0,
      is.1,
      is.2,
      reaches_after cl (n + 1) is.0 rs rest rs' rest' is.3
          (subst (λ k. ReachesFrom cl k rest rs' rest') e reaches),
    )

-- ---- texts that go on

-- an end that more bytes don't move
abbrev pub IsClosing : End → Type 0
IsClosing ended_clean = ⊥
IsClosing ended_cut = ⊥
IsClosing asked = Unit {0}
IsClosing (closed why head) = Unit {0}

ends_more : (text more : List ℕ) (found : Found) (end : End) → IsClosing end → StandsAt text found → EndsBy found end
    → (found' : Found) × StandsAt (text ++ more) found' × EndsBy found' end
ends_more text more (whole h b rest) end closing stands ends = absurd ends
ends_more text more (refused why head) end closing stands ends =
    (refused why head, StandsAt-append text more (refused why head) tt stands, ends)
ends_more text more clean end closing stands ends = absurd (subst IsClosing ends closing)
ends_more text more cut end closing stands ends = absurd (subst IsClosing ends closing)

pub spells_more : (cl : ℕ → RequestText → Bool) (n : ℕ) (text more : List ℕ) (rs : List RequestText) (end : End)
    → IsClosing end
    → SpellsFrom cl n text rs end → SpellsFrom cl n (text ++ more) rs end
spells_more cl n text more [] end closing s = ends_more text more s.0 end closing s.1 s.2
spells_more cl n text more (r ∷ rs) end closing s = (
  s.0 ++ more,
  StandsAt-append text more (whole r.head r.body s.0) tt s.1,
  last (cl n r) s.2 (λ t. spells_more cl (n + 1) s.0 more rs end closing t),
)
  where
    last : (b : Bool) → MatchBool b ((rs ≡ []) × (end ≡ asked)) (SpellsFrom cl (n + 1) s.0 rs end)
        → (SpellsFrom cl (n + 1) s.0 rs end → SpellsFrom cl (n + 1) (s.0 ++ more) rs end)
        → MatchBool b ((rs ≡ []) × (end ≡ asked)) (SpellsFrom cl (n + 1) (s.0 ++ more) rs end)
    last true is go = is
    last false is go = go is

pub begins_more : (cl : ℕ → RequestText → Bool) (n : ℕ) (text more : List ℕ) (rs : List RequestText)
    → BeginsFrom cl n text rs → BeginsFrom cl n (text ++ more) rs
begins_more cl n text more [] s = tt
begins_more cl n text more (r ∷ rs) s = (
  s.0 ++ more,
  StandsAt-append text more (whole r.head r.body s.0) tt s.1,
  last (cl n r) s.2 (λ t. begins_more cl (n + 1) s.0 more rs t),
)
  where
    last : (b : Bool) → MatchBool b (rs ≡ []) (BeginsFrom cl (n + 1) s.0 rs)
        → (BeginsFrom cl (n + 1) s.0 rs → BeginsFrom cl (n + 1) (s.0 ++ more) rs)
        → MatchBool b (rs ≡ []) (BeginsFrom cl (n + 1) (s.0 ++ more) rs)
    last true is go = is
    last false is go = go is

-- what a text spells are the first of what it spells
pub spells_begins : (cl : ℕ → RequestText → Bool) (n : ℕ) (text : List ℕ) (rs : List RequestText) (end : End)
    → SpellsFrom cl n text rs end → BeginsFrom cl n text rs
spells_begins cl n text [] end s = tt
spells_begins cl n text (r ∷ rs) end s = (s.0, s.1, last (cl n r) s.2 (λ t. spells_begins cl (n + 1) s.0 rs end t))
  where
    last : (b : Bool) → MatchBool b ((rs ≡ []) × (end ≡ asked)) (SpellsFrom cl (n + 1) s.0 rs end)
        → (SpellsFrom cl (n + 1) s.0 rs end → BeginsFrom cl (n + 1) s.0 rs)
        → MatchBool b (rs ≡ []) (BeginsFrom cl (n + 1) s.0 rs)
    last true is go = is.0
    last false is go = go is

-- what a text reaches are the first of what it spells
pub reaches_begins : (cl : ℕ → RequestText → Bool) (n : ℕ) (text : List ℕ) (rs : List RequestText) (rest : List ℕ)
    → ReachesFrom cl n text rs rest → BeginsFrom cl n text rs
reaches_begins cl n text [] rest s = tt
reaches_begins cl n text (r ∷ rs) rest s = (
  s.0,
  s.1,
  subst (λ (b : Bool). MatchBool b (rs ≡ []) (BeginsFrom cl (n + 1) s.0 rs)) (sym s.2)
      (reaches_begins cl (n + 1) s.0 rs rest s.3),
)
