-- SPDX-License-Identifier: Apache-2.0 OR MIT
-- The requests that a text spells, one after another (RFC 9112, section 9.3.2), and how it ends.
use Rattle.std.specs.Prelude.{◌≡◌, ℕ, ◌+◌, List, [], ◌∷◌, Bool, false, MatchBool, ⊤}
use Rattle.cr_http.specs.declared.refusal.Refusal.{Refusal}
use Rattle.cr_http.specs.Head.{HeadText}
use Rattle.cr_http.specs.Found.{Found, whole, refused, clean, cut, StandsAt}

-- a whole request: its head and its body
pub record RequestText : Type 0 where
  pub head : HeadText
  pub body : List ℕ

-- how a text ends: between requests, inside one, after one that closes, or by a refusal, to HEAD or not
pub data End : Type 0 where
  ended_clean ended_cut asked : End
  closed : Refusal → Bool → End

-- the end that a text has if no request is at its front
abbrev pub EndsBy : Found → End → Type 0
EndsBy (whole h b rest) end = ⊥
EndsBy (refused why head) end = end ≡ closed why head
EndsBy clean end = end ≡ ended_clean
EndsBy cut end = end ≡ ended_cut

-- From request number n on the text spells these requests, and so it ends; closes n r says that r,
-- as number n, is the last.
abbrev pub SpellsFrom : (ℕ → RequestText → Bool) → ℕ → List ℕ → List RequestText → End → Type 0
SpellsFrom closes n text [] end = (found : Found) × StandsAt text found × EndsBy found end
SpellsFrom closes n text (r ∷ rs) end =
    (rest : List ℕ) × StandsAt text (whole r.head r.body rest)
    × MatchBool (closes n r) ((rs ≡ []) × (end ≡ asked)) (SpellsFrom closes (n + 1) rest rs end)

-- These are the first of the requests that the text spells.
abbrev pub BeginsFrom : (ℕ → RequestText → Bool) → ℕ → List ℕ → List RequestText → Type 0
BeginsFrom closes n text [] = ⊤
BeginsFrom closes n text (r ∷ rs) =
    (rest : List ℕ) × StandsAt text (whole r.head r.body rest)
    × MatchBool (closes n r) (rs ≡ []) (BeginsFrom closes (n + 1) rest rs)

-- These are the first of the requests that the text spells, none of them closes, and this rest follows them.
abbrev pub ReachesFrom : (ℕ → RequestText → Bool) → ℕ → List ℕ → List RequestText → List ℕ → Type 0
ReachesFrom closes n text [] rest = text ≡ rest
ReachesFrom closes n text (r ∷ rs) rest =
    (after : List ℕ) × StandsAt text (whole r.head r.body after)
    × (closes n r ≡ false) × ReachesFrom closes (n + 1) after rs rest
