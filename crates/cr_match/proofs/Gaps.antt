-- SPDX-License-Identifier: Apache-2.0 OR MIT
-- The least of distances.
use Rattle.cr_match.proofs.Common.{◌≡◌, ◌⊎◌, inl, inr, ℕ, ◌+◌, ◌<◌, ◌≤◌, arith, sym, subst, cases_eq, far, Clears}
use Rattle.cr_match.proofs.Common.{Board, Levels, Choice, Trail}

pub less_clears : (b : Board) (v : Levels) (c : Choice) (t : Trail) (n k p m : ℕ) → k ≤ n → Clears b v c t n p m
    → Clears b v c t k p m
less_clears b v c t n k p m le h = ((λ w. omega (arith, le, h.0 w)), (λ o. omega (arith, le, h.1 o)))

-- n is as far as the places before the i-th allow, and one below `most` needs, or `far`
abbrev pub IsLeast : (ℕ → ℕ → Type 0) → (ℕ → ℕ → Type 0) → ℕ → ℕ → ℕ → Type 0
IsLeast allows needs most i n =
    (n ≤ far) × ((x : ℕ) → x < i → allows n x) × ((n ≡ far) ⊎ ((x : ℕ) × (x < most) × needs n x))

-- one place more
pub least_more : (allows needs : ℕ → ℕ → Type 0) (most i n old new : ℕ)
    → ((k j x : ℕ) → j ≤ k → allows k x → allows j x) → i < most → allows n i → (n ≡ far) ⊎ needs n i
    → (new ≤ n) × (new ≤ old) → (new ≡ n) ⊎ (new ≡ old) → IsLeast allows needs most i old
    → IsLeast allows needs most (i + 1) new
least_more allows needs most i n old new fewer li here meets le either so_far = (
  omega (arith, le.1, so_far.0),
  (λ x lx. elim (cases_eq x i) [
    | inl e ↦ subst (allows new) (sym e) (fewer n new i le.0 here)
    | inr ne ↦ fewer old new x le.1 (so_far.1 x (omega (arith, lx, ne)))
  ]),
  elim either [
    | inl e ↦ subst (λ k. (k ≡ far) ⊎ ((x : ℕ) × (x < most) × needs k x)) (sym e)
        (elim meets [ inl all ↦ inl all | inr one ↦ inr (i, li, one) ])
    | inr e ↦ subst (λ k. (k ≡ far) ⊎ ((x : ℕ) × (x < most) × needs k x)) (sym e) so_far.2
  ],
)
