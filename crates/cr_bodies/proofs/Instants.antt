-- SPDX-License-Identifier: Apache-2.0 OR MIT
-- The deadline of an instant, by its whole seconds and what is left of its nanoseconds.
use Rattle.std.proofs.Common.{◌≡◌, ◌≢◌, ℕ, ◌/◌, ◌%◌, ℤ, pos, negsuc, ◌<ℤ◌, None, FitsSigned, w32, w64, of_z, to_z}
use Rattle.std.proofs.Common.{to_z-of_z, unsigned_abs, refl, sym, ap, ◌∙◌, arith, ne_eqb}
use Rattle.std.specs.Prelude.{int_div, int_rem}
use Rattle.std.specs.Int.{FitsUnsignedBits}
use Rattle.jiff.proofs.SpanFacts.{signed_arith}
use Rattle.cr_base.specs.Deadlines.{deadline_of_seconds}
use Rattle.cr_bodies.specs.Until.{deadline_at}

-- ---- numbers as they come back from their bits

-- nothing is left of the nanoseconds, where the bits of what is left are 0
pub none-left : (n rest : ℤ) → FitsSigned w32 rest → rest ≡ int_rem n (pos 1000000000) → of_z w32 rest ≡ 0
    → int_rem n (pos 1000000000) ≡ pos 0
none-left n rest fits is zero = sym is ∙ (sym (to_z-of_z fits) ∙ ap (to_z w32) zero)

same-number : (z : ℤ) (s : ℕ) → FitsUnsignedBits 64 z × (s ≡ unsigned_abs z) → z ≡ pos s
same-number (pos n) s told = ap pos (sym told.1)
same-number (negsuc n) s told = absurd told.0

-- the seconds, where they are a number without a sign
pub whole-seconds : (n seconds : ℤ) (s : ℕ) → FitsSigned w64 seconds → seconds ≡ int_div n (pos 1000000000)
    → FitsUnsignedBits 64 (to_z w64 (of_z w64 seconds)) × (s ≡ unsigned_abs (to_z w64 (of_z w64 seconds)))
    → int_div n (pos 1000000000) ≡ pos s
whole-seconds n seconds s fits is told = sym is ∙ same-number seconds s (rw (to_z-of_z fits) at told)

negative : (z : ℤ) → FitsSigned w64 z → (FitsUnsignedBits 64 z → ⊥) → z <ℤ pos 0
negative (pos n) fits none = absurd (none (omega (arith, fits.sfits)))
negative (negsuc n) fits none = omega (arith, signed_arith)

-- and where they are none
pub low-seconds : (n seconds : ℤ) → FitsSigned w64 seconds → seconds ≡ int_div n (pos 1000000000)
    → (FitsUnsignedBits 64 (to_z w64 (of_z w64 seconds)) → ⊥) → int_div n (pos 1000000000) <ℤ pos 0
low-seconds n seconds fits is none = rw is at (negative seconds fits (rw (to_z-of_z fits) at none))

-- ---- the deadline of an instant

-- a fraction of a second is none of a deadline
pub with-fraction : (n : ℤ) → int_rem n (pos 1000000000) ≢ pos 0 → deadline_at n ≡ None
unfolding deadline_at
with-fraction (pos n) some =
    let rest : n % 1000000000 ≢ 0 = λ e. some (omega (arith, signed_arith, e)) in
    rw (ne_eqb (n % 1000000000) 0 rest) refl
with-fraction (negsuc n) some = refl

-- whole seconds from 1970 on
pub of-seconds : (n : ℤ) (s : ℕ) → int_rem n (pos 1000000000) ≡ pos 0 → int_div n (pos 1000000000) ≡ pos s
    → deadline_at n ≡ deadline_of_seconds s
unfolding deadline_at
of-seconds (pos n) s none whole =
    let rest : n % 1000000000 ≡ 0 = omega (arith, signed_arith, none) in
    let seconds : n / 1000000000 ≡ s = omega (arith, signed_arith, whole) in
    rw (rest, seconds) refl
of-seconds (negsuc n) s none whole = let zero : s ≡ 0 = omega (arith, signed_arith, none, whole) in rw zero refl

-- and before it
pub before-1970 : (n : ℤ) → int_div n (pos 1000000000) <ℤ pos 0 → deadline_at n ≡ None
unfolding deadline_at
before-1970 (pos n) low = absurd (omega (arith, signed_arith, low))
before-1970 (negsuc n) low = refl
