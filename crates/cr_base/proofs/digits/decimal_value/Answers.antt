-- SPDX-License-Identifier: Apache-2.0 OR MIT
use Rattle.std.proofs.Common.{ℕ, ◌<◌, ◌≤◌, ◌^◌, arith, length, lit<}
use Rattle.std.proofs.Math.Nat.{pow-le-pow_right}
use Rattle.cr_base.proofs.digits.decimal_value.Goals as goal

small : (number index len : ℕ) → number < 10 ^ index → index < len → len ≤ 18 → number < 10 ^ 17
small number index len lt at le =
    let i : index ≤ 17 = omega arith in
    let p : 10 ^ index ≤ 10 ^ 17 = pow-le-pow_right (lit< tt) i in
    omega (arith, p)

pub overflow_mul-number : goal.overflow_mul-number
overflow_mul-number c =
    let s = small c.digits.number c.digits.digit-index (length c.args.digits.now) c.digits.invariant.small
    c.digits-test.true c.requires.short in
    omega (arith, s)

pub overflow_add-number : goal.overflow_add-number
overflow_add-number c =
    let s = small c.digits.number c.digits.digit-index (length c.args.digits.now) c.digits.invariant.small
    c.digits-test.true c.requires.short in
    let r = c.type_inv.digits c.digits.digit-index in
    omega (arith, s, r)
