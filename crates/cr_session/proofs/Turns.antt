-- SPDX-License-Identifier: Apache-2.0 OR MIT
-- Wishes that are judged one after another.
use Rattle.std.proofs.Common.{◌≡◌, ◌∙◌, ◌≤◌, ◌<◌, ◌^◌, ◌-◌, ℕ, ◌+◌, List, [], ◌∷◌, ◌++◌, length, Bool, true, false}
use Rattle.std.proofs.Common.{cond, refl, ap, subst, arith, zero, suc}
use Rattle.cr_session.specs.Answering.{Answer}
use Rattle.cr_session.specs.Replay.{JudgedWish, Ledger, Turned, CountsLoss, answer_of, answers, lost_count, Replays}

pub answers-append : (n : ℕ) (js ks : List JudgedWish)
    → answers n (js ++ ks) ≡ answers n js ++ answers (n + length js) ks
answers-append n [] ks = let e : n ≡ n + zero = omega arith in ap (λ k. answers k ks) e
answers-append n (j ∷ js) ks =
    let e : n + 1 + length js ≡ n + suc (length js) = omega arith in
    ap (λ (a : List Answer). answer_of n j ∷ a)
    (answers-append (n + 1) js ks ∙ ap (λ k. answers (n + 1) js ++ answers k ks) e)

-- what was judged then, behind what was judged before
pub replays-append : (js ks : List JudgedWish) (a b c : Ledger) → Replays js a b → Replays ks b c
    → Replays (js ++ ks) a c
replays-append [] ks a b c first then = subst (λ (x : Ledger). Replays ks x c) first then
replays-append (j ∷ js) ks a b c first then = (first.0, first.1, replays-append js ks first.0 b c first.2 then)

-- one wish was judged
pub replays-one : (j : JudgedWish) (a b : Ledger) → Turned j a b → Replays (j ∷ []) a b
replays-one j a b turned = (b, turned, refl)

-- ---- the keeper's count of faults

counts-one : (lost : Bool) (f g : ℕ) → CountsLoss lost f g → (f ≤ g) × (g < 2 ^ 64 - 1 → f + cond lost 1 0 ≤ g)
counts-one true f g c = (c.0, λ below. let r = c.1 below in omega (arith, r))
counts-one false f g c = (omega (arith, c), λ below. omega (arith, c))

counts : (js : List JudgedWish) (a b : Ledger) → Replays js a b
    → (a.faults ≤ b.faults) × (b.faults < 2 ^ 64 - 1 → a.faults + lost_count js ≤ b.faults)
counts [] a b r = let e = ap (λ (x : Ledger). x.faults) r in (omega (arith, e), λ below. omega (arith, e))
counts (j ∷ js) a b r =
    let first = counts-one j.lost a.faults r.0.faults r.1.counted in
    let then = counts js r.0 b r.2 in
    let p = first.0 in
    let q = then.0 in (
      omega (arith, p, q),
      λ below. let x = first.1 (omega (arith, below, q)) in let y =
          then.1 below in omega (arith, x, y),
    )

-- at most as many were lost as the count rose by
pub counted : (js : List JudgedWish) (a b : Ledger) → Replays js a b → b.faults < 2 ^ 64 - 1
    → a.faults + lost_count js ≤ b.faults
counted js a b r = (counts js a b r).1

stands-one : (lost : Bool) (n f g : ℕ) → CountsLoss lost f g → cond lost 1 0 + n ≡ 0 → (g ≡ f) × (n ≡ 0)
stands-one true n f g c e = absurd (omega (arith, e))
stands-one false n f g c e = (c, omega (arith, e))

-- where nothing was lost, it stands
pub stands : (js : List JudgedWish) (a b : Ledger) → Replays js a b → lost_count js ≡ 0 → b.faults ≡ a.faults
stands [] a b r none = ap (λ (x : Ledger). x.faults) r
stands (j ∷ js) a b r none =
    let one = stands-one j.lost (lost_count js) a.faults r.0.faults r.1.counted none in
    stands js r.0 b r.2 one.1 ∙ one.0
