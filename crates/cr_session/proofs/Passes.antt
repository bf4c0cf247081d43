-- SPDX-License-Identifier: Apache-2.0 OR MIT
-- Turns of one pass, one after another.
use Rattle.std.proofs.Common.{◌≡◌, ◌∙◌, ◌≤◌, ◌<◌, ◌^◌, ◌-◌, ℕ, ◌+◌, List, [], ◌∷◌, ◌++◌, length, drop, Bool, true}
use Rattle.std.proofs.Common.{false, cond, Option, Some, None, refl, ap, subst, arith}
use Rattle.std.specs.Prelude.{◌||◌, nat_lt, nat_le}
use mathlib.Core.List.{IsPrefix}
use Rattle.cr_base.specs.declared.entry.Stamped.{Stamped}
use Rattle.cr_base.specs.History.{History}
use Rattle.cr_base.specs.Drawn.{Drawn}
use Rattle.cr_lock.specs.declared.pass_state.Turn.{Turn}
use Rattle.cr_lock.specs.Counts.{has_risen, last_count}
use Rattle.cr_lock.specs.Turns.{turn_at, marks}
use Rattle.cr_lock.proofs.Prefixes.{prefix_self}
use Rattle.cr_session.specs.Told.{drawn, and_drawn}
use Rattle.cr_session.specs.Replay.{JudgedWish, CountsLoss, history_after, lost_count}
use Rattle.cr_session.specs.Tries.{Tries}
use Rattle.cr_session.specs.Passing.{KnownPass, TakesTurn, TakesTurns, StaysPass}

-- ---- what a turn adds

drawn-begins : (H : History) (d : Option Drawn) → IsPrefix H (and_drawn H d)
drawn-begins H None = prefix_self H
drawn-begins H (Some d) = (d.group, refl)

after-drawn : (lost : Bool) (H : History) (d : Option Drawn) → IsPrefix H (cond lost H (and_drawn H d))
after-drawn true H d = prefix_self H
after-drawn false H d = drawn-begins H d

-- the history after a turn begins with the history that the turn saw
pub after-begins : (j : JudgedWish) → IsPrefix j.seen (history_after j)
unfolding history_after
after-begins j = after-drawn j.lost j.seen (drawn j.seen j.wish)

-- ---- turns behind turns

module _ {K : Type 0} (tries : Tries K) where
  -- one wish was judged
  pub takes-one : (j : JudgedWish) (p q : KnownPass K) → TakesTurn tries j p q → TakesTurns tries (j ∷ []) p q
  takes-one j p q turn = (q, turn, refl)

  -- what was judged then, behind what was judged before
  pub takes-append : (js ks : List JudgedWish) (p q r : KnownPass K) → TakesTurns tries js p q → TakesTurns tries ks q r
      → TakesTurns tries (js ++ ks) p r
  takes-append [] ks p q r first then = subst (λ (x : KnownPass K). TakesTurns tries ks x r) first then
  takes-append (j ∷ js) ks p q r first then = (first.0, first.1, takes-append js ks first.0 q r first.2 then)

-- ---- the pass stays

module _ {K : Type 0} where
  pub stays-now : (p : KnownPass K) → StaysPass 0 p p
  stays-now p = record { lock = refl; share = refl; few = omega arith }

  pub stays-then : (m n : ℕ) (p q r : KnownPass K) → StaysPass m p q → StaysPass n q r → StaysPass (m + n) p r
  stays-then m n p q r x y = record {
    lock = y.lock ∙ x.lock;
    share = y.share ∙ x.share;
    few = (let a = x.few in let b = y.few in omega (arith, a, b));
  }

-- ---- marks

-- the count rose or stands at its last value, so the turn is marked
pub loses-marked : (f g : ℕ) → CountsLoss true f g → has_risen f g ≡ true
loses-marked f g c = by (nat_lt f g) (nat_le last_count g) refl refl
  where
    by : (a b : Bool) → nat_lt f g ≡ a → nat_le last_count g ≡ b → nat_lt f g || nat_le last_count g ≡ true
    by true b x y = rw x refl
    by false true x y = rw x (rw y refl)
    by false false x y = absurd (let below : g < 2 ^ 64 - 1 = grind arith in let up = c.1 below in grind arith)

marks-one : (lost : Bool) (f g : ℕ) → CountsLoss lost f g → cond lost 1 0 ≤ cond (has_risen f g) 1 0
marks-one true f g c = rw (loses-marked f g c) (omega arith)
marks-one false f g c = omega arith

pub marks-snoc : {T : Type 0} (ts : List (Turn T Stamped)) (t : Turn T Stamped)
    → marks (ts ++ t ∷ []) ≡ marks ts + cond t.marked 1 0
marks-snoc [] t = omega arith
marks-snoc (u ∷ us) t = let i = marks-snoc us t in omega (arith, i)

module _ {K : Type 0} (tries : Tries K) where
  marks-turn : (j : JudgedWish) (p q : KnownPass K) → TakesTurn tries j p q
      → marks p.mine + cond j.lost 1 0 ≤ marks q.mine
  marks-turn j p q t =
      let n = ap (λ (x : KnownPass K). marks x.mine) t.turn ∙ marks-snoc p.mine
      (turn_at (length j.seen) (drop (length j.seen) (history_after j)) t.faults t.faults' t.found t.leaves) in
      let m = marks-one j.lost t.faults t.faults' t.counted in
      omega (arith, n, m)

  -- at most as many are lost as there are marks more
  pub marked_losses : (js : List JudgedWish) (p q : KnownPass K) → TakesTurns tries js p q
      → marks p.mine + lost_count js ≤ marks q.mine
  marked_losses [] p q r = let e = ap (λ (x : KnownPass K). marks x.mine) r in omega (arith, e)
  marked_losses (j ∷ js) p q r =
      let one = marks-turn j p r.0 r.1 in
      let more = marked_losses js r.0 q r.2 in
      omega (arith, one, more)
