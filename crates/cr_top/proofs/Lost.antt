-- SPDX-License-Identifier: Apache-2.0 OR MIT
-- No more wishes were lost than turns are marked, so no more than the keeper's count rose by, unless that ends at its
-- last value.
use Rattle.std.proofs.Common.{◌≡◌, ◌∙◌, ℕ, ◌+◌, ◌-◌, ◌^◌, ◌<◌, ◌≤◌, ◌⊎◌, inl, inr, ⊎_elim, List, [], ◌∷◌, ◌++◌, length}
use Rattle.std.proofs.Common.{drop, ap, if◌then◌else◌, arith}
use Rattle.cr_base.specs.History.{History}
use Rattle.cr_base.specs.Lists.{listed}
use Rattle.cr_lock.specs.Counts.{Every, total, last_count}
use Rattle.cr_lock.specs.Turns.{turn_at, marks}
use Rattle.cr_lock.proofs.Sums.{total_append}
use Rattle.cr_ports.specs.Count.{Gains}
use Rattle.cr_session.specs.Tries.{Tries}
use Rattle.cr_session.specs.Passing.{BookTurn, KnownPass}
use Rattle.cr_session.specs.Replay.{lost_count}
use Rattle.cr_session.specs.Turning.{TurnsInVain}
use Rattle.cr_session.proofs.Endings.{behind_judged}
use Rattle.cr_session.proofs.Passes.{marked_losses, marks-snoc}
use Rattle.cr_wire.specs.declared.what.Wish.{Wish}
use Rattle.cr_workers.specs.Connections.{Streams, ServedConnection, IsServed, IsServedWithin}
use Rattle.cr_top.specs.Serves.{judged_in}
use Rattle.cr_top.proofs.Judged.{lost-append}

-- ---- the turns behind the wishes that were judged

module _ {K : Type 0} (tries : Tries K) where
  marks-same : (p q : KnownPass K) → q ≡ p → marks p.mine ≤ marks q.mine
  marks-same p q same = let e = ap (λ (x : KnownPass K). marks x.mine) same in omega (arith, e)

  marks-vain : (w : Wish) (p q : KnownPass K) → TurnsInVain tries w p q → marks p.mine ≤ marks q.mine
  marks-vain w p q vain =
      let e = ap (λ (x : KnownPass K). marks x.mine) vain.turn
      ∙ marks-snoc p.mine
      (turn_at (length vain.seen) (drop (length vain.seen) vain.seen) vain.faults vain.faults vain.found vain.leaves) in
      omega (arith, e)

-- ---- connections

module _ {K I O C : Type 0} (streams : Streams K I O C) where
  lost-one : (c : ServedConnection K I O C) (x : IsServed streams c)
      → lost_count (x.connection.answered ++ listed x.connection.failed) ≤ marks c.turns
  lost-one c x =
      let k = x.connection in
      let most = marked_losses streams.tries (k.answered ++ listed k.failed) c.before k.judged k.turns in
      let more : marks k.judged.mine ≤ marks c.after.mine =
      ⊎_elim (λ same. marks-same streams.tries k.judged c.after same)
      (λ turn. marks-vain streams.tries turn.0 k.judged c.after turn.1)
      (behind_judged (TurnsInVain streams.tries) c.ending 0 k.got k.got k.answered k.failed k.judged c.after _ _
      k.settled k.ends) in
      let sum =
      ap marks x.mine ∙ total_append (λ (t : BookTurn K). if t.marked then 1 else 0) c.before.mine c.turns in
      omega (arith, most, more, sum)

  lost-all : (first last : History) (cs : List (ServedConnection K I O C))
      (each : Every (IsServedWithin streams first last) cs)
      → lost_count (judged_in streams first last cs each) ≤ total (λ (c : ServedConnection K I O C). marks c.turns) cs
  lost-all first last [] each = omega arith
  lost-all first last (c ∷ cs) each = (
      let x = each.0.served.connection in
      let one = lost-one c each.0.served in
      let more = lost-all first last cs each.1 in
      let sum = lost-append (x.answered ++ listed x.failed) (judged_in streams first last cs each.1) in
      omega (arith, one, more, sum))

  -- the shelf's count rose by as many at least as were lost
  pub lost-count : (first last : History) (cs : List (ServedConnection K I O C))
      (each : Every (IsServedWithin streams first last) cs) (faults n n' : ℕ)
      → (0 + total (λ (c : ServedConnection K I O C). marks c.turns) cs ≤ faults) ⊎ (last_count ≤ faults)
      → Gains n faults n'
      → Gains n (lost_count (judged_in streams first last cs each)) n'
  lost-count first last cs each faults n n' marked gains = (
    gains.0,
    λ below. by (lost_count (judged_in streams first last cs each))
        (total (λ (c : ServedConnection K I O C). marks c.turns) cs) faults n n'
        (lost-all first last cs each) marked below (gains.1 below),
  )
    where
      by : (lost t f n n' : ℕ) → lost ≤ t → (0 + t ≤ f) ⊎ (last_count ≤ f) → n' < 2 ^ 64 - 1 → n + f ≤ n'
          → n + lost ≤ n'
      by lost t f n n' few (inl le) below up = omega (arith, few, le, up)
      by lost t f n n' few (inr last) below up = absurd (omega (arith, last, below, up))
