-- SPDX-License-Identifier: Apache-2.0 OR MIT
-- All turns, once the lock is closed.
use Rattle.std.proofs.Common.{◌≡◌, ◌∙◌, ℕ, inl, inr, ⊎_elim, List, [], length, sym, ap, subst, arith}
use mathlib.Core.Logic.{dite}
use native.Mathlib.Decide.{dec_le}
use mathlib.Core.List.{IsPrefix}
use Rattle.cr_base.specs.History.{History}
use Rattle.cr_lock.specs.Counts.{Among, Every, total, within}
use Rattle.cr_lock.specs.Turns.{groups_with, marks, rises, Reached}
use Rattle.cr_lock.specs.Closing.{Closes}
use Rattle.cr_lock.proofs.Prefixes.{prefix_self}
use Rattle.cr_lock.proofs.Reaching.{reached_on}
use Rattle.cr_lock.proofs.Sums.{within_out}
use Rattle.cr_book.specs.Seen.{SeenBook}
use Rattle.cr_session.specs.Passing.{BookTurn, KnownPass}
use Rattle.cr_session.specs.Replay.{Ledger}
use Rattle.cr_workers.specs.Connections.{Streams, ServedConnection, IsServedWithin, IsTakenIn}
use Rattle.cr_workers.specs.Doors.{SeenDoor, ServesDoors, connections_of}
use Rattle.cr_workers.specs.OneHistory.{ServesHistory}
use Rattle.cr_workers.specs.declared.worked.Worked.{Worked}
use Rattle.cr_workers.specs.declared.worked.Worked.TheVariants as worked
use Rattle.cr_workers.proofs.Halves.{unasked, unasked-before, unasked-after, unasked-each, unasked-connections}

none-within : (n k : ℕ) → within n n k ≡ 0
none-within n k =
    dite (dec_le n k) (λ le. within_out n n k (inl le)) (λ more. within_out n n k (inr (omega (arith, more))))

-- without a lock no door was asked
pub history-unasked : {K I O C : Type 0} (streams : Streams K I O C) (doors : List (SeenDoor I O C)) (b : Ledger)
    → ServesHistory streams worked.OutOfMemory doors doors b b
history-unasked {K} {I} {O} {C} streams doors b = record {
  works = unasked K doors;
  before = unasked-before K doors;
  after = unasked-after K doors;
  each = unasked-each K doors;
  cause = tt;
  served = subst (λ cs. Every (IsServedWithin streams b.history b.history) cs) none tt;
  begins = prefix_self b.history;
  once = λ k. sym (ap (λ cs. total (λ (c : ServedConnection K I O C). groups_with k c.turns) cs) none)
      ∙ sym (none-within (length b.history) k);
  counted = (let z = ap (λ cs. total (λ (c : ServedConnection K I O C). rises c.turns) cs) none in omega (arith, z));
  marked = inl (let z = ap (λ cs. total (λ (c : ServedConnection K I O C). marks c.turns) cs) none in omega (arith, z));
}
  where
    none : ◌≡◌ {A = List (ServedConnection K I O C)} [] (connections_of (unasked K doors))
    none = unasked-connections K doors

-- the one pass of a closed lock has the turns of all connections, which lead from the first value to the closed one
turns-closed : {K I O C Root : Type 0} (list : SeenBook K → History) (faults : SeenBook K → ℕ)
    (root : SeenBook K → Root) (streams : Streams K I O C) (ended : Worked) (doors doors' : List (SeenDoor I O C))
    (first last : SeenBook K) (p₀ p : KnownPass K) → p₀.mine ≡ []
    → (x : ServesDoors streams ended doors doors' p₀ p) → Closes list faults root first p last
    → Reached (IsTakenIn (connections_of x.works)) first last
turns-closed {K} list faults root streams ended doors doors' first last p₀ p none x closes =
    reached_on (Among p.mine) (IsTakenIn (connections_of x.works)) first last
    (λ t mine. ⊎_elim (λ before. absurd (subst (λ (ts : List (BookTurn K)). Among ts t) none before)) (λ own. own)
    (x.served.taken t mine)) closes.reached

-- and the closed value stands for what it has seen
history-closed : {K I O C Root : Type 0} (list : SeenBook K → History) (faults : SeenBook K → ℕ)
    (root : SeenBook K → Root) (streams : Streams K I O C) (ended : Worked) (doors doors' : List (SeenDoor I O C))
    (first last : SeenBook K) (p₀ p : KnownPass K) → p₀.seen ≡ list first → p₀.mine ≡ []
    → ServesDoors streams ended doors doors' p₀ p → Closes list faults root first p last
    → ServesHistory streams ended doors doors' (record { history = list first; faults = faults first })
    (record { history = list last; faults = faults last })
history-closed {K} {I} {O} {C} {Root} list faults root streams ended doors doors' first last p₀ p saw none x closes =
    record {
      works = x.works;
      before = x.before;
      after = x.after;
      each = x.each;
      cause = x.cause;
      served =
          subst (λ (H : History). Every (IsServedWithin streams (list first) H) (connections_of x.works))
          (sym closes.stands)
          (subst (λ (H : History). Every (IsServedWithin streams H p.seen) (connections_of x.works)) saw x.served.each);
      begins = subst (λ (H : History). IsPrefix (list first) H) (sym closes.stands) closes.begins;
      once = λ k. (
          let g = x.served.groups k in
          let z = ap (groups_with k) none in
          let w = closes.groups k in
          let n = ap (λ (H : History). within (length (list first)) (length H) k) closes.stands in
          omega (arith, g, z, w, n));
      counted = (let r = x.served.rose in let z = ap rises none in let c = closes.count in omega (arith, r, z, c));
      marked =
          ⊎_elim (λ few. inl (let m = x.served.marked in let z = ap marks none in omega (arith, m, z, few))) inr
          closes.marks;
    }

-- both, of the connections that were served
pub book-closed : {K I O C Root : Type 0} (list : SeenBook K → History) (faults : SeenBook K → ℕ)
    (root : SeenBook K → Root) (streams : Streams K I O C) (ended : Worked) (doors doors' : List (SeenDoor I O C))
    (first last : SeenBook K) (p₀ p : KnownPass K) → p₀.seen ≡ list first → p₀.mine ≡ []
    → ServesDoors streams ended doors doors' p₀ p → Closes list faults root first p last
    → (serves : ServesHistory streams ended doors doors' (record { history = list first; faults = faults first })
    (record { history = list last; faults = faults last })) × Reached (IsTakenIn (connections_of serves.works)) first last
unfolding history-closed
book-closed list faults root streams ended doors doors' first last p₀ p saw none x closes = (
  history-closed list faults root streams ended doors doors' first last p₀ p saw none x closes,
  turns-closed list faults root streams ended doors doors' first last p₀ p none x closes,
)
