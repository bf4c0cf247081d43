-- SPDX-License-Identifier: Apache-2.0 OR MIT
-- Gates that were opened over a store, and what the exits of serving tell.
use Rattle.std.proofs.Common.{◌≡◌, ◌≢◌, ◌∙◌, ℕ, ◌+◌, ◌*◌, ◌^◌, ◌≤◌, ◌⊎◌, inl, inr, List, [], ◌∷◌, length, map, Bool}
use Rattle.std.proofs.Common.{true, false, Option, Some, None, refl, sym, ap, subst, arith}
use Rattle.std.specs.Prelude.{All, IfSome, IsFalse, IsTrue, sum, sum_by}
use Rattle.std.proofs.lemmas.List.{length-map}
use Rattle.cr_base.specs.declared.row.Row.{Row}
use Rattle.cr_base.specs.History.{History}
use Rattle.cr_base.specs.Rows.{rows_of}
use Rattle.cr_lock.specs.Counts.{Every, total}
use Rattle.cr_lock.specs.Turns.{Reached}
use Rattle.cr_ports.specs.Count.{Gains, Rises}
use Rattle.cr_ports.specs.Doors.{DoorLog, shares}
use Rattle.cr_ports.specs.Opening.{AsksAtMost}
use Rattle.cr_ports.specs.Shelving.{StandsAfter}
use Rattle.cr_ports.specs.Writing.{Outlet}
use Rattle.cr_ports.proofs.Sharing.{length-shares_below, shares_add_up}
use Rattle.cr_policy.specs.Legal.{Legal}
use Rattle.cr_book.specs.Seen.{SeenBook}
use Rattle.cr_session.specs.Passing.{IsTurnOf}
use Rattle.cr_session.specs.Replay.{JudgedWish, Ledger, ledger_of}
use Rattle.cr_workers.specs.Connections.{IsTakenIn, Streams}
use Rattle.cr_workers.specs.Doors.{SeenDoor, DoorWork, IsWorkedOn, HasFailedDoor, connections_of, door_of}
use Rattle.cr_workers.specs.OneHistory.{ServesHistory}
use Rattle.cr_workers.specs.declared.worked.Worked.{Worked}
use Rattle.cr_workers.specs.declared.worked.Worked.TheVariants as worked
use Rattle.cr_top.specs.declared.exit.Exit.{Exit}
use Rattle.cr_top.specs.declared.exit.Exit.TheVariants as exits
use Rattle.cr_top.specs.Exits.{exit_of_workers}
use Rattle.cr_top.specs.Serves.{GatesState, IsNew, AreDoorsTold, OpensAt, TellsEntries, ServesMany, ServesGates}
use Rattle.cr_top.specs.Serves.{StaysClosed, IsWhyClosed, judged_in}
use Rattle.cr_top.specs.Stores.{IsWhyShut, Keeping, KeepsOthers, LeavesExactly, OpensStore, ShelfState}
use Rattle.cr_top.proofs.Doors.{all-of, are-told, back-works, counts-all, every-seen, failed-counts, map-seen, none-all}
use Rattle.cr_top.proofs.Doors.{total-seen, total-sum}
use Rattle.cr_top.proofs.Lost.{lost-count}
use Rattle.cr_top.proofs.Judged.{taken-judged}
use Rattle.cr_top.proofs.Stored.{count-now, opens-or-memory, risen, same-rows}
use Rattle.cr_top.proofs.Unmarked.{none-rises}

-- ---- doors that were shut

-- none has a connection out
pub doors-back : {K I O C : Type 0} (streams : Streams K I O C) (ended : Worked) (doors doors' : List (SeenDoor I O C))
    (b b' : Ledger)
    → ServesHistory streams ended doors doors' b b' → Every IsNew doors
    → Every (λ (d : SeenDoor I O C). d.is_out ≡ false) doors'
doors-back {K} {I} {O} {C} streams ended doors doors' b b' serves new =
    subst (λ (ds : List (SeenDoor I O C)). Every (λ (d : SeenDoor I O C). d.is_out ≡ false) ds) serves.after
    (back-works ended serves.works serves.each
    (subst (λ (ds : List (SeenDoor I O C)). Every IsNew ds) (sym serves.before) new))

-- ---- no gate was opened

-- the store of a book that wasn't worked on was shut again
pub stays-closed : {K I O C : Type 0} (tells : Bool) (rows : K → Option (List Row)) (tried : K → List (List Row))
    (faults : K → ℕ)
    (path listen : List ℕ) (exit : Exit) (book : SeenBook K) (keeper' : K) (s m s' : ShelfState)
    (g g' : GatesState I O C)
    → OpensStore rows faults path book s m → keeper' ≡ book.keeper → (IsTrue tells → tried keeper' ≡ [])
    → IfSome (rows keeper') (λ k. StandsAfter tells k (tried keeper') (m.rows path) (s'.rows path))
    → KeepsOthers path m s'
    → Gains m.faults (faults keeper') s'.faults
    → IsWhyClosed exit g g' → g.faults ≤ g'.faults → AsksAtMost listen g.asked g'.asked
    → StaysClosed listen exit s s' g g'
stays-closed tells rows tried faults path listen exit book keeper' s m s' g g' opens same none kept others gains why
    later asked = record {
      refused = why;
      rows = same-rows tells rows tried faults path book keeper' s m s' opens kept others gains same none;
      count = (count-now tells rows tried faults path book keeper' s m s' opens kept others gains).0;
      gates = later;
      asked = asked;
    }

-- ---- doors within their limits

-- so many doors, one a worker
pub few-doors : {D : Type 0} (left : D → ℕ) (workers connections : ℕ) (doors : List D) → workers ≤ 64
    → map left doors ≡ shares workers connections
    → length doors ≤ 64
few-doors left workers connections doors most shared =
    let n = sym (length-map doors left) ∙ ap length shared ∙ length-shares_below workers workers connections in
    omega (arith, most, n)

-- the turns that their connections take are few
pub few-turns : {D : Type 0} (left : D → ℕ) (workers connections : ℕ) (doors : List D) → 1 ≤ workers
    → connections ≤ 65536
    → map left doors ≡ shares workers connections
    → 1048576 * total left doors ≤ 2 ^ 40
few-turns left workers connections doors some most shared =
    let n = total-sum left doors ∙ ap sum shared ∙ shares_add_up workers connections (omega (arith, some)) in
    omega (arith, most, n)

-- ---- many connections were served

pub serves-many : {K I O C : Type 0} (tells : Bool) (rows : K → Option (List Row)) (tried : K → List (List Row))
    (keeps : Keeping) (faults : K → ℕ)
    (path : List ℕ) (streams : Streams K I O C) (listen : List ℕ) (workers connections : ℕ) (ended : Worked)
    (written : Bool) (exit : Exit)
    → exit ≡ exit_of_workers ended written → (book book' : SeenBook K) (keeper' : K)
    (doors doors' : List (SeenDoor I O C)) (o o' : Outlet) (s m s' : ShelfState)
    (g h g' : GatesState I O C) → OpensAt listen g h
    → OpensStore rows faults path book s m → keeper' ≡ book'.keeper → Legal book'.log
    → keeps.store book.log book'.log s s'
    → IfSome (rows keeper') (λ k. StandsAfter tells k (tried keeper') (m.rows path) (s'.rows path))
    → KeepsOthers path m s'
    → Gains m.faults (faults keeper') s'.faults
    → (faults keeper' ≡ 0 → LeavesExactly path book'.log s s')
    → map (λ (d : SeenDoor I O C). d.left) doors ≡ shares workers connections → Every IsNew doors
    → ((x : ServesHistory streams ended doors doors' (ledger_of faults book) (ledger_of faults book'))
    × Reached (IsTakenIn (connections_of x.works)) book book')
    → ((judged : List JudgedWish) → Reached (IsTurnOf streams.tries judged) book book'
    → keeps.behind book'.log judged s s')
    → TellsEntries written (length book'.log) o o'
    → IfSome g'.logs (λ logs. map (λ (d : SeenDoor I O C). d.log) doors' ≡ map Some logs)
    → Gains h.faults (total (λ (d : SeenDoor I O C). d.faults) doors') g'.faults → g'.asked ≡ h.asked
    → ServesMany keeps path streams listen workers connections exit o o' s s' g g'
serves-many {K} {I} {O} {C} tells rows tried keeps faults path streams listen workers connections ended written exit is
    book book' keeper' doors doors' o o' s m s' g h g' at opens
    same legal so stands others gains exact shared new serves behind line told counted asked = record {
      opening = book.log;
      opens = opens.legal;
      found = opens.found;
      doors = doors;
      doors' = doors';
      shared = shared;
      new = new;
      history = book'.log;
      legal = legal;
      faults = faults keeper';
      ended = ended;
      serves = from;
      all = λ done. counts-all from.works (subst (λ (e : Worked). Every (IsWorkedOn e) from.works) done from.each)
          ∙ ap (λ (ds : List (SeenDoor I O C)). map (λ (d : SeenDoor I O C). d.left) ds) from.before ∙ shared;
      none_lacked = λ some. none-all ended some from.works from.each;
      written = written;
      line = line;
      exit_is = is;
      leaves = so;
      behind = behind (judged_in streams book.log book'.log (connections_of from.works) from.served)
          (taken-judged streams book.log book'.log (connections_of from.works) from.served book book' both.1);
      counted = gained;
      lost = lost-count streams book.log book'.log (connections_of from.works) from.served (faults keeper') s.faults
          s'.faults from.marked gained;
      exact = λ none. exact (from.counted
          ∙ ap (λ (n : ℕ). 0 + n)
          (none-rises streams book.log book'.log (connections_of from.works) from.served none));
      asked = asked ∙ at.asked;
      told = doors-told g'.logs told;
      gates = subst (λ (n : ℕ). Gains n (total (λ (d : SeenDoor I O C). d.faults) doors') g'.faults) at.faults counted;
    }
  where
    -- the history, with the turns that led to the last book, by the two counts
    Served : ℕ → ℕ → Type 0
    Served n n' =
        (x : ServesHistory streams ended doors doors' (record { history = book.log; faults = n })
        (record { history = book'.log; faults = n' }))
        × Reached (IsTakenIn (connections_of x.works)) book book'

    both : Served 0 (faults keeper')
    both = subst (λ (n : ℕ). Served 0 n) (ap faults (sym same))
        (subst (λ (n : ℕ). Served n (faults book'.keeper)) opens.fresh serves)

    from : ServesHistory streams ended doors doors' (record { history = book.log; faults = 0 })
        (record { history = book'.log; faults = faults keeper' })
    from = both.0

    gained : Gains s.faults (faults keeper') s'.faults
    gained = count-now tells rows tried faults path book keeper' s m s' opens stands others gains

    doors-told : (logs : Option (List (DoorLog I O C)))
        → IfSome logs (λ ls. map (λ (d : SeenDoor I O C). d.log) doors' ≡ map Some ls)
        → IfSome logs (λ ls. AreDoorsTold ended from.works ls)
    doors-told None t = tt
    doors-told (Some logs) t =
        are-told ended from.works logs from.each
        (subst (λ (ds : List (SeenDoor I O C)). Every IsNew ds) (sym from.before) new)
        (ap (λ (ds : List (SeenDoor I O C)). map (λ (d : SeenDoor I O C). d.log) ds) from.after ∙ t)

-- ---- of doors what is seen of them

module _ {D I O C : Type 0} (left : D → ℕ) (is_out : D → Bool) (faults : D → ℕ) (log : D → Option (DoorLog I O C)) where
  pub shared-seen : (doors : List D) (all : List ℕ) → map left doors ≡ all
      → map (λ (d : SeenDoor I O C). d.left) (map (door_of left is_out faults log) doors) ≡ all
  shared-seen doors all is = map-seen (door_of left is_out faults log) (λ (d : SeenDoor I O C). d.left) doors ∙ is

  pub told-seen : (doors : List D) (logs : Option (List (DoorLog I O C)))
      → IfSome logs (λ ls. map log doors ≡ map Some ls)
      → IfSome logs (λ ls. map (λ (d : SeenDoor I O C). d.log) (map (door_of left is_out faults log) doors)
      ≡ map Some ls)
  told-seen doors None told = tt
  told-seen doors (Some logs) told =
      map-seen (door_of left is_out faults log) (λ (d : SeenDoor I O C). d.log) doors ∙ told

  pub counted-seen : (doors : List D) (before now : ℕ) → Gains before (sum_by faults doors) now
      → Gains before (total (λ (d : SeenDoor I O C). d.faults) (map (door_of left is_out faults log) doors)) now
  counted-seen doors before now gains =
      subst (λ (n : ℕ). Gains before n now)
      (sym (total-seen (door_of left is_out faults log) (λ (d : SeenDoor I O C). d.faults) doors)) gains

  pub new-back : (doors : List D) → Every IsNew (map (door_of left is_out faults log) doors)
      → Every (λ (d : D). is_out d ≡ false) doors
  new-back [] new = tt
  new-back (d ∷ ds) new = (new.0.back, new-back ds new.1)

  pub back-seen : (doors : List D) → Every (λ (d : SeenDoor I O C). d.is_out ≡ false)
      (map (door_of left is_out faults log) doors)
      → All (λ (d : D). IsFalse (is_out d)) doors
  back-seen doors back = all-of (λ (d : D). IsFalse (is_out d)) doors
      (every-seen (door_of left is_out faults log) (λ (d : SeenDoor I O C). d.is_out ≡ false) doors back)

-- ---- what an exit tells

-- the exits of workers that served
abbrev EndsServing : Exit → Type 0
EndsServing exits.Done = Unit {0}
EndsServing exits.WriteFault = Unit {0}
EndsServing exits.ListenFault = Unit {0}
EndsServing exits.OutOfMemory = Unit {0}
EndsServing _ = ⊥

ended-by : {exit x : Exit} (ended : Worked) (written : Bool) → exit ≡ exit_of_workers ended written → exit ≡ x
    → EndsServing x
ended-by ended written is e = subst EndsServing (sym is ∙ e) (by ended written)
  where
    by : (ended : Worked) (written : Bool) → EndsServing (exit_of_workers ended written)
    by worked.OutOfMemory written = tt
    by worked.DoorFailed written = tt
    by worked.Done true = tt
    by worked.Done false = tt

module _ {K I O C : Type 0} (tells_stops : Bool) (keeps : Keeping) (path : List ℕ) (streams : Streams K I O C)
    (listen : List ℕ) (workers connections : ℕ) (exit : Exit) (o o' : Outlet)
    (s s' : ShelfState) (g g' : GatesState I O C) where
  abbrev pub Serves : Type 0
  Serves = ServesGates tells_stops keeps path streams listen workers connections exit o o' s s' g g'

  -- a door failed, which the gates counted
  door-counted : (ended : Worked) (works : List (DoorWork K I O C)) (doors doors' : List (SeenDoor I O C))
      → map (λ (w : DoorWork K I O C). w.before) works ≡ doors
      → map (λ (w : DoorWork K I O C). w.after) works ≡ doors'
      → Every IsNew doors → HasFailedDoor ended works → ended ≡ worked.DoorFailed
      → Gains g.faults (total (λ (d : SeenDoor I O C). d.faults) doors') g'.faults
      → Rises g.faults g'.faults
  door-counted ended works doors doors' before after new cause failed gains =
      let up : Rises 0 (total (λ (d : SeenDoor I O C). d.faults) doors') =
      subst (λ (ds : List (SeenDoor I O C)). Rises 0 (total (λ (d : SeenDoor I O C). d.faults) ds)) after
      (failed-counts works (subst (λ (e : Worked). HasFailedDoor e works) failed cause)
      (subst (λ (ds : List (SeenDoor I O C)). Every IsNew ds) (sym before) new)) in
      risen g.faults (total (λ (d : SeenDoor I O C). d.faults) doors') g'.faults up gains

  by-listen : (ended : Worked) (written : Bool) → exits.ListenFault ≡ exit_of_workers ended written
      → ended ≡ worked.DoorFailed
  by-listen worked.DoorFailed written e = refl
  by-listen worked.OutOfMemory written e = absurd (cc (e))
  by-listen worked.Done true e = absurd (cc (e))
  by-listen worked.Done false e = absurd (cc (e))

  pub listen-rises : Serves → exit ≡ exits.ListenFault → Rises g.faults g'.faults
  listen-rises (inl shut) e = absurd (subst (λ (x : Exit). IsWhyShut path x s s') e shut.0.refused)
  listen-rises (inr (inl closed)) e = subst (λ (x : Exit). IsWhyClosed x g g') e closed.0.refused
  listen-rises (inr (inr m)) e =
      door-counted m.ended m.serves.works m.doors m.doors' m.serves.before m.serves.after m.new m.serves.cause
      (by-listen m.ended m.written (sym e ∙ m.exit_is)) m.gates

  by-write : (ended : Worked) (written : Bool) (n : ℕ) → exits.WriteFault ≡ exit_of_workers ended written
      → TellsEntries written n o o'
      → Rises o.faults o'.faults
  by-write worked.Done false n e line = line.rises
  by-write worked.Done true n e line = absurd (cc (e))
  by-write worked.DoorFailed written n e line = absurd (cc (e))
  by-write worked.OutOfMemory written n e line = absurd (cc (e))

  pub write-rises : Serves → exit ≡ exits.WriteFault → Rises o.faults o'.faults
  write-rises (inl shut) e = absurd (subst (λ (x : Exit). IsWhyShut path x s s') e shut.0.refused)
  write-rises (inr (inl closed)) e = absurd (subst (λ (x : Exit). IsWhyClosed x g g') e closed.0.refused)
  write-rises (inr (inr m)) e = by-write m.ended m.written (length m.history) (sym e ∙ m.exit_is) m.line

  pub keeper-rises : Serves → exit ≡ exits.KeeperFault → Rises s.faults s'.faults
  keeper-rises (inl shut) e = subst (λ (x : Exit). IsWhyShut path x s s') e shut.0.refused
  keeper-rises (inr (inl closed)) e = absurd (subst (λ (x : Exit). IsWhyClosed x g g') e closed.0.refused)
  keeper-rises (inr (inr m)) e = absurd (ended-by m.ended m.written m.exit_is e)

  -- an exit that neither a store gives that doesn't open, nor gates, nor workers
  never : (x : Exit) → (IsWhyShut path x s s' → ⊥) → (IsWhyClosed x g g' → ⊥) → (EndsServing x → ⊥) → Serves → exit ≢ x
  never x unshut unclosed unended (inl shut) e = unshut (subst (λ (y : Exit). IsWhyShut path y s s') e shut.0.refused)
  never x unshut unclosed unended (inr (inl closed)) e =
      unclosed (subst (λ (y : Exit). IsWhyClosed y g g') e closed.0.refused)
  never x unshut unclosed unended (inr (inr m)) e = unended (ended-by m.ended m.written m.exit_is e)

  -- no input is read
  pub never-reads : Serves → exit ≢ exits.ReadFault
  never-reads = never exits.ReadFault (λ none. none) (λ none. none) (λ none. none)

  -- the clock that top was given isn't asked
  pub never-asks : Serves → exit ≢ exits.ClockFault
  never-asks = never exits.ClockFault (λ none. none) (λ none. none) (λ none. none)

  pub never-usage : Serves → exit ≢ exits.Usage
  never-usage = never exits.Usage (λ none. none) (λ none. none) (λ none. none)

  -- ---- where nothing fails

  by-closed : (x : Exit) → IsWhyClosed x g g' → (Rises g.faults g'.faults → ⊥) → x ≡ exits.OutOfMemory
  by-closed exits.OutOfMemory why idle = refl
  by-closed exits.ListenFault why idle = absurd (idle why)
  by-closed exits.Done why idle = absurd why
  by-closed exits.Cut why idle = absurd why
  by-closed exits.Usage why idle = absurd why
  by-closed (exits.BadStore row kind) why idle = absurd why
  by-closed exits.ReadFault why idle = absurd why
  by-closed exits.WriteFault why idle = absurd why
  by-closed exits.KeeperFault why idle = absurd why
  by-closed exits.NoUser why idle = absurd why
  by-closed exits.ClockFault why idle = absurd why

  by-ended : (ended : Worked) (written : Bool) (n : ℕ) → TellsEntries written n o o' → (Rises o.faults o'.faults → ⊥)
      → (ended ≡ worked.DoorFailed → ⊥)
      → (exit_of_workers ended written ≡ exits.OutOfMemory) ⊎ (exit_of_workers ended written ≡ exits.Done)
  by-ended worked.OutOfMemory written n line idle none = inl refl
  by-ended worked.DoorFailed written n line idle none = absurd (none refl)
  by-ended worked.Done true n line idle none = inr refl
  by-ended worked.Done false n line idle none = absurd (idle line.rises)

  pub serves-or-memory : Serves → (Rises o.faults o'.faults → ⊥) → (Rises g.faults g'.faults → ⊥)
      → (Rises s.faults s'.faults → ⊥)
      → (H : History) → Legal H → s.rows path ≡ Some (rows_of H) → (exit ≡ exits.OutOfMemory) ⊎ (exit ≡ exits.Done)
  serves-or-memory (inl shut) quiet idle still H legal told =
      inl (opens-or-memory tells_stops path exit s s' shut.0 still H legal told)
  serves-or-memory (inr (inl closed)) quiet idle still H legal told = inl (by-closed exit closed.0.refused idle)
  serves-or-memory (inr (inr m)) quiet idle still H legal told =
      subst (λ (x : Exit). (x ≡ exits.OutOfMemory) ⊎ (x ≡ exits.Done)) (sym m.exit_is)
      (by-ended m.ended m.written (length m.history) m.line quiet
      (λ failed. idle (door-counted m.ended m.serves.works m.doors m.doors' m.serves.before m.serves.after m.new
      m.serves.cause failed m.gates)))
