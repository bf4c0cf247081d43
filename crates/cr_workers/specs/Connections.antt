-- SPDX-License-Identifier: Apache-2.0 OR MIT
-- Connections that were served on one history, whichever way their turns interleave.
use Rattle.std.specs.Prelude.{◌≡◌, ◌⊎◌, ℕ, ◌+◌, List, [], ◌++◌, Option, Some}
use mathlib.Core.List.{IsPrefix}
use Rattle.cr_base.specs.declared.entry.Stamped.{Stamped}
use Rattle.cr_base.specs.Lists.{listed}
use Rattle.cr_lock.specs.Counts.{Among, Any, Every, total}
use Rattle.cr_lock.specs.Turns.{StandsIn, groups_with, marks, rises}
use Rattle.cr_ports.specs.Stream.{Taken}
use Rattle.cr_ports.specs.declared.door.Served.{Served}
use Rattle.cr_session.specs.declared.serve.Ending.{Ending}
use Rattle.cr_session.specs.Tries.{Tries}
use Rattle.cr_session.specs.Passing.{BookTurn, IsTurnOf, KnownPass}
use Rattle.cr_session.specs.Serving.{World, world_of, ConnectionInHistory, WholeInHistory}

-- what turns do with a book's keeper; and what sources, sinks and clocks of these types tell: the bytes that are left,
-- what reads give, what was taken, which moments are to come, and the counts of faults
pub record Streams (K I O C : Type 0) : Type 1 where
  pub tries : Tries K
  pub left : I → Option (List ℕ)
  pub gives : I → I → List ℕ → Type 0
  pub read_faults : I → ℕ
  pub taken : O → Option Taken
  pub write_faults : O → ℕ
  pub coming : C → Option (List ℕ)
  pub clock_faults : C → ℕ

-- what contracts see of a connection's streams and turns, by the members of their traits
abbrev pub streams_of : {K I O C : Type 0} → Tries K → (I → Option (List ℕ)) → (I → I → List ℕ → Type 0) → (I → ℕ)
    → (O → Option Taken) → (O → ℕ) → (C → Option (List ℕ)) → (C → ℕ) → Streams K I O C
streams_of tries left gives read_faults taken write_faults coming clock_faults = record {
  tries = tries;
  left = left;
  gives = gives;
  read_faults = read_faults;
  taken = taken;
  write_faults = write_faults;
  coming = coming;
  clock_faults = clock_faults;
}

-- A connection that was served: how it ended, what its worker's pass knew before and after it, the turns that it
-- took, and its source, sink and clock as they were given and as they came back.
pub record ServedConnection (K I O C : Type 0) : Type 0 where
  pub ending : Ending
  pub before : KnownPass K
  pub after : KnownPass K
  pub turns : List (BookTurn K)
  pub ends : Served I O C

-- one of these connections took the turn
abbrev pub IsTakenIn : {K I O C : Type 0} → List (ServedConnection K I O C) → BookTurn K → Type 0
IsTakenIn {K} {I} {O} {C} connections t = Any (λ (c : ServedConnection K I O C). Among c.turns t) connections

module _ {K I O C : Type 0} (streams : Streams K I O C) where
  -- what a served connection worked on, as it was given
  abbrev pub world_before : ServedConnection K I O C → World (KnownPass K) I
  world_before c =
      world_of streams.read_faults streams.taken streams.write_faults streams.coming streams.clock_faults c.before
      c.ends.given.0 c.ends.given.1 c.ends.given.2

  -- what a served connection worked on, as it came back
  abbrev pub world_after : ServedConnection K I O C → World (KnownPass K) I
  world_after c =
      world_of streams.read_faults streams.taken streams.write_faults streams.coming streams.clock_faults c.after
      c.ends.back.0 c.ends.back.1 c.ends.back.2

  -- A connection's bytes are the answers to its wishes, each at its turn's place of the history, which goes on from
  -- what had been seen. Its turns are those that its pass has more, each with its group at its place, and each is of
  -- one of its wishes, or adds nothing.
  pub record IsServed (c : ServedConnection K I O C) : Type 0 where
    pub connection : ConnectionInHistory streams.tries streams.left streams.gives c.ending 0 [] (world_before c)
        (world_after c)
    pub whole : (b : List ℕ) → streams.left c.ends.given.0 ≡ Some b
        → WholeInHistory streams.tries streams.left c.ending b (world_before c) (world_after c)
    pub seen : IsPrefix c.before.seen c.after.seen
    pub mine : c.after.mine ≡ c.before.mine ++ c.turns
    pub places : Every (StandsIn c.after.seen) c.turns
    pub judges : Every (IsTurnOf streams.tries (connection.answered ++ listed connection.failed)) c.turns

  -- A connection between two moments of one history: it had seen all of the first, and what
  -- it saw, the second begins with.
  pub record IsServedWithin (first last : List Stamped) (c : ServedConnection K I O C) : Type 0 where
    pub served : IsServed c
    pub begins : IsPrefix first c.before.seen
    pub ends : IsPrefix c.after.seen last

  -- What workers did together who began with one pass and ended with one: they served these connections. The pass has
  -- their turns more, and no others: each entry is in as many groups more as they added it in, as many turns more are
  -- marked, and in them the keeper's fault counter rose by what it rose in theirs.
  pub record ServeAll (connections : List (ServedConnection K I O C)) (p p' : KnownPass K) : Type 0 where
    pub each : Every (IsServedWithin p.seen p'.seen) connections
    pub seen : IsPrefix p.seen p'.seen
    pub groups : (k : ℕ) → groups_with k p'.mine
        ≡ groups_with k p.mine + total (λ (c : ServedConnection K I O C). groups_with k c.turns) connections
    pub marked : marks p'.mine ≡ marks p.mine + total (λ (c : ServedConnection K I O C). marks c.turns) connections
    pub rose : rises p'.mine ≡ rises p.mine + total (λ (c : ServedConnection K I O C). rises c.turns) connections
    pub taken : (t : BookTurn K) → Among p'.mine t → Among p.mine t ⊎ IsTakenIn connections t
