-- SPDX-License-Identifier: Apache-2.0 OR MIT
use Rattle.std.proofs.Common.{◌≡◌, [], ◌+◌}
use Rattle.cr_lock.specs.declared.pass_state.Activity.TheVariants.{Waiting}
use Rattle.cr_lock.specs.Steps.{state}
use Rattle.cr_lock.proofs.lock.wait_and_take.Given as goal

abbrev pub invariant-loop : goal.invariant-loop
invariant-loop g l = (l.seat.table_id ≡ l.initial.seat.table_id)
    × (l.seat.me ≡ (record (state l.fn.seat) { turns = (state l.fn.seat).turns + 1; activity = Waiting l.ticket }, []))
