-- SPDX-License-Identifier: Apache-2.0 OR MIT
use Rattle.std.proofs.Common.{◌∙◌, ◌≤◌, ℕ, inl, inr, subst}
use Rattle.cr_ports.specs.Count.{Rises}
use Rattle.cr_disks.specs.Held.{DiskState, left_in}
use Rattle.cr_disks.proofs.Time.{call_elapses, nothing_elapses}
use Rattle.cr_disks.proofs.mem_disk.MemDiskDisk.sync.Goals as goal

pub returns-then-is_full-clause-crash : goal.returns-then-is_full-clause-crash
returns-then-is_full-clause-crash c =
    λ told image left. inl (subst (λ (s : DiskState). left_in s image) c.fail.ensures.state left)

pub returns-then-is_full-clause-time : goal.returns-then-is_full-clause-time
returns-then-is_full-clause-time c =
    λ told. nothing_elapses c.args.self.now c.fail.new.self c.fail.ensures.past c.fail.ensures.state

pub returns-then-fails_next-clause-crash : goal.returns-then-fails_next-clause-crash
returns-then-fails_next-clause-crash c = λ told image left.
    inl (subst (λ (s : DiskState). left_in s image) (c.fail-then-fails_next.ensures.state ∙ c.record_sync.ensures.state)
    left)

pub returns-then-fails_next-clause-time : goal.returns-then-fails_next-clause-time
returns-then-fails_next-clause-time c = λ told.
    call_elapses c.args.self.now c.fail-then-fails_next.new.self
    (c.fail-then-fails_next.ensures.past ∙ c.record_sync.ensures.past)

pub returns-clause-durable : goal.returns-clause-durable
returns-clause-durable c = λ told image left.
    subst (λ (s : DiskState). left_in s image) c.record_sync-2.ensures.state left ∙ c.record_sync-2.ensures.seen

pub returns-clause-crash : goal.returns-clause-crash
returns-clause-crash c = λ told image left.
    inr (subst (λ (s : DiskState). left_in s image) c.record_sync-2.ensures.state left ∙ c.record_sync-2.ensures.seen)

pub returns-clause-time : goal.returns-clause-time
returns-clause-time c = λ told. call_elapses c.args.self.now c.record_sync-2.new.self c.record_sync-2.ensures.past

pub returns-then-fails_next-clause-cause : goal.returns-then-fails_next-clause-cause
returns-then-fails_next-clause-cause c =
    let fail = c.fail-then-fails_next in
    record {
      later = subst (λ (n : ℕ). n ≤ fail.new.self.faults) c.record_sync.ensures.faults fail.ensures.later;
      failed = subst (λ (n : ℕ). Rises n fail.new.self.faults) c.record_sync.ensures.faults fail.ensures.rises;
      steady = tt;
    }
