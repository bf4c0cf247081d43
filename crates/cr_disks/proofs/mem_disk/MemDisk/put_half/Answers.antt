-- SPDX-License-Identifier: Apache-2.0 OR MIT
use Rattle.std.proofs.Common.{◌∙◌, ◌≤◌, ℕ, subst}
use Rattle.cr_ports.specs.Count.{Rises}
use Rattle.cr_disks.specs.Held.{DiskState, left_in}
use Rattle.cr_disks.proofs.Time.{call_elapses}
use Rattle.cr_disks.proofs.mem_disk.MemDisk.put_half.Goals as goal

pub returns-clause-crash : goal.returns-clause-crash
returns-clause-crash c =
    λ image left. c.put_front.ensures.crash image (subst (λ (s : DiskState). left_in s image) c.fail.ensures.state left)

pub returns-clause-time : goal.returns-clause-time
returns-clause-time c = call_elapses c.args.self.now c.fail.new.self (c.fail.ensures.past ∙ c.put_front.ensures.past)

pub returns-clause-later : goal.returns-clause-later
returns-clause-later c = subst (λ (n : ℕ). n ≤ c.fail.new.self.faults) c.put_front.ensures.faults c.fail.ensures.later

pub returns-clause-rises : goal.returns-clause-rises
returns-clause-rises c =
    subst (λ (n : ℕ). Rises n c.fail.new.self.faults) c.put_front.ensures.faults c.fail.ensures.rises
