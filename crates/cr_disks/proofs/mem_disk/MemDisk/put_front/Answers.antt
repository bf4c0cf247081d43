-- SPDX-License-Identifier: Apache-2.0 OR MIT
use Rattle.std.proofs.Common.{ap}
use Rattle.cr_disks.specs.Held.{DiskState, state_of}
use Rattle.cr_disks.proofs.Images.{holds_torn, write_follows}
use Rattle.cr_disks.proofs.Time.{call_elapses}
use Rattle.cr_disks.proofs.mem_disk.MemDisk.put_front.Goals as goal

pub returns-clause-torn : goal.returns-clause-torn
returns-clause-torn c =
    holds_torn c.args.at c.args.len c.args.piece.now c.args.self.now.bytes c.record_write.new.self.bytes
    c.requires.inside c.requires.few c.record_write.ensures.bytes

pub returns-clause-crash : goal.returns-clause-crash
returns-clause-crash c =
    write_follows c.args.at c.args.len (state_of c.args.self.now) (state_of c.record_write.new.self)
    (ap (λ (s : DiskState). s.base) c.record_write.ensures.state)
    (ap (λ (s : DiskState). s.ranges) c.record_write.ensures.state)

pub returns-clause-time : goal.returns-clause-time
returns-clause-time c = call_elapses c.args.self.now c.record_write.new.self c.record_write.ensures.past
