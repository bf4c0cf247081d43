-- SPDX-License-Identifier: Apache-2.0 OR MIT
use Rattle.std.proofs.Common.{◌≡◌, ◌-◌, ap, arith, length, min}
use Rattle.cr_disks.proofs.Putting.{put_parts}
use Rattle.cr_disks.proofs.mem_disk.put_over.Goals as goal

pub returns-clause-holds : goal.returns-clause-holds
returns-clause-holds c =
    let old = c.args.bytes.now.items in
    let piece = c.args.piece.now in
    let over = c.min-over.result in
    let size : length old ≡ c.args.bytes.now.len =
    omega (arith, c.deref_mut.ensures.len, ap length c.deref_mut.ensures.value) in
    let over_is : over ≡ min (length piece) (length old - c.args.at) =
    omega (arith, size, c.min-over.ensures, c.len.ensures) in
    put_parts old c.deref_mut.result.now c.overwrite.new.bytes c.append_within.new.bytes.items piece c.args.at over
    c.args.bytes.now.len
    c.requires.inside over_is c.deref_mut.ensures.value size c.overwrite.ensures c.append_within.ensures.items
