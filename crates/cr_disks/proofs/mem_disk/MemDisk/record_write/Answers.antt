-- SPDX-License-Identifier: Apache-2.0 OR MIT
use Rattle.std.proofs.Common.{◌≡◌, ◌≤◌, ◌∙◌, [], ◌∷◌, ap, arith, length, length-append, refl, subst, sym}
use Rattle.cr_disks.specs.Held.{DiskState, Held, after_call, left_in, settled, state_after, states_before}
use Rattle.cr_disks.specs.declared.mem_disk.DiskCall.{DiskCall}
use Rattle.cr_disks.specs.declared.mem_disk.DiskCall.TheVariants.{Wrote}
use Rattle.cr_disks.proofs.Images.{seen_written}
use Rattle.cr_disks.proofs.Putting.{holds-length}
use Rattle.cr_disks.proofs.Record.{write-past, write-seen, write-state, write-total}
use Rattle.cr_disks.proofs.mem_disk.MemDisk.record_write.Goals as goal

pub invariant_of-self : goal.invariant_of-self
invariant_of-self c =
    let inv = c.self.invariant in
    let inside = c.self.inside in
    let room : inside.room ≡ c.args.self.now.room = ap (λ (d : Held). d.room) c.self.view_is in
    let left : inside.calls_left ≡ c.args.self.now.calls_left = ap (λ (d : Held). d.calls_left) c.self.view_is in
    let bytes : length inside.bytes.items ≡ length c.args.self.now.bytes =
    ap (λ (d : Held). length d.bytes) c.self.view_is in
    let within : c.args.at ≤ length inside.bytes.items = omega (arith, bytes, c.requires.inside) in
    let call : DiskCall = Wrote c.args.at (length c.args.piece.now) c.args.len in
    let state : DiskState = state_after inside.calls.items inside.put.items (settled inside.first.items) in
    let after = write-state inside.first.items inside.put.items c.args.piece.now inside.calls.items c.args.at c.args.len
    inv.1 in
    rw (c.push_reserved.ensures.items, c.append_within.ensures.items) (
      write-seen inside.first.items inside.put.items c.args.piece.now inside.bytes.items c.put_over.new.bytes.items
          inside.calls.items c.args.at c.args.len inv.1 inv.0 c.put_over.ensures.holds,
      write-total inside.put.items c.args.piece.now inside.calls.items c.args.at c.args.len inv.1,
      omega (arith, inv.2, room, c.requires.room, c.append_within.ensures.len, c.append_within.ensures.capacity),
      omega (arith, inv.3, room, c.requires.room, c.put_over.ensures.len, c.put_over.ensures.capacity),
      omega (arith, inv.4, left, c.requires.calls, c.push_reserved.ensures.len, c.push_reserved.ensures.capacity),
      omega (
        arith,
        inv.5,
        room,
        c.requires.room,
        holds-length c.args.at c.args.piece.now inside.bytes.items c.put_over.new.bytes.items within
            c.put_over.ensures.holds,
      ),
      omega (arith, inv.6, length-append inside.calls.items (call ∷ [])),
      subst (λ (s : DiskState). left_in s c.put_over.new.bytes.items) (sym after)
          (seen_written c.args.at c.args.len c.args.piece.now inside.bytes.items c.put_over.new.bytes.items state
          (after_call call c.args.piece.now state) within c.requires.few c.put_over.ensures.holds refl refl inv.7),
    )

pub returns-clause-within : goal.returns-clause-within
returns-clause-within c =
    let room : c.self.inside.room ≡ c.args.self.now.room = ap (λ (d : Held). d.room) c.self.view_is in
    let bytes : length c.self.inside.bytes.items ≡ length c.args.self.now.bytes =
    ap (λ (d : Held). length d.bytes) c.self.view_is in
    omega (arith, c.self.invariant.5, room, bytes, c.requires.inside, c.requires.room)

pub returns-clause-state : goal.returns-clause-state
returns-clause-state c =
    let inside = c.self.inside in
    rw (← c.self.view_is) (
    (λ i. state_after (c.push_reserved.ensures.items i) (c.append_within.ensures.items i) (settled inside.first.items))
    ∙ write-state inside.first.items inside.put.items c.args.piece.now inside.calls.items c.args.at c.args.len
    c.self.invariant.1)

pub returns-clause-past : goal.returns-clause-past
returns-clause-past c =
    let inside = c.self.inside in
    rw (← c.self.view_is) (
    (λ i. states_before (c.push_reserved.ensures.items i) (c.append_within.ensures.items i)
    (settled inside.first.items))
    ∙ write-past inside.first.items inside.put.items c.args.piece.now inside.calls.items c.args.at c.args.len
    c.self.invariant.1)
