-- SPDX-License-Identifier: Apache-2.0 OR MIT
use Rattle.std.proofs.Common.{◌∙◌, [], ◌∷◌, List, ℕ, ap, arith, length-append, subst, sym}
use Rattle.cr_disks.specs.Held.{DiskState, Held, after_call, left_in, settled, state_after, states_before}
use Rattle.cr_disks.specs.declared.mem_disk.DiskCall.{DiskCall}
use Rattle.cr_disks.proofs.Record.{is_sync, sync-past, sync-state, sync-total}
use Rattle.cr_disks.proofs.mem_disk.MemDisk.record_sync.Goals as goal

pub invariant_of-self : goal.invariant_of-self
invariant_of-self c =
    let inv = c.self.invariant in
    let inside = c.self.inside in
    let is = is_sync c.args.call c.requires.sync in
    let state = state_after inside.calls.items inside.put.items (settled inside.first.items) in
    let left = ap (λ (d : Held). d.calls_left) c.self.view_is in
    let after = sync-state c.args.call is.0 inside.first.items inside.put.items inside.calls.items inv.1 in
    rw c.push_reserved.ensures.items (
      inv.0 ∙ sym (is.1 state) ∙ ap (λ (s : DiskState). s.seen)
          (sym after),
      sync-total c.args.call is.0 inside.put.items inside.calls.items inv.1,
      inv.2,
      inv.3,
      omega (arith, inv.4, left, c.requires.calls, c.push_reserved.ensures.len, c.push_reserved.ensures.capacity),
      inv.5,
      omega (arith, inv.6, length-append inside.calls.items (c.args.call ∷ [])),
      subst (λ (s : DiskState). left_in s inside.bytes.items) (sym after)
          (subst (λ (l : List ℕ). left_in (after_call c.args.call [] state) l) (sym inv.0)
          (is.2 state (subst (λ (l : List ℕ). left_in state l) inv.0 inv.7))),
    )

pub returns-clause-state : goal.returns-clause-state
returns-clause-state c =
    let inside = c.self.inside in
    let is = is_sync c.args.call c.requires.sync in
    rw (← c.self.view_is) (
    ap (λ (l : List DiskCall). state_after l inside.put.items (settled inside.first.items))
    c.push_reserved.ensures.items
    ∙ sync-state c.args.call is.0 inside.first.items inside.put.items inside.calls.items c.self.invariant.1)

pub returns-clause-past : goal.returns-clause-past
returns-clause-past c =
    let inside = c.self.inside in
    let is = is_sync c.args.call c.requires.sync in
    rw (← c.self.view_is) (
    ap (λ (l : List DiskCall). states_before l inside.put.items (settled inside.first.items))
    c.push_reserved.ensures.items
    ∙ sync-past c.args.call is.0 inside.first.items inside.put.items inside.calls.items c.self.invariant.1)

pub returns-clause-seen : goal.returns-clause-seen
returns-clause-seen c = rw (← c.self.view_is) (sym c.self.invariant.0)
