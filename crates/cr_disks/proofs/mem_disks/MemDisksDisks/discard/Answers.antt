-- SPDX-License-Identifier: Apache-2.0 OR MIT
use Rattle.std.proofs.Common.{◌∙◌, [], ap, inl, subst, List, ℕ}
use Rattle.cr_disks.specs.Held.{DiskState, left_in, settled}
use Rattle.cr_disks.specs.Paths.{state_at}
use Rattle.cr_ports.proofs.Shelving.{cond_apart, cond_here}
use Rattle.cr_disks.proofs.Paths.{same_left}
use Rattle.cr_disks.proofs.mem_disks.MemDisksDisks.discard.Goals as goal

pub returns-clause-still : goal.returns-clause-still
returns-clause-still c = λ image left.
    let path = c.args.path.now in
    inl (subst (λ (s : DiskState). left_in s image)
    (ap (λ (states : List ℕ → DiskState). states path) c.take.ensures.states
    ∙ cond_here path (settled []) (state_at c.self.inside.files.entries path))
    left)

pub returns-clause-others : goal.returns-clause-others
returns-clause-others c = rw (← c.self.view_is) (λ other image apart.
    let path = c.args.path.now in
    let old = state_at c.self.inside.files.entries other in
    same_left (state_at c.take.new.files.entries other) old
    (ap (λ (states : List ℕ → DiskState). states other) c.take.ensures.states
    ∙ cond_apart path other (settled []) old apart) image)
