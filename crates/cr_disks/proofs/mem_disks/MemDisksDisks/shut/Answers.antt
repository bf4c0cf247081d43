-- SPDX-License-Identifier: Apache-2.0 OR MIT
use Rattle.std.proofs.Common.{◌∙◌, ap, List, ℕ}
use Rattle.cr_disks.specs.Held.{DiskState, state_of}
use Rattle.cr_disks.specs.Paths.{state_at}
use Rattle.cr_ports.proofs.Shelving.{cond_apart, cond_here}
use Rattle.cr_disks.proofs.Paths.{same_left}
use Rattle.cr_disks.proofs.mem_disks.MemDisksDisks.shut.Goals as goal

pub returns-clause-still : goal.returns-clause-still
returns-clause-still c =
    let path = c.args.path.now in
    let state = state_of c.args.disk in
    same_left (state_at c.put.new.files.entries path) state
    (ap (λ (states : List ℕ → DiskState). states path) c.put.ensures.states
    ∙ cond_here path state (state_at c.self.inside.files.entries path))

pub returns-clause-others : goal.returns-clause-others
returns-clause-others c = rw (← c.self.view_is) (λ other image apart.
    let path = c.args.path.now in
    let old = state_at c.self.inside.files.entries other in
    same_left (state_at c.put.new.files.entries other) old
    (ap (λ (states : List ℕ → DiskState). states other) c.put.ensures.states
    ∙ cond_apart path other (state_of c.args.disk) old apart) image)
