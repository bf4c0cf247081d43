-- SPDX-License-Identifier: Apache-2.0 OR MIT
use Rattle.std.proofs.Common.{◌≡◌, [], subst}
use Rattle.std.specs.Map.{lookup}
use Rattle.std.specs.Prelude.{IfSome}
use Rattle.cr_ports.specs.Shelving.{is_path}
use Rattle.cr_disks.specs.Held.{settled, state_of}
use Rattle.cr_disks.specs.Paths.{Filed, state_at}
use Rattle.cr_disks.proofs.Paths.{told_at}
use Rattle.cr_disks.proofs.mem_disks.MemDisks.file_at.Goals as goal

pub returns-clause-state : goal.returns-clause-state
returns-clause-state c =
    let path = c.args.path.now in
    subst (λ (d : Filed). IfSome c.get.result (λ disk. state_of disk.now ≡ state_at d.files path)) c.self.view_is
    (told_at state_of (settled []) c.get.result (lookup (is_path path) c.self.inside.files.entries)
    c.get.ensures.value)
