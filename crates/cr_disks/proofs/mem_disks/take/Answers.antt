-- SPDX-License-Identifier: Apache-2.0 OR MIT
use Rattle.std.proofs.Common.{[], None}
use Rattle.std.proofs.Math.Path.{fun_ext}
use Rattle.std.proofs.lemmas.Map.Text.{btree_map_updates_text}
use Rattle.std.specs.Map.{lookup}
use Rattle.std.specs.Str.{bytes_eq}
use Rattle.cr_ports.specs.Shelving.{is_path}
use Rattle.cr_disks.specs.Held.{Held, settled, state_of}
use Rattle.cr_disks.proofs.Paths.{take_one}
use Rattle.cr_disks.proofs.mem_disks.take.Goals as goal

pub returns-clause-bytes : goal.returns-clause-bytes
returns-clause-bytes c =
    let path = c.args.path.now in
    let old = c.args.files.now in
    let new = c.remove.new.self in
    fun_ext (λ q. take_one (λ (d : Held). d.bytes) [] (bytes_eq path q) (lookup (is_path q) old.entries)
    (lookup (is_path q) new.entries)
    (btree_map_updates_text path old new None c.remove.ensures.updates q))

pub returns-clause-states : goal.returns-clause-states
returns-clause-states c =
    let path = c.args.path.now in
    let old = c.args.files.now in
    let new = c.remove.new.self in
    fun_ext (λ q. take_one state_of (settled []) (bytes_eq path q) (lookup (is_path q) old.entries)
    (lookup (is_path q) new.entries)
    (btree_map_updates_text path old new None c.remove.ensures.updates q))
