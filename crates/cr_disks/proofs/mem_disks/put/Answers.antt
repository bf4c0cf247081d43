-- SPDX-License-Identifier: Apache-2.0 OR MIT
use Rattle.std.proofs.Common.{rules, [], Some}
use Rattle.std.proofs.Math.Path.{fun_ext}
use Rattle.std.proofs.lemmas.Map.Text.{btree_map_updates_text}
use Rattle.std.specs.Map.{lookup}
use Rattle.std.specs.Str.{bytes_eq}
use Rattle.cr_ports.specs.Shelving.{is_path}
use Rattle.cr_disks.specs.Held.{Held, settled, state_of}
use Rattle.cr_disks.proofs.Paths.{put_one}
use Rattle.cr_disks.proofs.mem_disks.put.Goals as goal

pub returns-in-Some-clause-bytes : goal.returns-in-Some-clause-bytes
returns-in-Some-clause-bytes c =
    let path = c.args.path.now in
    let old = c.args.files.now in
    let new = c.get_mut.follows.lender c.args.disk in
    fun_ext (λ q. put_one (λ (d : Held). d.bytes) [] (bytes_eq path q) c.args.disk (lookup (is_path q) old.entries)
    (lookup (is_path q) new.entries)
    (btree_map_updates_text path old new (Some c.args.disk) ((c.get_mut.follows.holds c.args.disk).3 (search rules))
    q))

pub returns-in-Some-clause-states : goal.returns-in-Some-clause-states
returns-in-Some-clause-states c =
    let path = c.args.path.now in
    let old = c.args.files.now in
    let new = c.get_mut.follows.lender c.args.disk in
    fun_ext (λ q. put_one state_of (settled []) (bytes_eq path q) c.args.disk (lookup (is_path q) old.entries)
    (lookup (is_path q) new.entries)
    (btree_map_updates_text path old new (Some c.args.disk) ((c.get_mut.follows.holds c.args.disk).3 (search rules))
    q))
