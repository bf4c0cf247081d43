-- SPDX-License-Identifier: Apache-2.0 OR MIT
use Rattle.std.proofs.Common.{◌∙◌, [], Some, string_bytes}
use Rattle.std.proofs.Math.Path.{fun_ext}
use Rattle.std.proofs.lemmas.Map.Text.{btree_map_updates_text}
use Rattle.std.specs.Map.{lookup}
use Rattle.std.specs.Str.{bytes_eq}
use Rattle.cr_ports.specs.Shelving.{is_path}
use Rattle.cr_disks.specs.Held.{Held, settled, state_after, state_of}
use Rattle.cr_disks.proofs.Paths.{add_one, none_at}
use Rattle.cr_disks.proofs.mem_disks.add_file.Goals as goal

pub returns-in-Ok-clause-files : goal.returns-in-Ok-clause-files
returns-in-Ok-clause-files c =
    let name = string_bytes c.in_ok-name.name in
    let old = c.args.files.now in
    let new = c.insert.new.self in
    let disk = c.in_ok-disk.disk in
    fun_ext (λ q. add_one (λ (d : Held). d.bytes) [] (bytes_eq name q) disk (lookup (is_path q) old.entries)
    (lookup (is_path q) new.entries)
    (btree_map_updates_text name old new (Some disk) c.in-Ok.ensures.updates q)
    (none_at old.entries c.args.path.now name q c.requires c.in_ok-name.ensures.ok)
    (c.in_ok-disk.ensures.bytes ∙ c.new.ensures.items))

pub returns-in-Ok-clause-states : goal.returns-in-Ok-clause-states
returns-in-Ok-clause-states c =
    let name = string_bytes c.in_ok-name.name in
    let old = c.args.files.now in
    let new = c.insert.new.self in
    let disk = c.in_ok-disk.disk in
    let made = c.in_ok-disk.ensures in
    fun_ext (λ q. add_one state_of (settled []) (bytes_eq name q) disk (lookup (is_path q) old.entries)
    (lookup (is_path q) new.entries)
    (btree_map_updates_text name old new (Some disk) c.in-Ok.ensures.updates q)
    (none_at old.entries c.args.path.now name q c.requires c.in_ok-name.ensures.ok)
    (λ i. state_after (made.calls i) (made.put i) (settled ((made.first ∙ c.new.ensures.items) i))))
