-- SPDX-License-Identifier: Apache-2.0 OR MIT
use Rattle.std.proofs.Common.{Some, string_bytes}
use Rattle.std.proofs.Math.Path.{fun_ext}
use Rattle.std.proofs.lemmas.Map.Text.{btree_map_updates_text}
use Rattle.std.specs.Map.{lookup}
use Rattle.std.specs.Str.{bytes_eq}
use Rattle.cr_ports.specs.Shelving.{is_path}
use Rattle.cr_ports.proofs.ByPath.{absent_at, add_none}
use Rattle.cr_ports.proofs.shelves.add_store.Goals as goal

pub returns-in-Ok-clause-files : goal.returns-in-Ok-clause-files
returns-in-Ok-clause-files c =
    let name = string_bytes c.in_ok-name.name in
    let old = c.args.stores.now in
    let new = c.insert.new.self in
    let rows = c.new.result in
    fun_ext (λ q. add_none (bytes_eq name q) rows (lookup (is_path q) old.entries) (lookup (is_path q) new.entries)
    (btree_map_updates_text name old new (Some rows) c.in-Ok.ensures.updates q)
    (absent_at old.entries c.args.path.now name q c.requires c.in_ok-name.ensures.ok)
    c.new.ensures.items)
