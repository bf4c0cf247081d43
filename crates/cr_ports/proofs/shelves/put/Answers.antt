-- SPDX-License-Identifier: Apache-2.0 OR MIT
use Rattle.std.proofs.Common.{rules, Some}
use Rattle.std.proofs.Math.Path.{fun_ext}
use Rattle.std.proofs.lemmas.Map.Text.{btree_map_updates_text}
use Rattle.std.specs.Map.{lookup}
use Rattle.std.specs.Str.{bytes_eq}
use Rattle.cr_ports.specs.Shelving.{is_path}
use Rattle.cr_ports.proofs.ByPath.{put_items}
use Rattle.cr_ports.proofs.shelves.put.Goals as goal

pub returns-in-Some : goal.returns-in-Some
returns-in-Some c =
    let path = c.args.path.now in
    let old = c.args.stores.now in
    let new = c.get_mut.follows.lender c.args.rows in
    fun_ext (λ q. put_items (bytes_eq path q) c.args.rows (lookup (is_path q) old.entries)
    (lookup (is_path q) new.entries)
    (btree_map_updates_text path old new (Some c.args.rows) ((c.get_mut.follows.holds c.args.rows).3 (search rules)) q))
