-- SPDX-License-Identifier: Apache-2.0 OR MIT
use Rattle.std.proofs.Common.{List, Bool, subst, sym}
use Rattle.tests_of_ports.proofs.ports.count_at.Goals as goal

pub shut-requires : goal.shut-requires
shut-requires g c =
    subst (λ (kind : List Bool). g.S.Shelf.has_opened c.open.new.self c.args.path.now kind)
    (sym c.len-count.ensures.alike) c.in_ok-keeper.ensures.opened
