-- SPDX-License-Identifier: Apache-2.0 OR MIT
use Rattle.std.proofs.Common.{rules, tests}
use Rattle.std.proofs.lemmas.Iterator.{items_from_collect, YieldsList-from_slice}
use Rattle.std.proofs.lemmas.Iterator.Consumers.{YieldsList-from_filter_map}
use Rattle.cr_conflicts.specs.Room.{authored_pair}
use Rattle.cr_conflicts.proofs.told.authored_pairs.Goals as goal

pub returns : goal.returns
returns c =
    items_from_collect _ c.collect.ensures.ran
    (YieldsList-from_filter_map _ authored_pair (YieldsList-from_slice c.args.group.now cc) c.filter_map.ensures.closure
    (λ x r q k. search (rules, tests)))
