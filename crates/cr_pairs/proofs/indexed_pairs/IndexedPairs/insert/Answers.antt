-- SPDX-License-Identifier: Apache-2.0 OR MIT
use Rattle.std.proofs.Common.{refl}
use Rattle.cr_base.specs.declared.pairs.Tie.{Tie}
use Rattle.cr_pairs.proofs.Indexes.{indexed-with}
use Rattle.cr_pairs.proofs.indexed_pairs.IndexedPairs.insert.Goals as goal

pub invariant_of-self : goal.invariant_of-self
invariant_of-self g c =
    let x = c.self.inside in
    let papers = c.insert-2 in
    let users = c.insert in
    let bare : Tie (Unit {0}) = record { pair = c.args.tie.pair; value = tt } in
    indexed-with x.by_paper.order x.by_user.order x.by_paper.ties x.by_user.ties c.self.invariant papers.new.self.order
    users.new.self.order papers.new.self.ties users.new.self.ties c.args.tie bare papers.ensures.order
    users.ensures.order refl papers.ensures.ties users.ensures.ties
