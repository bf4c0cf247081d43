-- SPDX-License-Identifier: Apache-2.0 OR MIT
use Rattle.cr_pairs.proofs.Indexes.{indexed-without}
use Rattle.cr_pairs.proofs.indexed_pairs.IndexedPairs.remove.Goals as goal

pub invariant_of-self : goal.invariant_of-self
invariant_of-self g c =
    let x = c.self.inside in
    let papers = c.remove-2 in
    let users = c.remove in
    indexed-without x.by_paper.order x.by_user.order x.by_paper.ties x.by_user.ties c.self.invariant
    papers.new.self.order users.new.self.order papers.new.self.ties users.new.self.ties c.args.pair.now
    papers.ensures.order users.ensures.order papers.ensures.ties users.ensures.ties
