-- SPDX-License-Identifier: Apache-2.0 OR MIT
use Rattle.cr_match.proofs.Told.{others_one, stays_one, told_held, told_left}
use Rattle.cr_match.proofs.Walks.{refuted}
use Rattle.cr_match.proofs.tight.tighten_pair.Goals as goal

pub returns-then-holds-clause-stays : goal.returns-then-holds-clause-stays
returns-then-holds-clause-stays c = stays_one c.requires.inside.0 c.requires.inside.1 c.tell.ensures

pub returns-then-holds-clause-told : goal.returns-then-holds-clause-told
returns-then-holds-clause-told c = told_held c.args.choice.now c.tell.ensures (c.holds.ensures.0 c.if-holds.true)

pub returns-then-holds-clause-others : goal.returns-then-holds-clause-others
returns-then-holds-clause-others c = others_one c.requires.inside.0 c.requires.inside.1 c.tell.ensures

pub returns-clause-stays : goal.returns-clause-stays
returns-clause-stays c = stays_one c.requires.inside.0 c.requires.inside.1 c.tell-2.ensures

pub returns-clause-told : goal.returns-clause-told
returns-clause-told c =
    told_left c.args.choice.now c.tell-2.ensures (refuted c.holds.ensures.1 c.if-holds.false)

pub returns-clause-others : goal.returns-clause-others
returns-clause-others c = others_one c.requires.inside.0 c.requires.inside.1 c.tell-2.ensures
