-- SPDX-License-Identifier: Apache-2.0 OR MIT
use Rattle.cr_match.proofs.Sets.{mark_same, mark_others, mark_count}
use Rattle.cr_match.proofs.rows.mark.Goals as goal

pub returns-clause-same : goal.returns-clause-same
returns-clause-same c = mark_same c.args.set.now c.args.i c.requires.inside

pub returns-clause-others : goal.returns-clause-others
returns-clause-others c = mark_others c.args.set.now c.args.i c.requires.inside

pub returns-clause-count : goal.returns-clause-count
returns-clause-count c = mark_count c.args.set.now c.args.i c.requires.inside
