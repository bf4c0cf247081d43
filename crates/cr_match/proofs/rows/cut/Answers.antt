-- SPDX-License-Identifier: Apache-2.0 OR MIT
use Rattle.cr_match.proofs.Places.{cut_same, cut_others}
use Rattle.cr_match.proofs.rows.cut.Goals as goal

pub returns-clause-same : goal.returns-clause-same
returns-clause-same c =
    cut_same c.args.width c.args.words.now c.args.r c.args.i c.requires.inside.0 c.requires.inside.1

pub returns-clause-others : goal.returns-clause-others
returns-clause-others c =
    cut_others c.args.width c.args.words.now c.args.r c.args.i c.requires.inside.0 c.requires.inside.1
