-- SPDX-License-Identifier: Apache-2.0 OR MIT
use Rattle.cr_match.proofs.Places.{put_same, put_others}
use Rattle.cr_match.proofs.rows.put.Goals as goal

pub returns-clause-same : goal.returns-clause-same
returns-clause-same c =
    put_same c.args.width c.args.words.now c.args.r c.args.i c.requires.inside.0 c.requires.inside.1

pub returns-clause-others : goal.returns-clause-others
returns-clause-others c =
    put_others c.args.width c.args.words.now c.args.r c.args.i c.requires.inside.0 c.requires.inside.1
