-- SPDX-License-Identifier: Apache-2.0 OR MIT
use Rattle.cr_match.proofs.Flipped.{added, altered_draft}
use Rattle.cr_match.proofs.draft.add.Goals as goal

pub hold-requires-clause-lacks : goal.hold-requires-clause-lacks
hold-requires-clause-lacks c _ = c.requires.lacks

pub returns-clause-draft : goal.returns-clause-draft
returns-clause-draft c =
    altered_draft c.args.board.now c.args.p c.args.m c.requires.inside.0 c.requires.inside.1 c.requires.draft
    c.hold.ensures
    (added c.args.board.now c.args.p c.args.m c.requires.inside.0 c.requires.inside.1 c.tell_limits.ensures
    c.requires.closed)
