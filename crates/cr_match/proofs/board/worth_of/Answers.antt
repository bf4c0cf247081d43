-- SPDX-License-Identifier: Apache-2.0 OR MIT
use Rattle.cr_match.proofs.Common.{Board, IsBoard, arith, length, mul-add-lt, ℕ, ◌*◌, ◌+◌, ◌<◌}
use Rattle.std.proofs.lemmas.List.{get_or_read}
use Rattle.cr_match.proofs.board.worth_of.Goals as goal

inside : {b : Board} (p m : ℕ) → IsBoard b → p < b.papers → m < b.members
    → p * b.members + m < length b.worth.items
inside {b} p m h lp lm = omega (arith, mul-add-lt p b.members m b.papers lp lm, h.long)

pub index-requires : goal.index-requires
index-requires c =
    omega (arith, inside c.args.p c.args.m c.requires.board c.requires.inside.0 c.requires.inside.1)

pub returns : goal.returns
returns c = get_or_read c.args.board.now.worth.items _ _
    (inside c.args.p c.args.m c.requires.board c.requires.inside.0 c.requires.inside.1) c.index.ensures 0
