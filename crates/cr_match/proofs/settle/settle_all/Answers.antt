-- SPDX-License-Identifier: Apache-2.0 OR MIT
use Rattle.cr_match.proofs.settle.settle_all.Goals as goal

pub loop-i-init : goal.loop-i-init
loop-i-init c =
    (c.requires.settling, c.forget.ensures.searched c.args.draft.now.moves c.args.order.now.searched)
