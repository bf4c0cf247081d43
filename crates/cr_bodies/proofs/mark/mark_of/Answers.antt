-- SPDX-License-Identifier: Apache-2.0 OR MIT
use Rattle.std.proofs.Common.{ap, ◌∙◌}
use Rattle.sha2.specs.Sha256.{sha256}
use Rattle.cr_bodies.proofs.Marks.{mark_pieces}
use Rattle.cr_bodies.specs.Mark.{mark_of}
use Rattle.cr_bodies.proofs.mark.mark_of.Goals as goal

pub returns : goal.returns
unfolding mark_of
returns c =
    let spaced = c.update-2.ensures _ (c.update.ensures _ c.new-hasher.ensures) in
    c.finalize.ensures _ (c.update-5.ensures _ (c.update-4.ensures _ (c.update-3.ensures _ spaced)))
    ∙ ap sha256 (mark_pieces c.args.method.now c.args.path.now c.args.body.now)
