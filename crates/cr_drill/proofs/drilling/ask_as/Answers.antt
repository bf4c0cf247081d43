-- SPDX-License-Identifier: Apache-2.0 OR MIT
use Rattle.cr_drill.proofs.DrillCast.{cast_kept}
use Rattle.cr_drill.proofs.drilling.ask_as.Goals as goal

pub returns-clause-cast : goal.returns-clause-cast
returns-clause-cast c = cast_kept c.args.book.now.log c.ask.new.book.log c.requires.cast c.ask.ensures.goes_on
