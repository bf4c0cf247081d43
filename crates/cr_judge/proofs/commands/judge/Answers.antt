-- SPDX-License-Identifier: Apache-2.0 OR MIT
use Rattle.cr_judge.proofs.JudgedLaws.{effect-fits}
use Rattle.cr_judge.proofs.commands.judge.Goals as goal

pub returns-clause-fits : goal.returns-clause-fits
returns-clause-fits c = effect-fits c.args.live.now.tables c.law_within.ensures.ties c.args.call c.requires.caller
    c.effect_of.result c.effect_of.ensures
