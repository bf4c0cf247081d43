-- SPDX-License-Identifier: Apache-2.0 OR MIT
use Rattle.cr_judge.proofs.TargetLaws.{name-dismissed, name-for}
use Rattle.cr_judge.proofs.effect.name_for.Goals as goal

pub returns-in-Named : goal.returns-in-Named
returns-in-Named c = name-for c.args.live.now.tables.accounts c.in-Named.user c.name_of.result c.args.first.now _
    c.name_of.ensures c.in-Named.is

pub returns-in-Dismissed : goal.returns-in-Dismissed
returns-in-Dismissed c =
    name-dismissed c.args.live.now.tables.accounts c.in-Dismissed.user c.name_of-in-Dismissed.result c.args.first.now
    c.name_of-in-Dismissed.ensures c.in-Dismissed.is
