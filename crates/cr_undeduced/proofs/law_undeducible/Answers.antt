-- SPDX-License-Identifier: Apache-2.0 OR MIT
use Rattle.cr_undeduced.proofs.LooksLaws.{looks_alike, group_alike}
use Rattle.cr_undeduced.proofs.UndeducibleLaws.{others_legal, shorter_legal}
use Rattle.cr_undeduced.proofs.law_undeducible.Goals as goal

pub returns-clause-legal : goal.returns-clause-legal
returns-clause-legal c = others_legal

pub returns-clause-shorter : goal.returns-clause-shorter
returns-clause-shorter c = shorter_legal

pub returns-clause-looks : goal.returns-clause-looks
returns-clause-looks c = looks_alike

pub returns-clause-group : goal.returns-clause-group
returns-clause-group c = group_alike
