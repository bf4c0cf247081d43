-- SPDX-License-Identifier: Apache-2.0 OR MIT
use Rattle.cr_undeduced.proofs.TwinLegal.{twins_legal}
use Rattle.cr_undeduced.proofs.TwinUnnamed.{twins_unnamed}
use Rattle.cr_undeduced.proofs.TwinViews.{twins_unseen}
use Rattle.cr_undeduced.proofs.law_twins.Goals as goal

pub returns-clause-legal : goal.returns-clause-legal
returns-clause-legal c = twins_legal

pub returns-clause-unseen : goal.returns-clause-unseen
returns-clause-unseen c = twins_unseen

pub returns-clause-unnamed : goal.returns-clause-unnamed
returns-clause-unnamed c = twins_unnamed
