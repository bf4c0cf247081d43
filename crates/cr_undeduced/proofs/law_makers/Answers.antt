-- SPDX-License-Identifier: Apache-2.0 OR MIT
use Rattle.cr_undeduced.proofs.MakersLegal.{other_makers_legal}
use Rattle.cr_undeduced.proofs.MakersViews.{other_makers_unseen}
use Rattle.cr_undeduced.proofs.law_makers.Goals as goal

pub returns-clause-legal : goal.returns-clause-legal
returns-clause-legal c = other_makers_legal

pub returns-clause-unseen : goal.returns-clause-unseen
returns-clause-unseen c = other_makers_unseen
