-- SPDX-License-Identifier: Apache-2.0 OR MIT
use Rattle.cr_undeduced.proofs.BesidesLegal.{inserted, left_out}
use Rattle.cr_undeduced.proofs.BesidesViews.{besides_unseen}
use Rattle.cr_undeduced.proofs.law_may_have_been.Goals as goal

pub returns-clause-inserted : goal.returns-clause-inserted
returns-clause-inserted c = inserted

pub returns-clause-left_out : goal.returns-clause-left_out
returns-clause-left_out c = left_out

pub returns-clause-unseen : goal.returns-clause-unseen
returns-clause-unseen c = besides_unseen
