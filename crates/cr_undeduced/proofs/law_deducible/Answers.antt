-- SPDX-License-Identifier: Apache-2.0 OR MIT
use Rattle.cr_undeduced.proofs.DeducedChair.{one_chair_acts}
use Rattle.cr_undeduced.proofs.DeducedNumbers.{versions_tell, form_numbers_tell, comment_numbers_tell, labels_tell}
use Rattle.cr_undeduced.proofs.law_deducible.Goals as goal

pub returns-clause-versions : goal.returns-clause-versions
returns-clause-versions c = versions_tell

pub returns-clause-form_numbers : goal.returns-clause-form_numbers
returns-clause-form_numbers c = form_numbers_tell

pub returns-clause-comment_numbers : goal.returns-clause-comment_numbers
returns-clause-comment_numbers c = comment_numbers_tell

pub returns-clause-labels : goal.returns-clause-labels
returns-clause-labels c = labels_tell

pub returns-clause-one_chair : goal.returns-clause-one_chair
returns-clause-one_chair c = one_chair_acts
