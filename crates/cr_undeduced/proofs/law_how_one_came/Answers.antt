-- SPDX-License-Identifier: Apache-2.0 OR MIT
use Rattle.cr_undeduced.proofs.CameLaws.{members_came, authors_came, reviewers_came, externals_came, conflicts_came}
use Rattle.cr_undeduced.proofs.CameLaws.{accepted_came}
use Rattle.cr_undeduced.proofs.CameReaders.{form_readers_came}
use Rattle.cr_undeduced.proofs.law_how_one_came.Goals as goal

pub returns-clause-members : goal.returns-clause-members
returns-clause-members c = members_came

pub returns-clause-authors : goal.returns-clause-authors
returns-clause-authors c = authors_came

pub returns-clause-reviewers : goal.returns-clause-reviewers
returns-clause-reviewers c = reviewers_came

pub returns-clause-externals : goal.returns-clause-externals
returns-clause-externals c = externals_came

pub returns-clause-conflicts : goal.returns-clause-conflicts
returns-clause-conflicts c = conflicts_came

pub returns-clause-accepted : goal.returns-clause-accepted
returns-clause-accepted c = accepted_came

pub returns-clause-form_readers : goal.returns-clause-form_readers
returns-clause-form_readers c = form_readers_came
