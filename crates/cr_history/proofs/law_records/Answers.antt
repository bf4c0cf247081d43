-- SPDX-License-Identifier: Apache-2.0 OR MIT
use Rattle.cr_history.proofs.RecordLaws.{records-few, records-declared-few}
use Rattle.cr_history.proofs.law_records.Goals as goal

pub returns-clause-kept : goal.returns-clause-kept
returns-clause-kept c = records-few

pub returns-clause-declared : goal.returns-clause-declared
returns-clause-declared c = records-declared-few
