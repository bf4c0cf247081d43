-- SPDX-License-Identifier: Apache-2.0 OR MIT
use Rattle.cr_journal.proofs.Tails.{one_reading}
use Rattle.cr_journal.proofs.laws.law_one_reading.Goals as goal

pub returns : goal.returns
returns c = record { one = one_reading }
