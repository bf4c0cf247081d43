-- SPDX-License-Identifier: Apache-2.0 OR MIT
use Rattle.cr_session.proofs.Turns.{counted, stands}
use Rattle.cr_session.proofs.laws.law_counted_faults.Goals as goal

pub returns : goal.returns
returns c = record { few = counted; steady = stands }
