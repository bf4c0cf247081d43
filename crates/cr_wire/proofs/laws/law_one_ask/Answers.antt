-- SPDX-License-Identifier: Apache-2.0 OR MIT
use Rattle.cr_wire.proofs.AskLaws.{ask_by_number}
use Rattle.cr_wire.proofs.laws.law_one_ask.Goals as goal

pub returns : goal.returns
returns c = ask_by_number
