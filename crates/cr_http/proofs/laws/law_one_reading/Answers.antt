-- SPDX-License-Identifier: Apache-2.0 OR MIT
use Rattle.cr_http.proofs.Unique.{SpellsFrom-unique}
use Rattle.cr_http.proofs.laws.law_one_reading.Goals as goal

pub returns : goal.returns
returns c = SpellsFrom-unique
