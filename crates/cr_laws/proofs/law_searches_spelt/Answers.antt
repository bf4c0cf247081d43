-- SPDX-License-Identifier: Apache-2.0 OR MIT
use Rattle.cr_laws.proofs.SearchesSpeltLaws.{reads-as_spelt, wishes-as_spelt}
use Rattle.cr_laws.proofs.law_searches_spelt.Goals as goal

pub returns : goal.returns
returns c = record { read = reads-as_spelt; wished = wishes-as_spelt }
