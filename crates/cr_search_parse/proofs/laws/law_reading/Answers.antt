-- SPDX-License-Identifier: Apache-2.0 OR MIT
use Rattle.cr_search_parse.specs.Reading.{text_read}
use Rattle.cr_search_parse.proofs.ReadingLaws.{said, one-said}
use Rattle.cr_search_parse.proofs.laws.law_reading.Goals as goal

pub returns-clause-said : goal.returns-clause-said
returns-clause-said c text = said text

pub returns-clause-only : goal.returns-clause-only
returns-clause-only c text read is = one-said text (text_read text) read (said text) is
