-- SPDX-License-Identifier: Apache-2.0 OR MIT
use Rattle.std.proofs.Common.{◌∙◌}
use Rattle.cr_words.proofs.Numbers.{reads}
use Rattle.cr_words.proofs.read.number_of.Goals as goal

pub returns : goal.returns
returns c = c.ok.ensures.value ∙ reads c.args.text.now c.parse.result c.parse.ensures.value.0
