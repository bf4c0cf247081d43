-- SPDX-License-Identifier: Apache-2.0 OR MIT
use Rattle.std.proofs.Common.{ap, ◌∙◌}
use Rattle.cr_json.specs.Times.{civil_text, time_text as text_at}
use Rattle.cr_json.proofs.time.time_text.Goals as goal

pub returns-clause-value : goal.returns-clause-value
unfolding text_at
returns-clause-value c = c.text_of.ensures.value ∙ ap civil_text c.civil_of.ensures
