-- SPDX-License-Identifier: Apache-2.0 OR MIT
use Rattle.std.proofs.Common.{◌∙◌, ap}
use Rattle.cr_base.specs.Filed.{filed_of}
use Rattle.cr_base.specs.Lists.{last}
use Rattle.cr_decisions.specs.Seen.{SeenDecisions}
use Rattle.cr_decisions.proofs.decisions.Decisions.last.Goals as goal

pub returns-clause-value : goal.returns-clause-value
returns-clause-value g c =
    c.copied.ensures
    ∙ c.last.ensures.value
    ∙ ap (λ (v : SeenDecisions). last (filed_of c.args.paper v.decisions)) c.self.view_is
