-- SPDX-License-Identifier: Apache-2.0 OR MIT
use Rattle.std.proofs.Common.{◌∙◌, ap, sym}
use Rattle.cr_base.specs.Lists.{at_some}
use Rattle.cr_base.specs.Papers.{PapersState, is_withdrawn_at}
use Rattle.cr_judge.proofs.named.is_withdrawn.Goals as goal

pub returns-in-Some : goal.returns-in-Some
returns-in-Some c =
    c.is_withdrawn.ensures.value
    ∙ ap (λ (x : PapersState). is_withdrawn_at x c.in-Some.paper) c.paper_table.ensures
    ∙ sym (ap (at_some (is_withdrawn_at c.args.live.now.tables.papers)) c.in-Some.is)
