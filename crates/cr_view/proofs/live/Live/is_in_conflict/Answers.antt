-- SPDX-License-Identifier: Apache-2.0 OR MIT
use Rattle.std.proofs.Common.{ℕ, Option, Some, ◌∙◌, ap, sym}
use Rattle.cr_base.specs.Ties.{is_conflicted_in}
use Rattle.cr_view.specs.Seen.{SeenTables}
use Rattle.cr_view.proofs.NobodyLaws.{nobody-conflicted}
use Rattle.cr_view.proofs.live.Live.is_in_conflict.Goals as goal

pub returns-in-Some : goal.returns-in-Some
returns-in-Some c =
    c.is_conflicted.ensures.value
    ∙ ap (λ (v : SeenTables). is_conflicted_in v.tables.ties (Some c.in-Some.user) c.args.paper) c.self.view_is
    ∙ sym (ap (λ (u : Option ℕ). is_conflicted_in c.args.self.now.tables.ties u c.args.paper) c.in-Some.is)

pub returns-in-None : goal.returns-in-None
returns-in-None c = nobody-conflicted c.args.self.now.tables.ties c.args.user.now (Some c.args.paper) c.in-None.is
