-- SPDX-License-Identifier: Apache-2.0 OR MIT
use Rattle.std.proofs.Common.{Bool, ◌∙◌, Some, ap, sym, fold}
use Rattle.cr_base.specs.declared.entry.Stamped.{Stamped}
use Rattle.cr_base.specs.History.{conflict_told}
use Rattle.cr_base.specs.Lists.{last_or}
use Rattle.cr_conflicts.proofs.EarlierLaws.{is_conflict_on_in-from}
use Rattle.cr_conflicts.proofs.ties.Ties.is_declared_behind.Goals as goal

pub returns-clause-value : goal.returns-clause-value
returns-clause-value g c =
    let user = Some c.args.user in
    let paper = c.args.paper in
    let earlier = c.args.earlier.now in
    c.declared_behind.ensures
    ∙ ap (λ (on : Bool). fold (λ (b : Bool) (e : Stamped). last_or b (conflict_told user paper e.entry)) on earlier)
    c.is_declared-on.ensures.value
    ∙ sym (is_conflict_on_in-from user paper c.args.self.now.ties earlier)
