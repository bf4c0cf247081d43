-- SPDX-License-Identifier: Apache-2.0 OR MIT
use Rattle.std.proofs.Common.{◌≡◌, ◌∙◌, ap, subst}
use Rattle.std.specs.Prelude.{OnOk}
use Rattle.cr_base.specs.declared.words.Phase.TheVariants.{Submission}
use Rattle.cr_base.specs.declared.words.Role.TheVariants.{Chair}
use Rattle.cr_base.specs.History.{History}
use Rattle.cr_drill.specs.Cast.{member_count, second_chair}
use Rattle.cr_drill.specs.Drill.{members_named, moved_to, named, opened}
use Rattle.cr_drill.proofs.drilling.open.Goals as goal

pub returns-clause-opened : goal.returns-clause-opened
unfolding opened
returns-clause-opened c =
    subst (λ (H : History). OnOk c.move_to.result (c.move_to.new.book.log ≡ moved_to Submission H))
    (c.in_ok-name_all.ensures.named
    ∙ ap (λ (H : History). members_named member_count (named Chair second_chair H))
    c.in_ok-register_all.ensures.registered)
    c.move_to.ensures.moved
