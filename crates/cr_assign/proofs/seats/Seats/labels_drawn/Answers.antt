-- SPDX-License-Identifier: Apache-2.0 OR MIT
use Rattle.std.proofs.Common.{ℕ, ◌≤◌, ◌∙◌, length, ap, sym, subst}
use Rattle.cr_base.specs.Seats.{SeatsState, labels_in}
use Rattle.cr_kept.proofs.OwnLaws.{own-of}
use Rattle.cr_assign.specs.Seen.{SeenSeats}
use Rattle.cr_assign.proofs.LeftLaws.{paper_of}
use Rattle.cr_assign.proofs.seats.Seats.labels_drawn.Goals as goal

pub returns-clause-value : goal.returns-clause-value
returns-clause-value c =
    c.count_of.ensures
    ∙ ap (λ (ts : SeatsState). length ts) (own-of paper_of c.args.paper c.self.inside.seats.files c.self.invariant.1)
    ∙ ap (λ (v : SeenSeats). labels_in v.seats c.args.paper) c.self.view_is

pub returns-clause-few : goal.returns-clause-few
returns-clause-few c =
    subst (λ (n : ℕ). n ≤ 26)
    (sym (c.count_of.ensures ∙ ap (λ (ts : SeatsState). length ts)
    (own-of paper_of c.args.paper c.self.inside.seats.files c.self.invariant.1)))
    (c.self.invariant.0.few c.args.paper)
