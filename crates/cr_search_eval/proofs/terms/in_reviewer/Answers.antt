-- SPDX-License-Identifier: Apache-2.0 OR MIT
use Rattle.std.proofs.Common.{ℕ, List, ◌∙◌, ap}
use Rattle.std.specs.List.{list_any}
use Rattle.cr_base.specs.declared.pairs.Order.TheVariants.{ByPaper}
use Rattle.cr_base.specs.declared.pairs.Tie.{Tie}
use Rattle.cr_base.specs.declared.seat.Seat.{Seat}
use Rattle.cr_base.specs.declared.standing.Standing.{Standing}
use Rattle.cr_base.specs.Pairs.{ties_of}
use Rattle.cr_base.specs.Reviews.{is_written_in}
use Rattle.cr_base.specs.Searching.{text_has}
use Rattle.cr_view.specs.Replies.{holder_name}
use Rattle.cr_search_eval.proofs.TermLaws.{reviewers-have}
use Rattle.cr_search_eval.proofs.terms.in_reviewer.Goals as goal

pub returns : goal.returns
returns c =
    let t = c.args.live.now.tables in
    let facts = c.args.asked.now.facts in
    let value : List ℕ = c.args.value.now in
    c.some_seated_has.ensures
    ∙ ap (λ (by : Standing). list_any (λ (seat : Tie Seat). text_has value (holder_name t by seat))
    c.seats_told-seats.result.now) c.by.ensures
    ∙ ap (list_any (λ (seat : Tie Seat). text_has value (holder_name t facts.by seat))) c.seats_told-seats.ensures
    ∙ reviewers-have t facts.by (is_written_in t.reviews facts.paper) value (ties_of ByPaper facts.paper t.seats)
