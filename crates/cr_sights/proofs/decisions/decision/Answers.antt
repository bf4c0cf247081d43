-- SPDX-License-Identifier: Apache-2.0 OR MIT
use Rattle.std.proofs.Common.{◌≡◌, ◌∙◌, List, [], ◌∷◌, sym, ap, Some}
use Rattle.cr_base.specs.declared.entry.Entry.{Entry}
use Rattle.cr_base.specs.declared.entry.Entry.TheVariants.{Decided}
use Rattle.cr_policy.specs.Sighting.{Sighting}
use Rattle.cr_policy.specs.Triggers.{none_alike, user_named}
use Rattle.cr_sights.specs.Readers.{reader_in}
use Rattle.cr_sights.proofs.Shown.{last-row, part-shown, seen-shown}
use Rattle.cr_sights.proofs.decisions.decision.Goals as goal

pub returns : goal.returns
returns c at last =
    let r = reader_in c.args.live.now.tables (Some c.args.reader) in
    let e = c.args.stamped.now in
    let x : Entry = Decided c.in-Decided.paper c.in-Decided.decision in
    let here : none_alike x at.after ≡ c.args.is_last =
    sym (ap (λ (y : Entry). none_alike y at.after) c.in-Decided.is) ∙ last in
    let mine = c.eq-mine.ensures in
    let mine' = mine ∙ last-row (user_named r e.stamp.maker) in
    let seen =
    sym (rw (c.standing-by.ensures, c.is_accepted-accepted.ensures, mine', ← here) at
    c.if-not-tells_decision.ensures) in
    let shown = rw (c.standing-by.ensures, mine', ← here) at c.shows_decision.ensures in
    let outcome = rw (c.standing-by.ensures, ← here) at (c.is_outcome.ensures ∙ last-row _) in
    let accepted = rw (c.is_accepted-accepted.ensures, ← here) at (c.is_announced.ensures ∙ last-row _) in
    let parts : Sighting → List Sighting = λ s.
    record s {
      paper = Some c.in-Decided.paper;
      decision = c.then_some-sighting-inside.result;
      outcome = c.then_some-sighting-inside-2.result;
      accepted = c.then_some-sighting-inside-3.result;
    } ∷ [] in
    let decided = part-shown _ _ _ _ c.then_some-sighting-inside.ensures shown in
    let became = part-shown _ _ _ _ c.then_some-sighting-inside-2.ensures outcome in
    let told = part-shown _ _ _ _ c.then_some-sighting-inside-3.ensures accepted in
    ap parts (c.sighting.view_is ∙ c.of_stamp-sighting.ensures)
    ∙ rw (decided, became, told) (seen-shown r at e x c.in-Decided.is seen)
