-- SPDX-License-Identifier: Apache-2.0 OR MIT
use Rattle.std.proofs.Common.{◌≡◌, ◌∙◌, List, [], ◌∷◌, sym, ap, Some, Bor}
use Rattle.std.specs.Option.{option_map}
use Rattle.cr_base.specs.declared.entry.Entry.{Entry}
use Rattle.cr_base.specs.declared.entry.Entry.TheVariants.{Revised}
use Rattle.cr_base.specs.declared.texts.Text.{Text}
use Rattle.cr_policy.specs.Sighting.{Sighting}
use Rattle.cr_policy.specs.Triggers.{none_alike, user_named}
use Rattle.cr_sights.specs.Readers.{reader_in}
use Rattle.cr_sights.proofs.Shown.{last-row, lent-shown, seen-shown}
use Rattle.cr_sights.proofs.papers.revision.Goals as goal

pub returns : goal.returns
returns c at last =
    let r = reader_in c.args.live.now.tables (Some c.args.reader) in
    let e = c.args.stamped.now in
    let x : Entry = Revised c.in-Revised.paper c.in-Revised.title c.in-Revised.abstract_ in
    let here : none_alike x at.after ≡ c.args.is_last =
    sym (ap (λ (y : Entry). none_alike y at.after) c.in-Revised.is) ∙ last in
    let mine = c.eq-mine.ensures in
    let mine' = mine ∙ last-row (user_named r e.stamp.maker) in
    let seen = sym (rw (last-row (user_named r e.stamp.maker), ← here) at c.if-not-tells_revision.ensures) in
    let title = rw (c.standing-by.ensures, c.is_accepted-accepted.ensures, mine', ← here) at c.shows_title.ensures in
    let abstract =
    rw (c.standing-by.ensures, c.is_accepted-accepted.ensures, mine', ← here) at c.shows_abstract.ensures in
    let titled = lent-shown (λ (text : Bor Text). text.now) _ _ _ _ c.then_some-sighting-inside.ensures title in
    let told = lent-shown (λ (text : Bor Text). text.now) _ _ _ _ c.then_some-sighting-inside-2.ensures abstract in
    let parts : Sighting → List Sighting = λ s.
    record s {
      paper = Some c.in-Revised.paper;
      title = option_map (λ (text : Bor Text). text.now) c.then_some-sighting-inside.result;
      abstract = option_map (λ (text : Bor Text). text.now) c.then_some-sighting-inside-2.result;
    } ∷ [] in
    ap parts (c.sighting.view_is ∙ c.of_stamp-sighting.ensures)
    ∙ rw (titled, told) (seen-shown r at e x c.in-Revised.is seen)
