-- SPDX-License-Identifier: Apache-2.0 OR MIT
use Rattle.std.proofs.Common.{◌≡◌, ◌∙◌, List, [], ◌∷◌, sym, ap, Some, Bor}
use Rattle.std.specs.Option.{option_map}
use Rattle.cr_base.specs.declared.entry.Entry.{Entry}
use Rattle.cr_base.specs.declared.entry.Entry.TheVariants.{Reviewed}
use Rattle.cr_base.specs.declared.texts.Text.{Text}
use Rattle.cr_base.specs.Stage.{StageState}
use Rattle.cr_policy.specs.Sighting.{Sighting}
use Rattle.cr_policy.specs.Triggers.{position_of, user_named}
use Rattle.cr_sights.specs.Readers.{reader_in}
use Rattle.cr_sights.proofs.Shown.{last-row, part-shown, lent-shown, seen-shown}
use Rattle.cr_sights.proofs.reviews.review.Goals as goal

pub returns : goal.returns
returns c at placed =
    let r = reader_in c.args.live.now.tables (Some c.args.reader) in
    let e = c.args.stamped.now in
    let x : Entry = Reviewed c.in-Reviewed.paper c.in-Reviewed.ordinal c.in-Reviewed.version c.in-Reviewed.form in
    let here : position_of at x ≡ c.args.position =
    sym (ap (λ (y : Entry). position_of at y) c.in-Reviewed.is) ∙ placed in
    let mine = c.eq-mine.ensures in
    let mine' = mine ∙ last-row (user_named r e.stamp.maker) in
    let opened = c.had_response-opened.ensures ∙ ap (λ (s : StageState). s.had_response) c.stage_table.ensures in
    let seen = sym (rw (c.standing-by.ensures, opened, mine', ← here) at c.if-not-tells_review.ensures) in
    let all = rw (c.standing-by.ensures, mine', ← here) at c.shows_all-all.ensures in
    let grades = rw (c.standing-by.ensures, opened, mine', ← here) at c.shows_grades-grades.ensures in
    let done = rw (c.standing-by.ensures, ← here) at (c.is_done_for.ensures ∙ last-row _) in
    let version = part-shown _ _ _ _ c.then_some-sighting-inside.ensures all in
    let score = part-shown _ _ _ _ c.then_some-sighting-inside-2.ensures grades in
    let confidence = part-shown _ _ _ _ c.then_some-sighting-inside-3.ensures grades in
    let to_authors = lent-shown (λ (text : Bor Text). text.now) _ _ _ _ c.then_some-sighting-inside-4.ensures grades in
    let to_pc = lent-shown (λ (text : Bor Text). text.now) _ _ _ _ c.then_some-sighting-inside-5.ensures all in
    let mark = part-shown _ _ _ _ c.then_some-sighting-inside-6.ensures done in
    let parts : Sighting → List Sighting = λ s.
    record s {
      paper = Some c.in-Reviewed.paper;
      version = c.then_some-sighting-inside.result;
      ordinal = Some c.number.result;
      score = c.then_some-sighting-inside-2.result;
      confidence = c.then_some-sighting-inside-3.result;
      to_authors = option_map (λ (text : Bor Text). text.now) c.then_some-sighting-inside-4.result;
      to_pc = option_map (λ (text : Bor Text). text.now) c.then_some-sighting-inside-5.result;
      done = c.then_some-sighting-inside-6.result;
    } ∷ [] in
    ap parts (c.sighting.view_is ∙ c.of_stamp-sighting.ensures)
    ∙ rw (version, score, confidence, to_authors, to_pc, mark, c.number.ensures.value)
    (rw seen at (seen-shown r at e x c.in-Reviewed.is seen))
