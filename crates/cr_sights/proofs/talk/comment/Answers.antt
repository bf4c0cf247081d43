-- SPDX-License-Identifier: Apache-2.0 OR MIT
use Rattle.std.proofs.Common.{◌∙◌, List, [], ◌∷◌, sym, ap, Some}
use Rattle.cr_base.specs.declared.entry.Entry.{Entry}
use Rattle.cr_base.specs.declared.entry.Entry.TheVariants.{Commented}
use Rattle.cr_policy.specs.Sighting.{Sighting}
use Rattle.cr_policy.specs.Triggers.{names_writers, reads_comments, user_named}
use Rattle.cr_sights.specs.Readers.{reader_in}
use Rattle.cr_sights.proofs.Shown.{last-row, part-shown, seen-shown, told-shared}
use Rattle.cr_sights.proofs.talk.comment.Goals as goal

pub returns : goal.returns
returns c at =
    let r = reader_in c.args.live.now.tables (Some c.args.reader) in
    let e = c.args.stamped.now in
    let p = c.in-Commented.paper in
    let x : Entry = Commented p c.in-Commented.n c.in-Commented.ordinal c.in-Commented.text in
    let mine = c.eq-mine.ensures in
    let seen = sym (rw (last-row (user_named r e.stamp.maker)) at c.if-not-tells_comment.ensures) in
    let shared = told-shared (reads_comments r p) (names_writers r p) (user_named r e.stamp.maker)
    c.if-not-tells_comment.ensures in
    let label = rw (last-row (user_named r e.stamp.maker)) at c.shows_label-label.ensures in
    let made = part-shown _ _ _ _ c.then_some-sighting-inside.ensures (c.shows_writer.ensures ∙ last-row _) in
    let under = part-shown _ _ _ _ (rw (c.label_number.ensures) at c.then_some-sighting-inside-2.ensures) label in
    let parts : Sighting → List Sighting = λ s.
    record s {
      paper = Some p;
      by = c.then_some-sighting-inside.result;
      n = Some c.in-Commented.n;
      ordinal = c.then_some-sighting-inside-2.result;
      text = Some c.in-Commented.text;
    } ∷ [] in
    ap parts (c.sighting.view_is ∙ c.of_stamp-sighting.ensures)
    ∙ rw (made, under) (rw shared at (seen-shown r at e x c.in-Commented.is seen))
