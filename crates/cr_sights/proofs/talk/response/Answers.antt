-- SPDX-License-Identifier: Apache-2.0 OR MIT
use Rattle.std.proofs.Common.{◌∙◌, List, [], ◌∷◌, sym, ap, Some}
use Rattle.cr_base.specs.declared.entry.Entry.{Entry}
use Rattle.cr_base.specs.declared.entry.Entry.TheVariants.{Responded}
use Rattle.cr_policy.specs.Sighting.{Sighting}
use Rattle.cr_policy.specs.Triggers.{user_named}
use Rattle.cr_sights.specs.Readers.{reader_in}
use Rattle.cr_sights.proofs.Shown.{last-row, seen-shown}
use Rattle.cr_sights.proofs.talk.response.Goals as goal

pub returns : goal.returns
returns c at =
    let r = reader_in c.args.live.now.tables (Some c.args.reader) in
    let e = c.args.stamped.now in
    let x : Entry = Responded c.in-Responded.paper c.in-Responded.text in
    let seen = sym (rw (last-row (user_named r e.stamp.maker)) at c.if-not-tells_response.ensures) in
    let parts : Sighting → List Sighting =
    λ s. record s { paper = Some c.in-Responded.paper; text = Some c.in-Responded.text } ∷ [] in
    ap parts (c.sighting.view_is ∙ c.of_stamp-sighting.ensures)
    ∙ rw seen at (seen-shown r at e x c.in-Responded.is seen)
