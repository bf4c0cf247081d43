-- SPDX-License-Identifier: Apache-2.0 OR MIT
use Rattle.std.proofs.Common.{◌∙◌, ◌-◌, sym, ap, eqb, arith}
use Rattle.std.specs.Prelude.{find}
use Rattle.cr_base.specs.Filed.{filed_of}
use Rattle.cr_base.specs.History.{Upload}
use Rattle.cr_papers.specs.Seen.{SeenUploads}
use Rattle.cr_papers.proofs.VersionLaws.{found-at, none-at}
use Rattle.cr_papers.proofs.uploads.Uploads.version_of.Goals as goal

pub returns-then-version-eq0-clause-value : goal.returns-then-version-eq0-clause-value
returns-then-version-eq0-clause-value g c =
    let paper = c.args.paper in
    let version = c.args.version in
    sym (none-at (filed_of paper c.self.inside.uploads.files) version (c.self.invariant paper) c.if-version-eq0.true)
    ∙ ap (λ (s : SeenUploads). find (λ (u : Upload). eqb u.version version) (filed_of paper s.uploads)) c.self.view_is

pub returns-clause-value : goal.returns-clause-value
returns-clause-value g c =
    let paper = c.args.paper in
    let version = c.args.version in
    let some = c.if-version-eq0.false in
    c.get.ensures.value
    ∙ sym (found-at (filed_of paper c.self.inside.uploads.files) version (version - 1) (c.self.invariant paper)
    (omega (arith, some)))
    ∙ ap (λ (s : SeenUploads). find (λ (u : Upload). eqb u.version version) (filed_of paper s.uploads)) c.self.view_is
