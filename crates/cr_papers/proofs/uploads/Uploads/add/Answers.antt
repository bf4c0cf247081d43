-- SPDX-License-Identifier: Apache-2.0 OR MIT
use Rattle.std.proofs.Common.{◌+◌, ◌≡◌, List, length, subst, sym}
use Rattle.cr_base.specs.declared.filed.Filed.{Filed}
use Rattle.cr_base.specs.Filed.{filed_of}
use Rattle.cr_base.specs.History.{Upload}
use Rattle.cr_papers.specs.Seen.{SeenUploads}
use Rattle.cr_papers.specs.Versions.{AreNumbered}
use Rattle.cr_papers.proofs.VersionLaws.{numbered-more}
use Rattle.cr_papers.proofs.uploads.Uploads.add.Goals as goal

pub invariant_of-self : goal.invariant_of-self
invariant_of-self c =
    let a = c.args in
    let made : Upload = record { version = a.version; content = a.content } in
    let next = subst (λ (v : SeenUploads). a.version ≡ length (filed_of a.paper v.uploads) + 1) (sym c.self.view_is)
    c.requires.next in
    subst (λ (all : List (Filed Upload)). AreNumbered all) (sym c.file.ensures.files)
    (numbered-more c.self.inside.uploads.files a.paper made c.self.invariant next)
