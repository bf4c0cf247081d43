-- SPDX-License-Identifier: Apache-2.0 OR MIT
use Rattle.std.proofs.Common.{ℕ, ◌≡◌, ◌-◌, length, ap, ◌∙◌, arith}
use Rattle.std.specs.List.{slice_get}
use Rattle.cr_base.specs.Filed.{filed_of}
use Rattle.cr_base.proofs.LastLaws.{at_end}
use Rattle.cr_kept.proofs.cabinet.Cabinet.last.Goals as goal

pub returns-clause-value : goal.returns-clause-value
returns-clause-value g c =
    let values = filed_of c.args.paper c.args.self.now.files in
    let index : c.in_ok-index.index ≡ length values - 1 = omega (arith, c.in_ok-index.ensures) in
    c.get.ensures.value ∙ ap (λ (i : ℕ). slice_get values i) index ∙ at_end values
