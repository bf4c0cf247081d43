-- SPDX-License-Identifier: Apache-2.0 OR MIT
use Rattle.std.proofs.Common.{ℕ, ◌∙◌, ap, refl, arith}
use Rattle.std.proofs.lemmas.List.{get_or_default}
use Rattle.cr_base.specs.Papers.{with_more}
use Rattle.cr_kept.specs.Seen.{SeenSums}
use Rattle.cr_kept.proofs.SumLaws.{with_more-filled}
use Rattle.cr_kept.proofs.sums.Sums.add.Goals as goal

pub returns-clause-sums : goal.returns-clause-sums
returns-clause-sums c =
    let index = c.number-index.result in
    let filled = c.fill.new.sums.items in
    let value = c.index_mut.result.now in
    with_more-filled index c.args.more c.self.inside.sums.items filled _ value c.fill.ensures.items
    (c.index_mut.ensures.value ∙ get_or_default filled index value 0 (omega (arith, c.fill.ensures.within))) refl
    ∙ ap (λ (i : ℕ). with_more i c.args.more c.self.inside.sums.items) c.number-index.ensures.value
    ∙ ap (λ (s : SeenSums). with_more c.args.user c.args.more s.sums) c.self.view_is
