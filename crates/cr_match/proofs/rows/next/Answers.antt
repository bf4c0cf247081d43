-- SPDX-License-Identifier: Apache-2.0 OR MIT
use Rattle.cr_match.proofs.Common.{◌≡◌, arith, refl}
use Rattle.cr_match.proofs.FreshPlaces.{none_here, found_here}
use Rattle.cr_match.proofs.rows.next.Goals as goal

pub returns-then-word-ne0-clause-some : goal.returns-then-word-ne0-clause-some
returns-then-word-ne0-clause-some c =
    found_here c.args.width c.args.words.now c.args.r c.args.mask.now c.args.from c.words.at c.words.first
    c.fresh-word.result
    c.fresh-word.ensures c.words.invariant.0 c.words.invariant.1 c.words.invariant.2 (omega arith)
    c.fresh-word.type_inv c.words-test.true _ refl

pub words-preserved : goal.words-preserved
words-preserved c =
    let z : c.fresh-word.result ≡ 0 = omega arith in (
      omega (arith, c.words.invariant.0, c.words.invariant.1),
      omega arith,
      none_here c.args.width c.args.words.now c.args.r c.args.mask.now c.args.from c.words.at c.words.first
          c.fresh-word.result
          c.fresh-word.ensures c.words.invariant.0 c.words.invariant.1 c.words.invariant.2 z,
    )
