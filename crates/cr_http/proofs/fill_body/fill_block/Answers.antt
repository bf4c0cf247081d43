-- SPDX-License-Identifier: Apache-2.0 OR MIT
use Rattle.std.proofs.Common.{arith, refl}
use Rattle.cr_http.specs.declared.fill_body.BodyFill.TheVariants as fills
use Rattle.cr_http.proofs.Bodies.{fills_short, fills_whole, keeps_within, put_back_within}
use Rattle.cr_http.proofs.fill_body.fill_block.Goals as goal

pub returns-in-Grew-clause-fills : goal.returns-in-Grew-clause-fills
returns-in-Grew-clause-fills g c =
    fills_whole _ _ _ _ _ _ _ _ _ _ c.keep_block.result
    (record { within = c.requires.head; is = c.in-Ok.ensures.text }) c.in-Grew.ensures.moves c.in-Grew.ensures.needed
    c.keep_block.ensures
    (c.in-Grew.ensures.full refl)

pub returns-in-Ended-clause-fills : goal.returns-in-Ended-clause-fills
returns-in-Ended-clause-fills g c =
    fills_short _ _ _ _ _ _ _ _ _ _ fills.Ended
    (λ text is short. (is, short)) (record { within = c.requires.head; is = c.in-Ok.ensures.text })
    c.in-Ended.ensures.moves c.in-Ended.ensures.needed
    c.put_back.ensures (c.in-Ended.ensures.short (λ is. cc))

pub returns-in-Failed-clause-fills : goal.returns-in-Failed-clause-fills
returns-in-Failed-clause-fills g c =
    fills_short _ _ _ _ _ _ _ _ _ _ fills.Failed
    (λ text is short. (is, short)) (record { within = c.requires.head; is = c.in-Ok.ensures.text })
    c.in-Failed.ensures.moves c.in-Failed.ensures.needed
    c.put_back-in-Failed.ensures (c.in-Failed.ensures.short (λ is. cc))

pub returns-in-OutOfMemory-clause-fills : goal.returns-in-OutOfMemory-clause-fills
returns-in-OutOfMemory-clause-fills g c =
    fills_short _ _ _ _ _ _ _ _ _ _ fills.OutOfMemory
    (λ text is short. (is, short)) (record { within = c.requires.head; is = c.in-Ok.ensures.text })
    c.in-OutOfMemory.ensures.moves
    c.in-OutOfMemory.ensures.needed c.put_back-in-OutOfMemory.ensures (c.in-OutOfMemory.ensures.short (λ is. cc))

pub returns-in-Grew-clause-exact : goal.returns-in-Grew-clause-exact
returns-in-Grew-clause-exact g c =
    let full = c.in-Grew.ensures.full refl in
    keeps_within c.args.head c.args.end _ _ _ c.keep_block.result (omega arith) (omega (arith, full))
    c.keep_block.ensures

pub returns-in-Ended-clause-exact : goal.returns-in-Ended-clause-exact
returns-in-Ended-clause-exact g c =
    let short = c.in-Ended.ensures.short (λ is. cc) in
    put_back_within c.args.head c.args.end _ _ _ c.put_back.ensures (omega arith) (omega (arith, short))

pub returns-in-Failed-clause-exact : goal.returns-in-Failed-clause-exact
returns-in-Failed-clause-exact g c =
    let short = c.in-Failed.ensures.short (λ is. cc) in
    put_back_within c.args.head c.args.end _ _ _ c.put_back-in-Failed.ensures (omega arith) (omega (arith, short))

pub returns-in-OutOfMemory-clause-exact : goal.returns-in-OutOfMemory-clause-exact
returns-in-OutOfMemory-clause-exact g c =
    let short = c.in-OutOfMemory.ensures.short (λ is. cc) in
    put_back_within c.args.head c.args.end _ _ _ c.put_back-in-OutOfMemory.ensures (omega arith) (omega (arith, short))
