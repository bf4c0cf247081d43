-- SPDX-License-Identifier: Apache-2.0 OR MIT
use Rattle.std.proofs.Common.{◌≡◌, ◌∙◌, ◌<◌, length, arith}
use Rattle.std.proofs.lemmas.Grind.{common_steps}
use Rattle.cr_search_eval.proofs.TextLaws.{contains-nothing, leads}
use Rattle.cr_search_eval.proofs.text.contains.Goals as goal

pub returns-then-is_empty : goal.returns-then-is_empty
returns-then-is_empty c =
    let none : length c.args.value.now ≡ 0 = grind (arith, common_steps, c.is_empty.ensures, c.if-is_empty.true) in
    contains-nothing c.args.value.now c.args.text.now none

pub loop-at-init : goal.loop-at-init
loop-at-init c =
    let some : 0 < length c.args.value.now = grind (arith, common_steps, c.is_empty.ensures, c.if-is_empty.false) in
    leads c.args.value.now c.args.text.now c.into_iter-at-iterator.result c.to_ascii_lowercase-lower.result
    c.to_ascii_uppercase-upper.result
    some c.to_ascii_lowercase-lower.ensures.value c.to_ascii_uppercase-upper.ensures.value
    (c.into_iter-at-iterator.ensures.into_iter_gives ∙ c.memchr2_iter-at-items.ensures.value)
