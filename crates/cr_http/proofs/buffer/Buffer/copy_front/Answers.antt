-- SPDX-License-Identifier: Apache-2.0 OR MIT
use Rattle.std.proofs.Common.{◌≡◌, ◌∙◌, ap, arith, length, take, drop, ◌++◌}
use Rattle.std.proofs.lemmas.List.{with_items_is}
use Rattle.cr_http.proofs.Blocks.{over_from}
use Rattle.cr_http.proofs.buffer.Buffer.copy_front.Goals as goal

pub returns : goal.returns
returns c =
    let b = c.args.self.now in
    let front = c.args.front.now in
    let block = c.write_front.new.block in
    let len : length block ≡ b.block.len =
    (let l = c.deref_mut.ensures.len in let k = c.write_front.auto.block in omega (arith, l, k)) in
    ap (λ t. drop b.start (take b.end t)) (with_items_is b.block block len ∙ c.write_front.ensures
    ∙ ap (λ t. front ++ drop (length front) t) c.deref_mut.ensures.value)
    ∙ over_from b.start b.end front b.block.items c.requires.start c.requires.within
