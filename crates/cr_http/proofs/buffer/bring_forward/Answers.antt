-- SPDX-License-Identifier: Apache-2.0 OR MIT
use Rattle.std.proofs.Common.{◌≡◌, ◌∙◌, ◌+◌, ◌-◌, take, drop, sym, ap, arith, length-drop}
use Rattle.std.proofs.lemmas.List.{drop-take}
use Rattle.std.proofs.lemmas.List.Edits.{take-paste}
use Rattle.std.proofs.Math.Seq.{paste}
use Rattle.cr_http.proofs.buffer.bring_forward.Goals as goal

pub returns : goal.returns
returns c =
    let block = c.args.block.now in
    let start = c.args.start in
    let len = c.args.end - start in
    let behind = drop start block in
    let same : len ≡ 0 + len = omega arith in
    let whole : start + len ≡ c.args.end = omega (arith, c.requires.ordered) in
    ap (take len) c.copy_within.ensures.after
    ∙ ap (λ k. take k (paste block 0 behind len)) same
    ∙ take-paste block 0 behind len (omega arith) (omega (arith, c.requires.within, length-drop start block))
    ∙ sym (drop-take start len block)
    ∙ ap (λ k. drop start (take k block)) whole
