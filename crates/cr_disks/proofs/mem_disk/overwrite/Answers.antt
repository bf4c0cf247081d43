-- SPDX-License-Identifier: Apache-2.0 OR MIT
use Rattle.std.proofs.Common.{◌∙◌, ◌≡◌, ◌+◌, ◌-◌, ◌++◌, List, ℕ, length, take, drop, ap, arith}
use Rattle.std.proofs.lemmas.List.{drop-drop}
use Rattle.cr_disks.proofs.mem_disk.overwrite.Goals as goal

pub returns : goal.returns
returns c =
    let bytes = c.args.bytes.now in
    let at = c.args.at in
    let piece = c.args.piece.now in
    let many : at + length piece - at ≡ length piece = omega arith in
    (λ i. take at bytes ++ (c.copy_from_slice.ensures.after i ++ drop (many i) (drop at bytes)))
    ∙ ap (λ (l : List ℕ). take at bytes ++ (piece ++ l)) (drop-drop (length piece) at bytes)
