-- SPDX-License-Identifier: Apache-2.0 OR MIT
use Rattle.std.proofs.Common.{◌∙◌, ◌++◌, List, ℕ, ap, drop, sym, length-drop}
use Rattle.std.specs.Int.{w64, to_be_bytes}
use Rattle.cr_journal.specs.Grammar.{number}
use Rattle.cr_journal.proofs.writing.put_length.Goals as goal

pub returns : goal.returns
unfolding number
returns c =
    ap (λ (l : List ℕ). l ++ drop 8 c.args.bytes.now)
    (c.copy_from_slice.ensures.after ∙ c.to_be_bytes.ensures
    ∙ ap (to_be_bytes w64) (sym (length-drop 8 c.args.bytes.now)))
