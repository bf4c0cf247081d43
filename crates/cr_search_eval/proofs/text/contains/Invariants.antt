-- SPDX-License-Identifier: Apache-2.0 OR MIT
use Rattle.std.proofs.Common.{◌≡◌, length}
use Rattle.cr_base.specs.Searching.{contains}
use Rattle.cr_search_eval.proofs.TextLaws.{stands_at_some, AreIn}
use Rattle.cr_search_eval.proofs.text.contains.Given as goal

abbrev pub invariant-loop-at : goal.invariant-loop-at
invariant-loop-at l =
    (stands_at_some l.value l.text l.at-iterator ≡ contains l.value l.text) × AreIn (length l.text) l.at-iterator
