-- SPDX-License-Identifier: Apache-2.0 OR MIT
use Rattle.std.proofs.Common.{◌≡◌, drop}
use Rattle.cr_base.specs.Searching.{begins_alike}
use Rattle.cr_search_eval.proofs.text.begins_alike.Given as goal

abbrev pub invariant-loop-at : goal.invariant-loop-at
invariant-loop-at l = begins_alike (drop l.at l.value) (drop l.at l.text) ≡ begins_alike l.value l.text
