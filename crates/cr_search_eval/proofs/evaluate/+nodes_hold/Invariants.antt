-- SPDX-License-Identifier: Apache-2.0 OR MIT
use Rattle.std.proofs.Common.{length}
use Rattle.cr_search_eval.proofs.evaluate.+nodes_hold.Given as goal

abbrev pub decreases-nodes_hold : goal.decreases-nodes_hold
decreases-nodes_hold l = length l.nodes.now
