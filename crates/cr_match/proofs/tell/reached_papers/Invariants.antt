-- SPDX-License-Identifier: Apache-2.0 OR MIT
use Rattle.cr_match.specs.Tell.{AreThose}
use Rattle.cr_match.proofs.tell.reached_papers.Given as goal

abbrev pub invariant-loop-p : goal.invariant-loop-p
invariant-loop-p l = AreThose l.reached l.p l.places.items
