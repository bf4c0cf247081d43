-- SPDX-License-Identifier: Apache-2.0 OR MIT
use Rattle.cr_match.proofs.Common.{◌≡◌, length}
use Rattle.cr_match.proofs.Distinct.{AreWritten}
use Rattle.cr_match.proofs.setup.write_pairs.Given as goal

abbrev pub invariant-loop-i : goal.invariant-loop-i
invariant-loop-i l = (length l.worth.items ≡ length l.fn.worth.items) × AreWritten l.worth.items l.members l.pairs l.i
