-- SPDX-License-Identifier: Apache-2.0 OR MIT
use Rattle.cr_match.proofs.Finished.{best_of}
use Rattle.cr_match.proofs.greatest.order_if.Goals as goal

pub returns-then-not-first-clause-best : goal.returns-then-not-first-clause-best
returns-then-not-first-clause-best c = best_of c.requires
