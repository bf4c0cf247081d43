-- SPDX-License-Identifier: Apache-2.0 OR MIT
use Rattle.cr_match.proofs.Sets.{marked_tests}
use Rattle.cr_match.proofs.rows.marked.Goals as goal

pub returns : goal.returns
returns c = marked_tests c.args.set.now c.args.i
