-- SPDX-License-Identifier: Apache-2.0 OR MIT
use Rattle.cr_match.proofs.Places.{has_tests}
use Rattle.cr_match.proofs.rows.has.Goals as goal

pub returns : goal.returns
returns c = has_tests c.args.words.now c.args.width c.args.r c.args.i
