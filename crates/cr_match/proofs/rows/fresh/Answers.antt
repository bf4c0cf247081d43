-- SPDX-License-Identifier: Apache-2.0 OR MIT
use Rattle.cr_match.proofs.FreshPlaces.{fresh_bits}
use Rattle.cr_match.proofs.rows.fresh.Goals as goal

pub returns : goal.returns
returns c = fresh_bits c.args.word c.args.mask c.args.from c.ranges.mask.fits c.requires
