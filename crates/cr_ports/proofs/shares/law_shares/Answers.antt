-- SPDX-License-Identifier: Apache-2.0 OR MIT
use Rattle.cr_ports.proofs.Sharing.{length-shares_below, shares_add_up}
use Rattle.cr_ports.proofs.shares.law_shares.Goals as goal

pub returns-clause-total : goal.returns-clause-total
returns-clause-total c = shares_add_up c.args.workers c.args.connections c.requires

pub returns-clause-doors : goal.returns-clause-doors
returns-clause-doors c = length-shares_below c.args.workers c.args.workers c.args.connections
