-- SPDX-License-Identifier: Apache-2.0 OR MIT
use Rattle.std.proofs.Common.{◌-◌}
use Rattle.cr_net.proofs.stream.TcpSource.end.Given as goal

abbrev pub decreases-dropping : goal.decreases-dropping
decreases-dropping l = 8388608 - l.dropped
