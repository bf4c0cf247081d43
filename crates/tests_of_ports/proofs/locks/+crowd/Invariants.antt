-- SPDX-License-Identifier: Apache-2.0 OR MIT
use Rattle.std.proofs.Common.{◌+◌, ◌*◌}
use Rattle.tests_of_ports.proofs.locks.+crowd.Given as goal

abbrev pub decreases-act_in_crowd : goal.decreases-act_in_crowd
decreases-act_in_crowd g l = 2 * l.pass.share

abbrev pub decreases-front : goal.decreases-front
decreases-front g l = 2 * l.one.share + 1

abbrev pub decreases-back : goal.decreases-back
decreases-back g l = 2 * l.other.share + 1
