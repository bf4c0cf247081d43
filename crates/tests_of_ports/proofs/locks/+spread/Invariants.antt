-- SPDX-License-Identifier: Apache-2.0 OR MIT
use Rattle.tests_of_ports.proofs.locks.+spread.Given as goal

abbrev pub decreases-spread : goal.decreases-spread
decreases-spread l = l.pass.share
