-- SPDX-License-Identifier: Apache-2.0 OR MIT
use Rattle.std.proofs.Common.{◌≡◌}
use Rattle.cr_net.proofs.stream.Half.write_on.Given as goal

abbrev pub invariant-waiting : goal.invariant-waiting
invariant-waiting l = l.self ≡ l.initial.self
