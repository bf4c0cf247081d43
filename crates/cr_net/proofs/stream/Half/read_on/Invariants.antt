-- SPDX-License-Identifier: Apache-2.0 OR MIT
use Rattle.std.proofs.Common.{◌≡◌, length}
use Rattle.cr_net.proofs.stream.Half.read_on.Given as goal

abbrev pub invariant-waiting : goal.invariant-waiting
invariant-waiting l = (l.self ≡ l.initial.self) × (length l.buf ≡ length l.initial.buf)
