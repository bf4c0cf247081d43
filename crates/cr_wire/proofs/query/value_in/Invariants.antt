-- SPDX-License-Identifier: Apache-2.0 OR MIT
use Rattle.std.proofs.Common.{◌≡◌}
use Rattle.form_urlencoded.specs.Form.{raw_pairs}
use Rattle.form_urlencoded.specs.Parse.{raw_pairs_left}
use Rattle.cr_wire.specs.Query.{value_in}
use Rattle.cr_wire.proofs.query.value_in.Given as goal

abbrev pub invariant-pairs : goal.invariant-pairs
invariant-pairs l = value_in l.wanted (raw_pairs_left l.name-iterator) ≡ value_in l.wanted (raw_pairs l.query)
