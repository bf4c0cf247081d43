-- SPDX-License-Identifier: Apache-2.0 OR MIT
use Rattle.std.proofs.Common.{◌≡◌}
use Rattle.std.specs.List.{list_any}
use Rattle.form_urlencoded.specs.Form.{raw_pairs}
use Rattle.form_urlencoded.specs.Parse.{raw_pairs_left}
use Rattle.cr_wire.specs.Query.{is_count}
use Rattle.cr_wire.proofs.query.asks_count.Given as goal

abbrev pub invariant-pairs : goal.invariant-pairs
invariant-pairs l = list_any is_count (raw_pairs_left l.name-iterator) ≡ list_any is_count (raw_pairs l.query)
