-- SPDX-License-Identifier: Apache-2.0 OR MIT
use Rattle.std.proofs.Common.{◌≡◌, length, codes}
use Rattle.std.specs.List.{list_any}
use Rattle.cr_http.specs.Head.{values_of}
use Rattle.cr_wire.specs.Connection.{has_close}
use Rattle.cr_wire.proofs.wish.field_asks_close.Given as goal

abbrev pub invariant-values : goal.invariant-values
invariant-values l = list_any has_close l.values ≡ list_any has_close (values_of (codes "connection") l.head.fields)

abbrev pub decreases-values : goal.decreases-values
decreases-values l = length l.values
