-- SPDX-License-Identifier: Apache-2.0 OR MIT
use Rattle.cr_match.proofs.Common.{◌≡◌, take}
use Rattle.cr_match.proofs.tell.widen.Given as goal

abbrev pub invariant-loop-price : goal.invariant-loop-price
invariant-loop-price l = l.wide.items ≡ take l.price-index l.prices
