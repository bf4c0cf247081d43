-- SPDX-License-Identifier: Apache-2.0 OR MIT
use Rattle.cr_match.proofs.Common.{◌≡◌, take, lowered}
use Rattle.cr_match.proofs.tell.lower.Given as goal

abbrev pub invariant-loop-price : goal.invariant-loop-price
invariant-loop-price l = l.lower.items ≡ lowered (take l.price-index l.prices)
