-- SPDX-License-Identifier: Apache-2.0 OR MIT
use Rattle.cr_match.proofs.Common.{subst, arith, IsSearched}
use Rattle.cr_match.proofs.settle.attend.Goals as goal

pub returns-then-order-p-clause-searched : goal.returns-then-order-p-clause-searched
returns-then-order-p-clause-searched c v h =
    subst (λ n. IsSearched c.args.board.now v n c.args.order.now.trail) (omega (arith, c.if-order-p.true)) h

pub returns-clause-searched : goal.returns-clause-searched
returns-clause-searched c v h = c.forget.ensures.searched v c.args.p
