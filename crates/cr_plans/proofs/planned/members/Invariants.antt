-- SPDX-License-Identifier: Apache-2.0 OR MIT
use Rattle.std.proofs.Common.{◌≡◌, ◌++◌, drop}
use Rattle.std.specs.Prelude.{filter}
use Rattle.cr_base.specs.declared.reply.AccountLine.{AccountLine}
use Rattle.cr_base.specs.Words.{is_member}
use Rattle.cr_plans.proofs.planned.members.Given as goal

abbrev pub invariant-loop-line : goal.invariant-loop-line
invariant-loop-line l =
    l.members.items ++ filter (λ (a : AccountLine). is_member a.role) (drop l.line-index l.lines)
    ≡ filter (λ (a : AccountLine). is_member a.role) l.lines
