-- SPDX-License-Identifier: Apache-2.0 OR MIT
use Rattle.std.proofs.Common.{ℕ, Bool, List, length, ◌≡◌, ◌≤◌, ◌∙◌, ap, subst, sym, arith}
use Rattle.std.specs.Prelude.{filter}
use Rattle.cr_base.specs.declared.entry.Account.{Account}
use Rattle.cr_base.specs.declared.reply.AccountLine.{AccountLine}
use Rattle.cr_base.specs.Accounts.{lines_of}
use Rattle.cr_base.specs.Words.{is_member}
use Rattle.cr_plans.proofs.Walks.{kept-step, kept-all}
use Rattle.cr_plans.proofs.planned.members.Goals as goal

abbrev serves : AccountLine → Bool
serves a = is_member a.role

pub loop-line-preserved : goal.loop-line-preserved
loop-line-preserved c =
    kept-step serves c.as_slice-lines.result.now c.loop-line.line-index c.line-item.result c.line-item.result
    c.loop-line.members.items _ _
    c.loop-line-test.true c.line-item.is c.in_ok-push_member.ensures c.loop-line.invariant

pub returns-clause-members : goal.returns-clause-members
returns-clause-members c =
    kept-all serves c.as_slice-lines.result.now c.loop-line.line-index c.loop-line.members.items _
    (omega (arith, c.loop-line-test.false)) c.loop-line.invariant
    ∙ ap (filter serves) (c.as_slice-lines.ensures ∙ c.in_ok-accounts.ensures)

pub returns-clause-few : goal.returns-clause-few
returns-clause-few c =
    let many : length c.loop-line.members.items ≡ c.member_count-count.result =
    ap (λ (lines : List AccountLine). length lines) (returns-clause-members c)
    ∙ ap (λ (accounts : List Account). length (filter serves (lines_of accounts))) (sym c.account_table.ensures)
    ∙ sym c.member_count-count.ensures.count in
    subst (λ (n : ℕ). n ≤ 9999) (sym many) c.member_count-count.ensures.few
