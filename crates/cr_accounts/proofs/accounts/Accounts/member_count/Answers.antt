-- SPDX-License-Identifier: Apache-2.0 OR MIT
use Rattle.std.proofs.Common.{ℕ, List, get_or, length, ◌≡◌, ◌≤◌, ◌<◌, ◌∙◌, ap, subst, arith}
use Rattle.cr_base.specs.declared.entry.Account.{Account}
use Rattle.cr_accounts.specs.Seen.{SeenAccounts}
use Rattle.cr_accounts.proofs.MemberLaws.{count-step, count-all, step-few}
use Rattle.cr_accounts.proofs.accounts.Accounts.member_count.Goals as goal

pub loop-account-preserved : goal.loop-account-preserved
loop-account-preserved c =
    let i : ℕ = c.loop-account.account-index in
    let same : c.deref-account-items.result.now ≡ c.args.self.now.accounts =
    c.deref-account-items.ensures.value ∙ ap (λ (v : SeenAccounts). v.accounts) c.self.view_is in
    record {
      counted =
          count-step c.args.self.now.accounts i c.loop-account.count c.counted-count.result _ c.account-item.result
          (subst (λ (xs : List Account). i < length xs) same c.loop-account-test.true)
          (c.account-item.is ∙ ap (λ (xs : List Account). get_or xs i c.account-item.result) same)
          c.counted-count.ensures c.loop-account.invariant.counted;
      few = step-few c.loop-account.count c.counted-count.result i c.account-item.result c.counted-count.ensures
          c.loop-account.invariant.few;
    }

pub returns-clause-count : goal.returns-clause-count
returns-clause-count c =
    let i : ℕ = c.loop-account.account-index in
    let same : c.deref-account-items.result.now ≡ c.args.self.now.accounts =
    c.deref-account-items.ensures.value ∙ ap (λ (v : SeenAccounts). v.accounts) c.self.view_is in
    count-all c.args.self.now.accounts i c.loop-account.count _
    (subst (λ (xs : List Account). length xs ≤ i) same (omega (arith, c.loop-account-test.false)))
    c.loop-account.invariant.counted
