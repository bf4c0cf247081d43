-- SPDX-License-Identifier: Apache-2.0 OR MIT
use Rattle.std.proofs.Common.{◌∙◌, ap, sym, List, Option, ℕ}
use Rattle.cr_base.specs.Accounts.{lines_of}
use Rattle.cr_base.specs.Sources.{user_among}
use Rattle.cr_base.proofs.AccountLaws.{number_in-lines_of}
use Rattle.cr_judge.proofs.resolving.user_of.Goals as goal

pub returns-in-Some : goal.returns-in-Some
returns-in-Some c =
    let accounts = c.args.live.now.tables.accounts in
    c.number_of.ensures ∙ sym (number_in-lines_of accounts c.in-Some.name)
    ∙ sym (ap (λ (o : Option (List ℕ)). user_among (lines_of accounts) o) c.in-Some.is)
