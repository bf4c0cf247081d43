-- SPDX-License-Identifier: Apache-2.0 OR MIT
use Rattle.std.proofs.Common.{ap, sym, ◌∙◌}
use Rattle.std.specs.Option.{option_map}
use Rattle.cr_base.specs.declared.words.Role.{Role}
use Rattle.cr_judge.proofs.AssigningLaws.{target-some}
use Rattle.cr_judge.proofs.named.target_of.Goals as goal

pub returns-in-Some-role_given : goal.returns-in-Some-role_given
returns-in-Some-role_given c =
    ap (option_map (λ (r : Role). (c.in-Some.user, r))) (sym c.in-Some-role_given.is)
    ∙ target-some c.args.live.now.tables.accounts c.account_table.result.now.accounts c.account_table.ensures
    c.args.user.now c.in-Some.user
    c.role_given.result c.in-Some.is c.role_given.ensures
