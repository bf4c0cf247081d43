-- SPDX-License-Identifier: Apache-2.0 OR MIT
use Rattle.std.proofs.Common.{ℕ, ◌∷◌, ◌∙◌, sym}
use Rattle.std.specs.Prelude.{◌==◌, not}
use Rattle.std.specs.List.{list_any}
use Rattle.cr_base.specs.Accounts.{lines_of}
use Rattle.cr_base.specs.Sources.{is_there}
use Rattle.cr_judge.proofs.CoauthorLaws.{few-taken, next-passes, next-taken}
use Rattle.cr_judge.proofs.coauthors.coauthors_among.Goals as goal

pub users-preserved : goal.users-preserved
users-preserved c =
    let user : ℕ = c.user-item.result in
    let taken = c.users.coauthors in
    record {
      rest =
          next-taken c.args.maker user taken c.push_once.new.coauthors c.args.users.now c.users.user-index
          c.users-test.true c.user-item.is c.push_once.ensures c.users.invariant.rest;
      there =
          next-passes (is_there (lines_of c.args.live.now.tables.accounts)) c.args.users.now c.users.user-index user
          c.users-test.true c.user-item.is (sym c.is_there.ensures ∙ c.if-not-is_there.false) c.users.invariant.there;
      few =
          few-taken taken c.push_once.new.coauthors (not (list_any (λ (v : ℕ). v == user) (c.args.maker ∷ taken))) user
          c.users.user-index c.push_once.ensures c.users.invariant.few;
    }
