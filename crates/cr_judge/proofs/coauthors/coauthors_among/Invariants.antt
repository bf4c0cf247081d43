-- SPDX-License-Identifier: Apache-2.0 OR MIT
use Rattle.std.proofs.Common.{◌≡◌, ◌≤◌, ◌∷◌, ◌++◌, [], drop, length}
use Rattle.std.specs.List.{list_all}
use Rattle.cr_base.specs.Accounts.{lines_of}
use Rattle.cr_base.specs.Drawn.{besides}
use Rattle.cr_base.specs.Sources.{is_there}
use Rattle.cr_judge.proofs.coauthors.coauthors_among.Given as goal

abbrev pub invariant-users : goal.invariant-users
invariant-users l = record {
  rest : l.coauthors ++ besides (l.maker ∷ l.coauthors) (drop l.user-index l.users)
      ≡ besides (l.maker ∷ []) l.users;
  there : list_all (is_there (lines_of l.live.tables.accounts)) (drop l.user-index l.users)
      ≡ list_all (is_there (lines_of l.live.tables.accounts)) l.users;
  few : length l.coauthors ≤ l.user-index;
}
