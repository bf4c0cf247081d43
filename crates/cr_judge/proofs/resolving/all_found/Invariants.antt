-- SPDX-License-Identifier: Apache-2.0 OR MIT
use Rattle.std.proofs.Common.{◌≡◌, ◌++◌, drop, length, is_none}
use Rattle.std.specs.List.{flat_map, list_any}
use Rattle.cr_base.specs.Accounts.{lines_of}
use Rattle.cr_base.specs.Lists.{listed}
use Rattle.cr_base.specs.Sources.{users_among}
use Rattle.cr_judge.proofs.resolving.all_found.Given as goal

abbrev pub invariant-names : goal.invariant-names
invariant-names l = record {
  rest : l.users ++ flat_map listed (users_among (lines_of l.live.tables.accounts) (drop l.name-index l.names))
      ≡ flat_map listed (users_among (lines_of l.live.tables.accounts) l.names);
  lacks : list_any is_none (users_among (lines_of l.live.tables.accounts) (drop l.name-index l.names))
      ≡ list_any is_none (users_among (lines_of l.live.tables.accounts) l.names);
  few : length l.users ≡ l.name-index;
}
