-- SPDX-License-Identifier: Apache-2.0 OR MIT
-- No colon was passed.
use Rattle.std.proofs.Common.{◌≡◌, ◌++◌, take, drop}
use Rattle.cr_base.specs.Lists.{until, since}
use Rattle.cr_search_parse.specs.Terms.{is_colon, has_colon}
use Rattle.cr_search_parse.proofs.terms.colon.Given as goal

abbrev pub invariant-loop-i : goal.invariant-loop-i
invariant-loop-i l = record {
  before : take l.i l.text ++ until is_colon (drop l.i l.text) ≡ until is_colon l.text;
  behind : since is_colon (drop l.i l.text) ≡ since is_colon l.text;
  there : has_colon (drop l.i l.text) ≡ has_colon l.text;
}
