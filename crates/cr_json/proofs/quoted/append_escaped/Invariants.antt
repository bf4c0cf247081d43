-- SPDX-License-Identifier: Apache-2.0 OR MIT
use Rattle.std.proofs.Common.{◌-◌, ◌*◌, ◌≤◌, length}
use Rattle.json.specs.Print.{escape_byte}
use Rattle.cr_json.specs.Put.{Grows}
use Rattle.cr_json.proofs.Lists.{Written}
use Rattle.cr_json.proofs.quoted.append_escaped.Given as goal

abbrev pub invariant-runs : goal.invariant-runs
invariant-runs l = record {
  within : l.at ≤ length l.text;
  written : Written escape_byte l.initial.into.items l.into.items l.text l.at;
  grows : Grows l.initial.into l.into (6 * l.at);
}

abbrev pub decreases-runs : goal.decreases-runs
decreases-runs l = length l.text - l.at
