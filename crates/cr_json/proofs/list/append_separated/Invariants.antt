-- SPDX-License-Identifier: Apache-2.0 OR MIT
use Rattle.cr_json.proofs.Lists.{Listed}
use Rattle.cr_json.proofs.list.append_separated.Given as goal

abbrev pub invariant-loop-item : goal.invariant-loop-item
invariant-loop-item g l = Listed g.T.Value.text l.initial.into l.into l.is_first l.items l.item-index
