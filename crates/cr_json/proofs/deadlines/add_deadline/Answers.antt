-- SPDX-License-Identifier: Apache-2.0 OR MIT
use Rattle.cr_json.specs.Deadlines.{deadline_members}
use Rattle.cr_json.proofs.Objects.{◌then◌}
use Rattle.cr_json.proofs.deadlines.add_deadline.Goals as goal

pub returns-clause-adds : goal.returns-clause-adds
unfolding deadline_members
returns-clause-adds c =
    let all = c.in_ok-string.ensures.adds then c.in_ok-until.ensures.adds in
    rw (c.as_bytes.ensures.value, c.name.ensures.value) at all
