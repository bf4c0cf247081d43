-- SPDX-License-Identifier: Apache-2.0 OR MIT
use Rattle.cr_print.specs.Refused.{further_members}
use Rattle.cr_json.proofs.Objects.{◌then◌}
use Rattle.cr_print.proofs.refused.add_row.Goals as goal

pub returns-clause-adds : goal.returns-clause-adds
unfolding further_members
returns-clause-adds c =
    let all = c.in_ok-number.ensures.adds then c.in_ok-string.ensures.adds in
    rw (c.as_bytes.ensures.value, c.rule_name.ensures.value) at all
