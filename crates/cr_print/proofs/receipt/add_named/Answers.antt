-- SPDX-License-Identifier: Apache-2.0 OR MIT
use Rattle.cr_print.specs.Receipt.{receipt_members}
use Rattle.cr_json.proofs.Objects.{◌then◌}
use Rattle.cr_print.proofs.receipt.add_named.Goals as goal

pub returns-clause-adds : goal.returns-clause-adds
unfolding receipt_members
returns-clause-adds c =
    let all = c.in_ok-string.ensures.adds then c.in_ok-string-2.ensures.adds in
    rw (c.as_slice.ensures.value, c.as_bytes.ensures.value, c.name.ensures.value) at all
