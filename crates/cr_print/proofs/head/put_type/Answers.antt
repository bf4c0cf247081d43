-- SPDX-License-Identifier: Apache-2.0 OR MIT
use Rattle.std.proofs.Common.{arith}
use Rattle.cr_print.specs.Head.{type_line}
use Rattle.cr_print.proofs.Chain.{◌then◌, within}
use Rattle.cr_print.proofs.head.put_type.Goals as goal

pub returns : goal.returns
unfolding type_line
returns c =
    let whole =
    within 41 (c.put.ensures then c.put-2.ensures then c.put-3.ensures) (omega (arith, c.as_bytes.ensures.len)) in
    rw (c.as_bytes.ensures.value, c.name.ensures.value) at whole
