-- SPDX-License-Identifier: Apache-2.0 OR MIT
use Rattle.std.proofs.Common.{arith}
use Rattle.cr_print.proofs.Chain.{◌then◌, within}
use Rattle.cr_print.proofs.head.print_head.Goals as goal

pub returns : goal.returns
returns c =
    within 224 (c.put_status.ensures then c.put_date.ensures then c.put_extra.ensures then c.put_type.ensures then
    c.put_length.ensures then c.put_close.ensures then c.put.ensures) (omega arith)
