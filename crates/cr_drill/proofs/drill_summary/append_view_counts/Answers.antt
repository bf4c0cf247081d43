-- SPDX-License-Identifier: Apache-2.0 OR MIT
use Rattle.cr_drill.proofs.DrillText.{views-next}
use Rattle.cr_drill.proofs.drill_summary.append_view_counts.Goals as goal

pub loop-user-preserved : goal.loop-user-preserved
loop-user-preserved c =
    views-next c.args.book.now.log c.args.users.now c.loop-user.user-index c.user-item.result c.args.text.now.items
    c.loop-user.text.items
    c.append_view_count.new.text.items c.loop-user-test.true c.user-item.is c.loop-user.invariant
    c.in_ok-append_view_count.ensures
