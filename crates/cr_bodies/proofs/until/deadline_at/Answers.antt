-- SPDX-License-Identifier: Apache-2.0 OR MIT
use Rattle.std.proofs.Common.{w32, of_z, ap, sym, ◌∙◌}
use Rattle.cr_bodies.proofs.Instants.{none-left, whole-seconds, low-seconds, with-fraction, of-seconds, before-1970}
use Rattle.cr_bodies.proofs.until.deadline_at.Goals as goal

pub returns-then-subsec_nanosecond-ne0 : goal.returns-then-subsec_nanosecond-ne0
returns-then-subsec_nanosecond-ne0 c =
    sym (with-fraction c.args.instant.nanosecond
    (λ e. c.if-subsec_nanosecond-ne0.true (ap (of_z w32) (c.subsec_nanosecond.ensures ∙ e))))

pub returns-in-Ok : goal.returns-in-Ok
returns-in-Ok c =
    let n = c.args.instant.nanosecond in
    let none = none-left n c.subsec_nanosecond.result (record { sfits = c.subsec_nanosecond.type_inv })
    c.subsec_nanosecond.ensures c.if-subsec_nanosecond-ne0.false in
    let told = rw c.in-Ok.is at c.try_from.ensures in
    let whole = whole-seconds n c.as_second.result c.in-Ok.seconds (record { sfits = c.as_second.type_inv })
    c.as_second.ensures told in
    c.new.ensures ∙ sym (of-seconds n c.in-Ok.seconds none whole)

pub returns-in-Err : goal.returns-in-Err
returns-in-Err c =
    let n = c.args.instant.nanosecond in
    let none = rw c.in-Err.is at c.try_from.ensures in
    sym
    (before-1970 n (low-seconds n c.as_second.result (record { sfits = c.as_second.type_inv }) c.as_second.ensures
    none))
