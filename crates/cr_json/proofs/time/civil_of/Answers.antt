-- SPDX-License-Identifier: Apache-2.0 OR MIT
use Rattle.std.proofs.Common.{arith, w64}
use Rattle.std.proofs.lemmas.Int.{to_z_pos}
use Rattle.jiff_core.proofs.SignedLemmas.{signed_arith}
use Rattle.cr_json.proofs.Calendar.{civil-of-moment}
use Rattle.cr_json.proofs.time.civil_of.Goals as goal

pub returns : goal.returns
returns c =
    let instant = rw c.unwrap-instant.ensures at c.from_second.ensures.value in
    let seconds = to_z_pos w64 c.seconds.result (omega (arith, c.seconds.ensures.high)) in
    civil-of-moment c.args.deadline (omega (arith, c.seconds.ensures.value, c.seconds.ensures.high))
    c.to_datetime.result
    (omega (arith, signed_arith, c.to_datetime.ensures, instant, seconds, c.seconds.ensures.value))
