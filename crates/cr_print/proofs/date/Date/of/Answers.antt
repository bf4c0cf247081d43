-- SPDX-License-Identifier: Apache-2.0 OR MIT
use Rattle.std.proofs.Common.{◌≡◌, ◌∙◌, rules}
use Rattle.httpdate.specs.Date.{unix_secs}
use Rattle.cr_base.specs.Moments.{IsMoment}
use Rattle.cr_print.proofs.Calendar.{date-of-moment}
use Rattle.cr_print.proofs.date.Date.of.Goals as goal

pub invariant_of-result : goal.invariant_of-result
invariant_of-result c =
    let within : IsMoment c.args.at = rw c.seconds.ensures.value at c.seconds.ensures.high in
    let same : unix_secs c.unwrap-date.result ≡ c.seconds.result =
    rw c.unwrap-date.ensures at c.from_unix_secs.ensures.value in (
      c.to_bytes.ensures ∙ date-of-moment c.unwrap-date.result c.args.at within (same ∙ c.seconds.ensures.value),
      search rules,
    )
