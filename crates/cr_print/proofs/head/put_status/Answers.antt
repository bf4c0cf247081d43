-- SPDX-License-Identifier: Apache-2.0 OR MIT
use Rattle.std.proofs.Common.{◌≡◌, ◌≤◌, length, arith, ap, ◌∙◌}
use Rattle.http.specs.StatusCode.{code_digits}
use Rattle.cr_print.specs.Head.{status_line}
use Rattle.cr_print.specs.Status.{code_of, phrase_of}
use Rattle.cr_print.proofs.Chain.{◌then◌, within}
use Rattle.cr_print.proofs.head.put_status.Goals as goal

pub returns : goal.returns
unfolding status_line
returns c =
    let digits : c.as_bytes.result.now ≡ code_digits (code_of c.args.status) =
    c.as_bytes.ensures.value ∙ c.as_str.ensures ∙ ap code_digits c.code.ensures in
    let words : c.as_bytes-2.result.now ≡ phrase_of c.args.status =
    c.as_bytes-2.ensures.value ∙ c.phrase.ensures.value in
    let count : length c.as_bytes.result.now ≡ 3 = ap length digits in
    let short : length c.as_bytes-2.result.now ≤ 31 = omega (arith, ap length c.as_bytes-2.ensures.value) in
    let all = c.put.ensures then c.put-2.ensures then c.put-3.ensures then c.put-4.ensures then c.put-5.ensures in
    let whole = within 46 all (omega arith) in
    rw (digits, words) at whole
