-- SPDX-License-Identifier: Apache-2.0 OR MIT
use Rattle.std.proofs.Common.{◌∙◌, refl, ap, arith, ⊎_elim}
use Rattle.cr_base.specs.declared.entry.Entry.{Entry}
use Rattle.cr_policy.specs.Triggers.{none_alike}
use Rattle.cr_sights.proofs.SeriesLaws.{texts-alike, content-alike, decision-alike, form-alike}
use Rattle.cr_sights.proofs.series.series.Goals as goal

pub returns-in-Submitted-clause-alike : goal.returns-in-Submitted-clause-alike
returns-in-Submitted-clause-alike c = λ H.
    let alike = texts-alike c.in-Submitted.paper 0 c.number-in-Submitted.result (omega arith)
    c.number-in-Submitted.ensures refl H in
    ⊎_elim (λ is. ap (λ (e : Entry). none_alike e H) is.2 ∙ alike)
    (λ is. ap (λ (e : Entry). none_alike e H) is.2 ∙ alike) c.in-Submitted.is

pub returns-in-Uploaded-clause-alike : goal.returns-in-Uploaded-clause-alike
returns-in-Uploaded-clause-alike c = λ H.
    ap (λ (e : Entry). none_alike e H) c.in-Uploaded.is
    ∙ content-alike c.in-Uploaded.paper 27 c.number.result (omega arith) c.number.ensures refl H

pub returns-in-Reviewed-clause-alike : goal.returns-in-Reviewed-clause-alike
returns-in-Reviewed-clause-alike c = λ H.
    let is = c.number-in-Reviewed.ensures in
    ap (λ (e : Entry). none_alike e H) c.in-Reviewed.is
    ∙ form-alike c.in-Reviewed.paper c.in-Reviewed.ordinal c.number-in-Reviewed-2.result
    (omega (arith, is)) (let n = c.number-in-Reviewed-2.ensures in omega (arith, is, n)) (omega (arith, is))
    (omega (arith, is)) H

pub returns-in-Decided-clause-alike : goal.returns-in-Decided-clause-alike
returns-in-Decided-clause-alike c = λ H.
    ap (λ (e : Entry). none_alike e H) c.in-Decided.is
    ∙ decision-alike c.in-Decided.paper 28 c.number-in-Decided.result (omega arith) c.number-in-Decided.ensures refl H
