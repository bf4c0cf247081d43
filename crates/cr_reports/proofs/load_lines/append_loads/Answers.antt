-- SPDX-License-Identifier: Apache-2.0 OR MIT
use Rattle.std.proofs.Common.{ℕ, List, ◌++◌, ◌∙◌, ap, arith}
use Rattle.cr_reports.specs.declared.counts.Load.{Load}
use Rattle.cr_reports.specs.Loads.{member_line}
use Rattle.cr_reports.proofs.LoadLaws.{member-line-is, members-step, members-all}
use Rattle.cr_reports.proofs.load_lines.append_loads.Goals as goal

pub loop-line-preserved : goal.loop-line-preserved
loop-line-preserved c =
    let t = c.args.live.now.tables in
    let caller : ℕ = c.args.user in
    let mid : List ℕ = c.loop-line.into.items in
    members-step t caller c.args.into.now.items mid _ c.as_slice-lines.result.now c.loop-line.line-index
    c.line-item.result c.line-item.result
    c.loop-line-test.true c.line-item.is
    (c.in_ok-append_member.ensures.text
    ∙ ap (λ (l : List ℕ). mid ++ l)
    (ap (λ (loads : List Load). member_line loads c.line-item.result) c.as_slice.ensures.value
    ∙ member-line-is t caller c.in_ok-loads.loads.items c.in_ok-loads.ensures.counted c.line-item.result
    c.in_ok-append_member.ensures.within))
    c.loop-line.invariant

pub returns : goal.returns
returns c =
    let t = c.args.live.now.tables in
    members-all t c.args.user c.args.into.now.items c.loop-line.into.items c.as_slice-lines.result.now
    c.loop-line.line-index
    (omega (arith, c.loop-line-test.false)) (c.as_slice-lines.ensures ∙ c.in_ok-accounts.ensures) c.loop-line.invariant
