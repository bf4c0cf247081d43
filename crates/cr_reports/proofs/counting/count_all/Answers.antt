-- SPDX-License-Identifier: Apache-2.0 OR MIT
use Rattle.std.proofs.Common.{ℕ, List, ◌≡◌, ◌<◌, ◌≤◌, ◌+◌, ◌*◌, ◌∙◌, ap, length, replicate, subst, sym, arith}
use Rattle.std.specs.Prelude.{fold}
use Rattle.std.proofs.lemmas.List.{with_items_is}
use Rattle.cr_base.specs.Papers.{paper_numbers}
use Rattle.cr_reports.specs.declared.counts.Load.{Load}
use Rattle.cr_reports.specs.Loads.{AreFew, Becomes, no_load, with_clear}
use Rattle.cr_reports.proofs.CountLaws.{few-next, filled-becomes, filled-few, filled-long, papers-all, papers-step}
use Rattle.cr_reports.proofs.WalkLaws.{first, first-all, first-step}
use Rattle.cr_reports.proofs.counting.count_all.Goals as goal

pub loop-before-init : goal.loop-before-init
loop-before-init c =
    let loads : List Load = c.in_ok-loads.loads.items in (
      filled-long 10000 loads c.in_ok-loads.ensures,
      filled-becomes loads c.in_ok-loads.ensures,
      filled-few loads c.in_ok-loads.ensures,
    )

pub loop-before-preserved : goal.loop-before-preserved
loop-before-preserved c =
    let t = c.args.live.now.tables in
    let caller : ℕ = c.args.caller in
    let i : ℕ = c.loop-before.before in
    let n : ℕ = c.new.result in
    let old : List Load = c.loop-before.loads.items in
    let new : List Load = c.count_clear.new.loads in
    let was = c.loop-before.invariant in
    let long : length new ≡ c.loop-before.loads.len =
    c.count_clear.ensures.long ∙ sym (ap (λ (l : List Load). length l) c.deref_mut.ensures.value ∙ was.0)
    ∙ c.deref_mut.ensures.len in
    let counted : Becomes old new (λ user load. with_clear t caller user load n) =
    subst (λ (l : List Load). Becomes l new (λ user load. with_clear t caller user load n)) c.deref_mut.ensures.value
    c.count_clear.ensures.counted in
    let few : AreFew (26 * i + 26) new =
    c.count_clear.ensures.few (26 * i) (subst (AreFew (26 * i)) (sym c.deref_mut.ensures.value) was.2) in
    let within = subst (λ (k : ℕ). i < k) c.paper_count-before-end.ensures.count c.loop-before-test.true in
    subst
    (λ (l : List Load). (length l ≡ 10000)
    × Becomes (replicate 10000 no_load) l (λ user load. fold (with_clear t caller user) load
    (first t.papers.papers (i + 1)))
    × AreFew (26 * (i + 1)) l)
    (sym (with_items_is c.loop-before.loads new long)) (
      c.count_clear.ensures.long,
      papers-step (replicate 10000 no_load) old new (λ user. with_clear t caller user) (first t.papers.papers i)
          (first t.papers.papers (i + 1)) n
          (first-step t.papers.papers i n within c.new.ensures) was.1 counted,
      few-next i new few,
    )

pub returns-clause-counted : goal.returns-clause-counted
returns-clause-counted c =
    let t = c.args.live.now.tables in
    let i : ℕ = c.loop-before.before in
    papers-all c.loop-before.loads.items (λ user. with_clear t c.args.caller user) (first t.papers.papers i)
    (paper_numbers t.papers)
    (first-all t.papers.papers i (subst (λ (k : ℕ). k ≤ i) c.paper_count-before-end.ensures.count
    (omega (arith, c.loop-before-test.false))))
    c.loop-before.invariant.1
