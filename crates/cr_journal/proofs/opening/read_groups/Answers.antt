-- SPDX-License-Identifier: Apache-2.0 OR MIT
use Rattle.std.proofs.Common.{◌≡◌, ◌∙◌, ◌+◌, ◌≤◌, ◌++◌, ℕ, List, arith, drop, subst, take}
use Rattle.std.proofs.lemmas.Result.{err_from_is_err_and}
use Rattle.cr_base.specs.declared.row.Row.{Row}
use Rattle.cr_journal.specs.Grammar.{FitsGroup, payload}
use Rattle.cr_journal.specs.declared.opening.Gate.TheVariants as gates
use Rattle.cr_journal.proofs.GateByGate.{cut, no_payload, past_end}
use Rattle.cr_journal.proofs.OpenLaws.{gate_now, group_more}
use Rattle.cr_journal.proofs.opening.read_groups.Goals as goal

pub returns-in-Cut-clause-none : goal.returns-in-Cut-clause-none
returns-in-Cut-clause-none g c = λ tells _ groups j.
    let so_far = c.groups.invariant.so_far tells in
    let file = g.D.Disk.seen c.args.disk.now in
    let none = gate_now c.in_ok-read_gate.field-0 gates.Cut c.groups.at (g.D.Disk.seen c.groups.disk) file c.in-Cut.is
    (c.groups.invariant.seen tells)
    (c.in_ok-read_gate.ensures.gate tells) in
    cut file c.groups.at so_far.0 so_far.1 groups none j

pub returns-in_err-read_group-in-Open-clause-none : goal.returns-in_err-read_group-in-Open-clause-none
returns-in_err-read_group-in-Open-clause-none g c = λ tells is groups j.
    let so_far = c.groups.invariant.so_far tells in
    let file = g.D.Disk.seen c.args.disk.now in
    let at = c.groups.at in
    let len = c.in-Open.len in
    let inside : at + 9 + len ≤ c.args.size = c.in_ok-read_gate.ensures.fits len (cc c.in-Open.is) in
    let opens = gate_now c.in_ok-read_gate.field-0 (gates.Open len) at (g.D.Disk.seen c.groups.disk) file c.in-Open.is
    (c.groups.invariant.seen tells)
    (c.in_ok-read_gate.ensures.gate tells) in
    let up = err_from_is_err_and c.from_residual-in_err-read_group-in-Open.result
    c.from_residual-in_err-read_group-in-Open.ensures.1 in
    let none =
    subst (λ (l : List ℕ). (group : List Row) → FitsGroup group → take len (drop (at + 9) l) ≡ payload group → ⊥)
    (c.read_gate.ensures.seen tells ∙ c.groups.invariant.seen tells)
    (c.in_err-read_group-in-Open.ensures.none tells (cc (is, up.1, up.2))) in
    no_payload file at so_far.0 so_far.1 len opens (omega (arith, inside, c.ranges.size.fits)) groups none j

pub groups-preserved : goal.groups-preserved
groups-preserved g c =
    let so_far = c.groups.invariant in
    let file = g.D.Disk.seen c.args.disk.now in
    let at = c.groups.at in
    let len = c.in-Open.len in
    let inside : at + 9 + len ≤ c.args.size = c.in_ok-read_gate.ensures.fits len (cc c.in-Open.is) in
    let mid = c.groups.rows.items in
    let new = c.read_group.new.rows.items in
    record {
      near = omega (arith, inside);
      so_far = λ tells.
          let opens = gate_now c.in_ok-read_gate.field-0 (gates.Open len) at (g.D.Disk.seen c.groups.disk) file
          c.in-Open.is (so_far.seen tells)
          (c.in_ok-read_gate.ensures.gate tells) in
          let more =
          subst (λ (l : List ℕ). (group : List Row) × FitsGroup group × (take len (drop (at + 9) l) ≡ payload group)
          × (new ≡ mid ++ group))
          (c.read_gate.ensures.seen tells ∙ so_far.seen tells) (c.in_ok-read_group-in-Open.ensures.group tells) in
          group_more file at len c.args.rows.now.items mid new (omega (arith, inside, c.ranges.size.fits)) opens
          (so_far.so_far tells) more;
      seen = λ tells. c.read_group.ensures.seen tells ∙ (c.read_gate.ensures.seen tells ∙ so_far.seen tells);
      crash = λ tells image left.
          so_far.crash tells image (c.read_gate.ensures.crash tells image
          (c.read_group.ensures.crash tells image left));
      steady = c.in_ok-read_group-in-Open.ensures.cause.steady (λ e. absurd (cc e))
          ∙ (c.in_ok-read_gate.ensures.cause.steady ∙ so_far.steady);
    }

pub returns-clause-none : goal.returns-clause-none
returns-clause-none g c = λ tells _ groups j.
    let so_far = c.groups.invariant.so_far tells in
    past_end (g.D.Disk.seen c.args.disk.now) c.groups.at so_far.0 so_far.1 groups
    (omega (arith, c.groups-test.false, c.requires.size tells)) j
